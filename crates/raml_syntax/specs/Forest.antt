-- The trees of a forest as contracts see them: the expressions that they mean, in the order in which they came.
use Rattle.std.specs.Prelude.{◌≡◌, ℕ, ◌<◌, ◌≤◌, List, [], ◌∷◌, ◌++◌, length, slice_index_or}
use Rattle.alg_model.specs.Expressions.{Expression, gate}
use Rattle.alg_model.specs.Formation.{node_count}
use Rattle.alg_model.specs.Views.{expression_of}
use Rattle.raml_syntax.specs.declared.forest.TreeId.{TreeId}
use Rattle.raml_syntax.specs.declared.forest.Node.{Node}
use Rattle.raml_syntax.specs.declared.forest.Node.TheVariants as n
use Rattle.raml_syntax.specs.declared.forest.Entry.{Entry}
use Rattle.raml_syntax.specs.Meaning.{paired_meaning, single_meaning}
use Rattle.raml_syntax.specs.Heads.{paired_of, single_of}

-- one of the trees has this number
abbrev pub IsTree : List Expression → TreeId → Type 0
IsTree trees id = id.number < length trees

-- what the tree of this number means
abbrev pub tree_at : List Expression → TreeId → Expression
tree_at trees id = slice_index_or trees id.number gate

-- what a tree of this root means, whose parts are among the trees
abbrev pub node_meaning : List Expression → Node → Expression
node_meaning trees (n.Base tree) = expression_of tree
node_meaning trees (n.Paired kind a b) = paired_meaning (paired_of kind) (tree_at trees a) (tree_at trees b)
node_meaning trees (n.Single kind a) = single_meaning (single_of kind) (tree_at trees a)

-- the parts are among the first so many trees; a base algebra has none
abbrev pub HasParts : ℕ → Node → Type 0
HasParts count (n.Base tree) = node_count (expression_of tree) ≡ 1
HasParts count (n.Paired kind a b) = (a.number < count) × (b.number < count)
HasParts count (n.Single kind a) = a.number < count

-- these trees, and then those of the entries
abbrev pub trees_from : List Expression → List Entry → List Expression
trees_from trees [] = trees
trees_from trees (e ∷ es) = trees_from (trees ++ node_meaning trees e.node ∷ []) es

-- the parts of an entry after these trees are among them, and its nodes are counted
pub record IsEntry (trees : List Expression) (e : Entry) : Type 0 where
  pub parts : HasParts (length trees) e.node
  pub size : e.size ≡ node_count (node_meaning trees e.node)

-- so is each of the entries
abbrev pub AreEntries : List Expression → List Entry → Type 0
AreEntries trees [] = Unit {0}
AreEntries trees (e ∷ es) = IsEntry trees e × AreEntries (trees ++ node_meaning trees e.node ∷ []) es

-- the tree of this number has this entry
pub record StandsAt (trees : List Expression) (id : TreeId) (e : Entry) : Type 0 where
  pub parts : HasParts id.number e.node
  pub means : tree_at trees id ≡ node_meaning trees e.node
  pub size : e.size ≡ node_count (tree_at trees id)

-- each old tree has its number still
pub record Extends (old new : List Expression) : Type 0 where
  pub longer : length old ≤ length new
  pub same : (id : TreeId) → IsTree old id → tree_at new id ≡ tree_at old id
