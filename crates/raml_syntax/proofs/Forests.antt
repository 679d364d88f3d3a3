-- The trees of a forest, and what stands at each number.
use Rattle.std.proofs.Common.{◌≡◌, ℕ, zero, suc, ◌+◌, ◌<◌, List, [], ◌∷◌, ◌++◌, length, get_or, Result, Ok, Err, OnOk, OnErr, refl, sym, ap, ap₂, subst, ◌∙◌, arith, length-append}
use Rattle.std.proofs.lemmas.List.{get_or_append_left}
use Rattle.std.proofs.Math.Seq.{get_or-append_seam}
use Rattle.alg_model.specs.Expressions.{Expression, gate, lex, scoped, union, sum, plus, left, right, PureCarrier, pairs, sides}
use Rattle.alg_model.specs.Carriers.{carrier_of}
use Rattle.alg_model.specs.Formation.{node_count}
use Rattle.raml_syntax.specs.declared.forest.TreeId.{TreeId}
use Rattle.raml_syntax.specs.declared.forest.Node.{Node}
use Rattle.raml_syntax.specs.declared.forest.Node.TheVariants as n
use Rattle.raml_syntax.specs.declared.forest.Entry.{Entry}
use Rattle.raml_syntax.specs.Syntax.{Paired, lex_head, scoped_head, union_head, sum_head, plus_head, Single, left_head, right_head}
use Rattle.raml_syntax.specs.Meaning.{paired_meaning, single_meaning}
use Rattle.raml_syntax.specs.Heads.{paired_of, single_of}
use Rattle.raml_syntax.specs.Forest.{tree_at, node_meaning, HasParts, trees_from, IsEntry, AreEntries, StandsAt, Extends}
use Rattle.raml_syntax.proofs.NodeCounts.{some_node}

pub extends_self : (ts : List Expression) → Extends ts ts
extends_self ts = record { longer = omega arith; same = λ id h. refl }

pub extends_on : (a b c : List Expression) → Extends a b → Extends b c → Extends a c
extends_on a b c x y = record {
  longer = omega (arith, x.longer, y.longer);
  same = λ id h. let within : id.number < length b = omega (arith, x.longer) in y.same id within ∙ x.same id h;
}

-- one tree more
pub extends_following : (ts : List Expression) (a : Expression) → Extends ts (ts ++ a ∷ [])
extends_following ts a = record {
  longer = let e = length-append ts (a ∷ []) in omega (arith, e);
  same = λ id h. get_or_append_left ts (a ∷ []) gate id.number h;
}

-- a tree was added, or there was no memory
pub extends_planted : {R E : Type 0} (r : Result R E) (old new : List Expression) (a : Expression) → OnOk r (new ≡ old ++ a ∷ []) → OnErr r (new ≡ old) → Extends old new
extends_planted (Ok id) old new a h g = subst (Extends old) (sym h) (extends_following old a)
extends_planted (Err e) old new a h g = subst (Extends old) (sym g) (extends_self old)

-- the trees before entries are there after them
extends_from : (ts : List Expression) (es : List Entry) → Extends ts (trees_from ts es)
extends_from ts [] = extends_self ts
extends_from ts (e ∷ es) =
    let more = ts ++ node_meaning ts e.node ∷ [] in
    extends_on ts more (trees_from more es) (extends_following ts (node_meaning ts e.node)) (extends_from more es)

pub length_from : (ts : List Expression) (es : List Entry) → length (trees_from ts es) ≡ length ts + length es
length_from ts [] = omega arith
length_from ts (e ∷ es) =
    let rest = length_from (ts ++ node_meaning ts e.node ∷ []) es in
    let one = length-append ts (node_meaning ts e.node ∷ []) in
    omega (arith, rest, one)

-- a node means the same where there are more trees
pub same_meaning : (old new : List Expression) (node : Node) → Extends old new → HasParts (length old) node → node_meaning new node ≡ node_meaning old node
same_meaning old new (n.Base tree) x h = refl
same_meaning old new (n.Paired k a b) x h = ap₂ (paired_meaning (paired_of k)) (x.same a h.0) (x.same b h.1)
same_meaning old new (n.Single k a) x h = ap (single_meaning (single_of k)) (x.same a h)

-- the tree after these
stands_first : (ts : List Expression) (e : Entry) (es : List Entry) → IsEntry ts e → StandsAt (trees_from ts (e ∷ es)) (record { number = length ts }) e
stands_first ts e es i =
    let a = node_meaning ts e.node in
    let more = ts ++ a ∷ [] in
    let all = trees_from more es in
    let x = extends_from more es in
    let long = length-append ts (a ∷ []) in
    let within : length ts < length more = omega (arith, long) in
    let here : tree_at all (record { number = length ts }) ≡ a = x.same (record { number = length ts }) within ∙ get_or-append_seam ts a [] gate in
    record {
      parts = i.parts;
      means = here ∙ sym (same_meaning ts all e.node (extends_from ts (e ∷ es)) i.parts);
      size = i.size ∙ ap node_count (sym here);
    }

stands_from : (ts : List Expression) (es : List Entry) (i number : ℕ) (e : Entry) → AreEntries ts es → length ts + i ≡ number → i < length es → e ≡ get_or es i e
    → StandsAt (trees_from ts es) (record { number = number }) e
stands_from ts [] i number e a h l g = absurd (omega (arith, l))
stands_from ts (x ∷ es) zero number e a h l g =
    let first : length ts ≡ number = omega (arith, h) in
    subst (λ k. StandsAt (trees_from ts (x ∷ es)) (record { number = k }) e) first
    (subst (λ y. StandsAt (trees_from ts (x ∷ es)) (record { number = length ts }) y) (sym g) (stands_first ts x es a.0))
stands_from ts (x ∷ es) (suc i) number e a h l g =
    let one = length-append ts (node_meaning ts x.node ∷ []) in
    stands_from (ts ++ node_meaning ts x.node ∷ []) es i number e a.1 (omega (arith, h, one)) (omega (arith, l)) g

-- what stands at a number of a forest
pub stands_at : (es : List Entry) (id : TreeId) (e : Entry) → AreEntries [] es → id.number < length es → e ≡ get_or es id.number e → StandsAt (trees_from [] es) id e
stands_at es id e a l g = stands_from [] es id.number id.number e a (omega arith) l g

-- one entry more
pub planted : (ts : List Expression) (es : List Entry) (e : Entry) → trees_from ts (es ++ e ∷ []) ≡ trees_from ts es ++ node_meaning (trees_from ts es) e.node ∷ []
planted ts [] e = refl
planted ts (x ∷ es) e = planted (ts ++ node_meaning ts x.node ∷ []) es e

pub planted_entries : (ts : List Expression) (es : List Entry) (e : Entry) → AreEntries ts es → IsEntry (trees_from ts es) e → AreEntries ts (es ++ e ∷ [])
planted_entries ts [] e a i = (i, tt)
planted_entries ts (x ∷ es) e a i = (a.0, planted_entries (ts ++ node_meaning ts x.node ∷ []) es e a.1 i)

-- The nodes of operators.

pub paired_count : (k : Paired) (a b : Expression) → node_count (paired_meaning k a b) ≡ 1 + node_count a + node_count b
paired_count lex_head a b = refl
paired_count scoped_head a b = refl
paired_count union_head a b = refl
paired_count sum_head a b = refl
paired_count plus_head a b = refl

pub single_count : (k : Single) (a : Expression) → node_count (single_meaning k a) ≡ 1 + node_count a
single_count left_head a = refl
single_count right_head a = refl

-- The carrier of one node is no pair and no side.

two_nodes : (a b : Expression) → 1 + node_count a + node_count b ≡ 1 → ⊥
two_nodes a b h = let p = some_node a in omega (arith, p, h)

pub one_no_pairs : (a : Expression) (c d : PureCarrier) → node_count a ≡ 1 → carrier_of a ≡ pairs c d → ⊥
one_no_pairs (lex a b) c d h e = two_nodes a b h
one_no_pairs (scoped a b) c d h e = two_nodes a b h
one_no_pairs (union a b) c d h e = two_nodes a b h
one_no_pairs (sum a b) c d h e = two_nodes a b h
one_no_pairs (plus a b) c d h e = two_nodes a b h
one_no_pairs (left a) c d h e = let p = some_node a in omega (arith, p, h)
one_no_pairs (right a) c d h e = let p = some_node a in omega (arith, p, h)
one_no_pairs _ c d h e = cc

pub one_no_sides : (a : Expression) (c d : PureCarrier) → node_count a ≡ 1 → carrier_of a ≡ sides c d → ⊥
one_no_sides (lex a b) c d h e = two_nodes a b h
one_no_sides (scoped a b) c d h e = two_nodes a b h
one_no_sides (union a b) c d h e = two_nodes a b h
one_no_sides (sum a b) c d h e = two_nodes a b h
one_no_sides (plus a b) c d h e = two_nodes a b h
one_no_sides (left a) c d h e = let p = some_node a in omega (arith, p, h)
one_no_sides (right a) c d h e = let p = some_node a in omega (arith, p, h)
one_no_sides _ c d h e = cc
