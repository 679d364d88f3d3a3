-- The formation rules of expressions.
use Rattle.std.specs.Prelude.{◌≡◌, ℕ, ◌+◌, ◌<◌, ◌≤◌, ◌==◌, List, [], ◌∷◌, length, Bool, true, not, ◌&&◌, ◌||◌, Option, Some, None, nat_lt, nat_le, codes}
use Rattle.std.specs.List.{list_all, list_any}
use Rattle.std.specs.Str.{bytes_eq}
use Rattle.meta_base.specs.Bytes.{is_word}
use Rattle.alg_model.specs.declared.tree.TableSpec.{TableSpec}
use Rattle.alg_model.specs.declared.tree.TableRow.{TableRow}
use Rattle.alg_model.specs.Expressions.{Expression, add, cap, worst, width, pref, orig, seq, simseq, tags, guard, gate, table, lex, scoped, union, sum, plus, left, right}
use Rattle.alg_model.specs.Expressions.{PureAlg}
use Rattle.alg_model.specs.Expressions.{PureCarrier, whole, up_to, down_from, seqs, simseqs, sets, one, named, pairs, sides}
use Rattle.alg_model.specs.Carriers.{carrier_of}
use Rattle.alg_model.specs.Bounds.{ExpressionAtMost, greatest_number}
use Rattle.alg_model.specs.Numbers.{max_tree_nodes, max_table_names, max_simple_symbols, max_marks}
use Rattle.alg_model.specs.declared.alg.Shape.{Shape}
use Rattle.alg_model.specs.declared.alg.Shape.TheVariants.{Range, Carriers, Size, Names}

-- each rank is the one before it, or one more
abbrev pub ranks_rise : ℕ → List ℕ → Bool
ranks_rise rank [] = true
ranks_rise rank (r ∷ ranks) = (r == rank || r == rank + 1) && ranks_rise r ranks

-- the first rank is 0, and the others rise
abbrev pub are_ranks : List ℕ → Bool
are_ranks [] = true
are_ranks (r ∷ ranks) = r == 0 && ranks_rise r ranks

-- an image is none or one of so many places
abbrev pub is_place_or_none : ℕ → Option ℕ → Bool
is_place_or_none count None = true
is_place_or_none count (Some place) = nat_lt place count

-- a row has an image for each of so many values
abbrev pub is_row_over : ℕ → TableRow → Bool
is_row_over count row = length row.images == count && list_all (is_place_or_none count) row.images

-- between 1 and the most names that a table may have
abbrev pub is_table_count : ℕ → Bool
is_table_count count = nat_le 1 count && nat_le count max_table_names

-- what the rule on ranges asks of a table
abbrev pub is_table : TableSpec → Bool
is_table t = is_table_count (length t.names) && is_table_count (length t.rows) && length t.ranks == length t.names && are_ranks t.ranks && list_all (is_row_over (length t.names)) t.rows

-- the rule on ranges
abbrev pub MeetsRanges : Expression → Type 0
MeetsRanges (add low high) = low ≤ high
MeetsRanges (cap top low high) = low ≤ high
MeetsRanges (worst top low high) = (low ≤ high) × (high ≤ top)
MeetsRanges (width top low high) = (low ≤ high) × (high ≤ top)
MeetsRanges (pref top) = Unit {0}
MeetsRanges (orig top) = Unit {0}
MeetsRanges (seq n) = 1 ≤ n
MeetsRanges (simseq n) = (1 ≤ n) × (n ≤ max_simple_symbols)
MeetsRanges (tags n) = (1 ≤ n) × (n ≤ max_marks)
MeetsRanges (guard n) = (1 ≤ n) × (n ≤ max_marks)
MeetsRanges gate = Unit {0}
MeetsRanges (table t) = is_table t ≡ true
MeetsRanges (lex a b) = MeetsRanges a × MeetsRanges b
MeetsRanges (scoped a b) = MeetsRanges a × MeetsRanges b
MeetsRanges (union a b) = MeetsRanges a × MeetsRanges b
MeetsRanges (sum a b) = MeetsRanges a × MeetsRanges b
MeetsRanges (plus a b) = MeetsRanges a × MeetsRanges b
MeetsRanges (left a) = MeetsRanges a
MeetsRanges (right a) = MeetsRanges a

-- the rule on carriers: both sides of a plus have the same
abbrev pub MeetsCarriers : Expression → Type 0
MeetsCarriers (add low high) = Unit {0}
MeetsCarriers (cap top low high) = Unit {0}
MeetsCarriers (worst top low high) = Unit {0}
MeetsCarriers (width top low high) = Unit {0}
MeetsCarriers (pref top) = Unit {0}
MeetsCarriers (orig top) = Unit {0}
MeetsCarriers (seq n) = Unit {0}
MeetsCarriers (simseq n) = Unit {0}
MeetsCarriers (tags n) = Unit {0}
MeetsCarriers (guard n) = Unit {0}
MeetsCarriers gate = Unit {0}
MeetsCarriers (table t) = Unit {0}
MeetsCarriers (lex a b) = MeetsCarriers a × MeetsCarriers b
MeetsCarriers (scoped a b) = MeetsCarriers a × MeetsCarriers b
MeetsCarriers (union a b) = MeetsCarriers a × MeetsCarriers b
MeetsCarriers (sum a b) = MeetsCarriers a × MeetsCarriers b
MeetsCarriers (plus a b) = MeetsCarriers a × MeetsCarriers b × (carrier_of a ≡ carrier_of b)
MeetsCarriers (left a) = MeetsCarriers a
MeetsCarriers (right a) = MeetsCarriers a

-- how many nodes the tree has; a table is one
abbrev pub node_count : Expression → ℕ
node_count (add low high) = 1
node_count (cap top low high) = 1
node_count (worst top low high) = 1
node_count (width top low high) = 1
node_count (pref top) = 1
node_count (orig top) = 1
node_count (seq n) = 1
node_count (simseq n) = 1
node_count (tags n) = 1
node_count (guard n) = 1
node_count gate = 1
node_count (table t) = 1
node_count (lex a b) = 1 + node_count a + node_count b
node_count (scoped a b) = 1 + node_count a + node_count b
node_count (union a b) = 1 + node_count a + node_count b
node_count (sum a b) = 1 + node_count a + node_count b
node_count (plus a b) = 1 + node_count a + node_count b
node_count (left a) = 1 + node_count a
node_count (right a) = 1 + node_count a

-- a name of a table: a word other than `none`
abbrev pub is_table_name : List ℕ → Bool
is_table_name word = is_word word && not (bytes_eq word (codes "none"))

-- no two have one name
abbrev pub are_distinct : {X : Type 0} → (X → List ℕ) → List X → Bool
are_distinct name_of [] = true
are_distinct name_of (x ∷ xs) = not (list_any (λ y. bytes_eq (name_of y) (name_of x)) xs) && are_distinct name_of xs

-- each has a name of a table, and no two have one
abbrev pub are_named : {X : Type 0} → (X → List ℕ) → List X → Bool
are_named name_of xs = list_all (λ x. is_table_name (name_of x)) xs && are_distinct name_of xs

-- the name of a table's row
abbrev pub row_name : TableRow → List ℕ
row_name row = row.name

-- the rule on names
abbrev pub MeetsNames : Expression → Type 0
MeetsNames (add low high) = Unit {0}
MeetsNames (cap top low high) = Unit {0}
MeetsNames (worst top low high) = Unit {0}
MeetsNames (width top low high) = Unit {0}
MeetsNames (pref top) = Unit {0}
MeetsNames (orig top) = Unit {0}
MeetsNames (seq n) = Unit {0}
MeetsNames (simseq n) = Unit {0}
MeetsNames (tags n) = Unit {0}
MeetsNames (guard n) = Unit {0}
MeetsNames gate = Unit {0}
MeetsNames (table t) = (are_named (λ name. name) t.names && are_named row_name t.rows) ≡ true
MeetsNames (lex a b) = MeetsNames a × MeetsNames b
MeetsNames (scoped a b) = MeetsNames a × MeetsNames b
MeetsNames (union a b) = MeetsNames a × MeetsNames b
MeetsNames (sum a b) = MeetsNames a × MeetsNames b
MeetsNames (plus a b) = MeetsNames a × MeetsNames b
MeetsNames (left a) = MeetsNames a
MeetsNames (right a) = MeetsNames a

-- the expression breaks no rule
pub record IsFormed (a : Expression) : Type 0 where
  pub ranges : MeetsRanges a
  pub carriers : MeetsCarriers a
  pub size : node_count a ≤ max_tree_nodes
  pub names : MeetsNames a

-- it breaks no rule, and its numbers are those of a text of its edition
pub record IsAlg (a : PureAlg) : Type 0 where
  pub formed : IsFormed a.expression
  pub bound : ExpressionAtMost (greatest_number a.edition) a.expression

-- this rule is broken, and those before it aren't
abbrev pub IsFirstBroken : Expression → Shape → Type 0
IsFirstBroken a Range = ¬ MeetsRanges a
IsFirstBroken a Carriers = MeetsRanges a × ¬ MeetsCarriers a
IsFirstBroken a Size = MeetsRanges a × MeetsCarriers a × (max_tree_nodes < node_count a)
IsFirstBroken a Names = MeetsRanges a × MeetsCarriers a × (node_count a ≤ max_tree_nodes) × ¬ MeetsNames a

-- the names and ranks are those of a table's values
abbrev pub are_values : List (List ℕ) → List ℕ → Bool
are_values names ranks = is_table_count (length names) && length ranks == length names && are_ranks ranks && are_named (λ name. name) names

-- the carrier is one that an algebra may have
abbrev pub IsCarrier : PureCarrier → Type 0
IsCarrier whole = Unit {0}
IsCarrier (up_to top) = Unit {0}
IsCarrier (down_from top) = Unit {0}
IsCarrier (seqs n) = 1 ≤ n
IsCarrier (simseqs n) = (1 ≤ n) × (n ≤ max_simple_symbols)
IsCarrier (sets n) = (1 ≤ n) × (n ≤ max_marks)
IsCarrier one = Unit {0}
IsCarrier (named names ranks) = are_values names ranks ≡ true
IsCarrier (pairs c d) = IsCarrier c × IsCarrier d
IsCarrier (sides c d) = IsCarrier c × IsCarrier d
