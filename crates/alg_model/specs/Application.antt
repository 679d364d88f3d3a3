-- Labels, and what they make of values (Griffin and Sobrinho 2005; scoped by Gurney and Griffin 2007
-- too).
use Rattle.std.specs.Prelude.{ℕ, ◌+◌, ◌-◌, ◌<◌, ◌≤◌, ◌^◌, ◌==◌, [], ◌∷◌, ◌++◌, length, Bool, Option, Some, None, option_map, option_and_then, if◌then◌else◌, nat_le, slice_get, min, max, bit_or, bit_and}
use Rattle.std.specs.List.{list_any}
use Rattle.std.specs.Int.{bit_at}
use Rattle.alg_model.specs.declared.tree.TableSpec.{TableSpec}
use Rattle.alg_model.specs.declared.tree.TableRow.{TableRow}
use Rattle.alg_model.specs.Expressions.{Expression, add, cap, worst, width, pref, orig, seq, simseq, tags, guard, gate, table, lex, scoped, union, sum, plus, left, right}
use Rattle.alg_model.specs.Expressions.{PureValue, number, symbols, marks, name, pair, first, second}
use Rattle.alg_model.specs.Expressions.{PureLabel, number_label, keep, symbol_label, mark, unmark, need, bar, allow, deny, row_label, pair_label, both_label, first_label, second_label, const_label, outer, inner}
use Rattle.alg_model.specs.Carriers.{carrier_of, In}

-- the label is one of the algebra's
abbrev pub IsLabel : Expression → PureLabel → Type 0
IsLabel (add low high) (number_label n) = (low ≤ n) × (n ≤ high)
IsLabel (cap top low high) (number_label n) = (low ≤ n) × (n ≤ high)
IsLabel (worst top low high) (number_label n) = (low ≤ n) × (n ≤ high)
IsLabel (width top low high) (number_label n) = (low ≤ n) × (n ≤ high)
IsLabel (pref top) (number_label n) = n ≤ top
IsLabel (orig top) keep = Unit {0}
IsLabel (seq k) (symbol_label n) = n < k
IsLabel (simseq k) (symbol_label n) = n < k
IsLabel (tags n) keep = Unit {0}
IsLabel (tags n) (mark k) = k < n
IsLabel (tags n) (unmark k) = k < n
IsLabel (guard n) (need k) = k < n
IsLabel (guard n) (bar k) = k < n
IsLabel gate allow = Unit {0}
IsLabel gate deny = Unit {0}
IsLabel (table t) (row_label r) = r < length t.rows
IsLabel (lex a b) (pair_label l m) = IsLabel a l × IsLabel b m
IsLabel (scoped a b) (outer l v) = IsLabel a l × In (carrier_of b) v
IsLabel (scoped a b) (inner m) = IsLabel b m
IsLabel (union a b) (first_label l) = IsLabel a l
IsLabel (union a b) (second_label m) = IsLabel b m
IsLabel (sum a b) (both_label l m) = IsLabel a l × IsLabel b m
IsLabel (plus a b) (first_label l) = IsLabel a l
IsLabel (plus a b) (second_label m) = IsLabel b m
IsLabel (left a) (const_label v) = In (carrier_of a) v
IsLabel (right a) keep = Unit {0}
IsLabel _ _ = ⊥

-- k is in the set
abbrev pub has_mark : ℕ → ℕ → Bool
has_mark m k = bit_at m k == 1

-- the place of the image of a table's value by a row, if there is one
abbrev pub image_of : TableSpec → ℕ → ℕ → Option ℕ
image_of t r k = option_and_then (λ (row : TableRow). option_and_then (λ image. image) (slice_get row.images k)) (slice_get t.rows r)

-- the pair, if both parts are there
abbrev pub both : Option PureValue → Option PureValue → Option PureValue
both (Some u) (Some v) = Some (pair u v)
both _ _ = None

-- what a label makes of a value of the carrier: a value, or none
abbrev pub App : Expression → PureLabel → PureValue → Option PureValue
App (add low high) (number_label n) (number m) = Some (number (m + n))
App (add low high) _ _ = None
App (cap top low high) (number_label n) (number m) = if nat_le (m + n) top then Some (number (m + n)) else None
App (cap top low high) _ _ = None
App (worst top low high) (number_label n) (number m) = Some (number (max m n))
App (worst top low high) _ _ = None
App (width top low high) (number_label n) (number m) = Some (number (min m n))
App (width top low high) _ _ = None
App (pref top) (number_label n) (number m) = Some (number n)
App (pref top) _ _ = None
App (orig top) keep v = Some v
App (orig top) _ _ = None
App (seq k) (symbol_label n) (symbols ns) = Some (symbols (ns ++ n ∷ []))
App (seq k) _ _ = None
App (simseq k) (symbol_label n) (symbols ns) = if list_any (λ m. m == n) ns then None else Some (symbols (ns ++ n ∷ []))
App (simseq k) _ _ = None
App (tags n) keep v = Some v
App (tags n) (mark k) (marks m) = Some (marks (bit_or m (2 ^ k)))
App (tags n) (unmark k) (marks m) = Some (marks (bit_and m (2 ^ 64 - 1 - 2 ^ k)))
App (tags n) _ _ = None
App (guard n) (need k) (marks m) = if has_mark m k then Some (marks m) else None
App (guard n) (bar k) (marks m) = if has_mark m k then None else Some (marks m)
App (guard n) _ _ = None
App gate allow v = Some v
App gate deny v = None
App gate _ _ = None
App (table t) (row_label r) (name k) = option_map name (image_of t r k)
App (table t) _ _ = None
App (lex a b) (pair_label l m) (pair u v) = both (App a l u) (App b m v)
App (lex a b) _ _ = None
App (scoped a b) (outer l w) (pair u v) = both (App a l u) (Some w)
App (scoped a b) (inner m) (pair u v) = both (Some u) (App b m v)
App (scoped a b) _ _ = None
App (union a b) (first_label l) (first u) = option_map first (App a l u)
App (union a b) (second_label m) (second v) = option_map second (App b m v)
App (union a b) _ _ = None
App (sum a b) (both_label l m) (first u) = option_map first (App a l u)
App (sum a b) (both_label l m) (second v) = option_map second (App b m v)
App (sum a b) _ _ = None
App (plus a b) (first_label l) v = App a l v
App (plus a b) (second_label m) v = App b m v
App (plus a b) _ _ = None
App (left a) (const_label w) v = Some w
App (left a) _ _ = None
App (right a) keep v = Some v
App (right a) _ _ = None
