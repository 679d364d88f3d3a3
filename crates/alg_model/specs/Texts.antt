-- The printed texts of values and labels.
use Rattle.std.specs.Prelude.{ℕ, ◌+◌, zero, suc, List, [], ◌∷◌, ◌++◌, if◌then◌else◌, decimal, codes, Option, Some, None, slice_get, slice_index_or}
use Rattle.alg_model.specs.declared.tree.TableRow.{TableRow}
use Rattle.alg_model.specs.Expressions.{Expression, add, cap, worst, width, pref, orig, seq, simseq, tags, guard, gate, table, lex, scoped, union, sum, plus, left, right}
use Rattle.alg_model.specs.Expressions.{PureCarrier, whole, up_to, down_from, seqs, simseqs, sets, one, named, pairs, sides}
use Rattle.alg_model.specs.Expressions.{PureValue, number, symbols, marks, unit, name, pair, first, second}
use Rattle.alg_model.specs.Expressions.{PureLabel, number_label, keep, symbol_label, mark, unmark, need, bar, allow, deny, row_label, pair_label, both_label, first_label, second_label, const_label, outer, inner}
use Rattle.alg_model.specs.Carriers.{carrier_of}
use Rattle.alg_model.specs.Application.{has_mark}

-- numbers after others, each after a comma
abbrev pub more_numbers : List ℕ → List ℕ
more_numbers [] = []
more_numbers (n ∷ ns) = codes "," ++ decimal n ++ more_numbers ns

-- numbers with commas between them
abbrev pub numbers_text : List ℕ → List ℕ
numbers_text [] = []
numbers_text (n ∷ ns) = decimal n ++ more_numbers ns

-- the numbers from k on, so many, that are in the set
abbrev pub members_from : ℕ → ℕ → ℕ → List ℕ
members_from k zero m = []
members_from k (suc count) m = if has_mark m k then k ∷ members_from (k + 1) count m else members_from (k + 1) count m

-- the members below the count, ascending
abbrev pub members : ℕ → ℕ → List ℕ
members count m = members_from 0 count m

-- a value of a carrier
abbrev pub value_text : PureCarrier → PureValue → List ℕ
value_text whole (number n) = decimal n
value_text (up_to top) (number n) = decimal n
value_text (down_from top) (number n) = decimal n
value_text (seqs k) (symbols ns) = codes "[" ++ numbers_text ns ++ codes "]"
value_text (simseqs k) (symbols ns) = codes "[" ++ numbers_text ns ++ codes "]"
value_text (sets count) (marks m) = codes "{" ++ numbers_text (members count m) ++ codes "}"
value_text one unit = codes "unit"
value_text (named names ranks) (name k) = slice_index_or names k []
value_text (pairs c d) (pair u v) = codes "(" ++ value_text c u ++ codes "," ++ value_text d v ++ codes ")"
value_text (sides c d) (first u) = codes "l:" ++ value_text c u
value_text (sides c d) (second v) = codes "r:" ++ value_text d v
value_text _ _ = []

-- the name of a row, if it is there
abbrev pub row_text : Option TableRow → List ℕ
row_text (Some row) = row.name
row_text None = []

-- a label of an algebra
abbrev pub label_text : Expression → PureLabel → List ℕ
label_text (add low high) (number_label n) = decimal n
label_text (cap top low high) (number_label n) = decimal n
label_text (worst top low high) (number_label n) = decimal n
label_text (width top low high) (number_label n) = decimal n
label_text (pref top) (number_label n) = decimal n
label_text (orig top) keep = codes "keep"
label_text (seq k) (symbol_label n) = decimal n
label_text (simseq k) (symbol_label n) = decimal n
label_text (tags n) keep = codes "keep"
label_text (tags n) (mark k) = codes "+" ++ decimal k
label_text (tags n) (unmark k) = codes "-" ++ decimal k
label_text (guard n) (need k) = codes "?" ++ decimal k
label_text (guard n) (bar k) = codes "!" ++ decimal k
label_text gate allow = codes "allow"
label_text gate deny = codes "deny"
label_text (table t) (row_label r) = row_text (slice_get t.rows r)
label_text (lex a b) (pair_label l m) = codes "(" ++ label_text a l ++ codes "," ++ label_text b m ++ codes ")"
label_text (scoped a b) (outer l v) = codes "out(" ++ label_text a l ++ codes "," ++ value_text (carrier_of b) v ++ codes ")"
label_text (scoped a b) (inner m) = codes "in(" ++ label_text b m ++ codes ")"
label_text (union a b) (first_label l) = codes "l:" ++ label_text a l
label_text (union a b) (second_label m) = codes "r:" ++ label_text b m
label_text (sum a b) (both_label l m) = codes "(" ++ label_text a l ++ codes "|" ++ label_text b m ++ codes ")"
label_text (plus a b) (first_label l) = codes "l:" ++ label_text a l
label_text (plus a b) (second_label m) = codes "r:" ++ label_text b m
label_text (left a) (const_label v) = value_text (carrier_of a) v
label_text (right a) keep = codes "keep"
label_text _ _ = []
