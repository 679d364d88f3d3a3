-- Tests that say where an expression breaks a formation rule.
use Rattle.std.specs.Prelude.{ℕ, List, [], ◌∷◌, Bool, true, false, ◌&&◌, ◌==◌, nat_le}
use Rattle.std.specs.Str.{bytes_eq}
use Rattle.alg_model.specs.Numbers.{max_simple_symbols, max_marks}
use Rattle.alg_model.specs.Expressions.{Expression, add, cap, worst, width, pref, orig, seq, simseq, tags, guard, gate, table, lex, scoped, union, sum, plus, left, right}
use Rattle.alg_model.specs.Expressions.{PureCarrier, whole, up_to, down_from, seqs, simseqs, sets, one, named, pairs, sides}

-- a base algebra of numbers meets the rule on ranges
abbrev pub is_in_range : Expression → Bool
is_in_range (add low high) = nat_le low high
is_in_range (cap top low high) = nat_le low high
is_in_range (worst top low high) = nat_le low high && nat_le high top
is_in_range (width top low high) = nat_le low high && nat_le high top
is_in_range (seq n) = nat_le 1 n
is_in_range (simseq n) = nat_le 1 n && nat_le n max_simple_symbols
is_in_range (tags n) = nat_le 1 n && nat_le n max_marks
is_in_range (guard n) = nat_le 1 n && nat_le n max_marks
is_in_range (pref top) = true
is_in_range (orig top) = true
is_in_range gate = true
is_in_range (table t) = true
is_in_range (lex a b) = true
is_in_range (scoped a b) = true
is_in_range (union a b) = true
is_in_range (sum a b) = true
is_in_range (plus a b) = true
is_in_range (left a) = true
is_in_range (right a) = true

-- the lists hold the same texts
abbrev pub are_same_texts : List (List ℕ) → List (List ℕ) → Bool
are_same_texts [] [] = true
are_same_texts (t ∷ ts) (u ∷ us) = bytes_eq t u && are_same_texts ts us
are_same_texts _ _ = false

-- the carriers are the same
abbrev pub is_same_carrier : PureCarrier → PureCarrier → Bool
is_same_carrier whole whole = true
is_same_carrier (up_to m) (up_to n) = m == n
is_same_carrier (down_from m) (down_from n) = m == n
is_same_carrier (seqs m) (seqs n) = m == n
is_same_carrier (simseqs m) (simseqs n) = m == n
is_same_carrier (sets m) (sets n) = m == n
is_same_carrier one one = true
is_same_carrier (named names ranks) (named others degrees) = are_same_texts names others && bytes_eq ranks degrees
is_same_carrier (pairs a b) (pairs c d) = is_same_carrier a c && is_same_carrier b d
is_same_carrier (sides a b) (sides c d) = is_same_carrier a c && is_same_carrier b d
is_same_carrier _ _ = false
