-- Each formed algebra has a value, and a label.
use Rattle.std.proofs.Common.{◌≡◌, refl, ◌<◌, [], length, true, arith}
use Rattle.std.proofs.lemmas.Bool.Decides.{nat_tests}
use Rattle.std.proofs.lemmas.Nat.{pow_pos}
use Rattle.alg_model.specs.declared.tree.TableSpec.{TableSpec}
use Rattle.alg_model.specs.Expressions.{Expression, add, cap, worst, width, pref, orig, seq, simseq, tags, guard, gate, table, lex, scoped, union, sum, plus, left, right}
use Rattle.alg_model.specs.Expressions.{PureValue, number, symbols, marks, unit, name, pair, first}
use Rattle.alg_model.specs.Expressions.{PureLabel, number_label, keep, symbol_label, need, allow, row_label, pair_label, both_label, first_label, const_label, inner}
use Rattle.alg_model.specs.Carriers.{carrier_of, In}
use Rattle.alg_model.specs.Application.{IsLabel}
use Rattle.alg_model.specs.Formation.{IsFormed, MeetsRanges, is_table}

named_value : (t : TableSpec) → is_table t ≡ true → 0 < length t.names
named_value t e = grind (arith, nat_tests)

value_of : (a : Expression) → MeetsRanges a → (v : PureValue) × In (carrier_of a) v
value_of (add low high) m = (number 0, tt)
value_of (cap top low high) m = (number 0, omega arith)
value_of (worst top low high) m = (number 0, omega arith)
value_of (width top low high) m = (number 0, omega arith)
value_of (pref top) m = (number 0, omega arith)
value_of (orig top) m = (number 0, omega arith)
value_of (seq k) m = (symbols [], tt)
value_of (simseq k) m = (symbols [], (tt, refl))
value_of (tags k) m = (marks 0, pow_pos k)
value_of (guard k) m = (marks 0, pow_pos k)
value_of gate m = (unit, tt)
value_of (table t) m = (name 0, named_value t m)
value_of (lex a b) m = let u = value_of a m.0 in let v = value_of b m.1 in (pair u.0 v.0, (u.1, v.1))
value_of (scoped a b) m = let u = value_of a m.0 in let v = value_of b m.1 in (pair u.0 v.0, (u.1, v.1))
value_of (union a b) m = let u = value_of a m.0 in (first u.0, u.1)
value_of (sum a b) m = let u = value_of a m.0 in (first u.0, u.1)
value_of (plus a b) m = value_of a m.0
value_of (left a) m = value_of a m
value_of (right a) m = value_of a m

-- a formed expression has a value
pub carrier_inhabited : (a : Expression) → IsFormed a → (v : PureValue) × In (carrier_of a) v
carrier_inhabited a formed = value_of a formed.ranges

first_row : (t : TableSpec) → is_table t ≡ true → 0 < length t.rows
first_row t e = grind (arith, nat_tests)

label_of : (a : Expression) → MeetsRanges a → (l : PureLabel) × IsLabel a l
label_of (add low high) m = (number_label low, (omega arith, omega (arith, m)))
label_of (cap top low high) m = (number_label low, (omega arith, omega (arith, m)))
label_of (worst top low high) m = (number_label low, (omega arith, omega (arith, m.0)))
label_of (width top low high) m = (number_label low, (omega arith, omega (arith, m.0)))
label_of (pref top) m = (number_label 0, omega arith)
label_of (orig top) m = (keep, tt)
label_of (seq k) m = (symbol_label 0, omega (arith, m))
label_of (simseq k) m = (symbol_label 0, omega (arith, m.0))
label_of (tags k) m = (keep, tt)
label_of (guard k) m = (need 0, omega (arith, m.0))
label_of gate m = (allow, tt)
label_of (table t) m = (row_label 0, first_row t m)
label_of (lex a b) m = let l = label_of a m.0 in let k = label_of b m.1 in (pair_label l.0 k.0, (l.1, k.1))
label_of (scoped a b) m = let k = label_of b m.1 in (inner k.0, k.1)
label_of (union a b) m = let l = label_of a m.0 in (first_label l.0, l.1)
label_of (sum a b) m = let l = label_of a m.0 in let k = label_of b m.1 in (both_label l.0 k.0, (l.1, k.1))
label_of (plus a b) m = let l = label_of a m.0 in (first_label l.0, l.1)
label_of (left a) m = let v = value_of a m in (const_label v.0, v.1)
label_of (right a) m = (keep, tt)

-- and a label
pub labels_inhabited : (a : Expression) → IsFormed a → (l : PureLabel) × IsLabel a l
labels_inhabited a formed = label_of a formed.ranges
