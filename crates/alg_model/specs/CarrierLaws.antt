-- The carrier of a formed expression is one that an algebra may have. Lemmas, so that proofs of other crates
-- may cite them.
use Rattle.std.proofs.Common.{◌≡◌, ◌&&◌, true, arith}
use Rattle.std.proofs.lemmas.Bool.Decides.{nat_tests}
use Rattle.alg_model.specs.declared.tree.TableSpec.{TableSpec}
use Rattle.alg_model.specs.Expressions.{Expression, add, cap, worst, width, pref, orig, seq, simseq, tags, guard, gate, table, lex, scoped, union, sum, plus, left, right}
use Rattle.alg_model.specs.Carriers.{carrier_of}
use Rattle.alg_model.specs.Formation.{MeetsRanges, MeetsNames, IsFormed, IsCarrier, is_table, are_values, are_named, row_name}

table_values : (t : TableSpec) → is_table t ≡ true → (are_named (λ name. name) t.names && are_named row_name t.rows) ≡ true → are_values t.names t.ranks ≡ true
table_values t h n = grind (arith, nat_tests)

rules_make_carriers : (a : Expression) → MeetsRanges a → MeetsNames a → IsCarrier (carrier_of a)
rules_make_carriers (add low high) h n = tt
rules_make_carriers (cap top low high) h n = tt
rules_make_carriers (worst top low high) h n = tt
rules_make_carriers (width top low high) h n = tt
rules_make_carriers (pref top) h n = tt
rules_make_carriers (orig top) h n = tt
rules_make_carriers (seq k) h n = h
rules_make_carriers (simseq k) h n = h
rules_make_carriers (tags k) h n = h
rules_make_carriers (guard k) h n = h
rules_make_carriers gate h n = tt
rules_make_carriers (table t) h n = table_values t h n
rules_make_carriers (lex a b) h n = (rules_make_carriers a h.0 n.0, rules_make_carriers b h.1 n.1)
rules_make_carriers (scoped a b) h n = (rules_make_carriers a h.0 n.0, rules_make_carriers b h.1 n.1)
rules_make_carriers (union a b) h n = (rules_make_carriers a h.0 n.0, rules_make_carriers b h.1 n.1)
rules_make_carriers (sum a b) h n = (rules_make_carriers a h.0 n.0, rules_make_carriers b h.1 n.1)
rules_make_carriers (plus a b) h n = rules_make_carriers a h.0 n.0
rules_make_carriers (left a) h n = rules_make_carriers a h n
rules_make_carriers (right a) h n = rules_make_carriers a h n

pub carriers_are : (a : Expression) → IsFormed a → IsCarrier (carrier_of a)
carriers_are a f = rules_make_carriers a f.ranges f.names

-- the same of an equal expression
pub carriers_of_equal : (a b : Expression) → a ≡ b → IsFormed b → IsCarrier (carrier_of a)
carriers_of_equal a b e f = rw e (carriers_are b f)
