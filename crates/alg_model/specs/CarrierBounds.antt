-- Bounds on the numbers of carriers, and the lemma that a bound on an expression is one on its carrier, so that proofs
-- of other crates may cite it.
use Rattle.std.specs.Prelude.{ℕ, ◌≤◌}
use Rattle.alg_model.specs.Expressions.{Expression, add, cap, worst, width, pref, orig, seq, simseq, tags, guard, gate, table, lex, scoped, union, sum, plus, left, right}
use Rattle.alg_model.specs.Expressions.{PureCarrier, whole, up_to, down_from, seqs, simseqs, sets, one, named, pairs, sides}
use Rattle.alg_model.specs.Carriers.{carrier_of}
use Rattle.alg_model.specs.Bounds.{ExpressionAtMost}

-- no number of the carrier is above n
abbrev pub CarrierAtMost : ℕ → PureCarrier → Type 0
CarrierAtMost n whole = Unit {0}
CarrierAtMost n (up_to top) = top ≤ n
CarrierAtMost n (down_from top) = top ≤ n
CarrierAtMost n (seqs k) = k ≤ n
CarrierAtMost n (simseqs k) = k ≤ n
CarrierAtMost n (sets k) = k ≤ n
CarrierAtMost n one = Unit {0}
CarrierAtMost n (named names ranks) = Unit {0}
CarrierAtMost n (pairs c d) = CarrierAtMost n c × CarrierAtMost n d
CarrierAtMost n (sides c d) = CarrierAtMost n c × CarrierAtMost n d

pub carrier_at_most : (n : ℕ) (a : Expression) → ExpressionAtMost n a → CarrierAtMost n (carrier_of a)
carrier_at_most n (add low high) h = tt
carrier_at_most n (cap top low high) h = h.0
carrier_at_most n (worst top low high) h = h.0
carrier_at_most n (width top low high) h = h.0
carrier_at_most n (pref top) h = h
carrier_at_most n (orig top) h = h
carrier_at_most n (seq k) h = h
carrier_at_most n (simseq k) h = h
carrier_at_most n (tags k) h = h
carrier_at_most n (guard k) h = h
carrier_at_most n gate h = tt
carrier_at_most n (table t) h = tt
carrier_at_most n (lex a b) h = (carrier_at_most n a h.0, carrier_at_most n b h.1)
carrier_at_most n (scoped a b) h = (carrier_at_most n a h.0, carrier_at_most n b h.1)
carrier_at_most n (union a b) h = (carrier_at_most n a h.0, carrier_at_most n b h.1)
carrier_at_most n (sum a b) h = (carrier_at_most n a h.0, carrier_at_most n b h.1)
carrier_at_most n (plus a b) h = carrier_at_most n a h.0
carrier_at_most n (left a) h = carrier_at_most n a h
carrier_at_most n (right a) h = carrier_at_most n a h
