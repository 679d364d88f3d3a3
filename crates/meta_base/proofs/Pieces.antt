-- Fronts of a piece.
use Rattle.std.proofs.Common.{◌≡◌, ℕ, ◌+◌, ◌-◌, ◌++◌, List, length, take, drop, arith, sym, ap, ◌∙◌, length-drop, append_assoc}
use Rattle.std.proofs.Math.Seq.{take-add}
use Rattle.std.proofs.lemmas.List.{take_all, length-take}
use Rattle.meta_base.specs.Sink.{Held, HasFront, Took}

-- a front and n more of what is left
pub take_more_written : (p : List ℕ) (d n : ℕ) → take (d + n) p ≡ take d p ++ take n (take (length p - d) (drop d p))
take_more_written p d n = take-add d n p ∙ ap (λ x. take d p ++ take n x) (sym (take_all (length p - d) (drop d p) (omega (arith, length-drop d p))))

-- a write of what is left makes the front longer
pub HasFront-more : (old now new : Held) (p : List ℕ) (d n : ℕ) → HasFront old p d now → Took now (take (length p - d) (drop d p)) n new → HasFront old p (d + n) new
HasFront-more old now new p d n f t = record {
  within = omega (arith, length-take (length p - d) (drop d p), length-drop d p, t.fits, f.within);
  faults = omega (arith, f.faults, t.faults);
  reports = t.reports ∙ f.reports;
  bytes = λ reported. t.bytes (rw f.reports reported) ∙ ap (λ x. x ++ take n (take (length p - d) (drop d p))) (f.bytes reported) ∙ append_assoc old.bytes (take d p) (take n (take (length p - d) (drop d p))) ∙ ap (λ x. old.bytes ++ x) (sym (take_more_written p d n));
}
