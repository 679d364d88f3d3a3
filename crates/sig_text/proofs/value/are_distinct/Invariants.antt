use Rattle.std.proofs.Common.{◌≡◌, ℕ, ◌==◌, true, take}
use Rattle.std.specs.BTreeSet.{contains}
use Rattle.std.specs.List.{list_any}
use Rattle.std.specs.Ordering.{nat_cmp}
use Rattle.alg_model.specs.Carriers.{distinct}
use Rattle.sig_text.proofs.value.are_distinct.Given as goal

-- the numbers so far are apart, and they are those seen
abbrev pub invariant-loop-n : goal.invariant-loop-n
invariant-loop-n l = record {
  apart : distinct (take l.n-index l.numbers) ≡ true;
  seen : (k : ℕ) → contains nat_cmp l.seen k ≡ list_any (λ m. m == k) (take l.n-index l.numbers);
}
