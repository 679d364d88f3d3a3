use Rattle.std.proofs.Common.{◌≡◌, ℕ, ◌<◌, ◌==◌, true, false, take, get_or, length}
use Rattle.std.specs.List.{list_any}
use Rattle.alg_model.specs.Carriers.{distinct}
use Rattle.alg_model.proofs.membership.are_distinct_symbols.Given as goal

abbrev pub invariant-loop-n : goal.invariant-loop-n
invariant-loop-n l = record {
  apart : distinct (take l.n-index l.ns) ≡ true;
  room : length l.seen ≡ 1024;
  seen : (k : ℕ) → k < 1024 → get_or l.seen k false ≡ list_any (λ m. m == k) (take l.n-index l.ns);
}
