-- The symbols in front of a row.
use Rattle.std.proofs.Common.{◌≡◌, ◌≢◌, ℕ, ◌^◌, ◌<◌, List, [], ◌∷◌, length, take, Bool, true, false, ◌&&◌, Some, None, if◌then◌else◌, refl, arith}
use Rattle.std.specs.Prelude.{nat_le, nat_lt}
use Rattle.std.specs.List.{AllByRecursion, list_all}
use Rattle.std.proofs.lemmas.Bool.Decides.{nat_tests}
use Rattle.code_gen.specs.Encoding.{symbols_front}

both_hold : (a b : Bool) → (a && b) ≡ true → (a ≡ true) × (b ≡ true)
both_hold true b h = (refl, h)
both_hold false b h = absurd (cc)

is_there : {A : Type 0} (b : Bool) (x : A) → (if b then Some x else None) ≢ None → b ≡ true
is_there true x h = refl
is_there false x h = absurd (h refl)

all_small : (count : ℕ) (ns : List ℕ) → count < 2 ^ 64 → list_all (λ m. nat_lt m count) ns ≡ true → AllByRecursion (λ w. w < 2 ^ 64) ns
all_small count [] h e = tt
all_small count (n ∷ ns) h e = let t = both_hold (nat_lt n count) (list_all (λ m. nat_lt m count) ns) e in (below t.0, all_small count ns h t.1)
  where
    below : nat_lt n count ≡ true → n < 2 ^ 64
    below e = grind (arith, nat_tests)

-- they are below 2 ^ 64 where the number of symbols is
pub symbols_are_small : (count n : ℕ) (row : List ℕ) → count < 2 ^ 64 → symbols_front count (n ∷ row) ≢ None → AllByRecursion (λ w. w < 2 ^ 64) (take n row)
symbols_are_small count n row h e =
    all_small count (take n row) h (both_hold (nat_le n (length row)) (list_all (λ m. nat_lt m count) (take n row)) (is_there _ _ e)).1
