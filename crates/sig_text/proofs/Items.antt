-- Lists of numbers.
use Rattle.std.proofs.Common.{◌≡◌, ◌≢◌, ℕ, List, [], ◌∷◌, ◌++◌, Some, arith}
use Rattle.std.proofs.lemmas.Bool.Decides.{nat_tests}
use Rattle.sig_text.specs.Parts.{Part, mark}
use Rattle.sig_text.specs.Reading.{take_number, items_until}
use Rattle.sig_text.proofs.Fronts.{take_number_is}

-- one more number is taken
pub items_more : (greatest m n c : ℕ) (ns : List ℕ) (ps qs us : List Part) → take_number greatest ps ≡ Some (n, qs) → qs ≡ mark c ∷ us → c ≢ m → c ≡ 44
    → items_until greatest m ns ps ≡ items_until greatest m (ns ++ n ∷ []) us
items_more greatest m n c ns ps qs us e f k l =
    let t = take_number_is greatest ps qs n e in
    rw (t.0, f) (grind (arith, nat_tests, t.1))
