-- Items of which each is what its number asks.
use Rattle.std.specs.Prelude.{◌≡◌, ℕ, ◌+◌, suc, List, [], ◌∷◌, ◌++◌, length}
use Rattle.std.proofs.Common.{arith, add-zero}

-- each item is what its number asks, where the first has number k
abbrev pub AreFrom : {T : Type 0} → (ℕ → T → Type 0) → ℕ → List T → Type 0
AreFrom P k [] = Unit {0}
AreFrom P k (item ∷ items) = P k item × AreFrom P (k + 1) items

-- so they are where others follow
pub from_joined : {T : Type 0} (P : ℕ → T → Type 0) (k : ℕ) (items others : List T) → AreFrom P k items → AreFrom P (k + length items) others → AreFrom P k (items ++ others)
from_joined P k [] others each rest = rw add-zero at rest
from_joined P k (item ∷ items) others each rest =
    let far : k + suc (length items) ≡ (k + 1) + length items = omega arith in
    (each.0, from_joined P (k + 1) items others each.1 (rw far at rest))

pub from_pushed : {T : Type 0} (P : ℕ → T → Type 0) (k : ℕ) (items : List T) (item : T) → AreFrom P k items → P (k + length items) item → AreFrom P k (items ++ item ∷ [])
from_pushed P k items item each next = from_joined P k items (item ∷ []) each (next, tt)
