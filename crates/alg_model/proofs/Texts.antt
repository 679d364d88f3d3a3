-- Texts as lists of bytes.
use Rattle.std.proofs.Common.{◌≡◌, ℕ, List, true}
use Rattle.std.specs.Str.{bytes_eq}
use Rattle.std.proofs.lemmas.Slice.Eq.{bytes_eq-Decides}

-- the comparison of two texts decides whether they are the same
pub same_text : (t u : List ℕ) → (bytes_eq t u ≡ true → t ≡ u) × (t ≡ u → bytes_eq t u ≡ true)
same_text t u = bytes_eq-Decides t u
