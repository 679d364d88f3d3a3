-- Keys of texts: their last eight bytes as one number.
use Rattle.std.specs.Prelude.{◌≡◌, ◌<◌, ◌+◌, ◌*◌, ◌%◌, ◌^◌, ℕ, List, [], ◌∷◌}
use Rattle.std.specs.List.{AllByRecursion}

-- the key of a text that has this byte more
abbrev pub next_key : ℕ → ℕ → ℕ
next_key key byte = ((key * 256) % 2 ^ 64 + byte) % 2 ^ 64

-- the key of a text that has these bytes more
abbrev pub key_from : ℕ → List ℕ → ℕ
key_from key [] = key
key_from key (c ∷ cs) = key_from (next_key key c) cs

abbrev pub AreBytes : List ℕ → Type 0
AreBytes text = AllByRecursion (λ c. c < 256) text

-- the number is the key of the text, which is one of bytes
pub record IsKeyed (text : List ℕ) (key : ℕ) : Type 0 where
  pub bytes : AreBytes text
  pub is : key_from 0 text ≡ key
