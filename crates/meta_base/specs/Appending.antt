-- What a call that appends to a string did.
use Rattle.std.specs.Prelude.{◌≡◌, ℕ, List, ◌++◌, String, string_bytes}

-- the string has the text after what it had
abbrev pub Gains : {Z : Type 0} → String Z → List ℕ → String Z → Type 0
Gains old text new = string_bytes new ≡ string_bytes old ++ text
