-- Names are text.
use Rattle.std.proofs.Common.{◌≡◌, ℕ, ◌<◌, List, [], ◌∷◌, Bool, true, ◌&&◌, arith, zero, suc}
use Rattle.std.specs.List.{list_all}
use Rattle.std.specs.Str.{IsUtf8, IsAscii}
use Rattle.std.proofs.lemmas.Str.{IsUtf8-from_ascii}
use Rattle.std.proofs.lemmas.Bool.Decides.{nat_tests}
use Rattle.net_graph.specs.Nets.{is_name_byte, is_name}

and_left : (a b : Bool) → a && b ≡ true → a ≡ true
and_left a b h = grind arith

and_right : (a b : Bool) → a && b ≡ true → b ≡ true
and_right a b h = grind arith

name_byte : (c : ℕ) → is_name_byte c ≡ true → c < 128
name_byte c h = grind (arith, nat_tests)

name_bytes : (cs : List ℕ) → list_all is_name_byte cs ≡ true → IsAscii cs
name_bytes [] h i = omega arith
name_bytes (c ∷ cs) h zero = name_byte c (and_left (is_name_byte c) (list_all is_name_byte cs) h)
name_bytes (c ∷ cs) h (suc i) = name_bytes cs (and_right (is_name_byte c) (list_all is_name_byte cs) h) i

pub name_is_text : (name : List ℕ) → is_name name ≡ true → IsUtf8 name
name_is_text name h = IsUtf8-from_ascii name (name_bytes name (and_right _ (list_all is_name_byte name) h))
