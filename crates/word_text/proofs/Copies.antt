-- Lines over which bytes were written.
use Rattle.std.proofs.Common.{◌≡◌, ℕ, ◌+◌, ◌≤◌, List, ◌++◌, length, take, sym, ap, ◌∙◌, append_assoc}
use Rattle.std.proofs.Math.Seq.{take-append-add, take-take}
use Rattle.std.proofs.lemmas.List.{length-take-le, take-append-le}

-- the front of a room over which bytes were written, of which n more are the line's
copied_front : (room bytes rest : List ℕ) (start n : ℕ) → start ≤ length room → n ≤ length bytes
    → take (start + n) (take start room ++ (bytes ++ rest)) ≡ take start room ++ take n bytes
copied_front room bytes rest start n h k =
    ap (λ m. take (m + n) (take start room ++ (bytes ++ rest))) (sym (length-take-le start room h))
    ∙ take-append-add (take start room) (bytes ++ rest) n
    ∙ ap (λ l. take start room ++ l) (take-append-le n bytes rest k)

-- the same of a room of so many bytes
pub copied_short : (room bytes post rest : List ℕ) (start n size : ℕ) → start + n ≤ size → start ≤ length room → n ≤ length bytes
    → take (start + n) (take size ((take start room ++ (bytes ++ post)) ++ rest)) ≡ take start room ++ take n bytes
copied_short room bytes post rest start n size fits h k =
    take-take (start + n) size ((take start room ++ (bytes ++ post)) ++ rest) fits
    ∙ ap (take (start + n)) (append_assoc (take start room) (bytes ++ post) rest ∙ ap (λ l. take start room ++ l) (append_assoc bytes post rest))
    ∙ copied_front room bytes (post ++ rest) start n h k
