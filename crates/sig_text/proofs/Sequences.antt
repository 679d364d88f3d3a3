-- The list of the parts of a text goes on after its first part.
use Rattle.std.proofs.Common.{◌≡◌, ℕ, ◌≤◌, ◌<◌, zero, suc, Bool, true, false, List, [], ◌∷◌, length, refl, sym, ap, ◌∙◌, arith}
use Rattle.meta_base.specs.Bytes.{is_digit, is_letter, is_word_byte, front, after_front, number_from}
use Rattle.sig_text.specs.declared.parts.Next.{Next}
use Rattle.sig_text.specs.declared.parts.Next.TheVariants.{End, Word, Number, TooLarge, Mark}
use Rattle.meta_base.specs.Bytes.{is_blank}
use Rattle.sig_text.specs.Parts.{Part, word, digits, mark, Step, end, part, part_at, step_of}
use Rattle.sig_text.specs.Sequences.{parts_then, parts_within, parts_of}
use Rattle.sig_text.specs.Views.{IsStep, IsFront}

shorter_by : (p : ℕ → Bool) (c : ℕ) (cs : List ℕ) (b : Bool) → p c ≡ b → length (after_front p cs) ≤ length cs → length (after_front p (c ∷ cs)) ≤ length (c ∷ cs)
shorter_by p c cs true h e = rw h (omega arith)
shorter_by p c cs false h e = rw h (omega arith)

after_length : (p : ℕ → Bool) (text : List ℕ) → length (after_front p text) ≤ length text
after_length p [] = omega arith
after_length p (c ∷ cs) = shorter_by p c cs (p c) refl (after_length p cs)

-- the part that each kind of byte begins
pub at_word : (c : ℕ) (cs : List ℕ) → is_letter c ≡ true → part_at (c ∷ cs) ≡ part (word (c ∷ front is_word_byte cs)) (after_front is_word_byte cs)
at_word c cs h = rw h refl

pub at_digits : (c : ℕ) (cs : List ℕ) → is_letter c ≡ false → is_digit c ≡ true → part_at (c ∷ cs) ≡ part (digits (number_from 0 (c ∷ front is_digit cs))) (after_front is_digit cs)
at_digits c cs h k = rw (h, k) refl

pub at_mark : (c : ℕ) (cs : List ℕ) → is_letter c ≡ false → is_digit c ≡ false → part_at (c ∷ cs) ≡ part (mark c) cs
at_mark c cs h k = rw (h, k) refl

-- a part takes a byte at least
part_shorter_by : (c : ℕ) (cs rest : List ℕ) (p : Part) (l d : Bool) → is_letter c ≡ l → is_digit c ≡ d → part_at (c ∷ cs) ≡ part p rest → length rest < length (c ∷ cs)
part_shorter_by c cs rest p true d h k e =
    let q = at_word c cs h in
    let r : rest ≡ after_front is_word_byte cs = cc in
    rw r (let n = after_length is_word_byte cs in omega arith)
part_shorter_by c cs rest p false true h k e =
    let q = at_digits c cs h k in
    let r : rest ≡ after_front is_digit cs = cc in
    rw r (let n = after_length is_digit cs in omega arith)
part_shorter_by c cs rest p false false h k e =
    let q = at_mark c cs h k in
    let r : rest ≡ cs = cc in
    rw r (omega arith)

part_shorter : (text rest : List ℕ) (p : Part) → part_at text ≡ part p rest → length rest < length text
part_shorter [] rest p e = absurd (cc)
part_shorter (c ∷ cs) rest p e = part_shorter_by c cs rest p (is_letter c) (is_digit c) refl refl e

step_shorter : (text rest : List ℕ) (p : Part) → step_of text ≡ part p rest → length rest < length text
step_shorter text rest p e =
    let h = part_shorter (after_front is_blank text) rest p e in
    let k = after_length is_blank text in
    omega arith

-- more room finds no more parts
same_steps : (m n : ℕ) (step : Step) → ((rest : List ℕ) (p : Part) → step ≡ part p rest → parts_within m rest ≡ parts_within n rest) → parts_then (parts_within m) step ≡ parts_then (parts_within n) step
same_steps m n end h = refl
same_steps m n (part p rest) h = ap (λ ps. p ∷ ps) (h rest p refl)

ends_at : (step : Step) → ((rest : List ℕ) (p : Part) → step ≡ part p rest → length rest < 0) → step ≡ end
ends_at end h = refl
ends_at (part p rest) h = let k = h rest p refl in absurd (omega arith)

no_parts : (m : ℕ) (text : List ℕ) → length text ≤ 0 → parts_within m text ≡ []
no_parts zero text h = refl
no_parts (suc m) text h =
    let e : step_of text ≡ end = ends_at (step_of text) (λ rest p e. let k = step_shorter text rest p e in omega arith) in
    ap (parts_then (parts_within m)) e

parts_room : (m n : ℕ) (text : List ℕ) → length text ≤ m → length text ≤ n → parts_within m text ≡ parts_within n text
parts_room zero n text h k = sym (no_parts n text h)
parts_room (suc m) zero text h k = no_parts (suc m) text k
parts_room (suc m) (suc n) text h k =
    same_steps m n (step_of text) (λ rest p e. let s = step_shorter text rest p e in parts_room m n rest (omega arith) (omega arith))

step_then : (m : ℕ) (text : List ℕ) → length text ≤ m → (p : Part) (rest : List ℕ) → step_of text ≡ part p rest → parts_within m text ≡ p ∷ parts_within (length rest) rest
step_then zero text h p rest e = let k = step_shorter text rest p e in absurd (omega arith)
step_then (suc m) text h p rest e =
    let k = step_shorter text rest p e in
    ap (parts_then (parts_within m)) e ∙ ap (λ ps. p ∷ ps) (parts_room m (length rest) rest (omega arith) (omega arith))

pub part_parts : (text : List ℕ) (p : Part) (rest : List ℕ) → step_of text ≡ part p rest → parts_of text ≡ p ∷ parts_of rest
unfolding parts_of
part_parts text p rest e = step_then (length text) text (omega arith) p rest e

end_then : (m : ℕ) (text : List ℕ) → step_of text ≡ end → parts_within m text ≡ []
end_then zero text e = refl
end_then (suc m) text e = ap (parts_then (parts_within m)) e

pub end_parts : (text : List ℕ) → step_of text ≡ end → parts_of text ≡ []
unfolding parts_of
end_parts text e = end_then (length text) text e

pub step_front : (next : Next) (text : List ℕ) → IsStep next (step_of text) → IsFront next (parts_of text)
step_front End text h = end_parts text h
step_front (Word w rest) text h = part_parts text (word w.now) rest.now h
step_front (Number n rest) text h = (part_parts text (digits n) rest.now h.0, h.1)
step_front TooLarge text h = record { number = h.number; rest = parts_of h.rest; is = part_parts text (digits h.number) h.rest h.is; large = h.large }
step_front (Mark c rest) text h = part_parts text (mark c) rest.now h
