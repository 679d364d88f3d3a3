-- The texts of numbers, words and lists, and the parts that stand in them.
use Rattle.std.proofs.Common.{◌≡◌, ℕ, ◌+◌, ◌-◌, ◌*◌, ◌/◌, ◌%◌, ◌^◌, ◌≤◌, ◌<◌, Bool, true, false, not, ◌||◌, List, [], ◌∷◌, ◌++◌, length, refl, sym, ap, ◌∙◌, subst, arith, append_assoc, length-append}
use Rattle.std.specs.Prelude.{decimal}
use Rattle.std.specs.List.{list_all}
use Rattle.std.proofs.lemmas.Bool.Decides.{nat_tests}
use Rattle.std.proofs.lemmas.Fmt.{decimal_by_steps_wide}
use Rattle.sig_text.specs.declared.bytes.TheConstants.{MAX_LITERAL_NUMBER}
use Rattle.meta_base.specs.Bytes.{is_digit, is_letter, is_word_byte, is_word, front, after_front, number_from}
use Rattle.alg_model.specs.Texts.{more_numbers, numbers_text}
use Rattle.meta_base.specs.Bytes.{is_blank}
use Rattle.sig_text.specs.Parts.{Part, word, digits, mark, part, part_at, step_of, Begins}
use Rattle.sig_text.specs.Shapes.{more_parts, numbers_parts, AreSmall}
use Rattle.sig_text.proofs.Sequences.{at_word, at_digits}
use Rattle.sig_text.proofs.Meant.{both_true}

abbrev AreDigits : ℕ → List ℕ → Type 0
AreDigits n ds = (list_all is_digit ds ≡ true) × (number_from 0 ds ≡ n) × (0 < length ds)

number_from_append : (k : ℕ) (ds : List ℕ) (d : ℕ) → number_from k (ds ++ d ∷ []) ≡ 10 * number_from k ds + (d - 48)
number_from_append k [] d = refl
number_from_append k (c ∷ ds) d = number_from_append (10 * k + (c - 48)) ds d

all_append : (ds : List ℕ) (d : ℕ) → list_all is_digit ds ≡ true → is_digit d ≡ true → list_all is_digit (ds ++ d ∷ []) ≡ true
all_append [] d h k = rw k refl
all_append (c ∷ ds) d h k =
    let t = both_true (is_digit c) (list_all is_digit ds) h in
    rw t.0 (all_append ds d t.1 k)

digit_48 : (d : ℕ) → d < 10 → is_digit (48 + d) ≡ true
digit_48 d h = grind (arith, nat_tests)

one_digit : (n : ℕ) → n < 10 → AreDigits n ((48 + n) ∷ [])
one_digit n h = (all_append [] (48 + n) refl (digit_48 n h), omega arith, omega arith)

more_digits : (n : ℕ) (ds : List ℕ) → 10 ≤ n → AreDigits (n / 10) ds → AreDigits n (ds ++ ((48 + n % 10) ∷ []))
more_digits n ds h p =
    let small : n % 10 < 10 = omega arith in
    let e : number_from 0 ds ≡ n / 10 = p.1 in
    let v : 10 * number_from 0 ds + ((48 + n % 10) - 48) ≡ n = rw e (omega arith) in
    let l = length-append ds ((48 + n % 10) ∷ []) in
    (all_append ds (48 + n % 10) p.0 (digit_48 (n % 10) small), number_from_append 0 ds (48 + n % 10) ∙ v, omega arith)

decimal_digits : (n : ℕ) → n < 10 ^ 64 → AreDigits n (decimal n)
decimal_digits n h = decimal_by_steps_wide AreDigits one_digit more_digits n h

-- the text ends, or goes on with a byte that goes on with no word
abbrev pub stops : List ℕ → Bool
stops [] = true
stops (c ∷ cs) = not (is_word_byte c)

not_either : (l d : Bool) → not (l || d) ≡ true → (l ≡ false) × (d ≡ false)
not_either true d h = absurd (cc)
not_either false true h = absurd (cc)
not_either false false h = (refl, refl)

not_true : (b : Bool) → not b ≡ true → b ≡ false
not_true true h = absurd (cc)
not_true false h = refl

front_all : (p : ℕ → Bool) (ds rest : List ℕ) → list_all p ds ≡ true → front p rest ≡ [] → front p (ds ++ rest) ≡ ds
front_all p [] rest h k = k
front_all p (d ∷ ds) rest h k =
    let t = both_true (p d) (list_all p ds) h in
    rw t.0 (ap (λ xs. d ∷ xs) (front_all p ds rest t.1 k))

after_all : (p : ℕ → Bool) (ds rest : List ℕ) → list_all p ds ≡ true → after_front p rest ≡ rest → after_front p (ds ++ rest) ≡ rest
after_all p [] rest h k = k
after_all p (d ∷ ds) rest h k =
    let t = both_true (p d) (list_all p ds) h in
    rw t.0 (after_all p ds rest t.1 k)

stops_at : (p : ℕ → Bool) (c : ℕ) (cs : List ℕ) → p c ≡ false → (front p (c ∷ cs) ≡ []) × (after_front p (c ∷ cs) ≡ c ∷ cs)
stops_at p c cs h = (rw h refl, rw h refl)

stops_digits : (rest : List ℕ) → stops rest ≡ true → (front is_digit rest ≡ []) × (after_front is_digit rest ≡ rest)
stops_digits [] h = (refl, refl)
stops_digits (c ∷ cs) h = stops_at is_digit c cs (not_either (is_letter c) (is_digit c) h).1

stops_word : (rest : List ℕ) → stops rest ≡ true → (front is_word_byte rest ≡ []) × (after_front is_word_byte rest ≡ rest)
stops_word [] h = (refl, refl)
stops_word (c ∷ cs) h = stops_at is_word_byte c cs (not_true (is_word_byte c) h)

digit_not_letter : (c : ℕ) → is_digit c ≡ true → is_letter c ≡ false
digit_not_letter c h = grind (arith, nat_tests)

digit_not_blank : (c : ℕ) → is_digit c ≡ true → is_blank c ≡ false
digit_not_blank c h = grind (arith, nat_tests)

letter_not_blank : (c : ℕ) → is_letter c ≡ true → is_blank c ≡ false
letter_not_blank c h = grind (arith, nat_tests)

step_run : (ds rest : List ℕ) (n : ℕ) → AreDigits n ds → stops rest ≡ true → step_of (ds ++ rest) ≡ part (digits n) rest
step_run [] rest n d s = let l = d.2 in absurd (omega arith)
step_run (c ∷ cs) rest n d s =
    let t = both_true (is_digit c) (list_all is_digit cs) d.0 in
    let f = front_all is_digit cs rest t.1 (stops_digits rest s).0 in
    let g = after_all is_digit cs rest t.1 (stops_digits rest s).1 in
    let e = (stops_at is_blank c (cs ++ rest) (digit_not_blank c t.0)).1 in
    ap part_at e ∙ at_digits c (cs ++ rest) (digit_not_letter c t.0) t.0
    ∙ ap (λ xs. part (digits (number_from 0 (c ∷ xs))) (after_front is_digit (cs ++ rest))) f
    ∙ ap (λ us. part (digits (number_from 0 (c ∷ cs))) us) g ∙ ap (λ k. part (digits k) rest) d.1

pub step_digits : (n : ℕ) (rest : List ℕ) → n ≤ MAX_LITERAL_NUMBER → stops rest ≡ true → step_of (decimal n ++ rest) ≡ part (digits n) rest
step_digits n rest h s = step_run (decimal n) rest n (decimal_digits n (omega arith)) s

pub step_word : (w rest : List ℕ) → is_word w ≡ true → stops rest ≡ true → step_of (w ++ rest) ≡ part (word w) rest
step_word [] rest h s = absurd (cc)
step_word (c ∷ cs) rest h s =
    let t = both_true (is_letter c) (list_all is_word_byte cs) h in
    let f = front_all is_word_byte cs rest t.1 (stops_word rest s).0 in
    let g = after_all is_word_byte cs rest t.1 (stops_word rest s).1 in
    let e = (stops_at is_blank c (cs ++ rest) (letter_not_blank c t.0)).1 in
    ap part_at e ∙ at_word c (cs ++ rest) t.0 ∙ ap (λ xs. part (word (c ∷ xs)) (after_front is_word_byte (cs ++ rest))) f ∙ ap (λ us. part (word (c ∷ cs)) us) g

pub begins_append : (ps qs : List Part) (text mid rest : List ℕ) → Begins ps text mid → Begins qs mid rest → Begins (ps ++ qs) text rest
begins_append [] qs text mid rest h k = subst (λ x. Begins qs x rest) (sym h) k
begins_append (p ∷ ps) qs text mid rest h k = (h.0, h.1, begins_append ps qs h.0 mid rest h.2 k)

pub begins_one : (p : Part) (text rest : List ℕ) → step_of text ≡ part p rest → Begins (p ∷ []) text rest
begins_one p text rest e = (rest, e, refl)

more_stop : (ns : List ℕ) (m : ℕ) (rest : List ℕ) → is_word_byte m ≡ false → stops (more_numbers ns ++ m ∷ rest) ≡ true
more_stop [] m rest h = rw h refl
more_stop (n ∷ ns) m rest h = refl

more_begin : (ns : List ℕ) (m : ℕ) (rest : List ℕ) → AreSmall MAX_LITERAL_NUMBER ns → is_word_byte m ≡ false → step_of (m ∷ rest) ≡ part (mark m) rest → Begins (more_parts ns ++ mark m ∷ []) (more_numbers ns ++ m ∷ rest) rest
more_begin [] m rest s h e = begins_one (mark m) (m ∷ rest) rest e
more_begin (n ∷ ns) m rest s h e =
    let tail = more_numbers ns ++ m ∷ rest in
    let r : 44 ∷ (decimal n ++ tail) ≡ more_numbers (n ∷ ns) ++ m ∷ rest = ap (λ xs. 44 ∷ xs) (sym (append_assoc (decimal n) (more_numbers ns) (m ∷ rest))) in
    subst (λ x. Begins (mark 44 ∷ digits n ∷ (more_parts ns ++ mark m ∷ [])) x rest) r
    (decimal n ++ tail, refl, (tail, step_digits n tail s.0 (more_stop ns m rest h), more_begin ns m rest s.1 h e))

numbers_begin : (ns : List ℕ) (m : ℕ) (rest : List ℕ) → AreSmall MAX_LITERAL_NUMBER ns → is_word_byte m ≡ false → step_of (m ∷ rest) ≡ part (mark m) rest → Begins (numbers_parts ns ++ mark m ∷ []) (numbers_text ns ++ m ∷ rest) rest
numbers_begin [] m rest s h e = begins_one (mark m) (m ∷ rest) rest e
numbers_begin (n ∷ ns) m rest s h e =
    let tail = more_numbers ns ++ m ∷ rest in
    subst (λ x. Begins (digits n ∷ (more_parts ns ++ mark m ∷ [])) x rest) (sym (append_assoc (decimal n) (more_numbers ns) (m ∷ rest)))
    (tail, step_digits n tail s.0 (more_stop ns m rest h), more_begin ns m rest s.1 h e)

pub list_begins : (o m : ℕ) (ns rest : List ℕ) → AreSmall MAX_LITERAL_NUMBER ns → is_word_byte m ≡ false → step_of (m ∷ rest) ≡ part (mark m) rest → step_of (o ∷ (numbers_text ns ++ m ∷ rest)) ≡ part (mark o) (numbers_text ns ++ m ∷ rest)
    → Begins (mark o ∷ (numbers_parts ns ++ mark m ∷ [])) (((o ∷ []) ++ numbers_text ns ++ (m ∷ [])) ++ rest) rest
list_begins o m ns rest s h e f =
    subst (λ x. Begins (mark o ∷ (numbers_parts ns ++ mark m ∷ [])) (o ∷ x) rest) (sym (append_assoc (numbers_text ns) (m ∷ []) rest))
    (numbers_text ns ++ m ∷ rest, f, numbers_begin ns m rest s h e)
