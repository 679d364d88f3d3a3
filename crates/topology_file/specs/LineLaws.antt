-- The lines of a text that is put together of lines, and the words of a line that is put together of words. Lemmas, so
-- that proofs of other crates may cite them.
use Rattle.std.proofs.Common.{◌≡◌, ℕ, zero, suc, ◌+◌, ◌-◌, ◌/◌, ◌%◌, ◌^◌, ◌<◌, ◌≤◌, Bool, true, false, not, ◌&&◌, eqb, leb, List, [], ◌∷◌, ◌++◌, length, get_or, take, if◌then◌else◌, Ok, refl, sym, ap, ◌∙◌, arith, length-append}
use Rattle.std.specs.Prelude.{decimal}
use Rattle.std.specs.List.{list_all, onto_first, AllByRecursion}
use Rattle.std.proofs.lemmas.Bool.Decides.{nat_tests}
use Rattle.std.proofs.lemmas.Fmt.{decimal_by_steps_wide}
use Rattle.std.proofs.lemmas.List.{append-nil}
use Rattle.meta_base.specs.Bytes.{is_blank, front, after_front}
use Rattle.net_graph.specs.Nets.{is_name_byte}
use Rattle.sig_text.specs.Literals.{Spelling}
use Rattle.topology_file.specs.Numbers.{max_line_bytes}
use Rattle.topology_file.specs.Texts.{is_not, lines_of, without_return, said_of, ends_word, words_of}
use Rattle.topology_file.specs.Forms.{line_from, plain_line, colon_line, line_of}
use Rattle.topology_file.specs.NetText.{PureNetFile, after_form, after_line}
use Rattle.topology_file.specs.LineTexts.{ended, text_of}

pub both_true : (a b : Bool) → (a && b) ≡ true → (a ≡ true) × (b ≡ true)
both_true true b h = (refl, h)
both_true false b h = absurd (cc)

not_true : (b : Bool) → not b ≡ true → b ≡ false
not_true true h = absurd (cc)
not_true false h = refl

pub all_pass : (p q : ℕ → Bool) (w : List ℕ) → ((c : ℕ) → p c ≡ true → q c ≡ true) → list_all p w ≡ true → list_all q w ≡ true
all_pass p q [] f h = refl
all_pass p q (c ∷ cs) f h =
    let t = both_true (p c) (list_all p cs) h in
    rw (f c t.0) (all_pass p q cs f t.1)

pub all_joined : (p : ℕ → Bool) (xs ys : List ℕ) → list_all p xs ≡ true → list_all p ys ≡ true → list_all p (xs ++ ys) ≡ true
all_joined p [] ys h k = k
all_joined p (x ∷ xs) ys h k =
    let t = both_true (p x) (list_all p xs) h in
    rw t.0 (all_joined p xs ys t.1 k)

pub front_through : (p : ℕ → Bool) (w rest : List ℕ) → list_all p w ≡ true → front p (w ++ rest) ≡ w ++ front p rest
front_through p [] rest h = refl
front_through p (c ∷ cs) rest h =
    let t = both_true (p c) (list_all p cs) h in
    rw t.0 (ap (λ xs. c ∷ xs) (front_through p cs rest t.1))

pub after_through : (p : ℕ → Bool) (w rest : List ℕ) → list_all p w ≡ true → after_front p (w ++ rest) ≡ after_front p rest
after_through p [] rest h = refl
after_through p (c ∷ cs) rest h =
    let t = both_true (p c) (list_all p cs) h in
    rw t.0 (after_through p cs rest t.1)

-- Lines.

pub first_line : (line rest : List ℕ) → list_all (is_not 10) line ≡ true → lines_of (ended line ++ rest) ≡ line ∷ lines_of rest
first_line [] rest h = refl
first_line (c ∷ cs) rest h =
    let t = both_true (is_not 10 c) (list_all (is_not 10) cs) h in
    rw (first_line cs rest t.1, not_true (eqb c 10) t.0) refl

-- a byte of a line that ends none, neither its text nor what it says
unfoldable pub is_plain : ℕ → Bool
is_plain c = is_not 10 c && (is_not 13 c && is_not 35 c)

pub plain_is : (c : ℕ) → is_plain c ≡ true → (is_not 10 c ≡ true) × (is_not 13 c ≡ true) × (is_not 35 c ≡ true)
unfolding is_plain
plain_is c h =
    let t = both_true (is_not 10 c) (is_not 13 c && is_not 35 c) h in
    let u = both_true (is_not 13 c) (is_not 35 c) t.1 in
    (t.0, u.0, u.1)

-- a line of such bytes that isn't too long
pub record IsLine (line : List ℕ) : Type 0 where
  pub plain : list_all is_plain line ≡ true
  pub short : length line ≤ max_line_bytes

pub lines_again : (lines : List (List ℕ)) → AllByRecursion IsLine lines → lines_of (text_of lines) ≡ lines
lines_again [] a = refl
lines_again (line ∷ lines) a =
    first_line line (text_of lines) (all_pass is_plain (is_not 10) line (λ c h. (plain_is c h).0) a.0.plain)
    ∙ ap (λ xs. line ∷ xs) (lines_again lines a.1)

passes_at : (p : ℕ → Bool) (line : List ℕ) (i : ℕ) → p 0 ≡ true → list_all p line ≡ true → p (get_or line i 0) ≡ true
passes_at p [] i z h = z
passes_at p (c ∷ cs) zero z h = (both_true (p c) (list_all p cs) h).0
passes_at p (c ∷ cs) (suc i) z h = passes_at p cs i z (both_true (p c) (list_all p cs) h).1

no_return : (line : List ℕ) → list_all is_plain line ≡ true → without_return line ≡ line
no_return line h =
    let last = passes_at (is_not 13) line (length line - 1) refl (all_pass is_plain (is_not 13) line (λ c k. (plain_is c k).1) h) in
    rw (not_true (eqb (get_or line (length line - 1) 0) 13) last) refl

pub says_itself : (line : List ℕ) → list_all is_plain line ≡ true → said_of line ≡ line
says_itself line h =
    ap (front (is_not 35)) (no_return line h ∙ sym (append-nil line))
    ∙ front_through (is_not 35) line [] (all_pass is_plain (is_not 35) line (λ c k. (plain_is c k).2) h) ∙ append-nil line

-- what such a line makes is by its form
pub line_after : (s : Spelling) (f : PureNetFile) (line : List ℕ) → IsLine line → after_line s f line ≡ after_form s f (line_of line)
line_after s f line i =
    let short = i.short in
    let fits : leb (length line) max_line_bytes ≡ true = grind (arith, nat_tests) in
    rw (fits, says_itself line i.plain) refl

-- a line that begins with # says nothing, whatever it goes on with
silent_comment : (rest : List ℕ) → said_of (35 ∷ rest) ≡ []
silent_comment [] = refl
silent_comment (c ∷ cs) = by (eqb (get_or (35 ∷ c ∷ cs) (length (35 ∷ c ∷ cs) - 1) 0) 13)
  where
    by : (b : Bool) → front (is_not 35) (if b then take (length (35 ∷ c ∷ cs) - 1) (35 ∷ c ∷ cs) else 35 ∷ c ∷ cs) ≡ []
    by true = let k : length (35 ∷ c ∷ cs) - 1 ≡ suc (length cs) = omega arith in rw k refl
    by false = refl

-- and adds nothing
pub comment_after : (s : Spelling) (f : PureNetFile) (rest : List ℕ) → length (35 ∷ rest) ≤ max_line_bytes → after_line s f (35 ∷ rest) ≡ Ok f
comment_after s f rest short =
    let fits : leb (length (35 ∷ rest)) max_line_bytes ≡ true = grind (arith, nat_tests) in
    rw (fits, silent_comment rest) refl

-- Words.

-- bytes of a name, one at least
pub record IsWord (w : List ℕ) : Type 0 where
  pub bytes : list_all is_name_byte w ≡ true
  pub some : 0 < length w

not_blank : (c : ℕ) → is_name_byte c ≡ true → is_blank c ≡ false
not_blank c h = grind (arith, nat_tests)

pub no_colon : (c : ℕ) → is_name_byte c ≡ true → is_not 58 c ≡ true
no_colon c h = grind (arith, nat_tests)

name_plain : (c : ℕ) → is_name_byte c ≡ true → is_plain c ≡ true
unfolding is_plain
name_plain c h =
    let a : is_not 10 c ≡ true = grind (arith, nat_tests) in
    let b : is_not 13 c ≡ true = grind (arith, nat_tests) in
    let d : is_not 35 c ≡ true = grind (arith, nat_tests) in
    rw (a, b, d) refl

word_grows : (c d : ℕ) (xs : List ℕ) → is_blank c ≡ false → is_blank d ≡ false → words_of (c ∷ d ∷ xs) ≡ onto_first c (words_of (d ∷ xs))
word_grows c d xs e f = rw (e, f) refl

word_first : (c : ℕ) (cs rest : List ℕ) → list_all is_name_byte (c ∷ cs) ≡ true → ends_word rest ≡ true → words_of ((c ∷ cs) ++ rest) ≡ (c ∷ cs) ∷ words_of rest
word_first c [] rest h e = rw (not_blank c (both_true (is_name_byte c) true h).0, e) refl
word_first c (d ∷ ds) rest h e =
    let t = both_true (is_name_byte c) (list_all is_name_byte (d ∷ ds)) h in
    let u = both_true (is_name_byte d) (list_all is_name_byte ds) t.1 in
    word_grows c d (ds ++ rest) (not_blank c t.0) (not_blank d u.0) ∙ ap (onto_first c) (word_first d ds rest t.1 e)

-- a word at the front, where it ends
pub words_first : (w rest : List ℕ) → IsWord w → ends_word rest ≡ true → words_of (w ++ rest) ≡ w ∷ words_of rest
words_first [] rest i e = let some = i.some in absurd (omega arith)
words_first (c ∷ cs) rest i e = word_first c cs rest i.bytes e

-- a line of one word
pub words_one : (w : List ℕ) → IsWord w → words_of w ≡ w ∷ []
words_one w i = ap words_of (sym (append-nil w)) ∙ words_first w [] i refl

-- a word has no colon, and ends no line
pub word_front : (w rest : List ℕ) → IsWord w → front (is_not 58) (w ++ rest) ≡ w ++ front (is_not 58) rest
word_front w rest i = front_through (is_not 58) w rest (all_pass is_name_byte (is_not 58) w no_colon i.bytes)

pub word_after : (w rest : List ℕ) → IsWord w → after_front (is_not 58) (w ++ rest) ≡ after_front (is_not 58) rest
word_after w rest i = after_through (is_not 58) w rest (all_pass is_name_byte (is_not 58) w no_colon i.bytes)

pub word_plain : (w : List ℕ) → IsWord w → list_all is_plain w ≡ true
word_plain w i = all_pass is_name_byte is_plain w name_plain i.bytes

digit_byte : (d : ℕ) → d < 10 → is_name_byte (48 + d) ≡ true
digit_byte d h = grind (arith, nat_tests)

abbrev AreNameBytes : ℕ → List ℕ → Type 0
AreNameBytes n ds = (list_all is_name_byte ds ≡ true) × (0 < length ds)

one_digit : (n : ℕ) → n < 10 → AreNameBytes n ((48 + n) ∷ [])
one_digit n h = (rw (digit_byte n h) refl, omega arith)

more_digits : (n : ℕ) (ds : List ℕ) → 10 ≤ n → AreNameBytes (n / 10) ds → AreNameBytes n (ds ++ ((48 + n % 10) ∷ []))
more_digits n ds h p =
    let digit : is_name_byte (48 + n % 10) ≡ true = digit_byte (n % 10) (omega arith) in
    let more = length-append ds ((48 + n % 10) ∷ []) in
    (all_joined is_name_byte ds ((48 + n % 10) ∷ []) p.0 (rw digit refl), omega arith)

-- a printed number is a word
pub number_word : (n : ℕ) → n < 10 ^ 64 → IsWord (decimal n)
number_word n h =
    let w = decimal_by_steps_wide AreNameBytes one_digit more_digits n h in
    record { bytes = w.0; some = w.1 }

-- Forms of lines.

-- a line without a colon
pub plain_form : (said : List ℕ) → list_all (is_not 58) said ≡ true → line_of said ≡ plain_line (words_of said)
plain_form said h =
    let f : front (is_not 58) said ≡ said = ap (front (is_not 58)) (sym (append-nil said)) ∙ front_through (is_not 58) said [] h ∙ append-nil said in
    let b : after_front (is_not 58) said ≡ [] = ap (after_front (is_not 58)) (sym (append-nil said)) ∙ after_through (is_not 58) said [] h in
    ap (λ xs. line_from (words_of xs) (after_front (is_not 58) said)) f ∙ ap (line_from (words_of said)) b

-- a line with one
pub colon_form : (before literal : List ℕ) → list_all (is_not 58) before ≡ true → line_of (before ++ 58 ∷ literal) ≡ colon_line (words_of before) literal
colon_form before literal h =
    let f : front (is_not 58) (before ++ 58 ∷ literal) ≡ before = front_through (is_not 58) before (58 ∷ literal) h ∙ append-nil before in
    let b : after_front (is_not 58) (before ++ 58 ∷ literal) ≡ 58 ∷ literal = after_through (is_not 58) before (58 ∷ literal) h in
    ap (λ xs. line_from (words_of xs) (after_front (is_not 58) (before ++ 58 ∷ literal))) f ∙ ap (line_from (words_of before)) b

pub colonless : (w : List ℕ) → IsWord w → list_all (is_not 58) w ≡ true
colonless w i = all_pass is_name_byte (is_not 58) w no_colon i.bytes
