-- Texts whose tokens are those of marks without a fault.
use Rattle.std.proofs.Common.{◌≡◌, ℕ, ◌<◌, ◌≤◌, ◌==◌, Bool, true, false, not, cond, nat_le, List, [], ◌∷◌, ◌++◌, length, decimal, None, refl, ap, ap₂, sym, subst₂, ◌∙◌, arith, append_assoc}
use Rattle.std.specs.List.{list_all}
use Rattle.std.specs.Str.Parse.{AllDigits, digits_value_after}
use Rattle.std.proofs.lemmas.Bool.{and_parts, and_from, or_parts, or_left, or_right, cond-true, cond-false, le-leb, false≢true}
use Rattle.std.proofs.lemmas.Bool.Decides.{nat_tests}
use Rattle.std.proofs.lemmas.List.{map-append}
use Rattle.std.proofs.lemmas.Fmt.{decimal_is_IsNumeral}
use Rattle.std.proofs.lemmas.Str.{digit_value_digit}
use Rattle.std.proofs.lemmas.Str.Parse.{digit_from_value}
use Rattle.meta_base.specs.Bytes.{is_space, is_digit, is_letter, is_word_byte, is_word, front, after_front, number_from}
use Rattle.raml_lex.specs.declared.token.LexKind.TheVariants.{NumberTooLarge}
use Rattle.raml_lex.specs.Gaps.{after_gap}
use Rattle.raml_lex.specs.Tokens.{Tok, word, number, bad, token, number_at, token_at, step_of, Lexes}
use Rattle.alg_model.specs.declared.edition.TheConstants.{MAX_LABEL_NUMBER}
use Rattle.raml_syntax.specs.Marks.{Mark, plain}
use Rattle.raml_syntax.specs.Productions.{clean, toks}

-- no byte that passes stands at the front
abbrev pub ends : (ℕ → Bool) → List ℕ → Bool
ends p [] = true
ends p (c ∷ cs) = not (p c)

-- no word and no number goes on at the front
abbrev pub stops : List ℕ → Bool
stops text = ends is_word_byte text

-- the tokens of the text are those of the marks, whatever tokens follow it, and the marks have no fault
pub record IsPrinted (greatest : ℕ) (ms : List Mark) (text : List ℕ) : Type 0 where
  pub faultless : clean (toks ms) ≡ ms
  pub lexes : (ts : List Tok) (z : List ℕ) → stops z ≡ true → Lexes greatest ts z → Lexes greatest (toks ms ++ ts) (text ++ z)

pub stops_append : (s z : List ℕ) → stops s ≡ true → stops z ≡ true → stops (s ++ z) ≡ true
stops_append [] z p q = q
stops_append (c ∷ s) z p q = p

pub off : (b : Bool) → not b ≡ true → b ≡ false
off true e = sym e
off false e = refl

-- a front of bytes that pass, and what comes after it
front_all : (p : ℕ → Bool) (w z : List ℕ) → list_all p w ≡ true → ends p z ≡ true → front p (w ++ z) ≡ w
front_all p [] [] h e = refl
front_all p [] (c ∷ z) h e = cond-false (p c) (c ∷ front p z) [] (off (p c) e)
front_all p (c ∷ w) z h e =
    let q = and_parts (p c) (list_all p w) h in
    cond-true (p c) (c ∷ front p (w ++ z)) [] q.0 ∙ ap (λ x. c ∷ x) (front_all p w z q.1 e)

after_all : (p : ℕ → Bool) (w z : List ℕ) → list_all p w ≡ true → ends p z ≡ true → after_front p (w ++ z) ≡ z
after_all p [] [] h e = refl
after_all p [] (c ∷ z) h e = cond-false (p c) (after_front p z) (c ∷ z) (off (p c) e)
after_all p (c ∷ w) z h e =
    let q = and_parts (p c) (list_all p w) h in
    cond-true (p c) (after_front p (w ++ z)) (c ∷ (w ++ z)) q.0 ∙ after_all p w z q.1 e

-- a word or a number begins with no gap
no_hash : (c : ℕ) → is_word_byte c ≡ true → (c == 35) ≡ false
no_hash c h = grind (arith, nat_tests)

no_space : (c : ℕ) → is_word_byte c ≡ true → is_space c ≡ false
no_space c h = grind (arith, nat_tests)

no_gap : (c : ℕ) (cs : List ℕ) → is_word_byte c ≡ true → after_gap false (c ∷ cs) ≡ c ∷ cs
no_gap c cs h = cond-false (c == 35) _ _ (no_hash c h) ∙ cond-false (is_space c) _ _ (no_space c h)

word_step : (greatest : ℕ) (w z : List ℕ) → is_word w ≡ true → stops z ≡ true → step_of greatest (w ++ z) ≡ token (word w) z
word_step greatest [] z h e = absurd (false≢true h)
word_step greatest (c ∷ w) z h e =
    let p = and_parts (is_letter c) (list_all is_word_byte w) h in
    let byte = or_left (is_letter c) (is_digit c) p.0 in
    let all = and_from (is_word_byte c) (list_all is_word_byte w) byte p.1 in
    ap (token_at greatest) (no_gap c (w ++ z) byte)
    ∙ cond-true (is_letter c) _ _ p.0
    ∙ ap₂ (λ x y. token (word x) y) (front_all is_word_byte (c ∷ w) z all e) (after_all is_word_byte (c ∷ w) z all e)

-- a digit is no letter
no_letter : (c : ℕ) → is_digit c ≡ true → is_letter c ≡ false
no_letter c h = grind (arith, nat_tests)

digit_passes : (c : ℕ) → 48 ≤ c → c ≤ 57 → is_digit c ≡ true
digit_passes c low high = and_from (nat_le 48 c) (nat_le c 57) (le-leb 48 c low) (le-leb c 57 high)

all_digits : (ds : List ℕ) → AllDigits 10 ds → list_all is_digit ds ≡ true
all_digits [] d = refl
all_digits (c ∷ cs) d =
    let r = digit_from_value c d.0 in
    and_from (is_digit c) (list_all is_digit cs) (digit_passes c (omega arith) (omega arith)) (all_digits cs d.1)

same_number : (ds : List ℕ) (n : ℕ) → AllDigits 10 ds → number_from n ds ≡ digits_value_after 10 n ds
same_number [] n d = refl
same_number (c ∷ cs) n d =
    let v = digit_value_digit c (digit_from_value c d.0) in
    ap (λ m. number_from m cs) (omega arith) ∙ same_number cs _ d.1

ends_number : (z : List ℕ) → stops z ≡ true → ends is_digit z ≡ true
ends_number [] e = refl
ends_number (c ∷ z) e = ap not ((or_parts (is_letter c) (is_digit c) (off (is_word_byte c) e)).1)

digits_step : (greatest : ℕ) (ds z : List ℕ) (n : ℕ) → 0 < length ds → list_all is_digit ds ≡ true → number_from 0 ds ≡ n → n ≤ greatest → stops z ≡ true
    → step_of greatest (ds ++ z) ≡ token (number n) z
digits_step greatest [] z n some all value small e = absurd (omega arith)
digits_step greatest (c ∷ ds) z n some all value small e =
    let p = and_parts (is_digit c) (list_all is_digit ds) all in
    ap (token_at greatest) (no_gap c (ds ++ z) (or_right (is_letter c) (is_digit c) p.0))
    ∙ cond-false (is_letter c) _ _ (no_letter c p.0)
    ∙ cond-true (is_digit c) _ _ p.0
    ∙ ap₂ (number_at greatest) (front_all is_digit (c ∷ ds) z all (ends_number z e)) (after_all is_digit (c ∷ ds) z all (ends_number z e))
    ∙ ap (λ m. cond (nat_le m greatest) (token (number m) z) (bad NumberTooLarge)) value
    ∙ cond-true (nat_le n greatest) _ _ (le-leb n greatest small)

number_step : (greatest n : ℕ) (z : List ℕ) → greatest ≤ MAX_LABEL_NUMBER → n ≤ greatest → stops z ≡ true → step_of greatest (decimal n ++ z) ≡ token (number n) z
number_step greatest n z bound small e =
    let d = decimal_is_IsNumeral n (omega arith) in
    digits_step greatest (decimal n) z n d.0.0 (all_digits (decimal n) d.0.1) (same_number (decimal n) 0 d.0.1 ∙ d.1) small e

pub printed_none : {greatest : ℕ} → IsPrinted greatest [] []
printed_none = record { faultless = refl; lexes = λ ts z e l. l }

-- one token more in front
token_next : {greatest : ℕ} {ms : List Mark} {w : List ℕ} (m : Mark) (s : List ℕ) → m.fault ≡ None
    → ((z : List ℕ) → stops z ≡ true → step_of greatest (s ++ (w ++ z)) ≡ token m.tok (w ++ z)) → IsPrinted greatest ms w → IsPrinted greatest (m ∷ ms) (s ++ w)
token_next {greatest} {ms} {w} m s none step p =
    let same : plain m.tok ≡ m = ap (λ f. record { tok = m.tok; fault = f }) (sym none) in
    record {
      faultless = ap₂ (λ x xs. x ∷ xs) same p.faultless;
      lexes = λ ts z e l. (w ++ z, ap (step_of greatest) (append_assoc s w z) ∙ step z e, p.lexes ts z e l);
    }

pub mark_next : {greatest : ℕ} {ms : List Mark} {w : List ℕ} (m : Mark) (s : List ℕ) → m.fault ≡ None → ((z : List ℕ) → step_of greatest (s ++ z) ≡ token m.tok z) → IsPrinted greatest ms w
    → IsPrinted greatest (m ∷ ms) (s ++ w)
mark_next {greatest} {ms} {w} m s none step p = token_next m s none (λ z e. step (w ++ z)) p

pub word_next : {greatest : ℕ} {ms : List Mark} {w : List ℕ} (m : Mark) (name : List ℕ) → m.fault ≡ None → m.tok ≡ word name → is_word name ≡ true → stops w ≡ true → IsPrinted greatest ms w
    → IsPrinted greatest (m ∷ ms) (name ++ w)
word_next {greatest} {ms} {w} m name none is h e p =
    token_next m name none (λ z f. word_step greatest name (w ++ z) h (stops_append w z e f) ∙ ap (λ t. token t (w ++ z)) (sym is)) p

pub number_next : {greatest : ℕ} {ms : List Mark} {w : List ℕ} (m : Mark) (n : ℕ) → m.fault ≡ None → m.tok ≡ number n → greatest ≤ MAX_LABEL_NUMBER → n ≤ greatest → stops w ≡ true → IsPrinted greatest ms w
    → IsPrinted greatest (m ∷ ms) (decimal n ++ w)
number_next {greatest} {ms} {w} m n none is bound small e p =
    token_next m (decimal n) none (λ z f. number_step greatest n (w ++ z) bound small (stops_append w z e f) ∙ ap (λ t. token t (w ++ z)) (sym is)) p

-- two parts, the second of which begins with a mark
pub printed_then : {greatest : ℕ} {ms ns : List Mark} {s t : List ℕ} → IsPrinted greatest ms s → stops t ≡ true → IsPrinted greatest ns t → IsPrinted greatest (ms ++ ns) (s ++ t)
printed_then {greatest} {ms} {ns} {s} {t} p e q =
    let f : Mark → Tok = λ m. m.tok in
    record {
      faultless = ap clean (map-append f ms ns) ∙ map-append plain (toks ms) (toks ns) ∙ ap₂ (λ x y. x ++ y) p.faultless q.faultless;
      lexes = λ ts z h l. subst₂ (Lexes greatest)
          (sym (ap (λ x. x ++ ts) (map-append f ms ns) ∙ append_assoc (toks ms) (toks ns) ts))
          (sym (append_assoc s t z))
          (p.lexes (toks ns ++ ts) (t ++ z) (stops_append t z e h) (q.lexes ts z h l));
    }

-- a byte that is skipped in front
pub gap_next : {greatest : ℕ} {ms : List Mark} {w : List ℕ} (c : ℕ) → ((x : List ℕ) → step_of greatest (c ∷ x) ≡ step_of greatest x) → IsPrinted greatest ms w → IsPrinted greatest ms (c ∷ w)
gap_next {greatest} {ms} {w} c skips p = record { faultless = p.faultless; lexes = λ ts z e l. skipped (toks ms ++ ts) (w ++ z) (p.lexes ts z e l) }
  where
    skipped : (ts : List Tok) (x : List ℕ) → Lexes greatest ts x → Lexes greatest ts (c ∷ x)
    skipped [] x l = skips x ∙ l
    skipped (t ∷ ts) x l = (l.0, skips x ∙ l.1, l.2)
