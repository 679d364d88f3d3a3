-- How lines and words are taken off the front of a text.
use Rattle.std.proofs.Common.{◌≡◌, ℕ, zero, suc, ◌<◌, ◌≤◌, Bool, true, false, not, cond, eqb, List, [], ◌∷◌, length, get_or, take, drop, refl, ap, sym, ◌∙◌, subst, arith}
use Rattle.std.specs.List.{onto_first}
use Rattle.std.proofs.lemmas.Bool.Decides.{nat_tests}
use Rattle.meta_base.specs.Bytes.{is_blank, front, after_front}
use Rattle.memchr.specs.Find.{Nowhere, NoneBefore, Passes, is_byte}
use Rattle.topology_file.specs.Texts.{is_not, is_no_blank, lines_of, words_of}

-- a text that isn't empty is its first line and the lines after the line feed
pub lines_split : (c : ℕ) (cs : List ℕ) → lines_of (c ∷ cs) ≡ front (is_not 10) (c ∷ cs) ∷ lines_of (drop 1 (after_front (is_not 10) (c ∷ cs)))
lines_split c [] = by (eqb c 10) refl
  where
    by : (b : Bool) → eqb c 10 ≡ b → lines_of (c ∷ []) ≡ front (is_not 10) (c ∷ []) ∷ lines_of (drop 1 (after_front (is_not 10) (c ∷ [])))
    by true e = rw e refl
    by false e = rw e refl
lines_split c (d ∷ ds) = by (eqb c 10) refl (lines_split d ds)
  where
    by : (b : Bool) → eqb c 10 ≡ b → lines_of (d ∷ ds) ≡ front (is_not 10) (d ∷ ds) ∷ lines_of (drop 1 (after_front (is_not 10) (d ∷ ds)))
        → lines_of (c ∷ d ∷ ds) ≡ front (is_not 10) (c ∷ d ∷ ds) ∷ lines_of (drop 1 (after_front (is_not 10) (c ∷ d ∷ ds)))
    by true e rest = rw e refl
    by false e rest = rw (e, rest) refl

-- blanks at the front add no word
pub words_skip : (cs : List ℕ) → words_of cs ≡ words_of (after_front is_blank cs)
words_skip [] = refl
words_skip (c ∷ cs) = by (is_blank c) refl (words_skip cs)
  where
    by : (b : Bool) → is_blank c ≡ b → words_of cs ≡ words_of (after_front is_blank cs) → words_of (c ∷ cs) ≡ words_of (after_front is_blank (c ∷ cs))
    by true e rest = rw e rest
    by false e rest = let same : after_front is_blank (c ∷ cs) ≡ c ∷ cs = rw e refl in ap words_of (sym same)

-- a word at the front is all up to the first blank
pub words_word : (c : ℕ) (cs : List ℕ) → is_blank c ≡ false → words_of (c ∷ cs) ≡ front is_no_blank (c ∷ cs) ∷ words_of (after_front is_no_blank (c ∷ cs))
words_word c [] e = rw e refl
words_word c (d ∷ ds) e = by (is_blank d) refl (words_word d ds)
  where
    by : (b : Bool) → is_blank d ≡ b → (is_blank d ≡ false → words_of (d ∷ ds) ≡ front is_no_blank (d ∷ ds) ∷ words_of (after_front is_no_blank (d ∷ ds)))
        → words_of (c ∷ d ∷ ds) ≡ front is_no_blank (c ∷ d ∷ ds) ∷ words_of (after_front is_no_blank (c ∷ d ∷ ds))
    by true f rest =
        let first : words_of (c ∷ d ∷ ds) ≡ (c ∷ []) ∷ words_of (d ∷ ds) = rw (e, f) refl in
        let word : front is_no_blank (c ∷ d ∷ ds) ≡ c ∷ [] = rw (e, f) refl in
        let after : after_front is_no_blank (c ∷ d ∷ ds) ≡ d ∷ ds = rw (e, f) refl in
        cc
    by false f rest =
        let first : words_of (c ∷ d ∷ ds) ≡ onto_first c (words_of (d ∷ ds)) = rw (e, f) refl in
        let others : onto_first c (words_of (d ∷ ds)) ≡ (c ∷ front is_no_blank (d ∷ ds)) ∷ words_of (after_front is_no_blank (d ∷ ds)) = ap (onto_first c) (rest f) in
        let word : front is_no_blank (c ∷ d ∷ ds) ≡ c ∷ front is_no_blank (d ∷ ds) = rw e refl in
        let after : after_front is_no_blank (c ∷ d ∷ ds) ≡ after_front is_no_blank (d ∷ ds) = rw e refl in
        cc

-- what comes after blanks begins with none
pub after_stops : (cs : List ℕ) (c : ℕ) (rest : List ℕ) → after_front is_blank cs ≡ c ∷ rest → is_blank c ≡ false
after_stops [] c rest e = absurd (cc)
after_stops (d ∷ ds) c rest e = by (is_blank d) refl e (after_stops ds c rest)
  where
    by : (b : Bool) → is_blank d ≡ b → cond b (after_front is_blank ds) (d ∷ ds) ≡ c ∷ rest → (after_front is_blank ds ≡ c ∷ rest → is_blank c ≡ false) → is_blank c ≡ false
    by true f g stops = stops g
    by false f g stops = let h : d ≡ c = cc in rw (← h) f

pub length-after_front : (p : ℕ → Bool) (cs : List ℕ) → length (after_front p cs) ≤ length cs
length-after_front p [] = omega arith
length-after_front p (c ∷ cs) = by (p c) (length-after_front p cs)
  where
    by : (b : Bool) → length (after_front p cs) ≤ length cs → length (cond b (after_front p cs) (c ∷ cs)) ≤ length (c ∷ cs)
    by true h = omega arith
    by false h = omega arith

-- the word at the front of what isn't blank, and the words after it
pub words_first : (text rest : List ℕ) → rest ≡ after_front is_blank text → eqb (length rest) 0 ≡ false → words_of text ≡ front is_no_blank rest ∷ words_of (after_front is_no_blank rest)
words_first text [] e h = absurd (cc)
words_first text (c ∷ cs) e h = words_skip text ∙ ap words_of (sym e) ∙ words_word c cs (after_stops text c cs (sym e))

pub words_none : (text rest : List ℕ) → rest ≡ after_front is_blank text → eqb (length rest) 0 ≡ true → words_of text ≡ []
words_none text [] e h = words_skip text ∙ ap words_of (sym e)
words_none text (c ∷ cs) e h = absurd (grind (arith, nat_tests))

-- after a word stands less than the text
pub word_shorter : (text rest : List ℕ) → rest ≡ after_front is_blank text → eqb (length rest) 0 ≡ false → length (after_front is_no_blank rest) < length text
word_shorter text [] e h = absurd (cc)
word_shorter text (c ∷ cs) e h =
    let stops = after_stops text c cs (sym e) in
    let shorter = length-after_front is_no_blank cs in
    let whole : length (c ∷ cs) ≤ length text = subst (λ (x : List ℕ). length x ≤ length text) (sym e) (length-after_front is_blank text) in
    rw stops (omega arith)

-- the first line of a text, and the lines after its line feed, if it has one
pub lines_first : (text line rest : List ℕ) → eqb (length text) 0 ≡ false → line ≡ front (is_not 10) text → rest ≡ after_front (is_not 10) text → lines_of text ≡ line ∷ lines_of (drop 1 rest)
lines_first [] line rest h f b = absurd (cc)
lines_first (c ∷ cs) line rest h f b = lines_split c cs ∙ rw (← f, ← b) refl

-- after a line stands less than the text
pub line_shorter : (text rest : List ℕ) → eqb (length text) 0 ≡ false → rest ≡ after_front (is_not 10) text → length (drop 1 rest) < length text
line_shorter [] rest h b = absurd (cc)
line_shorter (c ∷ cs) [] h b = omega arith
line_shorter (c ∷ cs) (d ∷ ds) h b =
    let whole : length (d ∷ ds) ≤ length (c ∷ cs) = subst (λ (x : List ℕ). length x ≤ length (c ∷ cs)) (sym b) (length-after_front (is_not 10) (c ∷ cs)) in
    omega arith

-- so many bytes at the front pass, and the one after them doesn't
pub record StopsAt (p : ℕ → Bool) (text : List ℕ) (n : ℕ) : Type 0 where
  pub within : n ≤ length text
  pub passes : (k : ℕ) → k < n → p (get_or text k 0) ≡ true
  pub stops : n < length text → p (get_or text n 0) ≡ false

-- they are the longest front of bytes that pass
pub front_taken : (p : ℕ → Bool) (text : List ℕ) (n : ℕ) → StopsAt p text n → (take n text ≡ front p text) × (drop n text ≡ after_front p text)
front_taken p [] zero s = (refl, refl)
front_taken p [] (suc n) s = (refl, refl)
front_taken p (c ∷ cs) zero s =
    let ends : p c ≡ false = s.stops (omega arith) in
    rw ends (refl, refl)
front_taken p (c ∷ cs) (suc n) s =
    let first : p c ≡ true = s.passes 0 (omega arith) in
    let more = front_taken p cs n (record { within = omega (arith, s.within); passes = λ k h. s.passes (suc k) (omega (arith, h)); stops = λ h. s.stops (omega (arith, h)) }) in
    rw first (ap (λ x. c ∷ x) more.0, more.1)

-- and what comes after it is left
pub after_left : (p : ℕ → Bool) (text : List ℕ) (n : ℕ) → StopsAt p text n → drop n text ≡ after_front p text
after_left p text n s = (front_taken p text n s).1

fails : (b : Bool) → (b ≡ true → ⊥) → b ≡ false
fails true h = absurd (h refl)
fails false h = refl

-- up to the first such byte
pub stops_there : (text : List ℕ) (byte n : ℕ) → NoneBefore (Passes (is_byte byte) text) 0 (length text) n → Passes (is_byte byte) text n → StopsAt (is_not byte) text n
stops_there text byte n before there = record {
  within = let high = before.high in omega arith;
  passes = λ k h. ap not (fails (eqb (get_or text k 0) byte) (before.before k (omega arith) h));
  stops = λ h. ap not there;
}

-- or to the end, where there is none
pub stops_nowhere : (text : List ℕ) (byte : ℕ) → Nowhere (Passes (is_byte byte) text) 0 (length text) → StopsAt (is_not byte) text (length text)
stops_nowhere text byte none = record {
  within = omega arith;
  passes = λ k h. ap not (fails (eqb (get_or text k 0) byte) (none k (omega arith) h));
  stops = λ h. absurd (omega (arith, h));
}
