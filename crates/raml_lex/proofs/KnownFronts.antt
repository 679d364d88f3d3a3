-- Tokens that are known by their first byte or two.
use Rattle.std.proofs.Common.{◌≡◌, ℕ, ◌==◌, Bool, true, false, ◌&&◌, List, [], ◌∷◌, length, take, drop, ◌≤◌, ◌∙◌, arith, refl, ap, sym, cond}
use Rattle.std.proofs.lemmas.Bool.{eqb-true}
use Rattle.std.proofs.lemmas.Bool.Decides.{nat_tests}
use Rattle.meta_base.specs.Bytes.{is_letter, is_space, is_word_byte, front, after_front}
use Rattle.raml_lex.specs.declared.token.TokenKind.{TokenKind}
use Rattle.raml_lex.specs.declared.token.TokenKind.TheVariants as k
use Rattle.raml_lex.specs.Gaps.{gap_of, after_gap}
use Rattle.raml_lex.specs.KnownFronts.{IsFront, mark_len, stands}
use Rattle.raml_lex.specs.Tokens.{token, word}
use Rattle.raml_lex.proofs.Gaps.{at_other}
use Rattle.raml_lex.proofs.Fronts.{front_within, word_byte_in_line}

both : (a b : Bool) → (a && b) ≡ true → (a ≡ true) × (b ≡ true)
both true true e = (refl, refl)
both true false e = absurd (cc)
both false b e = absurd (cc)

-- no gap stands before the token
pub record NoGap (text : List ℕ) : Type 0 where
  pub gap : gap_of false text ≡ []
  pub left : after_gap false text ≡ text

-- what holds where a mark stands at the front
pub record Marked (kind : TokenKind) (text : List ℕ) : Type 0 where
  pub no_gap : NoGap text
  pub front : IsFront kind text (mark_len kind)

letter_space : (c : ℕ) → is_letter c ≡ true → is_space c ≡ false
letter_space c h = grind (arith, nat_tests)

letter_comment : (c : ℕ) → is_letter c ≡ true → (c == 35) ≡ false
letter_comment c h = grind (arith, nat_tests)

letter_word : (c : ℕ) → is_letter c ≡ true → is_word_byte c ≡ true
letter_word c h = grind (arith, nat_tests)

pub marked : (kind : TokenKind) (text : List ℕ) → (kind ≡ k.Word → ⊥) → stands kind text ≡ true → Marked kind text
marked k.Word text other h = absurd (other refl)
marked (k.Number n) text other h = absurd (cc)
marked k.LeftParen [] other h = absurd (cc)
marked k.RightParen [] other h = absurd (cc)
marked k.LeftBrace [] other h = absurd (cc)
marked k.RightBrace [] other h = absurd (cc)
marked k.Comma [] other h = absurd (cc)
marked k.Semicolon [] other h = absurd (cc)
marked k.Colon [] other h = absurd (cc)
marked k.Equals [] other h = absurd (cc)
marked k.Less [] other h = absurd (cc)
marked k.Dots [] other h = absurd (cc)
marked k.Arrow [] other h = absurd (cc)
marked k.LeftParen (c ∷ cs) other h = rw (eqb-true c 40 h) (record { no_gap = record { gap = refl; left = refl }; front = record { step = λ greatest. refl; within = record { some = omega arith; within = omega arith; one_line = refl } } })
marked k.RightParen (c ∷ cs) other h = rw (eqb-true c 41 h) (record { no_gap = record { gap = refl; left = refl }; front = record { step = λ greatest. refl; within = record { some = omega arith; within = omega arith; one_line = refl } } })
marked k.LeftBrace (c ∷ cs) other h = rw (eqb-true c 123 h) (record { no_gap = record { gap = refl; left = refl }; front = record { step = λ greatest. refl; within = record { some = omega arith; within = omega arith; one_line = refl } } })
marked k.RightBrace (c ∷ cs) other h = rw (eqb-true c 125 h) (record { no_gap = record { gap = refl; left = refl }; front = record { step = λ greatest. refl; within = record { some = omega arith; within = omega arith; one_line = refl } } })
marked k.Comma (c ∷ cs) other h = rw (eqb-true c 44 h) (record { no_gap = record { gap = refl; left = refl }; front = record { step = λ greatest. refl; within = record { some = omega arith; within = omega arith; one_line = refl } } })
marked k.Semicolon (c ∷ cs) other h = rw (eqb-true c 59 h) (record { no_gap = record { gap = refl; left = refl }; front = record { step = λ greatest. refl; within = record { some = omega arith; within = omega arith; one_line = refl } } })
marked k.Colon (c ∷ cs) other h = rw (eqb-true c 58 h) (record { no_gap = record { gap = refl; left = refl }; front = record { step = λ greatest. refl; within = record { some = omega arith; within = omega arith; one_line = refl } } })
marked k.Equals (c ∷ cs) other h = rw (eqb-true c 61 h) (record { no_gap = record { gap = refl; left = refl }; front = record { step = λ greatest. refl; within = record { some = omega arith; within = omega arith; one_line = refl } } })
marked k.Less (c ∷ cs) other h = rw (eqb-true c 60 h) (record { no_gap = record { gap = refl; left = refl }; front = record { step = λ greatest. refl; within = record { some = omega arith; within = omega arith; one_line = refl } } })
marked k.Dots (c ∷ []) other h = absurd (let e = both (c == 46) false h in cc)
marked k.Dots (c ∷ d ∷ cs) other h =
    let e = both (c == 46) (d == 46) h in
    rw (eqb-true c 46 e.0, eqb-true d 46 e.1) (record { no_gap = record { gap = refl; left = refl }; front = record { step = λ greatest. refl; within = record { some = omega arith; within = omega arith; one_line = refl } } })
marked k.Arrow (c ∷ []) other h = absurd (let e = both (c == 45) false h in cc)
marked k.Arrow (c ∷ d ∷ cs) other h =
    let e = both (c == 45) (d == 62) h in
    rw (eqb-true c 45 e.0, eqb-true d 62 e.1) (record { no_gap = record { gap = refl; left = refl }; front = record { step = λ greatest. refl; within = record { some = omega arith; within = omega arith; one_line = refl } } })

chosen : {A : Type 0} (b : Bool) (x y : A) → b ≡ true → cond b x y ≡ x
chosen true x y e = refl
chosen false x y e = absurd (cc)

pub letter_front : (c : ℕ) (cs : List ℕ) (len : ℕ) → is_letter c ≡ true → len ≤ length (c ∷ cs) → take len (c ∷ cs) ≡ front is_word_byte (c ∷ cs) → drop len (c ∷ cs) ≡ after_front is_word_byte (c ∷ cs)
    → IsFront k.Word (c ∷ cs) len
letter_front c cs len letter within taken left = record {
  step = λ greatest. ap (λ w. token (word w) (drop len (c ∷ cs))) taken ∙ ap (λ r. token (word (front is_word_byte (c ∷ cs))) r) left
      ∙ sym (chosen (is_letter c) (token (word (front is_word_byte (c ∷ cs))) (after_front is_word_byte (c ∷ cs))) _ letter);
  within = front_within is_word_byte (c ∷ cs) len word_byte_in_line (omega arith) (letter_word c letter) within taken;
}

-- the bytes of a word that stands at the front
pub word_front : (text : List ℕ) (len : ℕ) → stands k.Word text ≡ true → len ≤ length text → take len text ≡ front is_word_byte text → drop len text ≡ after_front is_word_byte text → IsFront k.Word text len
word_front [] len h within taken left = absurd (cc)
word_front (c ∷ cs) len h within taken left = letter_front c cs len h within taken left

pub no_gap : (kind : TokenKind) (text : List ℕ) → stands kind text ≡ true → NoGap text
no_gap k.Word [] h = absurd (cc)
no_gap k.Word (c ∷ cs) h =
    let other = at_other (c ∷ cs) 0 (omega arith) (letter_space c h) (letter_comment c h) in
    record { gap = other.0; left = other.1 }
no_gap kind text h = (marked kind text (λ e. cc) h).no_gap
