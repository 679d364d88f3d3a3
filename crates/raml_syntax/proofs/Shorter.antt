-- What is left of a text is shorter after each token.
use Rattle.std.proofs.Common.{◌≡◌, ℕ, ◌<◌, ◌≤◌, ◌==◌, Bool, true, false, not, ◌||◌, cond, nat_le, List, [], ◌∷◌, length, Ok, arith, refl, ap, sym, subst}
use Rattle.meta_base.specs.Bytes.{is_line_feed, is_space, is_digit, is_letter, is_word_byte, front, after_front, number_from}
use Rattle.meta_base.specs.declared.ids.Place.{Place}
use Rattle.raml_lex.specs.Gaps.{after_gap}
use Rattle.raml_lex.specs.Lexers.{Lexer}
use Rattle.raml_lex.specs.Tokens.{Tok, word, Step, end, bad, token, number_at, pair_at, mark_at, token_at}
use Rattle.raml_syntax.specs.Marks.{Mark}
use Rattle.raml_syntax.specs.Reading.{TakesOne, Takes}
use Rattle.raml_syntax.specs.Sequences.{Reads}
use Rattle.raml_syntax.specs.Tested.{ReadsFollowing}

-- what is left after the token, if there is one, has at most so many bytes
abbrev pub LeavesAtMost : ℕ → Step → Type 0
LeavesAtMost n end = Unit {0}
LeavesAtMost n (bad k) = Unit {0}
LeavesAtMost n (token t rest) = length rest ≤ n

either : (n : ℕ) (b : Bool) (s t : Step) → LeavesAtMost n s → LeavesAtMost n t → LeavesAtMost n (cond b s t)
either n true s t x y = x
either n false s t x y = y

following_le : (p : ℕ → Bool) (cs : List ℕ) → length (after_front p cs) ≤ length cs
following_le p [] = omega arith
following_le p (c ∷ cs) = by (p c) (following_le p cs)
  where
    by : (b : Bool) → length (after_front p cs) ≤ length cs → length (cond b (after_front p cs) (c ∷ cs)) ≤ length (c ∷ cs)
    by true h = omega arith
    by false h = omega arith

gap_le : (in_comment : Bool) (cs : List ℕ) → length (after_gap in_comment cs) ≤ length cs
gap_le in_comment [] = omega arith
gap_le true (c ∷ cs) = let h = gap_le (not (is_line_feed c)) cs in omega arith
gap_le false (c ∷ cs) = by (c == 35) (is_space c) (gap_le true cs) (gap_le false cs)
  where
    by : (a b : Bool) → length (after_gap true cs) ≤ length cs → length (after_gap false cs) ≤ length cs
        → length (cond a (after_gap true cs) (cond b (after_gap false cs) (c ∷ cs))) ≤ length (c ∷ cs)
    by true b g h = omega arith
    by false true g h = omega arith
    by false false g h = omega arith

pair_leaves : (second : ℕ) (t : Tok) (cs : List ℕ) → LeavesAtMost (length cs) (pair_at second t cs)
pair_leaves second t [] = tt
pair_leaves second t (c ∷ cs) = either (length (c ∷ cs)) (c == second) (token t cs) _ (omega arith) tt

mark_leaves : (c : ℕ) (cs : List ℕ) → LeavesAtMost (length cs) (mark_at c cs)
mark_leaves c cs =
    let here : length cs ≤ length cs = omega arith in
    either _ (c == 40) _ _ here (either _ (c == 41) _ _ here (either _ (c == 123) _ _ here (either _ (c == 125) _ _ here (either _ (c == 44) _ _ here
    (either _ (c == 59) _ _ here (either _ (c == 58) _ _ here (either _ (c == 61) _ _ here (either _ (c == 60) _ _ here
    (either _ (c == 46) _ _ (pair_leaves 46 _ cs) (either _ (c == 45) _ _ (pair_leaves 62 _ cs) tt))))))))))

-- a byte that passes is no part of what is left
following_less : (p : ℕ → Bool) (c : ℕ) (cs : List ℕ) → p c ≡ true → length (after_front p (c ∷ cs)) ≤ length cs
following_less p c cs e = subst (λ b. length (cond b (after_front p cs) (c ∷ cs)) ≤ length cs) (sym e) (following_le p cs)

token_leaves : (greatest c : ℕ) (cs : List ℕ) → LeavesAtMost (length cs) (token_at greatest (c ∷ cs))
token_leaves greatest c cs = by (is_letter c) refl (is_digit c) refl
  where
    by : (a : Bool) → is_letter c ≡ a → (b : Bool) → is_digit c ≡ b
        → LeavesAtMost (length cs) (cond a (token (word (front is_word_byte (c ∷ cs))) (after_front is_word_byte (c ∷ cs))) (cond b (number_at greatest (front is_digit (c ∷ cs)) (after_front is_digit (c ∷ cs))) (mark_at c cs)))
    by true e b f = following_less is_word_byte c cs (ap (λ a. a || is_digit c) e)
    by false e true f = either _ (nat_le (number_from 0 (front is_digit (c ∷ cs))) greatest) _ _ (following_less is_digit c cs f) tt
    by false e false f = mark_leaves c cs

token_shorter : (greatest : ℕ) (text : List ℕ) (t : Tok) (rest : List ℕ) → token_at greatest text ≡ token t rest → length rest < length text
token_shorter greatest [] t rest e = absurd (cc)
token_shorter greatest (c ∷ cs) t rest e = let h : length rest ≤ length cs = subst (λ s. LeavesAtMost (length cs) s) e (token_leaves greatest c cs) in omega arith

pub takes_shorter : (t : Tok) (old new : Lexer) → TakesOne t old new → length new.rest < length old.rest
takes_shorter t old new x =
    let h = token_shorter old.greatest (after_gap false old.rest) t new.rest x.step in
    let g = gap_le false old.rest in
    omega arith

pub takes_no_longer : (ts : List Tok) (old new : Lexer) → Takes ts old new → length new.rest ≤ length old.rest
takes_no_longer [] old new x = let e : length old.rest ≡ length new.rest = ap (λ (y : Lexer). length y.rest) x in omega arith
takes_no_longer (t ∷ ts) old new x = let h = takes_shorter t old x.0 x.1 in let g = takes_no_longer ts x.0 new x.2 in omega arith

pub reads_no_longer : {R : Type 0} (P : R → List Mark → Type 0) (r : R) (old new : Lexer) → Reads P old (Ok r) new → length new.rest ≤ length old.rest
reads_no_longer P r old new x = takes_no_longer x.0 old new x.2

pub following_no_longer : {R : Type 0} (P : R → List Mark → Type 0) (test : Bool) (p : Place) (r : R) (old new : Lexer) → ReadsFollowing test p P old (Ok r) new → length new.rest ≤ length old.rest
following_no_longer P true p r old new x = reads_no_longer P r old new x
following_no_longer P false p r old new x = absurd (cc)
