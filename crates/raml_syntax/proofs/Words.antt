-- The words of a text, and tests on lists of names.
use Rattle.std.proofs.Common.{◌≡◌, ℕ, ◌<◌, ◌==◌, Bool, true, false, ◌||◌, cond, nat_le, List, [], ◌∷◌, zero, suc, get_or, Option, Some, None, option_map, option_and_then, arith, refl, ap, sym, subst, ◌∙◌}
use Rattle.std.specs.List.{find, list_any}
use Rattle.std.specs.Str.{IsAscii, bytes_eq}
use Rattle.std.proofs.lemmas.Bool.Decides.{nat_tests}
use Rattle.std.proofs.lemmas.Slice.Eq.{bytes_eq-Decides}
use Rattle.meta_base.specs.Bytes.{is_digit, is_letter, is_word_byte, front, after_front, number_from}
use Rattle.raml_lex.specs.Gaps.{after_gap}
use Rattle.raml_lex.specs.Lexers.{Lexer}
use Rattle.raml_lex.specs.Tokens.{Tok, word, Step, end, bad, token, number_at, pair_at, mark_at, token_at}
use Rattle.alg_model.specs.declared.tree.TableRow.{TableRow}
use Rattle.raml_syntax.specs.Syntax.{MapSyntax, is_among}
use Rattle.alg_model.specs.Names.{place_of}
use Rattle.raml_syntax.specs.Meaning.{target_of, image_place}
use Rattle.raml_syntax.specs.Reading.{TakesOne}
use Rattle.raml_syntax.specs.Maps.{sources}
use Rattle.raml_syntax.specs.Rows.{row_names}

pub other_words : (a b : List ℕ) → (a ≡ b → ⊥) → bytes_eq a b ≡ false
other_words a b other = by (bytes_eq a b) refl
  where
    by : (t : Bool) → bytes_eq a b ≡ t → bytes_eq a b ≡ false
    by true e = absurd (other ((bytes_eq-Decides a b).0 e))
    by false e = e

pub among_sources : (ms : List MapSyntax) (w : List ℕ) → is_among (sources ms) w ≡ list_any (λ (m : MapSyntax). bytes_eq m.source w) ms
among_sources [] w = refl
among_sources (m ∷ ms) w = ap (λ b. bytes_eq m.source w || b) (among_sources ms w)

pub among_rows : (rows : List TableRow) (w : List ℕ) → is_among (row_names rows) w ≡ list_any (λ (row : TableRow). bytes_eq row.name w) rows
among_rows [] w = refl
among_rows (row ∷ rows) w = ap (λ b. bytes_eq row.name w || b) (among_rows rows w)

word_byte_ascii : (c : ℕ) → is_word_byte c ≡ true → c < 128
word_byte_ascii c h = grind (arith, nat_tests)

front_ascii : (cs : List ℕ) → IsAscii (front is_word_byte cs)
front_ascii [] i = omega arith
front_ascii (c ∷ cs) i = by (is_word_byte c) refl i (front_ascii cs)
  where
    by : (b : Bool) → is_word_byte c ≡ b → (i : ℕ) → IsAscii (front is_word_byte cs) → get_or (cond b (c ∷ front is_word_byte cs) []) i 0 < 128
    by true e zero others = word_byte_ascii c e
    by true e (suc i) others = others i
    by false e i others = omega arith

-- does a word stand at the front?
abbrev pub is_word_tok : Tok → Bool
is_word_tok (word w) = true
is_word_tok _ = false

abbrev pub is_word_step : Step → Bool
is_word_step end = false
is_word_step (bad k) = false
is_word_step (token t rest) = is_word_tok t

neither : (b : Bool) (s t : Step) → is_word_step s ≡ false → is_word_step t ≡ false → is_word_step (cond b s t) ≡ false
neither true s t e f = e
neither false s t e f = f

no_number : (greatest : ℕ) (ds cs : List ℕ) → is_word_step (number_at greatest ds cs) ≡ false
no_number greatest ds cs = neither (nat_le (number_from 0 ds) greatest) _ _ refl refl

no_pair : (second : ℕ) (t : Tok) (cs : List ℕ) → is_word_tok t ≡ false → is_word_step (pair_at second t cs) ≡ false
no_pair second t [] e = refl
no_pair second t (c ∷ cs) e = neither (c == second) _ _ e refl

no_mark : (c : ℕ) (cs : List ℕ) → is_word_step (mark_at c cs) ≡ false
no_mark c cs =
    neither (c == 40) _ _ refl (neither (c == 41) _ _ refl (neither (c == 123) _ _ refl (neither (c == 125) _ _ refl (neither (c == 44) _ _ refl
    (neither (c == 59) _ _ refl (neither (c == 58) _ _ refl (neither (c == 61) _ _ refl (neither (c == 60) _ _ refl
    (neither (c == 46) _ _ (no_pair 46 _ cs refl) (neither (c == 45) _ _ (no_pair 62 _ cs refl) refl))))))))))

word_at : (greatest : ℕ) (text w rest : List ℕ) → token_at greatest text ≡ token (word w) rest → IsAscii w
word_at greatest [] w rest e = absurd (let k : false ≡ true = ap is_word_step e in cc)
word_at greatest (c ∷ cs) w rest e = by (is_letter c) (is_digit c) e
  where
    by : (a b : Bool)
        → cond a (token (word (front is_word_byte (c ∷ cs))) (after_front is_word_byte (c ∷ cs))) (cond b (number_at greatest (front is_digit (c ∷ cs)) (after_front is_digit (c ∷ cs))) (mark_at c cs)) ≡ token (word w) rest
        → IsAscii w
    by true b e = let same : front is_word_byte (c ∷ cs) ≡ w = cc in subst IsAscii same (front_ascii (c ∷ cs))
    by false true e = absurd (let k : false ≡ true = sym (no_number greatest (front is_digit (c ∷ cs)) (after_front is_digit (c ∷ cs))) ∙ ap is_word_step e in cc)
    by false false e = absurd (let k : false ≡ true = sym (no_mark c cs) ∙ ap is_word_step e in cc)

-- the bytes of a word are ASCII
pub word_ascii : (w : List ℕ) (old new : Lexer) → TakesOne (word w) old new → IsAscii w
word_ascii w old new takes = word_at old.greatest (after_gap false old.rest) w new.rest takes.step

-- the name that maps give for a value stands in the first map of that source
pub target_found : (ms : List MapSyntax) (w : List ℕ) → target_of ms w ≡ option_map (λ (m : MapSyntax). m.target) (find (λ (m : MapSyntax). bytes_eq m.source w) ms)
target_found [] w = refl
target_found (m ∷ ms) w = by (bytes_eq m.source w) (target_of ms w) (find (λ (m : MapSyntax). bytes_eq m.source w) ms) (target_found ms w)
  where
    by : (b : Bool) (x : Option (List ℕ)) (y : Option MapSyntax) → x ≡ option_map (λ (m : MapSyntax). m.target) y → cond b (Some m.target) x ≡ option_map (λ (m : MapSyntax). m.target) (cond b (Some m) y)
    by true x y e = refl
    by false x y e = e

pub image_none : (names : List (List ℕ)) (ms : List MapSyntax) (w : List ℕ) → None ≡ find (λ (m : MapSyntax). bytes_eq m.source w) ms → None ≡ image_place names ms w
image_none names ms w e = ap (λ t. option_and_then (place_of names) t) (ap (λ x. option_map (λ (m : MapSyntax). m.target) x) e ∙ sym (target_found ms w))

pub image_some : (names : List (List ℕ)) (ms : List MapSyntax) (m : MapSyntax) (w : List ℕ) → Some m ≡ find (λ (m : MapSyntax). bytes_eq m.source w) ms → place_of names m.target ≡ image_place names ms w
image_some names ms m w e = ap (λ t. option_and_then (place_of names) t) (ap (λ x. option_map (λ (m : MapSyntax). m.target) x) e ∙ sym (target_found ms w))
