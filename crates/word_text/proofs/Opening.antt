-- The text of a value by the parts of its carrier.
use Rattle.std.proofs.Common.{◌≡◌, ◌≢◌, subst, ℕ, List, [], ◌++◌, Some, None, refl, sym, ap, ◌∙◌, append_assoc}
use Rattle.std.specs.Prelude.{codes}
use Rattle.std.proofs.lemmas.List.{append-nil}
use Rattle.alg_model.specs.Expressions.{PureCarrier, pairs}
use Rattle.alg_model.specs.Expressions.{PureValue, pair}
use Rattle.alg_model.specs.Formation.{IsCarrier}
use Rattle.alg_model.specs.Texts.{value_text}
use Rattle.code_gen.specs.Encoding.{Dec, Front, made_front, pair_front, value_in}
use Rattle.code_gen.specs.EncodingLaws.{encoded_there}
use Rattle.word_text.specs.Fronts.{front_text, Leaves}
use Rattle.word_text.specs.Parts.{PurePart, closing, parts_of, rest_in, parts_text, AreThere}
use Rattle.word_text.specs.Forms.{form_parts, Prints}
use Rattle.word_text.specs.PathNames.{name_text}
use Rattle.word_text.specs.declared.form.ValueForm.{ValueForm}

-- what stands in front of a row by the first part of a pair and, after it, by the second
record IsPairFront (c d : PureCarrier) (f : Front) (next : List ℕ → Front) : Type 0 where
  pub first : f ≢ None
  pub second : next (rest_in f) ≢ None
  pub rest : rest_in (pair_front f next) ≡ rest_in (next (rest_in f))
  pub text : value_text (pairs c d) (value_in (pair_front f next)) ≡ codes "(" ++ value_text c (value_in f) ++ codes "," ++ value_text d (value_in (next (rest_in f))) ++ codes ")"

pair_of_value : (c d : PureCarrier) (u : PureValue) (rest : List ℕ) (f : Front) → made_front (pair u) f ≢ None → IsPairFront c d (Some (u, rest)) (λ _. f)
pair_of_value c d u rest None there = absurd (there refl)
pair_of_value c d u rest (Some (v, row)) there = record { first = λ e. absurd (cc); second = λ e. absurd (cc); rest = refl; text = refl }

pair_is_front : (c d : PureCarrier) (f : Front) (next : List ℕ → Front) → pair_front f next ≢ None → IsPairFront c d f next
pair_is_front c d None next there = absurd (there refl)
pair_is_front c d (Some (u, rest)) next there =
    let p = pair_of_value c d u rest (next rest) there in
    record { first = p.first; second = p.second; rest = p.rest; text = p.text }

-- the text of the value in front without what stands after its last part
abbrev pub opening : PureCarrier → List ℕ → List ℕ
opening (pairs c d) row = codes "(" ++ opening c row ++ (closing c ++ codes ",") ++ opening d (rest_in (Dec c row))
opening c row = front_text c row

closed_pair : (a b z o k p l t u : List ℕ) → o ++ k ≡ t → p ++ l ≡ u → (a ++ o ++ (k ++ b) ++ p) ++ (l ++ z) ≡ a ++ t ++ b ++ u ++ z
closed_pair a b z o k p l t u e f = rw (← e, ← f) (simp append_assoc refl)

pub closed : (c : PureCarrier) (row : List ℕ) → Dec c row ≢ None → opening c row ++ closing c ≡ front_text c row
closed (pairs c d) row there =
    let rest = rest_in (Dec c row) in
    let p = pair_is_front c d (Dec c row) (λ r. Dec d r) there in
    closed_pair (codes "(") (codes ",") (codes ")") (opening c row) (closing c) (opening d rest) (closing d) (front_text c row) (front_text d rest) (closed c row p.first) (closed d rest p.second) ∙ sym p.text
closed c row there = append-nil (front_text c row)

regrouped : (a b z o k p m : List ℕ) → ((z ++ a) ++ o) ++ (((k ++ b) ++ p) ++ m) ≡ (z ++ (((a ++ o) ++ (k ++ b)) ++ p)) ++ m
regrouped a b z o k p m = simp append_assoc refl

-- the text by the parts of a carrier, and of more parts after them
pub parts_joined : (before : List ℕ) (c : PureCarrier) (more : List PurePart) (row : List ℕ) → Dec c row ≢ None
    → parts_text (parts_of before c ++ more) row ≡ before ++ opening c row ++ parts_text more (rest_in (Dec c row))
parts_joined before (pairs c d) more row there =
    let rest = rest_in (Dec c row) in
    let p = pair_is_front c d (Dec c row) (λ r. Dec d r) there in
    let last = parts_text more (rest_in (Dec d rest)) in
    ap (λ l. parts_text l row) (append_assoc (parts_of (before ++ codes "(") c) (parts_of (closing c ++ codes ",") d) more)
    ∙ parts_joined (before ++ codes "(") c (parts_of (closing c ++ codes ",") d ++ more) row p.first
    ∙ ap (λ l. (before ++ codes "(") ++ opening c row ++ l) (parts_joined (closing c ++ codes ",") d more rest p.second)
    ∙ regrouped (codes "(") (codes ",") before (opening c row) (closing c) (opening d rest) last
    ∙ ap (λ r. before ++ opening (pairs c d) row ++ parts_text more r) (sym p.rest)
parts_joined before c more row there = refl

parts_there : (before : List ℕ) (c : PureCarrier) (more : List PurePart) (row : List ℕ) → IsCarrier c → Dec c row ≢ None → AreThere more (rest_in (Dec c row)) → AreThere (parts_of before c ++ more) row
parts_there before (pairs c d) more row i there m =
    let rest = rest_in (Dec c row) in
    let p = pair_is_front c d (Dec c row) (λ r. Dec d r) there in
    subst (λ l. AreThere l row) (sym (append_assoc (parts_of (before ++ codes "(") c) (parts_of (closing c ++ codes ",") d) more))
    (parts_there (before ++ codes "(") c (parts_of (closing c ++ codes ",") d ++ more) row i.0 p.first
    (parts_there (closing c ++ codes ",") d more rest i.1 p.second (subst (λ r. AreThere more r) p.rest m)))
parts_there before c more row i there m = (i, there, m)

-- the text of a value whose words stand in front of a row
pub opened_text : (c : PureCarrier) (row : List ℕ) → Dec c row ≢ None → parts_text (parts_of [] c) row ++ closing c ≡ front_text c row
opened_text c row there =
    ap (λ l. parts_text l row ++ closing c) (sym (append-nil (parts_of [] c)))
    ∙ ap (λ l. l ++ closing c) (parts_joined [] c [] row there ∙ append-nil (opening c row))
    ∙ closed c row there

pub opened_there : (c : PureCarrier) (row : List ℕ) → IsCarrier c → Dec c row ≢ None → AreThere (parts_of [] c) row
opened_there c row i there = subst (λ l. AreThere l row) (append-nil (parts_of [] c)) (parts_there [] c [] row i there tt)

-- a form that was made of a carrier's parts is the carrier's
pub prints : (c : PureCarrier) (form : ValueForm) → form_parts form ≡ parts_of [] c → name_text form.end ≡ closing c → Prints c form
prints c form parts end = record {
  there = λ words i is. subst (λ l. AreThere l words) (sym parts) (opened_there c words i (encoded_there c words is));
  text = λ words is. ap (λ l. parts_text l words ++ name_text form.end) parts
      ∙ ap (λ last. parts_text (parts_of [] c) words ++ last) end
      ∙ opened_text c words (encoded_there c words is);
}

-- what a value leaves of a row
pub left_rest : (c : PureCarrier) (row rest : List ℕ) → Leaves c row rest → rest ≡ rest_in (Dec c row)
left_rest c row rest e = ap rest_in e
