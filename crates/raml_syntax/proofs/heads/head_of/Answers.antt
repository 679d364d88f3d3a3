use Rattle.std.proofs.Common.{◌≡◌, ℕ, false, ◌||◌, List, [], ◌∷◌, ◌++◌, Option, Some, None, MatchOption, bytes_eq, ap₂}
use Rattle.std.proofs.lemmas.Bool.{or_parts}
use Rattle.raml_syntax.specs.Syntax.{is_among, is_expression_word}
use Rattle.raml_syntax.specs.Heads.{base_words, operator_words, head_word}
use Rattle.raml_syntax.proofs.heads.head_of.Goals as goal

in_neither : (xs ys : List (List ℕ)) (w : List ℕ) → is_among xs w ≡ false → is_among ys w ≡ false → is_among (xs ++ ys) w ≡ false
in_neither [] ys w p q = q
in_neither (x ∷ xs) ys w p q =
    let h = or_parts (bytes_eq x w) (is_among xs w) p in
    ap₂ (λ a b. a || b) h.0 (in_neither xs ys w h.1 q)

none_weaker : {A : Type 0} (o : Option A) (P Q : Type 0) (R : A → Type 0) → (P → Q) → MatchOption o P R → MatchOption o Q R
none_weaker None P Q R f m = f m
none_weaker (Some x) P Q R f m = m

pub returns-in-None : goal.returns-in-None
returns-in-None c =
    let w = c.args.word.now in
    none_weaker c.operator_of.result (is_among operator_words w ≡ false) (is_expression_word w ≡ false) (λ d. head_word d ≡ w)
    (in_neither base_words operator_words w c.in-None.ensures) c.operator_of.ensures
