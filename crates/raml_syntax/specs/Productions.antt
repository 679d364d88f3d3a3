-- What a production of a grammar with marked tokens takes, and where a list of tokens is at fault in
-- its place. A production relates what it means to the marks that it may have.
use Rattle.std.specs.Prelude.{◌≡◌, ◌⊎◌, ℕ, List, ◌∷◌, ◌++◌, map, Some}
use Rattle.raml_lex.specs.declared.token.LexKind.TheVariants as lex
use Rattle.raml_lex.specs.Tokens.{Tok, number, Step, end, bad, token}
use Rattle.raml_syntax.specs.declared.faults.ExprKind.{ExprKind}
use Rattle.raml_syntax.specs.declared.faults.ExprKind.TheVariants.{BadByte, Unexpected, EndOfText, NumberTooLarge}
use Rattle.raml_syntax.specs.Marks.{Mark, plain}

-- tokens without faults
abbrev pub clean : List Tok → List Mark
clean ts = map plain ts

-- the tokens of marks
abbrev pub toks : List Mark → List Tok
toks ms = map (λ (m : Mark). m.tok) ms

-- the tokens begin what the production takes, without a fault, and more must follow
abbrev pub Begins : {R : Type 0} → (R → List Mark → Type 0) → List Tok → Type 0
Begins {R} P front = (r : R) × (m : Mark) × (more : List Mark) × P r (clean front ++ m ∷ more)

-- and a number may follow
abbrev pub TakesNumber : {R : Type 0} → (R → List Mark → Type 0) → List Tok → Type 0
TakesNumber {R} P front = (r : R) × (n : ℕ) × (m : Mark) × (more : List Mark) × (m.tok ≡ number n) × P r (clean front ++ m ∷ more)

-- and this token may follow, with this fault of meaning
abbrev pub Shows : {R : Type 0} → (R → List Mark → Type 0) → List Tok → Tok → ExprKind → Type 0
Shows {R} P front t k = (r : R) × (more : List Mark) × P r (clean front ++ record { tok = t; fault = Some k } ∷ more)

-- nothing that the production takes goes on with this token, whatever its faults
abbrev pub Refuses : {R : Type 0} → (R → List Mark → Type 0) → List Tok → Tok → Type 0
Refuses {R} P front t = (r : R) (ms : List Mark) (y z : List Tok) → P r ms → toks ms ++ y ≡ front ++ t ∷ z → ⊥

-- what comes next after the front is at fault
abbrev pub FaultAt : {R : Type 0} → (R → List Mark → Type 0) → List Tok → Step → ExprKind → Type 0
FaultAt P front end k = (k ≡ EndOfText) × Begins P front
FaultAt P front (bad lex.BadByte) k = (k ≡ BadByte) × Begins P front
FaultAt P front (bad lex.NumberTooLarge) k =
    ((k ≡ NumberTooLarge) × TakesNumber P front) ⊎ ((k ≡ Unexpected) × Begins P front × ((n : ℕ) → Refuses P front (number n)))
FaultAt P front (token t rest) k = Shows P front t k ⊎ ((k ≡ Unexpected) × Begins P front × Refuses P front t)
