-- What the readers of the program answer.
use Rattle.std.specs.Prelude.{◌≡◌, ℕ, ◌≤◌, List, [], ◌∷◌, Option, Some, None, Result, Ok, Err, IfOk}
use Rattle.std.specs.Borrow.{Bor}
use Rattle.sig_text.specs.Numbers.{max_literal_number}
use Rattle.alg_model.specs.declared.tree.Value.{Value}
use Rattle.alg_model.specs.declared.tree.Label.{Label}
use Rattle.alg_model.specs.Expressions.{Expression, PureCarrier, PureValue, PureLabel}
use Rattle.alg_model.specs.Views.{pure_value, pure_label}
use Rattle.sig_text.specs.declared.faults.LitFault.{LitFault}
use Rattle.sig_text.specs.declared.faults.ReadStop.{ReadStop}
use Rattle.sig_text.specs.declared.faults.ReadStop.TheVariants.{NoShape}
use Rattle.sig_text.specs.declared.parts.Next.{Next}
use Rattle.sig_text.specs.declared.parts.Next.TheVariants.{End, Word, Number, TooLarge, Mark}
use Rattle.sig_text.specs.Parts.{Part, word, digits, mark, Step, end, part}
use Rattle.sig_text.specs.Sequences.{parts_of, LargeStep, LargeFront}
use Rattle.sig_text.specs.Reading.{NotWhole, take_both, value_at, label_at, outer_at, inner_at}

-- the front of a text with this first part
abbrev pub IsStep : Next → Step → Type 0
IsStep End step = step ≡ end
IsStep (Word w rest) step = step ≡ part (word w.now) rest.now
IsStep (Number n rest) step = (step ≡ part (digits n) rest.now) × (n ≤ max_literal_number)
IsStep TooLarge step = LargeStep step
IsStep (Mark c rest) step = step ≡ part (mark c) rest.now

-- the front of a text with these parts
abbrev pub IsFront : Next → List Part → Type 0
IsFront End ps = ps ≡ []
IsFront (Word w rest) ps = ps ≡ word w.now ∷ parts_of rest.now
IsFront (Number n rest) ps = (ps ≡ digits n ∷ parts_of rest.now) × (n ≤ max_literal_number)
IsFront TooLarge ps = LargeFront ps
IsFront (Mark c rest) ps = ps ≡ mark c ∷ parts_of rest.now

-- what a reader made of a value: the value, or the first fault in it
abbrev pub value_outcome : Result Value LitFault → Result PureValue LitFault
value_outcome (Ok v) = Ok (pure_value v)
value_outcome (Err fault) = Err fault

-- the same of a label
abbrev pub label_outcome : Result Label LitFault → Result PureLabel LitFault
label_outcome (Ok l) = Ok (pure_label l)
label_outcome (Err fault) = Err fault

-- a reader took this from the front of the parts, or stopped where there is nothing to take
abbrev pub Takes : {A B : Type 0} → (A → B) → Option (B × List Part) → Result (A × Bor (List ℕ)) ReadStop → Type 0
Takes view taken result =
    IfOk result (λ found. taken ≡ Some (view found.0, parts_of found.1.now)) × (result ≡ Err NoShape → taken ≡ None)

-- a reader took away what leaves these parts, or stopped where it isn't there
abbrev pub Leaves : Option (List Part) → Result (Bor (List ℕ)) ReadStop → Type 0
Leaves left result = IfOk result (λ rest. left ≡ Some (parts_of rest.now)) × (result ≡ Err NoShape → left ≡ None)

-- a reader took this, which is all, or stopped where there is nothing to take or not all is taken
abbrev pub TakesAll : {A B : Type 0} → (A → B) → Option (B × List Part) → Result A ReadStop → Type 0
TakesAll view taken result =
    IfOk result (λ found. taken ≡ Some (view found, [])) × (result ≡ Err NoShape → NotWhole taken)

-- a reader took a value of the carrier, or a label of the algebra, from the front of a text
abbrev pub TakesValue : ℕ → PureCarrier → List ℕ → Result (Result Value LitFault × Bor (List ℕ)) ReadStop → Type 0
TakesValue greatest c text result = Takes value_outcome (value_at greatest c (parts_of text)) result

abbrev pub TakesLabel : ℕ → Expression → List ℕ → Result (Result Label LitFault × Bor (List ℕ)) ReadStop → Type 0
TakesLabel greatest a text result = Takes label_outcome (label_at greatest a (parts_of text)) result

-- a reader took two labels in parentheses, with that mark between them
abbrev pub TakesTwo : ℕ → ℕ → Expression → Expression → List ℕ
    → Result ((Result Label LitFault × Result Label LitFault) × Bor (List ℕ)) ReadStop → Type 0
TakesTwo greatest between a b text result =
    Takes (λ two. (label_outcome two.0, label_outcome two.1))
    (take_both between (label_at greatest a) (label_at greatest b) (parts_of text)) result

-- a reader took what follows `out` and what follows `in`
abbrev pub TakesOuter : ℕ → Expression → Expression → List ℕ
    → Result (Result Label LitFault × Bor (List ℕ)) ReadStop → Type 0
TakesOuter greatest a b text result = Takes label_outcome (outer_at greatest a b (parts_of text)) result

abbrev pub TakesInner : ℕ → Expression → List ℕ → Result (Result Label LitFault × Bor (List ℕ)) ReadStop → Type 0
TakesInner greatest b text result = Takes label_outcome (inner_at greatest b (parts_of text)) result
