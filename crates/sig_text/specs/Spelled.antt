-- What all of a text spells, as functions of the text.
use Rattle.std.specs.Prelude.{◌≡◌, ℕ, List, [], ◌∷◌, Option, Some, None, Result, Ok, Err}
use Rattle.alg_model.specs.Expressions.{Expression, PureAlg, PureValue, PureLabel}
use Rattle.alg_model.specs.Bounds.{greatest_number}
use Rattle.alg_model.specs.Carriers.{carrier_of}
use Rattle.sig_text.specs.declared.faults.LitFault.{LitFault}
use Rattle.sig_text.specs.declared.faults.LitFault.TheVariants.{BadText}
use Rattle.sig_text.specs.Parts.{Part}
use Rattle.sig_text.specs.Sequences.{parts_of}
use Rattle.sig_text.specs.Reading.{value_at, label_at}
use Rattle.sig_text.specs.Literals.{Spelling}

-- what was taken, if no part is left
abbrev pub where_whole : {A : Type 0} → Result A LitFault → List Part → Result A LitFault
where_whole taken [] = taken
where_whole taken (p ∷ ps) = Err BadText

abbrev pub whole_of : {A : Type 0} → Option (Result A LitFault × List Part) → Result A LitFault
whole_of (Some r) = where_whole r.0 r.1
whole_of None = Err BadText

-- the value that the text spells with no number above the greatest, or its fault
abbrev pub spelled_value_to : ℕ → Expression → List ℕ → Result PureValue LitFault
spelled_value_to greatest a text = whole_of (value_at greatest (carrier_of a) (parts_of text))

-- the value of the algebra that the text spells, or its fault
abbrev pub spelled_value : PureAlg → List ℕ → Result PureValue LitFault
spelled_value a text = spelled_value_to (greatest_number a.edition) a.expression text

-- the label that the text spells with no number above the greatest, or its fault
abbrev pub spelled_label_to : ℕ → Expression → List ℕ → Result PureLabel LitFault
spelled_label_to greatest a text = whole_of (label_at greatest a (parts_of text))

-- the label of the algebra that the text spells, or its fault
abbrev pub spelled_label : PureAlg → List ℕ → Result PureLabel LitFault
spelled_label a text = spelled_label_to (greatest_number a.edition) a.expression text

-- what these functions say of all texts
abbrev pub spelled : Spelling
spelled = record { label = spelled_label; value = spelled_value }

-- the outcome is what is spelled, or the fault that refuses it
pub record Reports {A : Type 0} (outcome : Result A LitFault) (Spells : A → Type 0)
    (Refuses : LitFault → Type 0) : Type 0 where
  pub spells : (a : A) → Spells a → outcome ≡ Ok a
  pub is_spelled : (a : A) → outcome ≡ Ok a → Spells a
  pub refuses : (f : LitFault) → Refuses f → outcome ≡ Err f
  pub is_refused : (f : LitFault) → outcome ≡ Err f → Refuses f
