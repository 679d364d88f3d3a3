-- What the readers of whole texts answer where there is no value or no label.
use Rattle.std.specs.Prelude.{◌≡◌, ℕ, List, Result, Ok, Err}
use Rattle.alg_model.specs.Expressions.{Expression, PureAlg}
use Rattle.alg_model.specs.Bounds.{greatest_number}
use Rattle.sig_text.specs.declared.faults.LitFault.{LitFault}
use Rattle.sig_text.specs.declared.faults.LitError.{LitError}
use Rattle.sig_text.specs.declared.faults.LitError.TheVariants.{Bad, NoMemory}
use Rattle.sig_text.specs.Literals.{IsValueFaultTo, IsLabelFaultTo}

-- the text is refused by this fault, or there was no memory
abbrev pub IsValueErrorTo : ℕ → Expression → List ℕ → LitError → Type 0
IsValueErrorTo greatest a text (Bad fault) = IsValueFaultTo greatest a text fault
IsValueErrorTo greatest a text NoMemory = Unit {0}

abbrev pub IsLabelErrorTo : ℕ → Expression → List ℕ → LitError → Type 0
IsLabelErrorTo greatest a text (Bad fault) = IsLabelFaultTo greatest a text fault
IsLabelErrorTo greatest a text NoMemory = Unit {0}

-- the same at the greatest number of the algebra's edition
abbrev pub IsValueError : PureAlg → List ℕ → LitError → Type 0
IsValueError a text error = IsValueErrorTo (greatest_number a.edition) a.expression text error

abbrev pub IsLabelError : PureAlg → List ℕ → LitError → Type 0
IsLabelError a text error = IsLabelErrorTo (greatest_number a.edition) a.expression text error

-- the answer is what the text spells, or its fault, or there was no memory
abbrev pub IsSpelled : {A B : Type 0} → (A → B) → Result B LitFault → Result A LitError → Type 0
IsSpelled view spelled (Ok a) = spelled ≡ Ok (view a)
IsSpelled view spelled (Err (Bad fault)) = spelled ≡ Err fault
IsSpelled view spelled (Err NoMemory) = Unit {0}
