-- What shows, of a label of a base algebra, that a fact fails, where it does.
use Rattle.std.specs.Prelude.{◌≡◌, ℕ, ◌+◌, ◌-◌, ◌^◌, ◌==◌, [], ◌∷◌, Bool, true, false, Option, Some, None, if◌then◌else◌}
use Rattle.alg_model.specs.Expressions.{Expression, add, cap, worst, width, pref, orig, seq, simseq, tags, guard, gate, table, lex, scoped, union, sum, plus, left, right}
use Rattle.alg_model.specs.Expressions.{PureLabel, need, bar, number, symbols, marks, unit}
use Rattle.alg_classes.specs.declared.profile.Profile.{Profile}
use Rattle.alg_classes.specs.declared.class.Examples.{Examples}
use Rattle.alg_classes.specs.declared.fact.Fact.{Fact}
use Rattle.alg_classes.specs.declared.fact.Fact.TheVariants.{Total, Strict, Isotone, Cancellative, Condensed, Narrow}
use Rattle.alg_classes.specs.Facts.{PureExample, at, between}
use Rattle.alg_classes.specs.Profiles.{bit}
use Rattle.alg_classes.specs.Classes.{PureExamples, pure_examples}
use Rattle.base_classes.specs.declared.examples.Numbers.{Numbers}
use Rattle.base_classes.specs.Kinds.{number_in}

-- an example for each fact, whether it holds or not
abbrev pub Witness : Type 0
Witness = Fact → PureExample

-- the example, unless the fact holds
abbrev pub unless : Bool → PureExample → Option PureExample
unless true e = None
unless false e = Some e

-- the examples of the facts that fail
abbrev pub failing : Profile → Witness → PureExamples
failing p w k = unless (bit p k) (w k)

-- the example, if it is one value, or if it is two
abbrev pub of_one : Option PureExample → Option PureExample
of_one (Some (at v)) = Some (at v)
of_one _ = None

abbrev pub of_two : Option PureExample → Option PureExample
of_two (Some (between u v)) = Some (between u v)
of_two _ = None

-- the program's examples are those
abbrev pub AreExamples : Examples → Profile → Witness → Type 0
AreExamples x p w = (k : Fact) → pure_examples x k ≡ failing p w k

abbrev pub number_witness : Numbers → Witness
number_witness n Total = at (number n.outside)
number_witness n Strict = at (number n.kept)
number_witness n Cancellative = between (number n.merged.0) (number n.merged.1)
number_witness n Condensed = between (number n.apart.0) (number n.apart.1)
number_witness n Narrow = between (number n.apart.0) (number n.apart.1)
number_witness n _ = at (number 0)

-- a set without an image, and one with
abbrev pub set_witness : ℕ → ℕ → Witness
set_witness outside inside Total = at (marks outside)
set_witness outside inside Isotone = between (marks outside) (marks inside)
set_witness outside inside _ = at (marks inside)

-- the label's symbol, and one that another sequence has
abbrev pub sequence_witness : ℕ → ℕ → Witness
sequence_witness own other Total = at (symbols (own ∷ []))
sequence_witness own other Isotone = between (symbols (own ∷ [])) (symbols (other ∷ []))
sequence_witness own other Condensed = between (symbols []) (symbols (other ∷ []))
sequence_witness own other Narrow = between (symbols []) (symbols (other ∷ []))
sequence_witness own other _ = at (symbols [])

abbrev pub unit_witness : Witness
unit_witness Condensed = between unit unit
unit_witness Narrow = between unit unit
unit_witness _ = at unit

-- where the facts of a label fail that do, by the top and the label's number
abbrev pub add_numbers : Numbers
add_numbers = record { outside = 0; kept = 0; merged = (0, 1); apart = (0, 1) }

abbrev pub cap_numbers : ℕ → ℕ → Numbers
cap_numbers top n = record { outside = top + 1 - n; kept = 0; merged = (0, 1); apart = (0, 1) }

abbrev pub worst_numbers : ℕ → ℕ → Numbers
worst_numbers top n = record { outside = 0; kept = top; merged = (0, n); apart = (0, top) }

abbrev pub width_numbers : ℕ → ℕ → Numbers
width_numbers top n = record { outside = 0; kept = 0; merged = (top, n); apart = (top, 0) }

abbrev pub pref_numbers : ℕ → ℕ → Numbers
pref_numbers top n = record { outside = 0; kept = n; merged = (top, 0); apart = (top, 0) }

abbrev pub orig_numbers : ℕ → Numbers
orig_numbers top = record { outside = 0; kept = 0; merged = (0, top); apart = (0, top) }

-- a symbol other than this one
abbrev pub other_symbol : ℕ → ℕ
other_symbol n = if n == 0 then 1 else 0

-- of a label that asks for a number, and of one that bars it
abbrev pub guard_witness : PureLabel → Witness
guard_witness (need k) = set_witness 0 (2 ^ k)
guard_witness (bar k) = set_witness (2 ^ k) 0
guard_witness _ = set_witness 0 0

-- of a label of a base algebra
abbrev pub base_witness_of : Expression → PureLabel → Witness
base_witness_of (add low high) l = number_witness add_numbers
base_witness_of (cap top low high) l = number_witness (cap_numbers top (number_in l))
base_witness_of (worst top low high) l = number_witness (worst_numbers top (number_in l))
base_witness_of (width top low high) l = number_witness (width_numbers top (number_in l))
base_witness_of (pref top) l = number_witness (pref_numbers top (number_in l))
base_witness_of (orig top) l = number_witness (orig_numbers top)
base_witness_of (seq k) l = sequence_witness (number_in l) (number_in l)
base_witness_of (simseq k) l = sequence_witness (number_in l) (other_symbol (number_in l))
base_witness_of (tags k) l = set_witness 0 0
base_witness_of (guard k) l = guard_witness l
base_witness_of gate l = unit_witness
base_witness_of (table t) l = unit_witness
base_witness_of (lex a b) l = unit_witness
base_witness_of (scoped a b) l = unit_witness
base_witness_of (union a b) l = unit_witness
base_witness_of (sum a b) l = unit_witness
base_witness_of (plus a b) l = unit_witness
base_witness_of (left a) l = unit_witness
base_witness_of (right a) l = unit_witness

-- the examples are those of the label's facts that fail
abbrev pub AreExamplesOf : Expression → PureLabel → Profile → Examples → Type 0
AreExamplesOf a l p x = AreExamples x p (base_witness_of a l)
