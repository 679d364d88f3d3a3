-- The functions of texts are what all texts spell, and the only such ones.
use Rattle.std.proofs.Common.{◌≡◌, ℕ, List, Result, Ok, Err, refl, sym, ap, ◌∙◌}
use mathlib.Core.Path.{fun_ext}
use Rattle.alg_model.specs.Bounds.{greatest_number}
use Rattle.alg_model.specs.Expressions.{PureAlg, PureLabel, PureValue}
use Rattle.sig_text.specs.declared.faults.LitFault.{LitFault}
use Rattle.sig_text.specs.Literals.{Spelling, SpellsLabel, SpellsValue, IsSpelling}
use Rattle.sig_text.specs.Spelled.{spelled, spelled_label, spelled_value}
use Rattle.sig_text.proofs.Meant.{value_states}
use Rattle.sig_text.proofs.MeantLabels.{label_states}

label_spelled : (a : PureAlg) (text : List ℕ) (r : Result PureLabel LitFault) → spelled_label a text ≡ r → SpellsLabel a text r
label_spelled a text (Ok l) e = (label_states (greatest_number a.edition) a.expression text).is_spelled l e
label_spelled a text (Err f) e = (label_states (greatest_number a.edition) a.expression text).is_refused f e

value_spelled : (a : PureAlg) (text : List ℕ) (r : Result PureValue LitFault) → spelled_value a text ≡ r → SpellsValue a text r
value_spelled a text (Ok v) e = (value_states (greatest_number a.edition) a.expression text).is_spelled v e
value_spelled a text (Err f) e = (value_states (greatest_number a.edition) a.expression text).is_refused f e

pub is_spelling : IsSpelling spelled
is_spelling = record {
  labels = λ a text. label_spelled a text (spelled_label a text) refl;
  values = λ a text. value_spelled a text (spelled_value a text) refl;
}

same_label : (a : PureAlg) (text : List ℕ) (r : Result PureLabel LitFault) → SpellsLabel a text r → r ≡ spelled_label a text
same_label a text (Ok l) t = sym ((label_states (greatest_number a.edition) a.expression text).spells l t)
same_label a text (Err f) t = sym ((label_states (greatest_number a.edition) a.expression text).refuses f t)

same_value : (a : PureAlg) (text : List ℕ) (r : Result PureValue LitFault) → SpellsValue a text r → r ≡ spelled_value a text
same_value a text (Ok v) t = sym ((value_states (greatest_number a.edition) a.expression text).spells v t)
same_value a text (Err f) t = sym ((value_states (greatest_number a.edition) a.expression text).refuses f t)

pub only_spelling : (s : Spelling) → IsSpelling s → s ≡ spelled
only_spelling s i =
    let label : s.label ≡ spelled_label = fun_ext (λ a. fun_ext (λ text. same_label a text (s.label a text) (i.labels a text))) in
    let value : s.value ≡ spelled_value = fun_ext (λ a. fun_ext (λ text. same_value a text (s.value a text) (i.values a text))) in
    ap (λ f. record { label = f; value = s.value }) label ∙ ap (λ f. record { label = spelled_label; value = f }) value
