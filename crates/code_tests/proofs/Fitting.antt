-- Compiled code fits the words of values, and what a text spells is small: what calls of the tests want.
use Rattle.std.proofs.Common.{◌≡◌, ◌≢◌, ◌≤◌, ℕ, List, Option, Some, None, refl, sym, ap, ◌∙◌}
use Rattle.alg_model.specs.declared.edition.TheConstants.{MAX_LABEL_NUMBER}
use Rattle.alg_model.specs.declared.edition.Edition.{Edition}
use Rattle.alg_model.specs.declared.alg.TheConstants.{MAX_VALUE_NUMBER}
use Rattle.alg_model.specs.Expressions.{Expression, PureCarrier, PureLabel, PureValue}
use Rattle.alg_model.specs.Carriers.{carrier_of, In, Order}
use Rattle.alg_model.specs.Application.{App, IsLabel}
use Rattle.alg_model.specs.Actions.{MayAct}
use Rattle.alg_model.specs.Bounds.{AtMost, LabelAtMost, greatest_number}
use Rattle.alg_model.specs.BoundLaws.{label_at_most_more, greatest_is_bounded}
use Rattle.alg_model.specs.Formation.{IsFormed, IsCarrier}
use Rattle.alg_model.specs.CarrierLaws.{carriers_are}
use Rattle.label_code.specs.declared.operations.Op.{Op}
use Rattle.label_code.specs.declared.operations.OrdOp.{OrdOp}
use Rattle.label_code.specs.Machine.{stuck, RunCode, Fits}
use Rattle.label_code.specs.Orders.{RunOrder, FitsBoth}
use Rattle.code_gen.specs.Encoding.{Enc, IsEncoded}
use Rattle.code_gen.specs.Compilation.{CompileLabel, CompileOrder}
use Rattle.code_gen.specs.Meaning.{outcome_of, CodeMeansApplication, CodeMeansOrder}

not_stuck : (o : Option PureValue) → outcome_of o ≢ stuck
not_stuck (Some w) e = absurd (cc)
not_stuck None e = absurd (cc)

-- the code of a label fits the words of a value
pub code_fits : (a : Expression) (l : PureLabel) (v : PureValue) (code : List Op) (row : List ℕ) → ((b : Expression) → CodeMeansApplication b) → IsFormed a
    → IsLabel a l → LabelAtMost MAX_LABEL_NUMBER l → In (carrier_of a) v → AtMost MAX_VALUE_NUMBER v → code ≡ CompileLabel a l → row ≡ Enc v → Fits code row
code_fits a l v code row law f k small_label i small_value c r e =
    let may : MayAct a l v = record { ranges = f.ranges; carriers = f.carriers; label = k; value = i; small_label = small_label; small_value = small_value } in
    not_stuck (App a l v) (sym (law a l v may) ∙ sym (ap (λ o. RunCode o (Enc v)) c) ∙ sym (ap (λ w. RunCode code w) r) ∙ e)

-- the code of an order fits the words of two values
pub order_fits : (a : Expression) (u v : PureValue) (code : List OrdOp) (x y : List ℕ) → ((c : PureCarrier) → IsCarrier c → CodeMeansOrder c) → IsFormed a
    → In (carrier_of a) u → In (carrier_of a) v → code ≡ CompileOrder (carrier_of a) → x ≡ Enc u → y ≡ Enc v → FitsBoth code x y
order_fits a u v code x y law f i j k d e n =
    let c = carrier_of a in
    let o : RunOrder code x y ≡ Some (Order c u v) =
    ap (λ o. RunOrder o x y) k ∙ ap (λ r. RunOrder (CompileOrder c) r y) d ∙ ap (λ r. RunOrder (CompileOrder c) (Enc u) r) e
    ∙ law c (carriers_are a f) u v i j in
    absurd (cc)

-- a value's words are the words of a value
pub encoded : (c : PureCarrier) (v : PureValue) (row : List ℕ) → In c v → row ≡ Enc v → IsEncoded c row
encoded c v row i e = (v, i, sym e)

-- a label's numbers are small in each edition
pub small_label : (edition : Edition) (l : PureLabel) → LabelAtMost (greatest_number edition) l → LabelAtMost MAX_LABEL_NUMBER l
small_label edition l h = label_at_most_more (greatest_number edition) MAX_LABEL_NUMBER l (greatest_is_bounded edition) h
