-- What a label needs to act on a value, and what comes of it.
use Rattle.std.specs.Prelude.{◌≡◌, Option, Some, None, Bool, true, false, option_map}
use Rattle.alg_model.specs.Numbers.{max_label_number, max_value_number}
use Rattle.alg_model.specs.Expressions.{Expression, PureLabel, PureValue}
use Rattle.alg_model.specs.Carriers.{carrier_of, In}
use Rattle.alg_model.specs.Application.{IsLabel, App}
use Rattle.alg_model.specs.Views.{pure_value, pure_label}
use Rattle.alg_model.specs.declared.tree.Value.{Value}
use Rattle.alg_model.specs.declared.tree.Label.{Label}
use Rattle.alg_model.specs.Bounds.{AtMost, LabelAtMost}
use Rattle.alg_model.specs.Formation.{MeetsRanges, MeetsCarriers}

-- the label and the value are the algebra's, and their numbers leave room for a sum
pub record MayAct (a : Expression) (l : PureLabel) (v : PureValue) : Type 0 where
  pub ranges : MeetsRanges a
  pub carriers : MeetsCarriers a
  pub label : IsLabel a l
  pub value : In (carrier_of a) v
  pub small_label : LabelAtMost max_label_number l
  pub small_value : AtMost max_value_number v

-- the same of a label and a value of the program
abbrev pub MayActOn : Expression → Label → Value → Type 0
MayActOn a label value = MayAct a (pure_label label) (pure_value value)

-- the image is what the algebra makes of the value
abbrev pub IsImage : Expression → Label → Value → Option Value → Type 0
IsImage a label value image = option_map pure_value image ≡ App a (pure_label label) (pure_value value)

-- the thing in a place, where the call that may have put it there says so
abbrev pub held : {A : Type 0} → Bool → A → Option A
held true thing = Some thing
held false thing = None
