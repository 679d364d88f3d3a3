-- An image that a call made is a value of the algebra, with bounded numbers.
use Rattle.std.proofs.Common.{◌≡◌, ◌+◌, ℕ, IfSome, Some, None, Option, option_map}
use Rattle.alg_model.specs.declared.edition.TheConstants.{MAX_LABEL_NUMBER}
use Rattle.alg_model.specs.declared.tree.Value.{Value}
use Rattle.alg_model.specs.declared.tree.Label.{Label}
use Rattle.alg_model.specs.Expressions.{Expression, PureValue}
use Rattle.alg_model.specs.Views.{pure_value, pure_label}
use Rattle.alg_model.specs.Application.{IsLabel, App}
use Rattle.alg_model.specs.Actions.{IsImage}
use Rattle.alg_model.specs.Bounds.{AtMost, LabelAtMost}
use Rattle.alg_model.specs.Carriers.{carrier_of, In}
use Rattle.alg_model.specs.Formation.{IsFormed}
use Rattle.alg_model.specs.Laws.{images_in, images_at_most}

image_is : (o : Option PureValue) (P : PureValue → Type 0) (image : Option Value) → option_map pure_value image ≡ o → ((v : PureValue) → o ≡ Some v → P v) → IfSome image (λ v. P (pure_value v))
image_is o P (Some v) e h = h (pure_value v) (cc)
image_is o P None e h = tt

pub made_in : (a : Expression) (label : Label) (value : Value) (image : Option Value) → IsFormed a → IsLabel a (pure_label label) → In (carrier_of a) (pure_value value) →
    IsImage a label value image → IfSome image (λ v. In (carrier_of a) (pure_value v))
made_in a label value image f l v e =
    image_is (App a (pure_label label) (pure_value value)) (In (carrier_of a)) image e (λ w h. images_in a (pure_label label) (pure_value value) w f l v h)

pub made_at_most : (a : Expression) (label : Label) (value : Value) (image : Option Value) (n : ℕ) → IsLabel a (pure_label label) → LabelAtMost MAX_LABEL_NUMBER (pure_label label) → AtMost n (pure_value value) →
    IsImage a label value image → IfSome image (λ v. AtMost (n + MAX_LABEL_NUMBER) (pure_value v))
made_at_most a label value image n l small v e =
    image_is (App a (pure_label label) (pure_value value)) (AtMost (n + MAX_LABEL_NUMBER)) image e (λ w h. images_at_most a (pure_label label) (pure_value value) w n MAX_LABEL_NUMBER l small v h)
