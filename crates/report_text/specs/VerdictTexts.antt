-- The printed text of verdicts.
use Rattle.std.specs.Prelude.{List, [], ◌∷◌, ◌++◌, ℕ, Option, Some, None, codes}
use Rattle.alg_model.specs.Numbers.{max_label_number, max_value_number}
use Rattle.alg_model.specs.Properties.{PureProperty, monotone, strict, isotone, cancellative, total}
use Rattle.alg_model.specs.Expressions.{Expression, PureCarrier, PureValue, PureLabel}
use Rattle.alg_model.specs.Carriers.{carrier_of}
use Rattle.alg_model.specs.Application.{App}
use Rattle.alg_model.specs.Verdicts.{PureInstance, IsInstanceOf, PureVerdict, holds, fails, PureVerdicts, verdict_on, OnEach}
use Rattle.alg_model.specs.Instances.{InstanceAtMost}
use Rattle.alg_model.specs.Texts.{value_text, label_text}

-- a value, or none
abbrev pub image_text : PureCarrier → Option PureValue → List ℕ
image_text c None = codes "none"
image_text c (Some v) = value_text c v

-- the second value of an instance, and its image, where it is there
abbrev pub second_text : PureCarrier → Option PureValue → List ℕ
second_text c None = []
second_text c (Some v) = codes " and " ++ value_text c v

abbrev pub second_image_text : Expression → PureLabel → Option PureValue → List ℕ
second_image_text a l None = []
second_image_text a l (Some v) = codes " and " ++ image_text (carrier_of a) (App a l v)

-- LABEL on VALUE gives IMAGE, or LABEL on VALUE and VALUE gives IMAGE and IMAGE
abbrev pub instance_text : Expression → PureInstance → List ℕ
instance_text a x =
    label_text a x.label ++ codes " on " ++ value_text (carrier_of a) x.first ++ second_text (carrier_of a) x.second
    ++ codes " gives " ++ image_text (carrier_of a) (App a x.label x.first) ++ second_image_text a x.label x.second

abbrev pub property_word : PureProperty → List ℕ
property_word monotone = codes "monotone"
property_word strict = codes "strict"
property_word isotone = codes "isotone"
property_word cancellative = codes "cancellative"
property_word total = codes "total"

-- the line of the verdict on a property
abbrev pub verdict_text : Expression → PureProperty → PureVerdict → List ℕ
verdict_text a p holds = property_word p ++ codes " yes\n"
verdict_text a p (fails x) = property_word p ++ codes " no: " ++ instance_text a x ++ codes "\n"

-- the lines of the verdicts on these properties
abbrev pub lines_on : Expression → PureVerdicts → List PureProperty → List ℕ
lines_on a v [] = []
lines_on a v (p ∷ ps) = verdict_text a p (verdict_on v p) ++ lines_on a v ps

-- the five lines of verdicts
abbrev pub verdicts_text : Expression → PureVerdicts → List ℕ
verdicts_text a v = lines_on a v (monotone ∷ strict ∷ isotone ∷ cancellative ∷ total ∷ [])

-- the line of a property that is required and fails
abbrev pub required_text : PureProperty → List ℕ
required_text p = codes "required: " ++ property_word p ++ codes "\n"

-- the instance is the algebra's, and its images can be computed
pub record CanPrint (a : Expression) (x : PureInstance) : Type 0 where
  pub is_of : IsInstanceOf a x
  pub bound : InstanceAtMost max_label_number max_value_number x

abbrev pub CanPrintVerdict : Expression → PureVerdict → Type 0
CanPrintVerdict a holds = Unit {0}
CanPrintVerdict a (fails x) = CanPrint a x

abbrev pub CanPrintVerdicts : Expression → PureVerdicts → Type 0
CanPrintVerdicts a = OnEach (λ p. CanPrintVerdict a)
