-- Where a label makes a value better, the small ones that are made of both do so too, and a text can hold them. Lemmas,
-- so that proofs of other crates may cite them.
use Rattle.std.proofs.Common.{◌≡◌, ◌≤◌, Option, Some, None, refl, ◌∙◌, arith}
use Rattle.alg_model.specs.Expressions.{PureAlg, PureLabel, PureValue}
use Rattle.alg_model.specs.declared.edition.Edition.{Edition}
use Rattle.alg_model.specs.declared.edition.Edition.TheVariants.{One, Two}
use Rattle.alg_model.specs.Carriers.{carrier_of, In, IsPreferred}
use Rattle.alg_model.specs.Application.{IsLabel, App}
use Rattle.alg_model.specs.Bounds.{greatest_number}
use Rattle.alg_model.specs.Formation.{IsAlg}
use Rattle.settled_laws.specs.SmallInstances.{small_label_on, small_value_under}
use Rattle.settled_laws.specs.SmallImages.{image_is_small}
use Rattle.settled_laws.specs.Wedge.{MakesWedge}

some_number : (e : Edition) → 1 ≤ greatest_number e
some_number One = omega arith
some_number Two = omega arith

pub small_wedge : (alg : PureAlg) (l : PureLabel) (v : PureValue) → IsAlg alg → IsLabel alg.expression l → In (carrier_of alg.expression) v
    → IsPreferred (carrier_of alg.expression) (App alg.expression l v) (Some v)
    → MakesWedge alg (small_label_on alg.expression l v) (small_value_under alg.expression l v)
small_wedge alg l v a is within = by (App alg.expression l v) refl
  where
    by : (o : Option PureValue) → App alg.expression l v ≡ o → IsPreferred (carrier_of alg.expression) o (Some v)
        → MakesWedge alg (small_label_on alg.expression l v) (small_value_under alg.expression l v)
    by None e p = absurd (cc)
    by (Some w) e p =
        let s = image_is_small (greatest_number alg.edition) alg.expression (some_number alg.edition) a.bound a.formed.carriers l v w is within e in
        record {
          fits = record { label_in = s.label_in; value_in = s.value_in; label_bound = s.label_small; value_bound = s.value_small };
          image = s.w;
          improves = record { image = s.image; preferred = s.order ∙ p };
        }
