-- The instance that is made of one against monotone, and what it allows.
use Rattle.std.proofs.Common.{◌≡◌, ℕ, ◌≤◌, Option, Some, None, arith}
use Rattle.alg_model.specs.declared.edition.TheConstants.{MAX_LABEL_NUMBER}
use Rattle.alg_model.specs.declared.alg.TheConstants.{MAX_VALUE_NUMBER}
use Rattle.alg_model.specs.declared.edition.Edition.{Edition}
use Rattle.alg_model.specs.declared.edition.Edition.TheVariants.{One, Two}
use Rattle.alg_model.specs.Application.{IsLabel, App}
use Rattle.alg_model.specs.Bounds.{greatest_number}
use Rattle.alg_model.specs.Laws.{at_most_more, label_at_most_more, greatest_is_bounded}
use Rattle.alg_model.specs.Carriers.{carrier_of, IsPreferred}
use Rattle.alg_model.specs.Expressions.{Expression, PureAlg, PureLabel, PureValue}
use Rattle.alg_model.specs.Formation.{IsAlg}
use Rattle.alg_model.specs.Instances.{SecondAtMost}
use Rattle.alg_model.specs.Properties.{PureProperty, monotone, strict, isotone, cancellative, total}
use Rattle.alg_model.specs.Verdicts.{PureInstance, Shows, SecondIn, Violates, IsExact, PureVerdict, holds, fails}
use Rattle.report_text.specs.VerdictTexts.{CanPrintVerdict}
use Rattle.settled_laws.specs.SmallInstances.{small_label_on, small_value_under}
use Rattle.settled_laws.specs.SmallWedges.{small_wedge}
use Rattle.wedge_nets.specs.Gadgets.{IsGadget, HasGadget}

-- what shows that a label isn't monotone
preferred_at : (a : Expression) (p : PureProperty) (l : PureLabel) (v : PureValue) (second : Option PureValue) → p ≡ monotone → Shows p a l v second → IsPreferred (carrier_of a) (App a l v) (Some v)
preferred_at a monotone l v None e s = s
preferred_at a monotone l v (Some u) e s = absurd s
preferred_at a strict l v second e s = absurd (cc)
preferred_at a isotone l v second e s = absurd (cc)
preferred_at a cancellative l v second e s = absurd (cc)
preferred_at a total l v second e s = absurd (cc)

-- the small label and the small value make an instance of which there is a wedge
pub is_gadget : (alg : PureAlg) (x y : PureInstance) → IsAlg alg → x.property ≡ monotone → Violates alg.expression x
    → y.property ≡ monotone → y.label ≡ small_label_on alg.expression x.label x.first → y.first ≡ small_value_under alg.expression x.label x.first → y.second ≡ None
    → IsGadget alg y
is_gadget alg x y a p violates property label value alone =
    let is = violates.is_of in
    let wedge = small_wedge alg x.label x.first a is.label is.first (preferred_at alg.expression x.property x.label x.first x.second p violates.shows) in
    record { property = property; alone = alone; wedge = rw (label, value) wedge }

shown : (a : Expression) (p : PureProperty) (l : PureLabel) (v : PureValue) (second : Option PureValue) → p ≡ monotone → second ≡ None → IsPreferred (carrier_of a) (App a l v) (Some v) → Shows p a l v second
shown a p l v second e n h = rw (e, n) h

second_in : (a : Expression) (second : Option PureValue) → second ≡ None → SecondIn a second
second_in a second n = rw n tt

second_small : (n : ℕ) (second : Option PureValue) → second ≡ None → SecondAtMost n second
second_small n second e = rw e tt

preferred_image : (a : Expression) (l : PureLabel) (v w : PureValue) → App a l v ≡ Some w → IsPreferred (carrier_of a) (Some w) (Some v) → IsPreferred (carrier_of a) (App a l v) (Some v)
preferred_image a l v w e h = rw e h

-- such an instance shows that its label isn't monotone
gadget_violates : (alg : PureAlg) (x : PureInstance) → IsGadget alg x → Violates alg.expression x
gadget_violates alg x g =
    let a = alg.expression in
    let w = g.wedge in
    record {
      is_of = record { label = w.fits.label_in; first = w.fits.value_in; second = second_in a x.second g.alone };
      shows = shown a x.property x.label x.first x.second g.property g.alone (preferred_image a x.label x.first w.image w.improves.image w.improves.preferred);
    }

-- so the verdict with it is exact
pub gadget_is_exact : (alg : PureAlg) (x : PureInstance) → IsGadget alg x → IsExact monotone alg.expression (IsLabel alg.expression) (fails x)
gadget_is_exact alg x g = (g.property, g.wedge.fits.label_in, gadget_violates alg x g)

value_room : (e : Edition) → greatest_number e ≤ MAX_VALUE_NUMBER
value_room One = omega arith
value_room Two = omega arith

-- and its line can be printed
pub can_print : (alg : PureAlg) (v : PureVerdict) → HasGadget alg v → CanPrintVerdict alg.expression v
can_print alg holds h = tt
can_print alg (fails x) g =
    let f = g.wedge.fits in
    let n = greatest_number alg.edition in
    record {
      is_of = record { label = f.label_in; first = f.value_in; second = second_in alg.expression x.second g.alone };
      bound = record {
        label = label_at_most_more n MAX_LABEL_NUMBER x.label (greatest_is_bounded alg.edition) f.label_bound;
        first = at_most_more n MAX_VALUE_NUMBER x.first (value_room alg.edition) f.value_bound;
        second = second_small MAX_VALUE_NUMBER x.second g.alone;
      };
    }
