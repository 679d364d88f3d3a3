use Rattle.std.proofs.Common.{sym, subst, ◌∙◌}
use Rattle.alg_model.specs.Carriers.{In}
use Rattle.alg_model.specs.Views.{pure_carrier, pure_value}
use Rattle.alg_classes.specs.Constants.{apart_is}
use Rattle.alg_classes.specs.Flat.{IsWorse, worse_than}
use Rattle.alg_classes.specs.FlatLaws.{best_in, flat_is_equivalent, value_fits}
use Rattle.alg_classes.proofs.worse.apart.Goals as goal

pub returns-in_ok-second-clause-small : goal.returns-in_ok-second-clause-small
returns-in_ok-second-clause-small c = (value_fits (pure_value c.in_ok-first.first) c.in_ok-first.ensures.small, c.in_ok-second.ensures.small)

pub returns-then-is_flat-clause-apart : goal.returns-then-is_flat-clause-apart
returns-then-is_flat-clause-apart c u v i j =
    flat_is_equivalent (pure_carrier c.args.carrier.now) u v c.requires (sym c.is_flat.ensures ∙ c.if-is_flat.true) i j

pub returns-in_ok-second-clause-apart : goal.returns-in_ok-second-clause-apart
returns-in_ok-second-clause-apart c =
    let carrier = pure_carrier c.args.carrier.now in (
      subst (In carrier) (sym c.in_ok-first.ensures.value) (best_in carrier c.requires),
      subst (IsWorse carrier (pure_value c.in_ok-first.first)) (sym c.in_ok-second.ensures.value)
          (subst (λ u. IsWorse carrier u (worse_than carrier u)) (sym c.in_ok-first.ensures.value)
          (apart_is carrier c.requires (sym c.is_flat.ensures ∙ c.if-is_flat.false))),
    )
