use Rattle.std.proofs.Common.{sym, subst}
use Rattle.alg_model.specs.Views.{pure_label}
use Rattle.net_facts.proofs.Found.{Earliest, earliest}
use Rattle.net_facts.proofs.missing.earliest_missed.Goals as goal

pub returns : goal.returns
returns c =
    let a = c.args.alg.now.expression in
    let l = pure_label c.args.label.now in
    let properties = c.args.properties.now in
    subst (Earliest a l properties) (sym c.earliest_without.ensures)
    (earliest a l c.label_profile-profile.result c.label_profile-profile.ensures properties)
