use Rattle.alg_classes.specs.Instances.{pure_instance}
use Rattle.net_facts.specs.Misses.{IsFirstMissing}
use Rattle.metacli.specs.Outcome.{asked_of, IsFit}
use Rattle.metacli.proofs.Missing.{can_miss}
use Rattle.metacli.proofs.routing.found_on.Goals as goal

pub returns-in-Some : goal.returns-in-Some
returns-in-Some g c =
    let net = c.args.net.now in
    let missing = c.in-Some.missing in
    let asked = asked_of c.args.solution in
    let first : IsFirstMissing asked net missing.arc.0 (pure_instance missing.instance) = rw (c.in-Some.is, c.properties.ensures) at c.in_ok-missing.ensures.first in
    (first, can_miss asked net missing.arc.0 (pure_instance missing.instance) first)

pub returns-in_ok-all_routes-in-None : goal.returns-in_ok-all_routes-in-None
returns-in_ok-all_routes-in-None g c =
    let fit : IsFit c.args.solution c.args.net.now = rw (c.in-None.is, c.properties.ensures) at c.in_ok-missing.ensures.none in
    (fit, c.in_ok-all_routes-in-None.ensures.routes, c.in_ok-all_routes-in-None.ensures.rows, c.in_ok-all_routes-in-None.ensures.words)
