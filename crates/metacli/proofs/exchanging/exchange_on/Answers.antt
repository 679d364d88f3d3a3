use Rattle.alg_classes.specs.Instances.{pure_instance}
use Rattle.net_facts.specs.Misses.{IsFirstMissing}
use Rattle.metacli.specs.Outcome.{asked_of_exchange}
use Rattle.metacli.proofs.Missing.{can_miss}
use Rattle.metacli.proofs.exchanging.exchange_on.Goals as goal

pub returns-in-Some : goal.returns-in-Some
returns-in-Some g c =
    let net = c.args.net.now in
    let missing = c.in-Some.missing in
    let first : IsFirstMissing asked_of_exchange net missing.arc.0 (pure_instance missing.instance) = rw (c.in-Some.is, c.needed.ensures) at c.in_ok-missing.ensures.first in
    (first, can_miss asked_of_exchange net missing.arc.0 (pure_instance missing.instance) first)
