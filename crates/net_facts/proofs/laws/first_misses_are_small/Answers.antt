use Rattle.net_facts.specs.MissingLaws.{missing_is_small}
use Rattle.net_facts.proofs.laws.first_misses_are_small.Goals as goal

pub returns : goal.returns
returns c = missing_is_small
