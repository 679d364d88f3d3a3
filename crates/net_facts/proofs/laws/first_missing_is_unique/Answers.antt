use Rattle.net_facts.specs.MissingLaws.{first_is_unique}
use Rattle.net_facts.proofs.laws.first_missing_is_unique.Goals as goal

pub returns : goal.returns
returns c = first_is_unique
