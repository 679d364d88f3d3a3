use Rattle.std.proofs.lemmas.List.FromFn.{length-map-range_with_len}
use Rattle.net_gen.specs.Generated.{node_name}
use Rattle.net_gen.proofs.Leads.{generated_means}
use Rattle.net_gen.proofs.laws.generated_texts_are_networks.Goals as goal

pub returns-clause-network : goal.returns-clause-network
returns-clause-network c = generated_means c.texts_have_one_spelling.ensures.is

pub returns-clause-nodes : goal.returns-clause-nodes
returns-clause-nodes c = λ seed n. length-map-range_with_len node_name 0 n
