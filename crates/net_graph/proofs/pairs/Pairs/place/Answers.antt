use Rattle.std.proofs.Common.{◌∙◌}
use Rattle.net_graph.proofs.Keys.{place_pair}
use Rattle.net_graph.proofs.pairs.Pairs.place.Goals as goal

pub returns-clause-place : goal.returns-clause-place
returns-clause-place c = rw (← c.self.view_is) (c.get_index_of.ensures.index ∙ place_pair c.self.inside.pairs.keys c.args.first c.args.second)
