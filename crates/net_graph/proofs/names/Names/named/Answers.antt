use Rattle.std.proofs.Common.{◌∙◌}
use Rattle.net_graph.proofs.Keys.{place_key}
use Rattle.net_graph.proofs.names.Names.named.Goals as goal

pub returns-in-Some-get_index_of : goal.returns-in-Some-get_index_of
returns-in-Some-get_index_of c = rw (← c.self.view_is) (c.in-Some-get_index_of.ensures.index ∙ place_key c.self.inside.names.keys c.args.name.now)

pub returns-in-None : goal.returns-in-None
returns-in-None c = rw (← c.self.view_is) (c.in-None.ensures.index ∙ place_key c.self.inside.names.keys c.args.name.now)
