use Rattle.net_graph.proofs.Keys.{inserted_pair}
use Rattle.net_graph.proofs.pairs.Pairs.add.Goals as goal

pub returns-clause-ok : goal.returns-clause-ok
returns-clause-ok c = rw (← c.self.view_is) (inserted_pair c.self.inside.pairs.keys c.insert.new.self.keys c.args.first c.args.second c.in_ok-insert.ensures.keys (rw (← c.self.view_is) at c.requires))
