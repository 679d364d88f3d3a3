use Rattle.std.proofs.Common.{◌∙◌, ap, map}
use Rattle.net_graph.specs.NetParts.{net_of}
use Rattle.net_graph.specs.Views.{pure_origin}
use Rattle.net_graph.proofs.FiledLemmas.{origins_of_within}
use Rattle.net_graph.proofs.net.Net.origins_of.Goals as goal

pub returns-clause-within : goal.returns-clause-within
returns-clause-within c =
    rw (← c.self.view_is) (origins_of_within (net_of c.self.inside) c.args.dest.0 c.group.result.now c.self.invariant.known.is_net
    (ap (map pure_origin) c.group.ensures ∙ c.self.invariant.filed.homes c.args.dest.0))
