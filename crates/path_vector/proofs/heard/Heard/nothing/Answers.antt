use Rattle.std.proofs.Common.{length}
use Rattle.path_vector.proofs.Stores.{nothing_heard}
use Rattle.path_vector.proofs.heard.Heard.nothing.Goals as goal

pub returns : goal.returns
returns g c = nothing_heard c.args.dests (length c.args.neighbours.items) 0 c.args.neighbours.items c.in_ok-routes.routes.items c.in_ok-routes.ensures.none
