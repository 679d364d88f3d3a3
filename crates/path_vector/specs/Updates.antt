-- What updates of the program stand for.
use Rattle.std.specs.Prelude.{ℕ, Bool, false, Option, option_map}
use Rattle.std.specs.Option.{option_map_or}
use Rattle.net_graph.specs.Nets.{PureNet, has_arc}
use Rattle.meta_base.specs.declared.ids.ArcId.{ArcId}
use Rattle.alg_model.specs.Views.{pure_value}
use Rattle.meta_base.specs.NodePaths.{numbers}
use Rattle.net_graph.specs.Routes.{PureRoute}
use Rattle.path_vector.specs.declared.update.SharedRoute.{SharedRoute}
use Rattle.path_vector.specs.declared.update.Update.{Update}
use Rattle.path_vector.specs.Node.{PureUpdate}

abbrev pub pure_shared : SharedRoute → PureRoute
pure_shared r = record { value = pure_value r.value; path = numbers r.path }

abbrev pub pure_update : Update → PureUpdate
pure_update u = record { dest = u.dest.0; route = option_map pure_shared u.route; stamp = u.stamp }

-- an update that is put on an arc
abbrev pub noted : ArcId × Update → ℕ × PureUpdate
noted p = (p.0.0, pure_update p.1)

-- the network that a node comes from has an arc between these nodes, if it was carried
abbrev pub spoken_in : Option PureNet → ℕ → ℕ → Bool
spoken_in before tail head = option_map_or (λ net. has_arc net tail head) before false
