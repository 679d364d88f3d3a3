-- What arcs, origins, routes and rows of the program stand for.
use Rattle.std.specs.Prelude.{List, map, option_map}
use Rattle.meta_base.specs.NodePaths.{numbers}
use Rattle.alg_model.specs.Views.{pure_value, pure_label}
use Rattle.net_graph.specs.declared.arcs.Arc.{Arc}
use Rattle.net_graph.specs.declared.parts.Origin.{Origin}
use Rattle.net_graph.specs.declared.route.Route.{Route}
use Rattle.net_graph.specs.declared.route.RouteRow.{RouteRow}
use Rattle.net_graph.specs.declared.route.DestTable.{DestTable}
use Rattle.net_graph.specs.Nets.{PureArc, PureOrigin}
use Rattle.net_graph.specs.declared.change.Change.{Change}
use Rattle.net_graph.specs.declared.change.Change.TheVariants as change
use Rattle.net_graph.specs.Changes.{PureChange, link, drop}
use Rattle.net_graph.specs.Routes.{PureRoute}
use Rattle.net_graph.specs.Tables.{PureRow}

abbrev pub pure_arc : Arc → PureArc
pure_arc a = record { id = a.id.0; tail = a.tail.0; head = a.head.0; label = pure_label a.label.now }

abbrev pub pure_origin : Origin → PureOrigin
pure_origin o = record { node = o.node.0; dest = o.dest.0; value = pure_value o.value }

abbrev pub pure_change : Change → PureChange
pure_change (change.Link tail head l) = link tail.0 head.0 (pure_label l)
pure_change (change.Drop tail head) = drop tail.0 head.0

abbrev pub pure_route : Route → PureRoute
pure_route r = record { value = pure_value r.value; path = numbers r.path }

abbrev pub pure_row : RouteRow → PureRow
pure_row row = record { node = row.node.0; dest = row.dest.0; route = option_map pure_route row.route }

-- the rows of a table
abbrev pub rows_of : DestTable → List PureRow
rows_of table = map pure_row table.rows
