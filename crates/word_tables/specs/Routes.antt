-- The routes and rows that are lent.
use Rattle.std.specs.Prelude.{option_map}
use Rattle.meta_base.specs.NodePaths.{numbers}
use Rattle.alg_model.specs.Expressions.{PureCarrier}
use Rattle.code_gen.specs.Encoding.{decoded}
use Rattle.net_graph.specs.Routes.{PureRoute}
use Rattle.net_graph.specs.Tables.{PureRow}
use Rattle.word_tables.specs.declared.lent.LentRoute.{LentRoute}
use Rattle.word_tables.specs.declared.lent.LentRow.{LentRow}

-- the route and the row that are lent, where the words are those of a value of the carrier
abbrev pub lent_route : PureCarrier → LentRoute → PureRoute
lent_route c r = record { value = decoded c r.words.now; path = numbers r.path }

abbrev pub lent_row : PureCarrier → LentRow → PureRow
lent_row c row = record { node = row.node.0; dest = row.dest.0; route = option_map (lent_route c) row.route }
