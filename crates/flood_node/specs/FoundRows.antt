-- The rows that were found, as contracts see them.
use Rattle.std.specs.Prelude.{List, Option, map, option_map}
use Rattle.std.specs.declared.vec.Vec.{Vec}
use Rattle.std.specs.declared.alloc.Global.{Global}
use Rattle.net_graph.specs.Tables.{PureRow}
use Rattle.net_graph.specs.Views.{pure_row}
use Rattle.net_graph.specs.declared.route.RouteRow.{RouteRow}

abbrev pub found_rows : List (Vec (Option RouteRow) Global) → List (List (Option PureRow))
found_rows found = map (λ (rows : Vec (Option RouteRow) Global). map (option_map pure_row) rows.items) found
