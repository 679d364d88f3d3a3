-- The printed summary of a network's routes.
use Rattle.std.specs.Prelude.{◌≡◌, ℕ, ◌≤◌, ◌^◌, List, map, ◌++◌, Bool, ◌&&◌, nat_eq, Option, Some, None, IfSome, is_some, codes, count_by, decimal, length, if◌then◌else◌}
use Rattle.std.specs.List.{AllByRecursion, concat, range_with_len, sum_by}
use Rattle.alg_model.specs.Expressions.{PureValue, number}
use Rattle.net_graph.specs.Nets.{PureNet}
use Rattle.net_graph.specs.Routes.{PureRoute}
use Rattle.net_graph.specs.RowTexts.{dest_text}
use Rattle.net_graph.specs.Tables.{PureRow}
use Rattle.report_text.specs.Numbers.{max_summed}

-- a row whose value, if it has one, is a number that may be summed
abbrev pub IsSummed : PureRow → Type 0
IsSummed row = IfSome row.route (λ (r : PureRoute). (n : ℕ) × (r.value ≡ number n) × (n ≤ max_summed))

-- these are so, and can be numbered
pub record AreSummed (rows : List PureRow) : Type 0 where
  pub values : AllByRecursion IsSummed rows
  pub few : length rows ≤ 2 ^ 32

-- a row of the destination with a route
abbrev pub is_reached : ℕ → PureRow → Bool
is_reached dest row = nat_eq row.dest dest && is_some row.route

-- the number of a value that is one; no other value is summed
abbrev pub value_number : PureValue → ℕ
value_number (number n) = n
value_number _ = 0

-- what a row adds to the sum of a destination
abbrev pub route_number : Option PureRoute → ℕ
route_number None = 0
route_number (Some r) = value_number r.value

abbrev pub number_for : ℕ → PureRow → ℕ
number_for dest row = if nat_eq row.dest dest then route_number row.route else 0

-- how many of the destination's rows have a route, and the sum of their values
abbrev pub reached : ℕ → List PureRow → ℕ
reached dest rows = count_by (is_reached dest) rows

abbrev pub value_sum : ℕ → List PureRow → ℕ
value_sum dest rows = sum_by (number_for dest) rows

-- nodes N arcs M
abbrev pub size_text : PureNet → List ℕ
size_text net = codes "nodes " ++ decimal (length net.nodes) ++ codes " arcs " ++ decimal (length net.arcs) ++ codes "\n"

-- DEST reached R sum S
abbrev pub reach_text : PureNet → List PureRow → ℕ → List ℕ
reach_text net rows dest =
    dest_text net dest ++ codes " reached " ++ decimal (reached dest rows) ++ codes " sum " ++ decimal (value_sum dest rows) ++ codes "\n"

-- the lines of all destinations
abbrev pub reaches_text : PureNet → List PureRow → List ℕ → List ℕ
reaches_text net rows dests = concat (map (reach_text net rows) dests)

-- nothing is on its way any more
abbrev pub summary_end_text : List ℕ
summary_end_text = codes "quiet\n"

abbrev pub summary_text : PureNet → List PureRow → List ℕ
summary_text net rows = size_text net ++ (reaches_text net rows (range_with_len 0 (length net.dests)) ++ summary_end_text)
