-- The rows of a table, each in its place.
use Rattle.std.proofs.Common.{◌≡◌, ℕ, zero, suc, ◌+◌, ◌<◌, List, [], ◌∷◌, Some, length, map, option_map, get_or, ◌≤◌, refl, ap, ◌∙◌, arith}
use Rattle.std.specs.List.{slice_get}
use Rattle.std.proofs.lemmas.List.{length-map}
use Rattle.std.proofs.lemmas.Option.{slice_get-map, slice_get_read, slice_get_within}
use Rattle.net_graph.specs.Nets.{PureNet}
use Rattle.net_graph.specs.Tables.{PureRow, AreRowsFrom, TableOf}
use Rattle.net_graph.specs.Views.{pure_row}
use Rattle.net_graph.specs.declared.route.RouteRow.{RouteRow}
use Rattle.stable_check.specs.Checks.{IsRowAt}

-- in their places from i on they are the rows of the nodes from i on
pub rows_from_places : (net : PureNet) (dest i : ℕ) (rows : List PureRow) → ((k : ℕ) (row : PureRow) → slice_get rows k ≡ Some row → IsRowAt net dest (i + k) row) → AreRowsFrom net dest i rows
rows_from_places net dest i [] h = tt
rows_from_places net dest i (row ∷ rows) h =
    let first = h 0 row refl in (
      omega (arith, first.node),
      first.dest,
      first.route,
      rows_from_places net dest (i + 1) rows (λ k other e. let r = h (suc k) other e in record { node = omega (arith, r.node); dest = r.dest; route = r.route }),
    )

pub rows_to_places : (net : PureNet) (dest i : ℕ) (rows : List PureRow) → AreRowsFrom net dest i rows → (k : ℕ) (row : PureRow) → slice_get rows k ≡ Some row → IsRowAt net dest (i + k) row
rows_to_places net dest i [] h k row e = absurd (cc)
rows_to_places net dest i (x ∷ rows) h zero row e =
    let same : x ≡ row = cc in
    rw (← same) record { node = omega (arith, h.0); dest = h.1; route = h.2 }
rows_to_places net dest i (x ∷ rows) h (suc k) row e =
    let r = rows_to_places net dest (i + 1) rows h.3 k row e in
    record { node = omega (arith, r.node); dest = r.dest; route = r.route }

-- a row of the program stands in its place
pub row_there : (rows : List RouteRow) (k : ℕ) (row : RouteRow) → k < length rows → row ≡ get_or rows k row → slice_get (map pure_row rows) k ≡ Some (pure_row row)
row_there rows k row within at = slice_get-map pure_row rows k ∙ ap (option_map pure_row) (slice_get_read rows (length rows) k row refl within at)

pub table_places : (net : PureNet) (dest : ℕ) (rows : List PureRow) → TableOf net dest rows → (k : ℕ) (row : PureRow) → slice_get rows k ≡ Some row → IsRowAt net dest k row
table_places net dest rows h k row e =
    let r = rows_to_places net dest 0 rows h.rows k row e in
    record { node = omega (arith, r.node); dest = r.dest; route = r.route }

-- with all of its rows in their places, and one for each node, it is a table
pub places_table : (net : PureNet) (dest : ℕ) (rows : List RouteRow) (n : ℕ) → length rows ≡ length net.nodes → length rows ≤ n
    → ((k : ℕ) → k < n → (row : PureRow) → slice_get (map pure_row rows) k ≡ Some row → IsRowAt net dest k row) → TableOf net dest (map pure_row rows)
places_table net dest rows n e past h = record {
  rows = rows_from_places net dest 0 (map pure_row rows) (λ k row at.
      let within = slice_get_within (map pure_row rows) k row at in
      let r = h k (omega (arith, within, length-map rows pure_row, past)) row at in
      record { node = omega (arith, r.node); dest = r.dest; route = r.route });
  count = length-map rows pure_row ∙ e;
}
