use Rattle.std.proofs.Common.{◌≡◌, length, map}
use Rattle.std.specs.Prelude.{option_map}
use Rattle.net_graph.specs.Views.{pure_row}
use Rattle.flood_node.proofs.Finding.{ArePlaced}
use Rattle.flood_node.proofs.rows.place_rows.Given as goal

-- the rows so far were placed
abbrev pub invariant-loop-row : goal.invariant-loop-row
invariant-loop-row l = record {
  place : l.place ≡ length l.yielded;
  count : length l.found.items ≡ length l.fn.found.items;
  placed : ArePlaced l.fn.leaders l.leader (map pure_row l.yielded) (map (option_map pure_row) l.fn.found.items) (map (option_map pure_row) l.found.items);
}
