use Rattle.std.proofs.Common.{◌≡◌, ◌<◌, ℕ, Some, length, map}
use Rattle.std.specs.Prelude.{option_map}
use Rattle.std.specs.List.{range_with_len}
use Rattle.path_vector.specs.declared.known.Known.{Known}
use Rattle.path_vector.specs.Known.{entry_of, heard_by}
use Rattle.path_vector.specs.Node.{PvState, all_begun_updates, choice}
use Rattle.path_vector.specs.State.{row_routes}
use Rattle.path_vector.specs.Updates.{noted}
use Rattle.path_vector.proofs.Beginnings.{IsUnbegun}
use Rattle.path_vector.proofs.beginning.begun_rows.Given as goal

-- the rows so far are the node's choices, and were reported to the listeners that don't know them
abbrev pub invariant-loop-place : goal.invariant-loop-place
invariant-loop-place g l =
    let value = g.A.Algebra.sig_value l.fn.site.algebra.now in
    let net = l.fn.site.net.now in
    let heard = heard_by value l.fn.neighbours in
    record {
      count : length l.begun.items ≡ l.place;
      sigs : (dest : ℕ) (k : Known _) → entry_of l.begun.items dest ≡ Some k → g.A.Algebra.is_sig l.fn.site.algebra.now k.sig;
      rows : (dest : ℕ) → dest < l.place → row_routes value l.begun.items dest ≡ choice net dest l.fn.site.node.0 heard;
      reported : (s : PvState) → IsUnbegun net (option_map (λ n. n.now) l.fn.before) l.fn.site.node.0 heard (row_routes value l.fn.rows) s → map noted l.out ≡ all_begun_updates s (range_with_len 0 l.place);
    }
