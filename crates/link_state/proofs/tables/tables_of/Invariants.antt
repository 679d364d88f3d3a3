use Rattle.std.proofs.Common.{◌≡◌, length}
use Rattle.std.specs.Vec.Iter.{into_iter_items, into_iter_len}
use Rattle.link_state.specs.Tables.{AreTablesFrom}
use Rattle.link_state.proofs.tables.tables_of.Given as goal

-- the tables so far are those of the destinations from 0 on, and the routes are gone through one by one
abbrev pub invariant-loop-fixed : goal.invariant-loop-fixed
invariant-loop-fixed g l = record {
  so_far : AreTablesFrom l.net 0 l.tables.items;
  made : length l.tables.items ≡ l.dest;
  gone : length l.yielded ≡ l.dest;
  items : into_iter_items l.initial.fixed-iterator ≡ l.fn.found;
  count : into_iter_len l.initial.fixed-iterator ≡ length l.fn.found;
}
