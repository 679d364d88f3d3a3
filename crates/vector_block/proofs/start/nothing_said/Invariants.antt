use Rattle.std.proofs.Common.{◌≡◌, ℕ, Some, length}
use Rattle.std.specs.Prelude.{slice_get}
use Rattle.vector_block.specs.declared.report.Column.{Column}
use Rattle.vector_block.proofs.Starting.{IsUnused}
use Rattle.vector_block.proofs.start.nothing_said.Given as goal

-- the columns so far are unused
abbrev pub invariant-loop-dest : goal.invariant-loop-dest
invariant-loop-dest g l = record {
  count : length l.columns.items ≡ l._dest;
  unused : (dest : ℕ) (c : Column) → slice_get l.columns.items dest ≡ Some c → IsUnused l.fn.site.net.now c;
}
