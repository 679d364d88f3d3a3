use Rattle.std.proofs.Common.{◌≡◌, length}
use Rattle.label_code.specs.Machine.{RunCode, Fits, after_written}
use Rattle.label_code.proofs.machine.execute.Given as goal

-- what was written, and what is left, make what the whole code makes of the whole row
abbrev pub invariant-loop-op : goal.invariant-loop-op
invariant-loop-op g l = record {
  fits : Fits l.code l.row;
  same : after_written (g.W.Output.written l.out) (RunCode l.code l.row) ≡ after_written (g.W.Output.written l.fn.out) (RunCode l.fn.code l.fn.row);
}

abbrev pub decreases-loop-op : goal.decreases-loop-op
decreases-loop-op g l = length l.code
