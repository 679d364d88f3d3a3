use Rattle.std.proofs.Common.{◌≡◌, ◌≤◌, length, take}
use Rattle.label_code.specs.Machine.{Fits, RunCode, after_written}
use Rattle.label_code.proofs.fixed.FixedRow.write_left.Given as goal

-- the words that stand, and what is left, make what the whole makes
abbrev pub invariant-loop-count : goal.invariant-loop-count
invariant-loop-count g l = record {
  width : length l.self.words ≡ g.row.N;
  count : l.count ≤ g.row.N;
  fits : Fits l.code l.row;
  same : after_written (take l.count l.self.words) (RunCode l.code l.row) ≡ after_written (take l.fn.count l.fn.self.words) (RunCode l.fn.code l.fn.row);
}

abbrev pub decreases-loop-count : goal.decreases-loop-count
decreases-loop-count g l = length l.code
