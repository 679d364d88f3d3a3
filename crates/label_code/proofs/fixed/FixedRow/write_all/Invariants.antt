use Rattle.std.proofs.Common.{◌≡◌, length, take}
use Rattle.label_code.specs.Machine.{Fits, RunCode, after_written}
use Rattle.label_code.proofs.fixed.FixedRow.write_all.Given as goal

-- the words that stand, and what is left, make what the whole code makes of the whole row
abbrev pub invariant-loop-count : goal.invariant-loop-count
invariant-loop-count g l = record {
  width : length l.self.words ≡ g.row.N;
  fits : Fits l.code l.row;
  same : after_written (take l.count l.self.words) (RunCode l.code l.row) ≡ RunCode l.fn.code l.fn.row;
}
