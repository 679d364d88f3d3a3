use Rattle.std.proofs.Common.{sym, ◌∙◌, arith}
use Rattle.topology_file.specs.Texts.{lines_of}
use Rattle.report_check.specs.ReportText.{after_said, said_in}
use Rattle.report_check.specs.Said.{progress_of, row_spelled}
use Rattle.report_check.proofs.Reading.{fault_at, line_length}
use Rattle.report_check.proofs.Runs.{read_all, read_fault, read_missing, read_more}
use Rattle.report_check.proofs.report.read_report.Goals as goal

pub add_line-requires-clause-line : goal.add_line-requires-clause-line
add_line-requires-clause-line c =
    let short = line_length c.loop-line.rest.now c.in-Some.line.now (lines_of c.in-Some.others.now) c.in-Some.ensures.lines in
    omega (arith, short, c.requires, c.loop-line.invariant.bound, c.loop-line.invariant.read.number)

pub returns-in-Err-clause-fault : goal.returns-in-Err-clause-fault
returns-in-Err-clause-fault c =
    let net = c.args.net.now in
    let text = c.args.source.now in
    let p = progress_of c.loop-line.draft in
    let line = c.in-Some.line.now in
    rw c.at.ensures
    (fault_at net text c.loop-line.number (after_said (row_spelled net) net p (said_in line)) c.in-Err.error
    (λ kind e. read_fault c.values_are_reported.ensures net text p c.loop-line.number (lines_of c.loop-line.rest.now) (lines_of c.in-Some.others.now) line kind c.loop-line.invariant.read c.in-Some.ensures.lines e)
    c.in-Err.ensures.bad)

pub loop-line-preserved : goal.loop-line-preserved
loop-line-preserved c =
    let net = c.args.net.now in
    let text = c.args.source.now in
    record {
      read = read_more net text (progress_of c.loop-line.draft) (progress_of c.in-Ok.next) c.loop-line.number (lines_of c.loop-line.rest.now) (lines_of c.in-Some.others.now) c.in-Some.line.now
          c.loop-line.invariant.read c.in-Some.ensures.lines c.in-Ok.ensures.ok;
      draft = c.in-Ok.ensures.draft;
      bound = omega (arith, c.loop-line.invariant.bound, c.in-Some.ensures.shorter);
    }

pub returns-then-not-is_whole-clause-fault : goal.returns-then-not-is_whole-clause-fault
returns-then-not-is_whole-clause-fault c =
    read_missing c.values_are_reported.ensures c.args.net.now c.args.source.now (progress_of c.loop-line.draft) c.loop-line.number (lines_of c.loop-line.rest.now) c.loop-line.invariant.read c.in_default.ensures.lines (sym c.is_whole.ensures ∙ c.if-not-is_whole.true)

pub returns-clause-tables : goal.returns-clause-tables
returns-clause-tables c =
    rw c.from_vec.ensures
    (read_all c.values_are_reported.ensures c.args.net.now c.args.source.now (progress_of c.loop-line.draft) c.loop-line.number (lines_of c.loop-line.rest.now) c.loop-line.invariant.read c.in_default.ensures.lines (sym c.is_whole.ensures ∙ c.if-not-is_whole.false))
