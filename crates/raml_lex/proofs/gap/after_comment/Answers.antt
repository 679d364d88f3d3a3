use Rattle.std.proofs.Common.{drop}
use Rattle.raml_lex.specs.Gaps.{IsLine}
use Rattle.raml_lex.proofs.Gaps.{over_comment}
use Rattle.raml_lex.proofs.Sources.{IsCursor-line, all_in_line}
use Rattle.raml_lex.proofs.gap.after_comment.Goals as goal

pub returns-clause-cursor : goal.returns-clause-cursor
returns-clause-cursor c =
    let source = c.args.source.now in
    let here = c.args.here in
    let line : IsLine (drop here.at source) c.line_len.result = rw c.split_at.ensures.back at c.line_len.ensures in
    rw c.after.ensures (IsCursor-line source here c.line_len.result c.requires.cursor line.within (all_in_line (drop here.at source) c.line_len.result line.in_line))

pub returns-clause-gap : goal.returns-clause-gap
returns-clause-gap c =
    let line : IsLine (drop c.args.here.at c.args.source.now) c.line_len.result = rw c.split_at.ensures.back at c.line_len.ensures in
    rw c.after.ensures (over_comment c.args.source.now c.args.here.at c.line_len.result c.requires.within c.requires.mark line).1.gap

pub returns-clause-after : goal.returns-clause-after
returns-clause-after c =
    let line : IsLine (drop c.args.here.at c.args.source.now) c.line_len.result = rw c.split_at.ensures.back at c.line_len.ensures in
    rw c.after.ensures (over_comment c.args.source.now c.args.here.at c.line_len.result c.requires.within c.requires.mark line).1.left
