use Rattle.std.proofs.Common.{◌≡◌, ◌+◌, true, not, length}
use Rattle.std.specs.List.{list_all}
use Rattle.std.proofs.lemmas.Bool.{eqb-true}
use Rattle.meta_base.specs.Bytes.{is_line_feed}
use Rattle.raml_lex.proofs.Sources.{IsCursor-line, IsCursor-lines, none_from}
use Rattle.raml_lex.proofs.gap.after_bytes.Goals as goal

pub returns-in-Some-clause-cursor : goal.returns-in-Some-clause-cursor
returns-in-Some-clause-cursor c =
    let bytes = c.args.bytes.now in
    let found = c.in-Some.ensures in
    rw (c.from.ensures, c.line_feeds.ensures) (IsCursor-lines c.args.source.now c.args.here bytes c.in-Some.last c.requires.cursor c.requires.bytes c.requires.within
    found.0.high (eqb-true _ 10 found.1) (none_from bytes (c.in-Some.last + 1) (λ k l m e. found.0.after k l m e)))

pub returns-in-None-clause-cursor : goal.returns-in-None-clause-cursor
returns-in-None-clause-cursor c =
    let bytes = c.args.bytes.now in
    let line : list_all (λ b. not (is_line_feed b)) bytes ≡ true = none_from bytes 0 (λ k l m e. c.in-None.ensures k l m e) in
    rw c.after.ensures (IsCursor-line c.args.source.now c.args.here (length bytes) c.requires.cursor c.requires.within (rw c.requires.bytes line))
