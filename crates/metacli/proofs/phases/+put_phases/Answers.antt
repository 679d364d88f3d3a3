use Rattle.std.proofs.Common.{◌≡◌, ◌∷◌, ◌++◌, ◌+◌, map, true}
use Rattle.vector_runs.specs.Runs.{pure_phase}
use Rattle.metacli.specs.Texts.{PutsText, phase_lines, run_text}
use Rattle.metacli.proofs.Written.{lines_begin, lines_more, put_last}
use Rattle.metacli.proofs.phases.+put_phases.Goals as goal

pub returns : goal.returns
returns g t c =
    let ran = c.args.ran.now in
    let run = ran.run in
    let net = c.args.net.now in
    let next = c.in-Some-split_first.next.now in
    let later = c.in-Some-split_first.later.now in
    let phase = c.in-Some.phase.now in
    let rest = c.in-Some.rest.now in
    let first = phase_lines ran.is_traced net c.args.number (pure_phase phase) true in
    let more = run_text ran.is_traced next later (c.args.number + 1) (map pure_phase rest) (pure_phase run.last) run.is_quiet in
    let whole : PutsText (g.K.Sink.holds c.args.out.now) (first ++ more) c.put_phases.result (g.K.Sink.holds c.put_phases.new.out) =
    put_last _ _ _ (first ++ more) more c.put_phases.result (lines_more _ _ _ (first ++ more) first more (lines_begin (g.K.Sink.holds c.args.out.now) (first ++ more)) c.in_ok-put_phase.ensures) c.put_phases.ensures in
    let e : c.args.past.now ≡ phase ∷ rest = c.in-Some.ensures.cases.0 in
    let f : c.args.changed.now ≡ next ∷ later = c.in-Some-split_first.ensures.cases.0 in
    rw (e, f) whole
