use Rattle.std.proofs.Common.{sym, subst}
use Rattle.metacli.specs.Answers.{pure_answer}
use Rattle.metacli.specs.Outcome.{Shows}
use Rattle.metacli.specs.Texts.{HandsOn}
use Rattle.metacli.specs.Views.{pure_outcome}
use Rattle.metacli.proofs.top.run_meta.Goals as goal

pub returns : goal.returns
returns g c =
    let now = g.K.Sink.holds c.write-written.new.out in
    let after = g.K.Sink.holds c.hand_on-answer.new.out in
    let before = pure_answer c.write-written.result in
    let o = pure_outcome c.decide-command.result.1 in
    record {
      outcome = o;
      shows = subst (λ asked. Shows c.ended.result asked o) c.decide-command.ensures.command c.ended.ensures.shows;
      comes_to = c.decide-command.ensures.comes_to;
      written = record {
        now = now;
        before = before;
        written = c.write-written.ensures;
        handed_on = subst (λ answer. HandsOn now before after (pure_answer answer)) (sym c.ended.ensures.answer) c.hand_on-answer.ensures;
      };
    }
