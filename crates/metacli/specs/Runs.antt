-- What a run does: what it promises of the files, of the end, and of what was written.
use Rattle.std.specs.Prelude.{ℕ, List, map}
use Rattle.std.specs.Result.{result_ok}
use Rattle.command_words.specs.Words.{Words}
use Rattle.meta_base.specs.Shelf.{Moment}
use Rattle.meta_base.specs.Sink.{Held}
use Rattle.net_graph.specs.Nets.{PureNet, IsNet}
use Rattle.vector_runs.specs.Runs.{AreOfNetworks, AreStable, IsRun, pure_phase}
use Rattle.vector_runs.specs.declared.run.PhasedRun.{PhasedRun}
use Rattle.metacli.specs.Answers.{pure_answer}
use Rattle.metacli.specs.Outcome.{PureOutcome, answer_in, ComesTo, ComesToRest, Shows}
use Rattle.metacli.specs.Texts.{TextOf, WrittenOut}
use Rattle.metacli.specs.declared.ended.Ended.{Ended}

-- The words come to an outcome, by what was read. It is what the end shows, it has its cause, and its text is
-- what was written.
pub record Runs (words : List (List ℕ)) (old new : Moment) (before after : Held) (e : Ended) : Type 0 where
  pub outcome : PureOutcome
  pub shows : Shows e (result_ok (Words words)) outcome
  pub comes_to : ComesTo words old new outcome
  pub written : WrittenOut before (TextOf outcome) after (answer_in outcome) (pure_answer e.answer)

-- a run through these networks: its quiet phases are stable, it comes to rest, and its rows and deliveries are of the
-- phases' networks
pub record IsRunThrough (net : PureNet) (nets : List PureNet) (turns : ℕ) (run : PhasedRun) : Type 0 where
  pub is_net : IsNet net
  pub is_run : IsRun net nets turns (map pure_phase run.past) (pure_phase run.last) run.is_quiet
  pub stable : AreStable net nets (map pure_phase run.past) (pure_phase run.last) run.is_quiet
  pub rests : ComesToRest net nets turns (map pure_phase run.past) (pure_phase run.last) run.is_quiet
  pub of_networks : AreOfNetworks net nets (map pure_phase run.past) (pure_phase run.last)
