-- What outcomes and results of the program stand for.
use Rattle.std.specs.Prelude.{◌≡◌, map, Option, Some, None, option_map, Result, Ok, Err}
use Rattle.net_graph.specs.Views.{pure_row, rows_of}
use Rattle.distance_node.specs.Rows.{pure_hop_row}
use Rattle.report_check.specs.Views.{pure_hops, pure_judgement}
use Rattle.net_graph.specs.Nets.{PureNet}
use Rattle.topology_file.specs.declared.network.NetFile.{NetFile}
use Rattle.topology_file.specs.Views.{pure_file}
use Rattle.property_infer.specs.Views.{pure_verdict, pure_verdicts}
use Rattle.alg_classes.specs.Instances.{pure_instance, pure_property}
use Rattle.topology_file.specs.NetText.{changed_net}
use Rattle.metacli.specs.After.{last_of, nets_after}
use Rattle.report_text.specs.Refusals.{PureRefusal, misses}
use Rattle.vector_runs.specs.Runs.{pure_phase}
use Rattle.word_tables.specs.Rows.{pure_word_rows, HasWordsOn}
use Rattle.metacli.specs.Rows.{pure_rows}
use Rattle.metacli.specs.Answers.{pure_answer, pure_stop}
use Rattle.metacli.specs.Texts.{IsPrintable}
use Rattle.metacli.specs.Outcome.{PureOutcome, stopped, checked, coded, routed, hopped, judged, wedged, ran, flooded, exchanged, shown, algebra_in, answer_in, file_in, gadget_in, hops_in, journal_in, judgement_in, listing_in, many_in, past_in, report_in, rows_in, verdicts_in}
use Rattle.metacli.specs.declared.outcome.Stop.{Stop}
use Rattle.metacli.specs.declared.outcome.Made.{Made}
use Rattle.metacli.specs.declared.outcome.Parts.{Parts}
use Rattle.metacli.specs.declared.outcome.Outcome.{Outcome}
use Rattle.metacli.specs.declared.outcome.Outcome.TheVariants as outcome

abbrev pub pure_outcome : Outcome → PureOutcome
pure_outcome (outcome.Stopped a f r) = stopped a (option_map pure_file f) (pure_stop r)
pure_outcome (outcome.Unfit it) = stopped (Some it.alg) (Some (pure_file it.file)) (misses it.missing.arc.0 (pure_instance it.missing.instance))
pure_outcome (outcome.Checked it) = checked it.alg (option_map pure_file it.file) (pure_verdicts it.verdicts) (option_map pure_property it.unmet)
pure_outcome (outcome.Coded it) = coded it.alg (option_map pure_file it.file) it.listing
pure_outcome (outcome.Routed it) = routed it.solution it.alg (pure_file it.file) (pure_word_rows it.rows)
pure_outcome (outcome.Hopped it) = hopped it.alg (pure_file it.file) (map pure_hops it.many)
pure_outcome (outcome.Judged it) = judged it.alg (pure_file it.file) (map rows_of it.tables) (pure_judgement it.judgement)
pure_outcome (outcome.Wedged it) = wedged it.alg (pure_verdict it.verdict)
pure_outcome (outcome.Ran it) = ran it.alg (pure_file it.file) it.is_traced (map pure_phase it.run.past) (pure_phase it.run.last) it.run.is_quiet
pure_outcome (outcome.Flooded it) = flooded it.alg (pure_file it.file) (map pure_row it.run.rows) it.run.journal it.run.is_quiet
pure_outcome (outcome.Exchanged it) = exchanged it.alg (pure_file it.file) (map pure_hop_row it.run.hops) it.run.journal it.run.is_quiet
pure_outcome (outcome.Shown it) = shown it.alg (pure_file it.file) (pure_phase it.last)

-- what was made is what the outcome says: a field that it says nothing of is empty
pub record IsMadeIn (made : Made) (o : PureOutcome) : Type 0 where
  pub verdicts : option_map pure_verdicts made.verdicts ≡ verdicts_in o
  pub listing : made.listing ≡ listing_in o
  pub gadget : option_map pure_verdict made.gadget ≡ gadget_in o
  pub report : option_map (map rows_of) made.report ≡ report_in o
  pub judgement : option_map pure_judgement made.judgement ≡ judgement_in o
  pub many : map pure_hops made.many ≡ many_in o
  pub rows : pure_rows made.rows ≡ rows_in o
  pub hops : map pure_hop_row made.hops ≡ hops_in o
  pub journal : made.journal ≡ journal_in o
  pub past : map pure_phase made.past ≡ past_in o

-- what was read, what was made of it and the answer are what the outcome says
pub record AreParts (p : Parts) (o : PureOutcome) : Type 0 where
  pub alg : p.alg ≡ algebra_in o
  pub file : option_map pure_file p.file ≡ file_in o
  pub made : IsMadeIn p.made o
  pub decided : pure_answer p.decided ≡ answer_in o

-- the network whose labels were compiled, if there is one, is that of the file after its changes
abbrev pub IsListedOn : Option NetFile → Option PureNet → Type 0
IsListedOn None after = Unit {0}
IsListedOn (Some f) after = last_of after f.net ≡ changed_net (pure_file f)

-- the network of an arc that doesn't have a property is that of the file after its changes; those of the phases after
-- the first are those after the first change, the first two, and so on; and the words of routes are of the network
abbrev pub IsAfter : Outcome → Type 0
IsAfter (outcome.Unfit it) = last_of it.after it.file.net ≡ changed_net (pure_file it.file)
IsAfter (outcome.Judged it) = last_of it.after it.file.net ≡ changed_net (pure_file it.file)
IsAfter (outcome.Coded it) = IsListedOn it.file it.after
IsAfter (outcome.Routed it) = HasWordsOn it.file.net it.rows
IsAfter (outcome.Ran it) = it.changed ≡ nets_after it.file.net (pure_file it.file).changes
IsAfter _ = Unit {0}

-- the text of the outcome can be made
pub record CanBeWritten (o : Outcome) : Type 0 where
  pub printable : IsPrintable (pure_outcome o)
  pub after : IsAfter o

-- what was read, or why it wasn't
abbrev pub as_read : {R S : Type 0} → (R → S) → Result R Stop → Result S PureRefusal
as_read f (Ok r) = Ok (f r)
as_read f (Err stop) = Err (pure_stop stop)
