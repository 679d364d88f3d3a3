use Rattle.std.proofs.Common.{◌≡◌, map, subst, sym, ◌∙◌}
use Rattle.std.specs.List.{AllByRecursion}
use Rattle.net_graph.specs.Changes.{AreChanges}
use Rattle.net_graph.specs.Nets.{IsNet}
use Rattle.net_graph.specs.Views.{pure_change}
use Rattle.vector_runs.specs.Runs.{AreLater, pure_phase}
use Rattle.metacli.specs.After.{nets_after}
use Rattle.metacli.proofs.NetsAfter.{nets_are, nets_are_later}
use Rattle.metacli.proofs.running.run_through.Goals as goal

pub run_on-requires-clause-changed : goal.run_on-requires-clause-changed
run_on-requires-clause-changed g c _ _ =
    let net = c.args.file.now.net in
    let changes = map pure_change c.as_slice.result.now in
    subst (AreLater net) (sym (c.as_slice-2.ensures ∙ (c.from_vec-changed.ensures ∙ c.in_ok-networks_after.ensures))) (nets_are_later net changes)

pub returns-in-Ok-clause-run : goal.returns-in-Ok-clause-run
returns-in-Ok-clause-run g c =
    let net = c.args.file.now.net in
    let nets = c.from_vec-changed.result in
    let changes = map pure_change c.as_slice.result.now in
    let run = c.in-Ok.run' in
    let past = map pure_phase run.past in
    let last = pure_phase run.last in
    let is : nets ≡ nets_after net changes = c.from_vec-changed.ensures ∙ c.in_ok-networks_after.ensures in
    let may : AreChanges net changes = rw (← c.as_slice.ensures) at c.requires.changes in
    let all : AllByRecursion IsNet nets = subst (AllByRecursion IsNet) (sym is) (nets_are net changes c.run_on.ensures.net may) in
    let later : AreLater net nets = subst (AreLater net) (sym is) (nets_are_later net changes) in
    let is_run = rw c.as_slice-2.ensures at c.in-Ok.ensures.run in
    record {
      is_net = c.run_on.ensures.net;
      is_run = is_run;
      stable = c.quiet_phases_are_stable.ensures net nets c.args.turns past last run.is_quiet c.run_on.ensures.net all later is_run;
      rests = record {
        most = λ m. c.runs_are_short.ensures net nets c.args.turns past last run.is_quiet c.run_on.ensures.net all later m is_run;
        ends = λ m enough. c.enough_turns_are_quiet.ensures net nets c.args.turns past last run.is_quiet c.run_on.ensures.net all later m is_run enough;
      };
      of_networks = c.phases_are_of_networks.ensures net nets c.args.turns past last run.is_quiet c.run_on.ensures.net all later is_run;
    }
