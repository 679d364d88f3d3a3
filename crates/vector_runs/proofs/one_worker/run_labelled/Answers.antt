use Rattle.std.proofs.Common.{◌≡◌, [], map, refl, subst, sym}
use Rattle.std.specs.Prelude.{◌==◌}
use Rattle.journal_merge.specs.Merging.{IsJournalOf, NodesAscend}
use Rattle.net_graph.specs.Nets.{IsNet}
use Rattle.net_graph.specs.Views.{pure_row}
use Rattle.vector_block.specs.Blocks.{machine_of}
use Rattle.vector_runs.specs.Runs.{IsRun}
use Rattle.vector_runs.proofs.Alone.{first_early, first_few, first_machine, first_runs, has_begun, is_run, nodes_ascend}
use Rattle.vector_runs.proofs.one_worker.run_labelled.Goals as goal

pub run_in_turn-requires-clause-begun : goal.run_in_turn-requires-clause-begun
run_in_turn-requires-clause-begun g c _ _ =
    let b = c.in_ok-block.block in
    let is = c.in_ok-block.ensures in
    let n = subst IsNet (sym is.net) c.keeps_rules.ensures in
    let machine = subst (λ z. machine_of b ≡ first_machine z) (sym is.net) is.machine in
    (first_machine b.net, first_runs b.net n, first_few b.net n, first_early b.net, has_begun b.net n c.args.turns b (record { sent = c.in_ok-sent.sent; taken = 0 }) refl machine is.logs c.in_ok-sent.ensures refl)

pub from_entries-journal-requires : goal.from_entries-journal-requires
from_entries-journal-requires g c =
    let b = c.in_ok-block.block in
    let is = c.in_ok-block.ensures in
    let n = subst IsNet (sym is.net) c.keeps_rules.ensures in
    let machine = subst (λ z. machine_of b ≡ first_machine z) (sym is.net) is.machine in
    let begun = has_begun b.net n c.args.turns b (record { sent = c.in_ok-sent.sent; taken = 0 }) refl machine is.logs c.in_ok-sent.ensures refl in
    let ends = c.in_ok-totals.ensures in
    let gone = ends.gone (first_machine b.net) (first_runs b.net n) (first_few b.net n) (first_early b.net) begun in
    subst NodesAscend (sym c.into_log.ensures.log) (nodes_ascend b.net n c.args.turns c.run_in_turn.new.nodes c.run_in_turn.ensures.net c.in_ok-totals.totals gone ends.over)

pub returns : goal.returns
returns g c =
    let b = c.in_ok-block.block in
    let is = c.in_ok-block.ensures in
    let n = subst IsNet (sym is.net) c.keeps_rules.ensures in
    let machine = subst (λ z. machine_of b ≡ first_machine z) (sym is.net) is.machine in
    let begun = has_begun b.net n c.args.turns b (record { sent = c.in_ok-sent.sent; taken = 0 }) refl machine is.logs c.in_ok-sent.ensures refl in
    let ends = c.in_ok-totals.ensures in
    let gone = ends.gone (first_machine b.net) (first_runs b.net n) (first_few b.net n) (first_early b.net) begun in
    let run = is_run b.net n c.args.turns c.run_in_turn.new.nodes c.run_in_turn.ensures.net c.in_ok-totals.totals gone ends.over c.into_log.ensures.nodes c.from_entries-journal.result (subst (λ z. IsJournalOf z c.from_entries-journal.result) c.into_log.ensures.log c.from_entries-journal.ensures) (map pure_row c.in_ok-rows.rows) c.in_ok-rows.ensures in
    let here = subst (λ z. IsRun z [] c.args.turns [] (record { rows = map pure_row c.in_ok-rows.rows; journal = c.from_entries-journal.result }) (c.in_ok-totals.totals.sent == c.in_ok-totals.totals.taken)) is.net run in
    rw c.new.ensures here
