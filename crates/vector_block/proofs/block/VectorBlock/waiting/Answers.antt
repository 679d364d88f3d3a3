use Rattle.std.proofs.Common.{◌≡◌, ℕ, ◌+◌, ◌-◌, ◌≤◌, length, map, drop, refl, sym, ap, subst, ◌∙◌, arith, drop_of_length-le}
use Rattle.std.proofs.lemmas.List.{length-map}
use Rattle.std.proofs.lemmas.Option.{slice_get_read}
use Rattle.net_graph.specs.Nets.{arcs_to}
use Rattle.path_vector.specs.Node.{PureUpdate}
use Rattle.journal_merge.specs.Timing.{tagged_of}
use Rattle.woven_laws.specs.Counts.{waiting_on}
use Rattle.vector_block.specs.Blocks.{PureBlock, machine_of, waiting}
use Rattle.vector_block.specs.Stores.{pure_store, update_of}
use Rattle.vector_block.specs.declared.report.Report.{Report}
use Rattle.vector_block.proofs.Counting.{one_report, waiting_count}
use Rattle.vector_block.proofs.Nexts.{drop_at, mapped_at}
use Rattle.vector_block.proofs.Views.{machine_view}
use Rattle.vector_block.proofs.block.VectorBlock.waiting.Goals as goal

pub loop-place-preserved : goal.loop-place-preserved
loop-place-preserved g c =
    let self = c.self.inside in
    let net = self.site.net.now in
    let store = self.store in
    let value = g.A.Algebra.sig_value self.site.algebra.now in
    let report = c.index.result.now in
    let place = c.loop-place.place in
    let there = slice_get_read store.reports.items (length store.reports.items) place report refl (omega (arith, c.loop-place-test.true, c.loop-place.auto.place-end, c.len-place-end.ensures)) c.index.ensures in
    let entry : Report _ → ℕ × PureUpdate = λ r. (r.node.0, update_of value store.paths r) in
    let reports = map entry store.reports.items in
    let said = drop_at reports place (entry report) (mapped_at {Y = ℕ × PureUpdate} entry store.reports.items place report there) in
    let split = ap (λ ps. length (waiting net c.loop-place.passed ps)) said ∙ one_report net c.loop-place.passed (entry report) (drop (place + 1) reports) in
    let count = (c.self.invariant.listeners_are.each report.node.0 c.of-listeners.result.now c.of-listeners.ensures).count in
    let heard : length c.of-listeners.result.now - c.loop-place.passed ≡ length (arcs_to net report.node.0) - c.loop-place.passed = ap (λ k. k - c.loop-place.passed) count in
    omega (arith, c.loop-place.invariant, split, heard, c.saturating_sub.ensures, c.in-Some.ensures)

pub returns : goal.returns
returns g c =
    let self = c.self.inside in
    let net = self.site.net.now in
    let store = self.store in
    let value = g.A.Algebra.sig_value self.site.algebra.now in
    let entry : Report _ → ℕ × PureUpdate = λ r. (r.node.0, update_of value store.paths r) in
    let reports = map entry store.reports.items in
    let past : length reports ≤ c.loop-place.place = let long = length-map store.reports.items entry in omega (arith, long, c.loop-place-test.false, c.loop-place.auto.place-end, c.len-place-end.ensures) in
    let none = ap (λ ps. length (waiting net c.loop-place.passed ps)) (drop_of_length-le reports {i = c.loop-place.place} past) in
    let counted : c.loop-place.waiting ≡ length (waiting net self.passed (drop self.front reports)) = omega (arith, c.loop-place.invariant, none) in
    let of_block = waiting_count net c.self.invariant.is_net (pure_store value store) self.clocks.items self.front self.passed in
    let view = machine_view value net store self.clocks.items (map tagged_of self.log.items) self.front self.passed in
    subst (λ (z : PureBlock). c.loop-place.waiting ≡ waiting_on z.net (machine_of z)) c.self.view_is
    (counted ∙ (sym of_block ∙ sym (ap (waiting_on net) view)))
