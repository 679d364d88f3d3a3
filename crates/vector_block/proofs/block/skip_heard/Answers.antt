use Rattle.std.proofs.Common.{◌≤◌, ◌+◌, ℕ, length, drop, map, refl, sym, ap, ◌∙◌, arith}
use Rattle.std.proofs.lemmas.List.{length-map}
use Rattle.std.proofs.lemmas.Option.{slice_get_past, slice_get_read}
use Rattle.net_graph.specs.Nets.{arcs_to}
use Rattle.path_vector.specs.Node.{PureUpdate}
use Rattle.vector_block.specs.Blocks.{waiting}
use Rattle.vector_block.specs.declared.report.Report.{Report}
use Rattle.vector_block.specs.Stores.{update_of}
use Rattle.vector_block.proofs.Nexts.{drop_at, mapped_at, past_first}
use Rattle.vector_block.proofs.block.skip_heard.Goals as goal

pub loop-front-init : goal.loop-front-init
loop-front-init g c = refl

pub of-requires : goal.of-requires
of-requires g c =
    let store = c.args.store.now in
    let report = c.index.result.now in
    let there = slice_get_read store.reports.items (length store.reports.items) c.loop-front.front report refl (omega (arith, c.loop-front-test.true, c.len.ensures)) c.index.ensures in
    omega (arith, (c.requires.stored.reports c.loop-front.front report there).node, c.requires.listeners.count)

pub returns-then-passed-of-clause-same : goal.returns-then-passed-of-clause-same
returns-then-passed-of-clause-same g c = c.loop-front.invariant

pub returns-then-passed-of-clause-found : goal.returns-then-passed-of-clause-found
returns-then-passed-of-clause-found g c =
    let store = c.args.store.now in
    let value = g.A.Algebra.sig_value c.args._site.now.algebra.now in
    let report = c.index.result.now in
    let there = slice_get_read store.reports.items (length store.reports.items) c.loop-front.front report refl (omega (arith, c.loop-front-test.true, c.len.ensures)) c.index.ensures in
    let said = mapped_at {Y = ℕ × PureUpdate} (λ (r : Report _). (r.node.0, update_of value store.paths r)) store.reports.items c.loop-front.front report there in
    rw said (omega (arith, c.if-passed-of.true, (c.requires.listeners.each report.node.0 c.of.result.now c.of.ensures).count))

pub loop-front-smaller : goal.loop-front-smaller
loop-front-smaller g c = omega (arith, c.loop-front-test.true, c.len.ensures)

pub loop-front-preserved : goal.loop-front-preserved
loop-front-preserved g c =
    let store = c.args.store.now in
    let net = c.args._site.now.net.now in
    let value = g.A.Algebra.sig_value c.args._site.now.algebra.now in
    let report = c.index.result.now in
    let front = c.loop-front.front in
    let there = slice_get_read store.reports.items (length store.reports.items) front report refl (omega (arith, c.loop-front-test.true, c.len.ensures)) c.index.ensures in
    let entry : Report _ → ℕ × PureUpdate = λ r. (r.node.0, update_of value store.paths r) in
    let reports = map entry store.reports.items in
    let said = mapped_at {Y = ℕ × PureUpdate} entry store.reports.items front report there in
    let past : length (arcs_to net report.node.0) ≤ c.loop-front.passed = omega (arith, c.if-passed-of.false, (c.requires.listeners.each report.node.0 c.of.result.now c.of.ensures).count) in
    past_first net c.loop-front.passed (entry report) (drop (front + 1) reports) past
    ∙ (ap (waiting net c.loop-front.passed) (sym (drop_at reports front (entry report) said)) ∙ c.loop-front.invariant)

pub returns-clause-found : goal.returns-clause-found
returns-clause-found g c =
    let store = c.args.store.now in
    let value = g.A.Algebra.sig_value c.args._site.now.algebra.now in
    let entry : Report _ → ℕ × PureUpdate = λ r. (r.node.0, update_of value store.paths r) in
    let count = length-map store.reports.items entry in
    let none = slice_get_past (map entry store.reports.items) c.loop-front.front (omega (arith, c.loop-front-test.false, c.len.ensures, count)) in
    rw none tt
