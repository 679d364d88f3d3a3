use Rattle.std.proofs.Common.{◌≡◌, ℕ, length, refl, arith}
use Rattle.std.proofs.lemmas.Option.{slice_get_read}
use Rattle.path_vector.specs.Node.{PureUpdate}
use Rattle.vector_block.specs.declared.report.Report.{Report}
use Rattle.vector_block.specs.Stores.{update_of}
use Rattle.vector_block.proofs.Nexts.{mapped_at, turn_of}
use Rattle.vector_block.proofs.block.next_hearing.Goals as goal

pub bounds-clocks-listener : goal.bounds-clocks-listener
bounds-clocks-listener g c =
    let net = c.args._site.now.net.now in
    let store = c.args.store.now in
    let value = g.A.Algebra.sig_value c.args._site.now.algebra.now in
    let report = c.index-report.result.now in
    let there = slice_get_read store.reports.items (length store.reports.items) c.args.front report refl c.requires.some c.index-report.ensures in
    let said = mapped_at {Y = ℕ × PureUpdate} (λ (r : Report _). (r.node.0, update_of value store.paths r)) store.reports.items c.args.front report there in
    let listeners = c.of.result.now in
    let listener = c.index-of-passed.result in
    let passed = rw said at c.requires.passed in
    let count = (c.requires.listeners.each report.node.0 listeners c.of.ensures).count in
    let read = slice_get_read listeners (length listeners) c.args.passed listener refl (omega (arith, passed, count)) c.index-of-passed.is in
    let turn = turn_of (g.A.Algebra.stands_for c.args._site.now.algebra.now) net c.requires.net c.args.listeners.now c.requires.listeners report.node.0 c.args.passed listeners listener c.of.ensures read in
    omega (arith, turn.is_arc.tail_in, turn.is_neighbour.node, c.requires.clocks)

pub overflow_cast-result : goal.overflow_cast-result
overflow_cast-result g c = omega (arith, c.requires.few)

pub returns : goal.returns
returns g c =
    let net = c.args._site.now.net.now in
    let store = c.args.store.now in
    let value = g.A.Algebra.sig_value c.args._site.now.algebra.now in
    let report = c.index-report.result.now in
    let there = slice_get_read store.reports.items (length store.reports.items) c.args.front report refl c.requires.some c.index-report.ensures in
    let said = mapped_at {Y = ℕ × PureUpdate} (λ (r : Report _). (r.node.0, update_of value store.paths r)) store.reports.items c.args.front report there in
    let listeners = c.of.result.now in
    let listener = c.index-of-passed.result in
    let passed = rw said at c.requires.passed in
    let count = (c.requires.listeners.each report.node.0 listeners c.of.ensures).count in
    let read = slice_get_read listeners (length listeners) c.args.passed listener refl (omega (arith, passed, count)) c.index-of-passed.is in
    let turn = turn_of (g.A.Algebra.stands_for c.args._site.now.algebra.now) net c.requires.net c.args.listeners.now c.requires.listeners report.node.0 c.args.passed listeners listener c.of.ensures read in (
      turn.arc,
      turn.is_neighbour.label,
      record {
        speaker = report.node.0;
        update = update_of value store.paths report;
        there = said;
        turn = turn.turn;
        report = refl;
        dest = refl;
        arc = turn.is_neighbour.arc;
        node = turn.is_neighbour.node;
        by_speaker = refl;
        clock = λ l. let node : listener.node.0 ≡ turn.arc.tail = turn.is_neighbour.node in
            let last = rw node at c.max-last.ensures in
            omega (arith, l, last, c.saturating_add.ensures);
      },
    )
