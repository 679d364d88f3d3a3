use Rattle.std.proofs.Common.{◌≡◌, ◌+◌, ◌-◌, ◌∙◌, None, Some, refl, sym, subst, length, vec_len, arith}
use Rattle.quiet_ledger.specs.declared.totals.Totals.{Totals}
use Rattle.node_core.specs.Machine.{Drained, front_clock}
use Rattle.node_core.specs.Running.{IsRunning}
use Rattle.weave.specs.Gathered.{machine_across, view_at, AreGathered}
use Rattle.weave.specs.Rounds.{IsRound}
use Rattle.weave.proofs.Ending.{come_early, come_on, come_one, come_small, come_waits}
use Rattle.weave.proofs.at_once.run_rounds.Goals as goal

pub run_round-requires-clause-base : goal.run_round-requires-clause-base
run_round-requires-clause-base g c _ _ =
    let k = g.N.NodeCore in
    let began = c.requires.begun in
    come_small k.kind c.keeps_laws.ensures c.args.net.now c.requires.net (vec_len c.args.blocks) c.args.budget.turns began.0 (view_at k.state k.note c.args.blocks.items) c.args.totals began.3 began.1 c.requires.turns began.2

pub loop-totals-init : goal.loop-totals-init
loop-totals-init g c =
    let k = g.N.NodeCore in
    let n = vec_len c.args.blocks in
    let round = c.in_ok-blocks.ensures.round in
    record {
      count = c.in_ok-blocks.ensures.count;
      come = λ machine running few first.
          let most = first.gone.few in
          come_on k.kind c.keeps_laws.ensures c.args.net.now c.requires.net n c.args.budget.turns machine (view_at k.state k.note c.args.blocks.items) (view_at k.state k.note c.in_ok-blocks.blocks.items) c.args.totals c.in_ok-blocks.totals
          (c.args.budget.turns - c.args.totals.taken) first (omega (arith, most)) round;
    }

pub unreachable-requires : goal.unreachable-requires
unreachable-requires g c =
    let k = g.N.NodeCore in
    let net = c.args.net.now in
    let n = vec_len c.args.blocks in
    let view = view_at k.state k.note in
    let blocks = c.loop-totals.blocks in
    let totals = c.loop-totals.totals in
    let began = c.requires.begun in
    let come = c.loop-totals.invariant.come began.0 began.1 began.2 began.3 in
    let len : length blocks.items ≡ n = sym blocks.ok.0 ∙ c.loop-totals.invariant.count in
    let is : c.first_waiting-in-loop-totals.result ≡ None = c.in_default.is in
    let none = rw is at c.first_waiting-in-loop-totals.ensures.none in
    let here = subst (λ xs. Drained (machine_across net (length xs) (view xs))) c.deref-in-loop-totals.ensures.value none in
    come_waits k.kind c.keeps_laws.ensures net c.requires.net n c.args.budget.turns began.0 (view blocks.items) totals come
    (λ d history w. c.histories_count.ensures net began.0 d history c.requires.net w) c.if-totals-2.false
    (subst (λ m. Drained (machine_across net m (view blocks.items))) len here)

pub deliver_between-requires-clause-early : goal.deliver_between-requires-clause-early
deliver_between-requires-clause-early g c _ _ t front =
    let k = g.N.NodeCore in
    let net = c.args.net.now in
    let n = vec_len c.args.blocks in
    let view = view_at k.state k.note in
    let blocks = c.loop-totals.blocks in
    let totals = c.loop-totals.totals in
    let began = c.requires.begun in
    let come = c.loop-totals.invariant.come began.0 began.1 began.2 began.3 in
    let a = c.in-Some.arc.0 in
    come_early k.kind c.keeps_laws.ensures net c.requires.net n c.args.budget.turns began.0 (view blocks.items) totals come began.1 began.4 c.requires.turns c.if-totals-turns-2.false a t
    (subst (λ m. front_clock k.kind net (machine_across net m (view blocks.items)) a ≡ Some t) c.loop-totals.invariant.count front)

pub overflow_add-totals : goal.overflow_add-totals
overflow_add-totals g c =
    let k = g.N.NodeCore in
    let net = c.args.net.now in
    let n = vec_len c.args.blocks in
    let view = view_at k.state k.note in
    let blocks = c.loop-totals.blocks in
    let totals = c.loop-totals.totals in
    let began = c.requires.begun in
    let come = c.loop-totals.invariant.come began.0 began.1 began.2 began.3 in
    let small = (come_small k.kind c.keeps_laws.ensures net c.requires.net n c.args.budget.turns began.0 (view blocks.items) totals come began.1 c.requires.turns began.2).0 in
    let few = c.in_ok-sent.ensures.few in
    omega (arith, small, few)

pub run_round-requires-in-loop-totals-clause-gathered : goal.run_round-requires-in-loop-totals-clause-gathered
run_round-requires-in-loop-totals-clause-gathered g c _ _ =
    let k = g.N.NodeCore in
    let net = c.args.net.now in
    let n = vec_len c.args.blocks in
    let view = view_at k.state k.note in
    let blocks = c.loop-totals.blocks in
    let totals = c.loop-totals.totals in
    let began = c.requires.begun in
    let come = c.loop-totals.invariant.come began.0 began.1 began.2 began.3 in
    let after : Totals = record { sent = totals.sent + c.in_ok-sent.sent; taken = totals.taken + 1 } in
    let made = c.deliver_between.new.blocks in
    let next = come_one k.kind c.keeps_laws.ensures net c.requires.net n c.args.budget.turns began.0 (view blocks.items) (view made.items) totals after c.in_ok-sent.sent (vec_len blocks) c.loop-totals.invariant.count
    come c.if-totals-turns-2.false c.in_ok-sent.ensures.made refl refl in
    subst (λ m. AreGathered net m (view made.items)) (sym (c.deliver_between.ensures.count ∙ c.loop-totals.invariant.count)) next.gathered

pub run_round-requires-in-loop-totals-clause-running : goal.run_round-requires-in-loop-totals-clause-running
run_round-requires-in-loop-totals-clause-running g c _ _ =
    let k = g.N.NodeCore in
    let net = c.args.net.now in
    let n = vec_len c.args.blocks in
    let view = view_at k.state k.note in
    let blocks = c.loop-totals.blocks in
    let totals = c.loop-totals.totals in
    let began = c.requires.begun in
    let come = c.loop-totals.invariant.come began.0 began.1 began.2 began.3 in
    let after : Totals = record { sent = totals.sent + c.in_ok-sent.sent; taken = totals.taken + 1 } in
    let made = c.deliver_between.new.blocks in
    let next = come_one k.kind c.keeps_laws.ensures net c.requires.net n c.args.budget.turns began.0 (view blocks.items) (view made.items) totals after c.in_ok-sent.sent (vec_len blocks) c.loop-totals.invariant.count
    come c.if-totals-turns-2.false c.in_ok-sent.ensures.made refl refl in
    subst (λ m. IsRunning k.kind net (machine_across net m (view made.items))) (sym (c.deliver_between.ensures.count ∙ c.loop-totals.invariant.count)) next.gone.running

pub run_round-requires-in-loop-totals-clause-base : goal.run_round-requires-in-loop-totals-clause-base
run_round-requires-in-loop-totals-clause-base g c _ _ =
    let k = g.N.NodeCore in
    let net = c.args.net.now in
    let n = vec_len c.args.blocks in
    let view = view_at k.state k.note in
    let blocks = c.loop-totals.blocks in
    let totals = c.loop-totals.totals in
    let began = c.requires.begun in
    let come = c.loop-totals.invariant.come began.0 began.1 began.2 began.3 in
    let after : Totals = record { sent = totals.sent + c.in_ok-sent.sent; taken = totals.taken + 1 } in
    let made = c.deliver_between.new.blocks in
    let next = come_one k.kind c.keeps_laws.ensures net c.requires.net n c.args.budget.turns began.0 (view blocks.items) (view made.items) totals after c.in_ok-sent.sent (vec_len blocks) c.loop-totals.invariant.count
    come c.if-totals-turns-2.false c.in_ok-sent.ensures.made refl refl in
    come_small k.kind c.keeps_laws.ensures net c.requires.net n c.args.budget.turns began.0 (view made.items) after next began.1 c.requires.turns began.2

pub loop-totals-preserved : goal.loop-totals-preserved
loop-totals-preserved g c =
    let k = g.N.NodeCore in
    let lawful = c.keeps_laws.ensures in
    let net = c.args.net.now in
    let n = vec_len c.args.blocks in
    let view = view_at k.state k.note in
    let blocks = c.loop-totals.blocks in
    let totals = c.loop-totals.totals in
    let after : Totals = record { sent = totals.sent + c.in_ok-sent.sent; taken = totals.taken + 1 } in
    let made = c.deliver_between.new.blocks in
    let last = c.in_ok-blocks-2.field-0-0 in
    let left = c.args.budget.turns - after.taken in
    let count = c.deliver_between.ensures.count ∙ c.loop-totals.invariant.count in
    record {
      count = c.in_ok-blocks-2.ensures.count ∙ count;
      come = λ machine running few first.
          let come = c.loop-totals.invariant.come machine running few first in
          let next = come_one k.kind lawful net c.requires.net n c.args.budget.turns machine (view blocks.items) (view made.items) totals after c.in_ok-sent.sent (vec_len blocks) c.loop-totals.invariant.count
          come c.if-totals-turns-2.false c.in_ok-sent.ensures.made refl refl in
          let most = next.gone.few in
          come_on k.kind lawful net c.requires.net n c.args.budget.turns machine (view made.items) (view last.items) after c.in_ok-blocks-2.field-0-1 left next (omega (arith, most))
          (subst (λ m. IsRound k.kind net m left (view made.items) (view last.items) after c.in_ok-blocks-2.field-0-1) count c.in_ok-blocks-2.ensures.round);
    }
