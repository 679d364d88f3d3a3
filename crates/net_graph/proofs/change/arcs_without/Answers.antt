use Rattle.std.proofs.Common.{◌∙◌, sym, arith}
use Rattle.net_graph.proofs.KeptLemmas.{one_kept, one_left_out}
use Rattle.net_graph.proofs.change.arcs_without.Goals.{then-not-is_between+in_ok-push, else-not-is_between}
use Rattle.net_graph.proofs.change.arcs_without.Goals as goal

pub loop-arc-preserved : goal.loop-arc-preserved
loop-arc-preserved c =
    let made = c.loop-arc.made in
    elim c.if-not-is_between.branch [
      | then-not-is_between+in_ok-push w ↦
          record {
            arcs = rw w.made-is (one_kept c.args.tail.0 c.args.head.0 w.len.result made.items w.push.new.self.items c.args.arcs.now c.loop-arc.arc-index _ c.loop-arc-test.true (sym w.if-not-is_between.ensures) w.in_ok-push.ensures.items (w.len.ensures ∙ made.ok.0) c.loop-arc.invariant.arcs);
            few = rw w.made-is (omega (arith, c.loop-arc.invariant.few, w.in_ok-push.ensures.len));
          }
      | else-not-is_between w ↦
          record {
            arcs = rw w.made-is (one_left_out c.args.tail.0 c.args.head.0 made.items c.args.arcs.now c.loop-arc.arc-index _ c.loop-arc-test.true (sym w.if-not-is_between.ensures) c.loop-arc.invariant.arcs);
            few = rw w.made-is (omega (arith, c.loop-arc.invariant.few));
          }
    ]
