use Rattle.std.proofs.Common.{map, arith, sym, ◌∙◌}
use Rattle.alg_classes.specs.Instances.{pure_property}
use Rattle.net_graph.specs.Views.{pure_arc}
use Rattle.net_facts.specs.MarkLaws.{held_more, none_held}
use Rattle.net_facts.specs.Misses.{HasAll}
use Rattle.net_facts.proofs.Found.{all_pass, marked_passes, one_passes}
use Rattle.net_facts.proofs.missing.first_missed.Goals as goal
use Rattle.net_facts.proofs.missing.first_missed.Goals.{then-not-has+in_default, else-not-has}

pub loop-arc-init : goal.loop-arc-init
loop-arc-init c =
    let net = c.args.net.now in
    let P = HasAll (map pure_property c.args.properties.now) net.alg.expression in
    record {
      before = λ m less x at. absurd (omega (arith, less));
      passed = none_held P net c.label_numbers-numbers.result c.new-passed.result c.count.result c.label_numbers-numbers.ensures c.new-passed.ensures;
    }

pub of-number-requires : goal.of-number-requires
of-number-requires c = omega (arith, c.loop-arc-test.true, c.arc_count-arc-end.ensures.count, c.label_numbers-numbers.ensures.count)

pub returns-in-Some : goal.returns-in-Some
returns-in-Some c = record {
  arc = pure_arc c.arc.result;
  stands = record { at = c.arc.ensures.arc; before = c.loop-arc.invariant.before };
  earliest = rw c.alg.ensures.alg at c.in-Some.ensures;
}

pub loop-arc-preserved : goal.loop-arc-preserved
loop-arc-preserved c = elim c.if-not-has.branch [
  | then-not-has+in_default w ↦
      let net = c.args.net.now in
      let properties = map pure_property c.args.properties.now in
      let passes = rw w.alg.ensures.alg at w.in_default.ensures in
      record {
        before = one_passes properties net c.loop-arc.arc (pure_arc w.arc.result) w.arc.ensures.arc passes c.loop-arc.invariant.before;
        passed = rw (w.passed-is, w.mark.ensures) (held_more (HasAll properties net.alg.expression) net c.label_numbers-numbers.result c.loop-arc.passed c.loop-arc.arc c.of-number.result
            (pure_arc w.arc.result) c.loop-arc.invariant.passed c.of-number.ensures w.arc.ensures.arc passes);
      }
  | else-not-has w ↦
      let net = c.args.net.now in
      let properties = map pure_property c.args.properties.now in
      record {
        before = marked_passes properties net c.loop-arc.arc c.of-number.result c.label_numbers-numbers.result c.loop-arc.passed c.loop-arc.invariant.passed
            c.of-number.ensures (sym c.has.ensures ∙ w.if-not-has.false) c.loop-arc.invariant.before;
        passed = rw w.passed-is c.loop-arc.invariant.passed;
      }
]

pub returns : goal.returns
returns c = all_pass (map pure_property c.args.properties.now) c.args.net.now c.loop-arc.arc
    (omega (arith, c.loop-arc-test.false, c.arc_count-arc-end.ensures.count)) c.loop-arc.invariant.before
