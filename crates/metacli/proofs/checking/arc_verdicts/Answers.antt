use Rattle.std.proofs.Common.{[], ◌∷◌, ◌++◌, sym, ◌∙◌, subst, arith, take}
use Rattle.std.specs.List.{Contains}
use Rattle.std.proofs.lemmas.Result.{IfOk-weaker}
use Rattle.net_graph.specs.Views.{pure_arc}
use Rattle.property_infer.specs.Labels.{CoversLabels}
use Rattle.property_infer.specs.LabelLaws.{covers_none}
use Rattle.property_infer.specs.Reported.{AreReported}
use Rattle.property_infer.specs.ReportedLaws.{reported_bounded, reported_of_labels}
use Rattle.property_infer.specs.Views.{pure_verdicts}
use Rattle.metacli.specs.Outcome.{labels_on}
use Rattle.net_facts.specs.MarkLaws.{none_held}
use Rattle.metacli.proofs.Arcs.{added_already, added_more, all_labels}
use Rattle.metacli.proofs.checking.arc_verdicts.Goals as goal
use Rattle.metacli.proofs.checking.arc_verdicts.Goals.{then-not-has+in_ok-add_label, else-not-has}

pub loop-arc-init : goal.loop-arc-init
loop-arc-init c =
    let net = c.args.net.now in
    record {
      covers = rw c.new-labels.ensures (covers_none net.alg);
      marked = none_held (Contains []) net c.label_numbers-numbers.result c.new-added.result c.count.result c.label_numbers-numbers.ensures c.new-added.ensures;
    }

pub of-number-requires : goal.of-number-requires
of-number-requires c = omega (arith, c.loop-arc-test.true, c.arc_count-arc-end.ensures.count, c.label_numbers-numbers.ensures.count)

pub loop-arc-preserved : goal.loop-arc-preserved
loop-arc-preserved c = elim c.if-not-has.branch [
  | then-not-has+in_ok-add_label w ↦
      let net = c.args.net.now in
      let before = take c.loop-arc.arc (labels_on net) in
      let l = (pure_arc w.arc.result).label in
      let new = w.add_label.new.labels in
      rw (w.added-is, w.labels-is, w.mark.ensures) (added_more net c.loop-arc.arc c.of-number.result c.label_numbers-numbers.result c.loop-arc.added c.loop-arc.labels new
      (pure_arc w.arc.result) c.of-number.ensures w.arc.ensures.arc
      (λ covers. subst (λ a. CoversLabels a (before ++ l ∷ []) new) w.alg.ensures.alg
      (w.in_ok-add_label.ensures.covers before (subst (λ a. CoversLabels a before c.loop-arc.labels) (sym w.alg.ensures.alg) covers))) c.loop-arc.invariant)
  | else-not-has w ↦
      rw (w.added-is, w.labels-is) (added_already c.args.net.now c.loop-arc.arc c.of-number.result c.label_numbers-numbers.result c.loop-arc.added c.loop-arc.labels
      (omega (arith, c.loop-arc-test.true, c.arc_count-arc-end.ensures.count)) c.of-number.ensures (sym c.has.ensures ∙ w.if-not-has.false) c.loop-arc.invariant)
]

pub verdicts_of-requires : goal.verdicts_of-requires
verdicts_of-requires c = rw (c.as_slice.ensures, c.alg-2.ensures.alg) c.loop-arc.invariant.covers.each

pub returns : goal.returns
returns c =
    let net = c.args.net.now in
    let all = all_labels net c.loop-arc.arc (omega (arith, c.loop-arc-test.false, c.arc_count-arc-end.ensures.count)) in
    let covers = subst (λ labels. CoversLabels net.alg labels c.loop-arc.labels) all c.loop-arc.invariant.covers in
    IfOk-weaker c.verdicts_of.result _ _
    (λ v reported.
    let same : AreReported net.alg c.loop-arc.labels (pure_verdicts v) = rw (c.as_slice.ensures, c.alg-2.ensures.alg) at reported in record {
      exact = reported_of_labels net.alg (labels_on net) c.loop-arc.labels (pure_verdicts v) covers same;
      bound = reported_bounded net.alg c.loop-arc.labels (pure_verdicts v) same;
    })
    c.verdicts_of.ensures
