use Rattle.std.proofs.Common.{◌≡◌, ◌<◌, length, not, vec_len, ap, sym, subst, ◌∙◌, arith}
use Rattle.std.specs.List.{AllByRecursion}
use Rattle.net_graph.specs.ArcLaws.{all_at}
use Rattle.net_graph.specs.Views.{pure_arc}
use Rattle.arc_labels.specs.Places.{arc_label_small}
use Rattle.arc_labels.proofs.Filling.{all_made, none_count, none_made, one_kept, one_made, some_place}
use Rattle.arc_labels.proofs.forms.forms_of.Goals as goal
use Rattle.arc_labels.proofs.forms.forms_of.Goals.{then-is_none+in_ok-lab_of+in-Some-1, then-is_none+in_ok-lab_of+in-None-1, else-is_none}

pub loop-arc-init : goal.loop-arc-init
loop-arc-init g c =
    let forms = c.in_ok-forms.forms in
    let count : vec_len forms ≡ c.count.result = let e = none_count forms.items c.count.result c.in_ok-forms.ensures in omega (arith, e, forms.ok.0) in
    record {
      made = rw c.in_ok-forms.ensures (none_made (g.A.Algebra.stands_for c.args.algebra.now) c.args.net.now c.args.numbers.now c.count.result c.requires.numbers);
      places = subst (λ x. AllByRecursion (λ n. n < x) c.args.numbers.now) (sym count) c.count.ensures;
    }

pub index-requires : goal.index-requires
index-requires g c = all_at (λ n. n < vec_len c.loop-arc.forms) c.args.numbers.now c.loop-arc.arc c.of-number.result c.loop-arc.invariant.places c.of-number.ensures

pub index_mut-requires : goal.index_mut-requires
index_mut-requires g c = all_at (λ n. n < vec_len c.loop-arc.forms) c.args.numbers.now c.loop-arc.arc c.of-number.result c.loop-arc.invariant.places c.of-number.ensures

pub lab_of-requires-clause-small : goal.lab_of-requires-clause-small
lab_of-requires-clause-small g c = arc_label_small c.args.net.now c.arc_count-arc-end.ensures.net c.loop-arc.arc (pure_arc c.arc.result) c.arc.ensures.arc

pub loop-arc-preserved : goal.loop-arc-preserved
loop-arc-preserved g c =
    let stands_for = g.A.Algebra.stands_for c.args.algebra.now in
    let net = c.args.net.now in
    let numbers = c.args.numbers.now in
    let k = c.loop-arc.arc in
    let n = c.of-number.result in
    let forms = c.loop-arc.forms in
    let made = c.loop-arc.invariant.made in
    let places = c.loop-arc.invariant.places in
    let within : n < length forms.items = let h = all_at (λ x. x < vec_len forms) numbers k n places c.of-number.ensures in omega (arith, h, forms.ok.0) in
    elim c.if-is_none.branch [
      | then-is_none+in_ok-lab_of+in-Some-1 w ↦ record {
        made = rw w.forms-is (one_made stands_for net numbers k n forms.items w.in_ok-lab_of.field-0 (pure_arc w.arc.result) made c.of-number.ensures w.arc.ensures.arc within w.in_ok-lab_of.ensures);
        places = rw w.forms-is places;
      }
      | then-is_none+in_ok-lab_of+in-None-1 w ↦ record {
        made = rw w.forms-is (one_made stands_for net numbers k n forms.items w.in_ok-lab_of.field-0 (pure_arc w.arc.result) made c.of-number.ensures w.arc.ensures.arc within w.in_ok-lab_of.ensures);
        places = rw w.forms-is places;
      }
      | else-is_none w ↦ record {
        made = rw w.forms-is (one_kept stands_for net numbers k n forms.items made c.of-number.ensures (some_place forms.items n c.index.result.now within c.index.ensures (c.is_none.ensures ∙ ap not w.if-is_none.false)));
        places = rw w.forms-is places;
      }
    ]

pub returns : goal.returns
returns g c = all_made (g.A.Algebra.stands_for c.args.algebra.now) c.args.net.now c.args.numbers.now c.loop-arc.arc c.loop-arc.forms.items
    (omega (arith, c.loop-arc-test.false, c.arc_count-arc-end.ensures.count)) c.loop-arc.invariant.made
