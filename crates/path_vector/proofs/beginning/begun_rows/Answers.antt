use Rattle.std.proofs.Common.{◌≡◌, ◌+◌, ◌<◌, ◌++◌, map, Bool, not, cond, length, Option, Some, subst, sym, ap, ◌∙◌, arith}
use Rattle.std.specs.Prelude.{filter, is_some, option_map}
use Rattle.std.specs.List.{range_with_len}
use Rattle.net_graph.specs.Nets.{PureArc, arcs_to}
use Rattle.net_graph.specs.Routes.{PureRoute}
use Rattle.path_vector.specs.Known.{known_route, heard_by, entry_of}
use Rattle.path_vector.specs.Node.{PureUpdate, choice, same_row, reported_on, all_begun_updates}
use Rattle.path_vector.specs.State.{row_routes}
use Rattle.path_vector.specs.Updates.{noted, pure_shared, pure_update, spoken_in}
use Rattle.path_vector.proofs.Choices.{entry_is, none_outside}
use Rattle.path_vector.proofs.Beginnings.{some_holds, entry_outside, rows_are_all, pushed_count, pushed_holds, pushed_images, some_mapped, begun_next}
use Rattle.path_vector.proofs.beginning.begun_rows.Goals as goal

pub is_same_row-requires-clause-other : goal.is_same_row-requires-clause-other
is_same_row-requires-clause-other g c =
    let rows = c.args.rows.now in
    let place = c.loop-place.place in
    some_holds _ c.index-rows-place.result (λ k e. c.requires.kept.row_sigs place k (entry_is rows place c.index-rows-place.result c.loop-place-test.true c.index-rows-place.is ∙ e))

pub loop-place-preserved : goal.loop-place-preserved
loop-place-preserved g c =
    let A = g.A.Algebra in
    let value = A.sig_value c.args.site.now.algebra.now in
    let net = c.args.site.now.net.now in
    let rows = c.args.rows.now in
    let place = c.loop-place.place in
    let heard = heard_by value c.args.neighbours.now in
    let before = option_map (λ n. n.now) c.args.before in
    let old = c.loop-place.begun.items in
    let items = c.in_ok-push.ensures.items in
    let row : Option PureRoute = option_map (known_route value) c.in_ok-row.row in
    let update = c.in_ok-update.update in
    let entry : entry_of rows place ≡ c.index-rows-place.result = entry_is rows place c.index-rows-place.result c.loop-place-test.true c.index-rows-place.is in
    let other : not c.in_ok-is_same.is_same ≡ not (same_row row (row_routes value rows place)) = ap not (c.in_ok-is_same.ensures ∙ ap (λ z. same_row row (option_map (known_route value) z)) (sym entry)) in
    let there : is_some update.route ≡ is_some row = some_mapped pure_shared update.route ∙ ap (λ (u : PureUpdate). is_some u.route) c.in_ok-update.ensures in
    let reported_as = λ (t : Bool) (u : PureUpdate). map noted c.loop-place.out ++ reported_on (filter (λ (a : PureArc). cond (spoken_in before a.tail a.head) (not c.in_ok-is_same.is_same) t) (arcs_to net c.args.site.now.node.0)) u in
    record {
      count = ap length items ∙ pushed_count old c.in_ok-row.row ∙ ap (λ z. z + 1) c.loop-place.invariant.count;
      sigs = λ dest k e. pushed_holds _ old c.in_ok-row.row c.loop-place.invariant.sigs c.in_ok-row.ensures.sig dest k (subst (λ z. entry_of z dest ≡ Some k) items e);
      rows = λ dest l. subst (λ z. row_routes value z dest ≡ choice net dest c.args.site.now.node.0 heard) (sym items)
          (pushed_images (known_route value) old c.in_ok-row.row (λ d. choice net d c.args.site.now.node.0 heard) place c.loop-place.invariant.count c.loop-place.invariant.rows c.in_ok-row.ensures.choice dest l);
      reported = λ s is. begun_next net before c.args.site.now.node.0 heard (row_routes value rows) s is place row (not c.in_ok-is_same.is_same) _ _ c.in_ok-row.ensures.choice other
          (c.loop-place.invariant.reported s is) (c.in_ok-report_begun.ensures ∙ ap (λ t. reported_as t (pure_update update)) there ∙ ap (reported_as (is_some row)) c.in_ok-update.ensures);
    }

pub returns-clause-rows : goal.returns-clause-rows
returns-clause-rows g c =
    let A = g.A.Algebra in
    let s = c.args.site.now.algebra.now in
    let value = A.sig_value s in
    let net = c.args.site.now.net.now in
    let ns = c.args.neighbours.now in
    let begun = c.loop-place.begun.items in
    let all : c.loop-place.place ≡ length net.dests = let few = c.loop-place-test.false in let more = c.loop-place.auto.place-end in let count = c.requires.kept.row_count in omega arith in
    rows_are_all (row_routes value begun) (λ d. choice net d c.args.site.now.node.0 (heard_by value ns)) c.loop-place.place c.loop-place.invariant.rows
    (λ d out. ap (option_map (known_route value)) (entry_outside begun d (subst (λ z. ¬ (d < z)) (sym c.loop-place.invariant.count) out))
    ∙ sym (none_outside (A.stands_for s) (A.is_sig s) value net c.requires.net c.args.site.now.node.0 d ns c.requires.kept.neighbours (subst (λ z. ¬ (d < z)) all out)))

pub returns-clause-reported : goal.returns-clause-reported
returns-clause-reported g c = λ s e1 e2 e3 e4 e5.
    let all : c.loop-place.place ≡ length c.args.site.now.net.now.dests = let few = c.loop-place-test.false in let more = c.loop-place.auto.place-end in let count = c.requires.kept.row_count in omega arith in
    c.loop-place.invariant.reported s (record { net_is = e1; before_is = e2; number_is = e3; heard_is = e4; rows_are = e5 })
    ∙ ap (λ z. all_begun_updates s (range_with_len 0 z)) all
