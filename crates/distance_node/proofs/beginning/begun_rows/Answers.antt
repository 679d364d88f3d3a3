use Rattle.std.proofs.Common.{◌≡◌, ◌+◌, length, map, sym, ap, subst, ◌∙◌, arith}
use Rattle.std.specs.Prelude.{option_map}
use Rattle.std.specs.List.{range_with_len}
use Rattle.distance_node.specs.Beginning.{AreBegun}
use Rattle.distance_node.specs.Node.{all_begun}
use Rattle.distance_node.specs.Vectors.{noted}
use Rattle.distance_node.proofs.Beginnings.{dests_few, own_row, own_small, rows_next, reported_next, reported_none, reported_some}
use Rattle.distance_node.proofs.Pushing.{entry_or}
use Rattle.distance_node.proofs.Taking.{some_holds}
use Rattle.distance_node.proofs.beginning.begun_rows.Goals as goal
use Rattle.distance_node.proofs.beginning.begun_rows.Goals.{then-is_some+in_ok-tell, else-is_some}

pub own_offer-requires : goal.own_offer-requires
own_offer-requires g c =
    let k = c.loop-place.place in
    some_holds _ _ (λ s e. c.requires.placed.own_sigs k s (entry_or c.args.site.now.own.now k c.index-site-place.result c.loop-place-test.true ∙ e))

pub overflow_cast-dest : goal.overflow_cast-dest
overflow_cast-dest g c =
    let few = dests_few c.args.site.now.net.now c.requires.placed.is_net in
    let count = c.requires.placed.own_count in
    let inside = c.loop-place-test.true in
    omega (arith, few, count, inside)

pub tell-requires-clause-small : goal.tell-requires-clause-small
tell-requires-clause-small g c =
    let A = g.A.Algebra in
    let at = c.args.site.now in
    let s = at.algebra.now in
    let k = c.loop-place.place in
    let entry = entry_or c.args.site.now.own.now k c.index-site-place.result c.loop-place-test.true in
    let hop = own_row (A.is_sig s) (A.sig_value s) at.net.now at.node.0 k c.in_ok-row.row (c.in_ok-row.ensures.value ∙ (ap (option_map (A.sig_value s)) (sym entry) ∙ c.requires.placed.own_values k)) c.in_ok-row.ensures.place in
    own_small (A.is_sig s) (A.sig_value s) at.net.now at.node.0 c.requires.placed.is_net k c.in_ok-row.row hop

pub loop-place-preserved : goal.loop-place-preserved
loop-place-preserved g c =
    let A = g.A.Algebra in
    let at = c.args.site.now in
    let s = at.algebra.now in
    let net = at.net.now in
    let i = at.node.0 in
    let k = c.loop-place.place in
    let row = c.in_ok-row.row in
    let entry = entry_or c.args.site.now.own.now k c.index-site-place.result c.loop-place-test.true in
    let hop = own_row (A.is_sig s) (A.sig_value s) net i k row (c.in_ok-row.ensures.value ∙ (ap (option_map (A.sig_value s)) (sym entry) ∙ c.requires.placed.own_values k)) c.in_ok-row.ensures.place in
    record {
      rows = subst (AreBegun (A.is_sig s) (A.sig_value s) net i (k + 1)) (sym c.in_ok-push.ensures.items)
          (rows_next (A.is_sig s) (A.sig_value s) net i k c.loop-place.rows.items row c.loop-place.invariant.rows c.in_ok-row.ensures.sig c.in_ok-row.ensures.place hop);
      reported = elim c.if-is_some.branch [
        | then-is_some+in_ok-tell w ↦ reported_next net i k (map noted c.loop-place.out.items) (map noted c.if-is_some.out.items) c.loop-place.invariant.reported
            (reported_some (A.is_sig s) (A.sig_value s) net i k row (map noted c.loop-place.out.items) (map noted c.if-is_some.out.items) hop (sym c.is_some.ensures ∙ w.if-is_some.true) (ap (λ o. map noted o.items) w.out-is ∙ w.in_ok-tell.ensures))
        | else-is_some w ↦ reported_next net i k (map noted c.loop-place.out.items) (map noted c.if-is_some.out.items) c.loop-place.invariant.reported
            (reported_none (A.is_sig s) (A.sig_value s) net i k row (map noted c.loop-place.out.items) (map noted c.if-is_some.out.items) hop (sym c.is_some.ensures ∙ w.if-is_some.false) (ap (λ o. map noted o.items) w.out-is))
      ];
    }

pub returns-clause-reported : goal.returns-clause-reported
returns-clause-reported g c =
    let at = c.args.site.now in
    let whole : c.loop-place.place ≡ length c.args.site.now.own.now = (let few = c.loop-place-test.false in let more = c.loop-place.auto.place-end in omega (arith, few, more)) in
    ap (map noted) c.from_vec.ensures ∙ (c.loop-place.invariant.reported ∙ ap (λ z. all_begun at.net.now at.node.0 (range_with_len 0 z)) whole)
