use Rattle.std.proofs.Common.{◌≡◌, length, Some, refl, sym, ap, ◌∙◌, arith}
use Rattle.std.specs.Prelude.{option_map}
use Rattle.std.specs.Vec.{with_item}
use Rattle.vector_block.specs.declared.report.Report.{Report}
use Rattle.vector_block.specs.declared.store.Store.{Store}
use Rattle.vector_block.specs.Stores.{PureStore, IsReport, chosen_route, pure_store, with_report}
use Rattle.vector_block.proofs.Stores.{HasKept, after_refusal, column_read, kept_none, kept_some, same_paths, store_more, store_still, stored_more, stored_still}
use Rattle.vector_block.proofs.store.report.Goals as goal
use Rattle.vector_block.proofs.store.report.Goals.{in-Some+in_ok-kept-in-Some, in-None}

pub returns-in_err-push-clause-stored : goal.returns-in_err-push-clause-stored
returns-in_err-push-clause-stored g c =
    let A = g.A.Algebra in
    let is_sig = A.is_sig c.args.site.now.algebra.now in
    let value = A.sig_value c.args.site.now.algebra.now in
    let net = c.args.site.now.net.now in
    let old = c.args.store.now in
    let node = c.args.node.0 in
    let s = c.match-choice-2.store in
    let route = c.match-choice-2.route in
    let kept : HasKept is_sig net value old s node c.args.choice route = elim c.match-choice-2.branch [
      | in-Some+in_ok-kept-in-Some w ↦ kept_some is_sig net value old s node c.args.choice route w.kept.new.store w.in-Some.choice w.in_ok-kept-in-Some.field-0 w.in-Some.is w.route-is w.store-is
          w.in_ok-kept-in-Some.ensures.stored w.in_ok-kept-in-Some.ensures.same w.in_ok-kept-in-Some.ensures.reports w.in_ok-kept-in-Some.ensures.kept w.in_ok-kept-in-Some.ensures.route
      | in-None w ↦ kept_none is_sig net value old s node c.args.choice route w.in-None.is w.route-is w.store-is c.requires.stored
    ] in
    let new : Store _ = record { reports = c.push.new.self; paths = s.paths; columns = s.columns } in
    stored_still is_sig net s new kept.stored (same_paths s.paths s.paths refl) c.in_err-push.ensures.items refl

pub returns-in_err-push-clause-err : goal.returns-in_err-push-clause-err
returns-in_err-push-clause-err g c =
    let A = g.A.Algebra in
    let is_sig = A.is_sig c.args.site.now.algebra.now in
    let value = A.sig_value c.args.site.now.algebra.now in
    let net = c.args.site.now.net.now in
    let old = c.args.store.now in
    let node = c.args.node.0 in
    let s = c.match-choice-2.store in
    let route = c.match-choice-2.route in
    let kept : HasKept is_sig net value old s node c.args.choice route = elim c.match-choice-2.branch [
      | in-Some+in_ok-kept-in-Some w ↦ kept_some is_sig net value old s node c.args.choice route w.kept.new.store w.in-Some.choice w.in_ok-kept-in-Some.field-0 w.in-Some.is w.route-is w.store-is
          w.in_ok-kept-in-Some.ensures.stored w.in_ok-kept-in-Some.ensures.same w.in_ok-kept-in-Some.ensures.reports w.in_ok-kept-in-Some.ensures.kept w.in_ok-kept-in-Some.ensures.route
      | in-None w ↦ kept_none is_sig net value old s node c.args.choice route w.in-None.is w.route-is w.store-is c.requires.stored
    ] in
    let new : Store _ = record { reports = c.push.new.self; paths = s.paths; columns = s.columns } in
    let stays = store_still is_sig net s new kept.stored (same_paths s.paths s.paths refl) c.in_err-push.ensures.items refl value in
    after_refusal c.from_residual-in_err-push.result (stays ∙ kept.same)

pub index_mut-requires-2 : goal.index_mut-requires-2
index_mut-requires-2 g c =
    let A = g.A.Algebra in
    let is_sig = A.is_sig c.args.site.now.algebra.now in
    let value = A.sig_value c.args.site.now.algebra.now in
    let net = c.args.site.now.net.now in
    let old = c.args.store.now in
    let node = c.args.node.0 in
    let s = c.match-choice-2.store in
    let route = c.match-choice-2.route in
    let kept : HasKept is_sig net value old s node c.args.choice route = elim c.match-choice-2.branch [
      | in-Some+in_ok-kept-in-Some w ↦ kept_some is_sig net value old s node c.args.choice route w.kept.new.store w.in-Some.choice w.in_ok-kept-in-Some.field-0 w.in-Some.is w.route-is w.store-is
          w.in_ok-kept-in-Some.ensures.stored w.in_ok-kept-in-Some.ensures.same w.in_ok-kept-in-Some.ensures.reports w.in_ok-kept-in-Some.ensures.kept w.in_ok-kept-in-Some.ensures.route
      | in-None w ↦ kept_none is_sig net value old s node c.args.choice route w.in-None.is w.route-is w.store-is c.requires.stored
    ] in
    let column = c.index_mut.result.now in
    let at = column_read s.columns.items c.args.dest.0 column (omega (arith, kept.stored.count, c.requires.dest)) c.index_mut.ensures.value in
    let within = (kept.stored.columns c.args.dest.0 column at).row_count in
    omega (arith, within, c.requires.node)

pub returns-clause-stored : goal.returns-clause-stored
returns-clause-stored g c =
    let A = g.A.Algebra in
    let is_sig = A.is_sig c.args.site.now.algebra.now in
    let value = A.sig_value c.args.site.now.algebra.now in
    let net = c.args.site.now.net.now in
    let old = c.args.store.now in
    let node = c.args.node.0 in
    let s = c.match-choice-2.store in
    let route = c.match-choice-2.route in
    let kept : HasKept is_sig net value old s node c.args.choice route = elim c.match-choice-2.branch [
      | in-Some+in_ok-kept-in-Some w ↦ kept_some is_sig net value old s node c.args.choice route w.kept.new.store w.in-Some.choice w.in_ok-kept-in-Some.field-0 w.in-Some.is w.route-is w.store-is
          w.in_ok-kept-in-Some.ensures.stored w.in_ok-kept-in-Some.ensures.same w.in_ok-kept-in-Some.ensures.reports w.in_ok-kept-in-Some.ensures.kept w.in_ok-kept-in-Some.ensures.route
      | in-None w ↦ kept_none is_sig net value old s node c.args.choice route w.in-None.is w.route-is w.store-is c.requires.stored
    ] in
    let column = c.index_mut.result.now in
    let at = column_read s.columns.items c.args.dest.0 column (omega (arith, kept.stored.count, c.requires.dest)) c.index_mut.ensures.value in
    let r : Report _ = record { node = c.args.node; dest = c.args.dest; stamp = c.args.stamp; route = route } in
    let is_report : IsReport is_sig net s.paths r = record { node = c.requires.node; dest = c.requires.dest; route = kept.kept } in
    let id = c.in_ok-id.id in
    let count = ap (λ rs. length rs.items) (sym kept.reports) in
    let number : id.0 ≡ length s.reports.items = omega (arith, c.in_ok-id.ensures, c.len.ensures, count) in
    let new : Store _ = record { reports = c.push.new.self; paths = s.paths; columns = with_item s.columns c.args.dest.0 (record { heard = column.heard; rows = with_item column.rows node (Some id) }) } in
    stored_more is_sig net s new kept.stored r is_report id column number at refl c.in_ok-push.ensures.items refl

pub returns-clause-ok : goal.returns-clause-ok
returns-clause-ok g c =
    let A = g.A.Algebra in
    let is_sig = A.is_sig c.args.site.now.algebra.now in
    let value = A.sig_value c.args.site.now.algebra.now in
    let net = c.args.site.now.net.now in
    let old = c.args.store.now in
    let node = c.args.node.0 in
    let s = c.match-choice-2.store in
    let route = c.match-choice-2.route in
    let kept : HasKept is_sig net value old s node c.args.choice route = elim c.match-choice-2.branch [
      | in-Some+in_ok-kept-in-Some w ↦ kept_some is_sig net value old s node c.args.choice route w.kept.new.store w.in-Some.choice w.in_ok-kept-in-Some.field-0 w.in-Some.is w.route-is w.store-is
          w.in_ok-kept-in-Some.ensures.stored w.in_ok-kept-in-Some.ensures.same w.in_ok-kept-in-Some.ensures.reports w.in_ok-kept-in-Some.ensures.kept w.in_ok-kept-in-Some.ensures.route
      | in-None w ↦ kept_none is_sig net value old s node c.args.choice route w.in-None.is w.route-is w.store-is c.requires.stored
    ] in
    let column = c.index_mut.result.now in
    let at = column_read s.columns.items c.args.dest.0 column (omega (arith, kept.stored.count, c.requires.dest)) c.index_mut.ensures.value in
    let r : Report _ = record { node = c.args.node; dest = c.args.dest; stamp = c.args.stamp; route = route } in
    let is_report : IsReport is_sig net s.paths r = record { node = c.requires.node; dest = c.requires.dest; route = kept.kept } in
    let id = c.in_ok-id.id in
    let count = ap (λ rs. length rs.items) (sym kept.reports) in
    let number : id.0 ≡ length s.reports.items = omega (arith, c.in_ok-id.ensures, c.len.ensures, count) in
    let new : Store _ = record { reports = c.push.new.self; paths = s.paths; columns = with_item s.columns c.args.dest.0 (record { heard = column.heard; rows = with_item column.rows node (Some id) }) } in
    store_more is_sig net s new kept.stored r is_report id column number at refl c.in_ok-push.ensures.items refl value
    ∙ (ap (λ o. with_report (pure_store value s) node (record { dest = c.args.dest.0; route = o; stamp = c.args.stamp })) kept.route_is
    ∙ ap (λ (t : PureStore). with_report t node (record { dest = c.args.dest.0; route = option_map (chosen_route value old.paths node) c.args.choice; stamp = c.args.stamp })) kept.same)
