use Rattle.std.proofs.Common.{◌≡◌, length, map, sym, ap, ◌∙◌}
use Rattle.std.specs.Prelude.{option_map}
use Rattle.std.specs.List.{range_with_len}
use Rattle.path_vector.specs.Known.{entry_of, known_route}
use Rattle.path_vector.specs.State.{row_routes}
use Rattle.path_vector.specs.Updates.{noted}
use Rattle.path_vector.proofs.Beginnings.{some_holds}
use Rattle.path_vector.proofs.Choices.{entry_is}
use Rattle.path_vector.proofs.Keepings.{nothing_told, told_next}
use Rattle.path_vector.proofs.keeping.news_of_kept.Goals as goal

pub returns-then-spoke_on_all : goal.returns-then-spoke_on_all
returns-then-spoke_on_all g c =
    let value = g.A.Algebra.sig_value c.args.site.now.algebra.now in
    let rows = c.args.rows.now in
    ap (map noted) c.new-out.ensures ∙ nothing_told c.args.site.now.net.now (option_map (λ n. n.now) c.args.before) c.args.site.now.node.0 (row_routes value rows) (range_with_len 0 (length rows)) (c.spoke_on_all.ensures.0 c.if-spoke_on_all.true)

pub report_kept-requires-clause-row : goal.report_kept-requires-clause-row
report_kept-requires-clause-row g c =
    let rows = c.args.rows.now in
    let place = c.loop-place.place in
    some_holds _ c.index-rows-place.result (λ k e. c.requires.sigs place k (entry_is rows place c.index-rows-place.result c.loop-place-test.true c.index-rows-place.is ∙ e))

pub loop-place-preserved : goal.loop-place-preserved
loop-place-preserved g c =
    let value = g.A.Algebra.sig_value c.args.site.now.algebra.now in
    let rows = c.args.rows.now in
    let place = c.loop-place.place in
    let entry : entry_of rows place ≡ c.index-rows-place.result = entry_is rows place c.index-rows-place.result c.loop-place-test.true c.index-rows-place.is in
    told_next c.args.site.now.net.now (option_map (λ n. n.now) c.args.before) c.args.site.now.node.0 (row_routes value rows) place (option_map (known_route value) c.index-rows-place.result) _ _
    (ap (option_map (known_route value)) (sym entry)) c.loop-place.invariant c.in_ok-report_kept.ensures
