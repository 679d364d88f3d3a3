use Rattle.std.proofs.Common.{map, ap, ◌∙◌}
use Rattle.std.proofs.lemmas.Result.{err_from_is_err_and}
use Rattle.raml_syntax.specs.Differing.{differ}
use Rattle.raml_syntax.specs.Maps.{sources}
use Rattle.raml_syntax.specs.Meaning.{image_place}
use Rattle.raml_syntax.specs.Rows.{row_names}
use Rattle.raml_syntax.proofs.DistinctNames.{maps_differ}
use Rattle.raml_syntax.proofs.RowReading.{row_no_name, row_no_colon, row_no_maps, row_read}
use Rattle.raml_syntax.proofs.table.read_row.Goals as goal

pub returns-in_err-name-clause-row : goal.returns-in_err-name-clause-row
returns-in_err-name-clause-row c =
    let p = err_from_is_err_and c.from_residual.result c.from_residual.ensures.1 in
    rw (p.1, p.2) (row_no_name c.args.names.now (row_names c.args.rows.now) c.args.tokens.now c.read_row_name.new.tokens c.in_err-name.field-0.0 c.in_err-name.ensures.name)

pub returns-in_err-take_mark-clause-row : goal.returns-in_err-take_mark-clause-row
returns-in_err-take_mark-clause-row c =
    let p = err_from_is_err_and c.from_residual-in_err-take_mark.result c.from_residual-in_err-take_mark.ensures.1 in
    rw (p.1, p.2)
    (row_no_colon c.args.names.now (row_names c.args.rows.now) c.args.tokens.now c.read_row_name.new.tokens c.take_mark.new.tokens c.in_ok-name.name c.in_err-take_mark.field-0.0
    c.in_ok-name.ensures.name c.in_err-take_mark.ensures.fault)

pub returns-in_err-maps-clause-row : goal.returns-in_err-maps-clause-row
returns-in_err-maps-clause-row c =
    let p = err_from_is_err_and c.from_residual-in_err-maps.result c.from_residual-in_err-maps.ensures.1 in
    rw (p.1, p.2)
    (row_no_maps c.args.names.now (row_names c.args.rows.now) c.args.tokens.now c.read_row_name.new.tokens c.take_mark.new.tokens c.read_maps.new.tokens c.in_ok-name.name c.in_err-maps.field-0.0
    c.in_ok-name.ensures.name c.in_ok-take_mark.ensures.mark c.in_err-maps.ensures.maps)

pub returns-clause-row : goal.returns-clause-row
returns-clause-row c =
    let names = c.args.names.now in
    row_read names (row_names c.args.rows.now) c.args.tokens.now c.read_row_name.new.tokens c.take_mark.new.tokens c.read_maps.new.tokens c.in_ok-name.name c.in_ok-maps.maps c.in_ok-maps.after
    c.in_ok-images.images (c.in_ok-images.ensures ∙ ap (λ ms. map (image_place names ms) names) c.as_slice.ensures)
    c.in_ok-name.ensures.name c.in_ok-take_mark.ensures.mark c.in_ok-maps.ensures.maps

pub images-requires-clause-sources : goal.images-requires-clause-sources
images-requires-clause-sources c =
    let read = c.in_ok-maps.ensures.maps in
    ap (λ ms. differ (sources ms)) c.as_slice.ensures ∙ maps_differ c.args.names.now (c.in_ok-maps.maps, c.in_ok-maps.after) read.0 read.1
