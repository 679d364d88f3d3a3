use Rattle.std.proofs.Common.{ap, ◌∙◌}
use Rattle.alg_model.specs.Names.{place_of}
use Rattle.raml_syntax.proofs.Words.{image_none, image_some}
use Rattle.raml_syntax.proofs.maps.image_place.Goals as goal

pub returns-in_err-map : goal.returns-in_err-map
returns-in_err-map c = c.from_residual.ensures ∙ image_none c.args.names.now c.args.maps.now c.args.name.now c.in_err-map.ensures

pub returns : goal.returns
returns c =
    c.place_from.ensures ∙ ap (λ t. place_of c.args.names.now t) c.target.ensures
    ∙ image_some c.args.names.now c.args.maps.now c.in_ok-map.map.now c.args.name.now c.in_ok-map.ensures
