use Rattle.std.proofs.Common.{◌≡◌, ◌<◌, Some, length, get_or, true, ap, sym, ◌∙◌, arith}
use Rattle.std.proofs.lemmas.List.{get_or_default}
use Rattle.std.specs.Str.{bytes_eq}
use Rattle.raml_syntax.specs.Syntax.{MapSyntax}
use Rattle.raml_syntax.proofs.DistinctNames.{map_found}
use Rattle.raml_syntax.proofs.maps.map_of.Goals as goal

pub returns-then-is_same : goal.returns-then-is_same
returns-then-is_same c =
    let maps = c.args.maps.now in
    let place = c.args.place in
    let tried : MapSyntax = c.index-maps-place.result in
    let found : MapSyntax = c.index-maps-place-then-is_same.result in
    let within : place < length maps = omega (arith, c.if-place-maps.true) in
    let same : get_or maps place found ≡ tried = get_or_default maps place found tried within ∙ sym c.index-maps-place.is in
    let named : bytes_eq (get_or maps place found).source c.args.name.now ≡ true =
    ap (λ (m : MapSyntax). bytes_eq m.source c.args.name.now) same ∙ ap (λ w. bytes_eq w c.args.name.now) (sym c.source.ensures) ∙ sym c.if-is_same.ensures in
    ap (λ (m : MapSyntax). Some m) c.index-maps-place-then-is_same.is ∙ map_found maps place c.args.name.now found c.requires within named
