use Rattle.std.proofs.Common.{◌≡◌, map, take}
use Rattle.raml_syntax.specs.Meaning.{image_place}
use Rattle.raml_syntax.proofs.maps.images.Given as goal

abbrev pub invariant-loop-name : goal.invariant-loop-name
invariant-loop-name l = l.images ≡ map (image_place l.names l.maps) (take l.name-index l.names)
