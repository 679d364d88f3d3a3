use Rattle.std.proofs.Common.{◌≡◌, true, length, take}
use Rattle.raml_syntax.specs.Leaves.{IsReady}
use Rattle.raml_syntax.specs.Maps.{MoreMaps, Maps, sources}
use Rattle.raml_syntax.proofs.Tested.{Leads}
use Rattle.raml_syntax.proofs.maps.read_maps.Given as goal

abbrev pub invariant-loop-maps : goal.invariant-loop-maps
invariant-loop-maps l = record {
  ready : IsReady l.tokens;
  next : l.in_order ≡ true → sources l.maps ≡ take (length l.maps) l.names;
  maps : Leads (Maps l.names) l.fn.tokens (MoreMaps l.names l.maps) l.tokens;
}

abbrev pub decreases-loop-maps : goal.decreases-loop-maps
decreases-loop-maps l = length l.tokens.rest
