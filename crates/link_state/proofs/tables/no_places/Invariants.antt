use Rattle.std.proofs.Common.{◌≡◌, vec_len}
use Rattle.link_state.proofs.tables.no_places.Given as goal

abbrev pub invariant-loop-made : goal.invariant-loop-made
invariant-loop-made g l = vec_len l.places ≡ l._made
