use Rattle.std.proofs.Common.{◌<◌, ◌≤◌, ◌-◌, length}
use Rattle.alg_model.specs.declared.alg.TheConstants.{MAX_TABLE_NAMES}
use Rattle.raml_syntax.specs.Leaves.{IsReady}
use Rattle.raml_syntax.specs.Values.{MoreValues, Values}
use Rattle.raml_syntax.proofs.Tested.{Leads}
use Rattle.raml_syntax.proofs.values.read_values.Given as goal

abbrev pub invariant-loop-ranks : goal.invariant-loop-ranks
invariant-loop-ranks l = record {
  ready : IsReady l.tokens;
  rank : l.rank < length l.names;
  few : length l.names ≤ MAX_TABLE_NAMES;
  values : Leads Values l.fn.tokens (MoreValues (record { names = l.names; ranks = l.ranks }) l.rank) l.tokens;
}

abbrev pub decreases-loop-ranks : goal.decreases-loop-ranks
decreases-loop-ranks l = MAX_TABLE_NAMES - length l.names
