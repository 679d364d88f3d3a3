use Rattle.std.proofs.Common.{[], ◌-◌, length}
use Rattle.alg_model.specs.declared.alg.TheConstants.{MAX_TABLE_NAMES}
use Rattle.raml_syntax.specs.Leaves.{IsReady}
use Rattle.raml_syntax.specs.Rows.{MoreRows}
use Rattle.raml_syntax.proofs.Tested.{Leads}
use Rattle.raml_syntax.proofs.table.read_rows.Given as goal

abbrev pub invariant-loop-rows : goal.invariant-loop-rows
invariant-loop-rows l = record {
  ready : IsReady l.tokens;
  rows : Leads (MoreRows l.names []) l.fn.tokens (MoreRows l.names l.rows) l.tokens;
}

abbrev pub decreases-loop-rows : goal.decreases-loop-rows
decreases-loop-rows l = MAX_TABLE_NAMES - length l.rows
