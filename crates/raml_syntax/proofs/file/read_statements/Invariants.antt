use Rattle.std.proofs.Common.{length}
use Rattle.raml_syntax.specs.Leaves.{IsReady}
use Rattle.raml_syntax.specs.Statements.{Leads}
use Rattle.raml_syntax.proofs.file.read_statements.Given as goal

abbrev pub invariant-loop-keyword : goal.invariant-loop-keyword
invariant-loop-keyword l = IsReady l.tokens × Leads l.fn.first l.fn.tokens l.definitions.defined l.keyword l.tokens

abbrev pub decreases-loop-keyword : goal.decreases-loop-keyword
decreases-loop-keyword l = length l.tokens.rest
