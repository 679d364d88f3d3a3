use Rattle.std.proofs.Common.{if◌then◌else◌, Some, None, Ok, sym, ap, subst, ◌∙◌}
use Rattle.std.proofs.lemmas.Result.{err_from_is_err_and}
use Rattle.raml_syntax.specs.declared.faults.ExprKind.TheVariants.{CarriersDiffer}
use Rattle.raml_syntax.specs.Heads.{paired_of}
use Rattle.raml_syntax.specs.Forest.{tree_at}
use Rattle.raml_syntax.specs.Forms.{Closed}
use Rattle.raml_syntax.specs.Sequences.{Reads}
use Rattle.raml_syntax.proofs.Descent.{closed_misses, closed_good}
use Rattle.raml_syntax.proofs.expression.close_paired.Goals as goal

pub returns-in_err-place-clause-reads : goal.returns-in_err-place-clause-reads
returns-in_err-place-clause-reads c =
    let p = err_from_is_err_and c.from_residual.result c.from_residual.ensures.1 in
    rw (p.1, p.2) (closed_misses (paired_of c.args.kind) (tree_at c.args.definitions.now.trees c.args.first) (tree_at c.args.definitions.now.trees c.args.second) c.args.tokens.now c.take_mark_at.new.tokens _ c.in_err-place.ensures.fault)

pub returns-clause-reads : goal.returns-clause-reads
returns-clause-reads c =
    let k = paired_of c.args.kind in
    let a = tree_at c.args.definitions.now.trees c.args.first in
    let b = tree_at c.args.definitions.now.trees c.args.second in
    let joins = rw c.forest.ensures at c.may_join.ensures in
    subst (λ x. Reads (Closed k a b) c.args.tokens.now (Ok x) c.take_mark_at.new.tokens) (sym c.in_ok-plant.ensures.means)
    (closed_good k a b c.args.tokens.now c.take_mark_at.new.tokens (sym joins ∙ ap (λ v. if v then None else Some CarriersDiffer) c.if-not-may_join.false) c.in_ok-place.ensures.mark.takes)
