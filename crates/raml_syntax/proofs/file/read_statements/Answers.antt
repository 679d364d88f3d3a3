use Rattle.std.proofs.Common.{arith, subst}
use Rattle.std.proofs.lemmas.Result.{err_from_is_err_and}
use Rattle.raml_syntax.specs.Statements.{Let, Leads}
use Rattle.raml_syntax.proofs.Shorter.{reads_no_longer}
use Rattle.raml_syntax.proofs.Statements.{begun_shorter, leads_missing, leads_on, leads_broken}
use Rattle.raml_syntax.proofs.file.read_statements.Goals as goal

pub returns-in_err-read_let-in-Let-clause-reads : goal.returns-in_err-read_let-in-Let-clause-reads
returns-in_err-read_let-in-Let-clause-reads c =
    let p = err_from_is_err_and c.from_residual.result c.from_residual.ensures.1 in
    let now = c.loop-keyword in
    let leads = subst (λ key. Leads c.args.first c.args.tokens.now now.definitions.defined key now.tokens) c.in-Let.is now.invariant.1 in
    rw (p.1, p.2) (leads_broken c.args.first c.args.tokens.now now.tokens c.read_let.new.tokens now.definitions.defined _ leads c.in_err-read_let-in-Let.ensures.reads)

pub returns-in_err-keyword-clause-reads : goal.returns-in_err-keyword-clause-reads
returns-in_err-keyword-clause-reads c =
    let p = err_from_is_err_and c.from_residual-in_err-keyword.result c.from_residual-in_err-keyword.ensures.1 in
    let now = c.loop-keyword in
    let leads = subst (λ key. Leads c.args.first c.args.tokens.now now.definitions.defined key now.tokens) c.in-Let.is now.invariant.1 in
    rw (p.1, p.2)
    (leads_missing c.args.first c.args.tokens.now now.tokens c.read_let.new.tokens c.take_keyword.new.tokens now.definitions.defined c.read_let.new.definitions.defined _
    leads c.in_ok-read_let-in-Let.ensures.reads c.in_err-keyword.ensures.reads)

pub loop-keyword-smaller : goal.loop-keyword-smaller
loop-keyword-smaller c =
    let others = reads_no_longer (Let c.loop-keyword.definitions.defined) c.read_let.new.definitions.defined c.loop-keyword.tokens c.read_let.new.tokens c.in_ok-read_let-in-Let.ensures.reads in
    let word = begun_shorter c.in_ok-keyword.keyword c.read_let.new.tokens c.take_keyword.new.tokens c.in_ok-keyword.ensures.reads in
    omega arith

pub loop-keyword-preserved : goal.loop-keyword-preserved
loop-keyword-preserved c =
    let now = c.loop-keyword in
    let leads = subst (λ key. Leads c.args.first c.args.tokens.now now.definitions.defined key now.tokens) c.in-Let.is now.invariant.1 in (
      c.in_ok-keyword.ensures.ready,
      leads_on c.args.first c.in_ok-keyword.keyword c.args.tokens.now now.tokens c.read_let.new.tokens c.take_keyword.new.tokens now.definitions.defined c.read_let.new.definitions.defined
          leads c.in_ok-read_let-in-Let.ensures.reads c.in_ok-keyword.ensures.reads,
    )
