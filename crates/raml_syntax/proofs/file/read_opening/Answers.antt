use Rattle.std.proofs.Common.{Ok, Err, ◌∙◌, ap, subst}
use Rattle.std.proofs.lemmas.Result.{err_from_is_err_and}
use Rattle.raml_syntax.specs.Sequences.{Reads}
use Rattle.raml_syntax.specs.Statements.{Opens}
use Rattle.raml_syntax.specs.Headers.{Starts}
use Rattle.raml_syntax.proofs.Headers.{opening_misses, header_broken, statement_leads, headed_misses, headed_leads}
use Rattle.raml_syntax.proofs.file.read_opening.Goals as goal

pub returns-in_err-keyword-clause-fault : goal.returns-in_err-keyword-clause-fault
returns-in_err-keyword-clause-fault c =
    let p = err_from_is_err_and c.from_residual.result c.from_residual.ensures.1 in
    let old = c.args.tokens.now in
    rw (p.1, p.2) (opening_misses old.rest _ old c.take_opening.new.tokens c.requires c.in_err-keyword.ensures.reads)

pub returns-in_err-edition-in-Header-clause-fault : goal.returns-in_err-edition-in-Header-clause-fault
returns-in_err-edition-in-Header-clause-fault c =
    let p = err_from_is_err_and c.from_residual-in_err-edition-in-Header.result c.from_residual-in_err-edition-in-Header.ensures.1 in
    let old = c.args.tokens.now in
    let mid = c.take_opening.new.tokens in
    let header = subst (λ x. Reads Starts old (Ok x) mid) c.in-Header.is c.in_ok-keyword.ensures.reads in
    rw (p.1, p.2) (header_broken old.rest _ old mid c.read_profile.new.tokens c.requires header c.in_err-edition-in-Header.ensures.reads)

pub returns-in_err-take_keyword-in-Header-clause-fault : goal.returns-in_err-take_keyword-in-Header-clause-fault
returns-in_err-take_keyword-in-Header-clause-fault c =
    let p = err_from_is_err_and c.from_residual-in_err-take_keyword-in-Header.result c.from_residual-in_err-take_keyword-in-Header.ensures.1 in
    let old = c.args.tokens.now in
    let mid = c.take_opening.new.tokens in
    let now = c.read_profile.new.tokens in
    let edition = c.in_ok-edition-in-Header.edition in
    let new = c.take_keyword.new.tokens in
    let e = c.in_err-take_keyword-in-Header.field-0.0 in
    let header = subst (λ x. Reads Starts old (Ok x) mid) c.in-Header.is c.in_ok-keyword.ensures.reads in
    let set = c.set_greatest.ensures ∙ ap (λ g. record now { greatest = g }) c.greatest_number.ensures in
    let begun = subst (λ x. Reads Opens x (Err e) new) set c.in_err-take_keyword-in-Header.ensures.reads in
    rw (p.1, p.2) (headed_misses old.rest edition e old mid now new c.requires header c.in_ok-edition-in-Header.ensures.reads begun)

pub returns-in-Statement-clause-leads : goal.returns-in-Statement-clause-leads
returns-in-Statement-clause-leads c =
    let old = c.args.tokens.now in
    let now = c.take_opening.new.tokens in
    statement_leads old.rest c.in-Statement.keyword old now c.requires (subst (λ x. Reads Starts old (Ok x) now) c.in-Statement.is c.in_ok-keyword.ensures.reads)

pub returns-in_ok-take_keyword-in-Header-clause-leads : goal.returns-in_ok-take_keyword-in-Header-clause-leads
returns-in_ok-take_keyword-in-Header-clause-leads c =
    let old = c.args.tokens.now in
    let mid = c.take_opening.new.tokens in
    let now = c.read_profile.new.tokens in
    let edition = c.in_ok-edition-in-Header.edition in
    let new = c.take_keyword.new.tokens in
    let key = c.in_ok-take_keyword-in-Header.field-0 in
    let header = subst (λ x. Reads Starts old (Ok x) mid) c.in-Header.is c.in_ok-keyword.ensures.reads in
    let set = c.set_greatest.ensures ∙ ap (λ g. record now { greatest = g }) c.greatest_number.ensures in
    let begun = subst (λ x. Reads Opens x (Ok key) new) set c.in_ok-take_keyword-in-Header.ensures.reads in
    headed_leads old.rest edition key old mid now new c.requires header c.in_ok-edition-in-Header.ensures.reads begun
