use Rattle.std.proofs.Common.{Ok, Err, Some, sym, subst}
use Rattle.std.proofs.lemmas.Result.{err_from_is_err_and}
use Rattle.raml_lex.specs.Tokens.{semicolon}
use Rattle.raml_syntax.specs.Meaning.{edition_of}
use Rattle.raml_syntax.specs.Sequences.{Nothing, Reads}
use Rattle.raml_syntax.specs.Headers.{Profile}
use Rattle.raml_syntax.proofs.After.{following_last, following_misses, nothing_possible}
use Rattle.raml_syntax.proofs.Headers.{profile_misses, profile_unknown, profile_then}
use Rattle.raml_syntax.proofs.file.read_profile.Goals as goal

pub returns-in_err-profile-clause-reads : goal.returns-in_err-profile-clause-reads
returns-in_err-profile-clause-reads c =
    let p = err_from_is_err_and c.from_residual.result c.from_residual.ensures.1 in
    rw (p.1, p.2) (profile_misses c.args.tokens.now c.take_number.new.tokens _ c.in_err-profile.ensures.fault)

pub returns-in_default-clause-reads : goal.returns-in_default-clause-reads
returns-in_default-clause-reads c =
    let new = c.take_number.new.tokens in
    rw c.refused.ensures (profile_unknown c.in_ok-profile.profile c.in_ok-profile.place c.args.tokens.now new new c.in_default.ensures.none c.in_ok-profile.ensures.number)

pub returns-in_err-take_mark-clause-reads : goal.returns-in_err-take_mark-clause-reads
returns-in_err-take_mark-clause-reads c =
    let p = err_from_is_err_and c.from_residual-in_err-take_mark.result c.from_residual-in_err-take_mark.ensures.1 in
    let n = c.in_ok-profile.profile in
    let edition = edition_of (Some n) in
    let mid = c.take_number.new.tokens in
    rw (p.1, p.2)
    (profile_then n c.args.tokens.now mid c.take_mark.new.tokens (Err c.in_err-take_mark.field-0.0) c.in-Some.ensures.some.0 c.in_ok-profile.ensures.number.takes
    (following_misses semicolon (Nothing edition) mid c.take_mark.new.tokens _ (nothing_possible edition) (λ n e. cc) c.in_err-take_mark.ensures.fault))

pub returns-clause-reads : goal.returns-clause-reads
returns-clause-reads c =
    let n = c.in_ok-profile.profile in
    let edition = edition_of (Some n) in
    let mid = c.take_number.new.tokens in
    let new = c.take_mark.new.tokens in
    subst (λ e. Reads Profile c.args.tokens.now (Ok e) new) (sym c.in-Some.ensures.some.1)
    (profile_then n c.args.tokens.now mid new (Ok edition) c.in-Some.ensures.some.0 c.in_ok-profile.ensures.number.takes (following_last semicolon edition mid new c.in_ok-take_mark.ensures.mark))
