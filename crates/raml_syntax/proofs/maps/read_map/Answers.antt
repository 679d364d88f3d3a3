use Rattle.std.proofs.Common.{Ok, Err, subst}
use Rattle.std.proofs.lemmas.Result.{err_from_is_err_and}
use Rattle.raml_syntax.specs.Maps.{Target}
use Rattle.raml_syntax.specs.Tested.{ReadsFollowing}
use Rattle.raml_syntax.proofs.MapReading.{target_no_arrow, target_bad, target_good}
use Rattle.raml_syntax.proofs.maps.read_map.Goals as goal

pub returns-in_err-take_mark-clause-map : goal.returns-in_err-take_mark-clause-map
returns-in_err-take_mark-clause-map c =
    let source = c.args.source in
    let p = err_from_is_err_and c.from_residual.result c.from_residual.ensures.1 in
    rw (p.1, p.2)
    (subst (λ b. ReadsFollowing b source.place (Target c.args.names.now source.text.now) c.args.tokens.now (Err c.in_err-take_mark.field-0.0) c.take_mark.new.tokens) c.if-not-is_source.ensures
    (target_no_arrow c.args.names.now source.text.now c.args.tokens.now c.take_mark.new.tokens c.in_err-take_mark.field-0.0 c.in_err-take_mark.ensures.fault))

pub returns-in_err-target-clause-map : goal.returns-in_err-target-clause-map
returns-in_err-target-clause-map c =
    let source = c.args.source in
    let p = err_from_is_err_and c.from_residual-in_err-target.result c.from_residual-in_err-target.ensures.1 in
    rw (p.1, p.2)
    (subst (λ b. ReadsFollowing b source.place (Target c.args.names.now source.text.now) c.args.tokens.now (Err c.in_err-target.field-0.0) c.read_target.new.tokens) c.if-not-is_source.ensures
    (target_bad c.args.names.now source.text.now c.args.tokens.now c.take_mark.new.tokens c.read_target.new.tokens c.in_err-target.field-0.0 c.in_ok-take_mark.ensures.mark c.in_err-target.ensures.target))

pub returns-clause-map : goal.returns-clause-map
returns-clause-map c =
    let source = c.args.source in
    subst (λ b. ReadsFollowing b source.place (Target c.args.names.now source.text.now) c.args.tokens.now (Ok (record { source = source.text.now; target = c.in_ok-target.target.now })) c.read_target.new.tokens)
    c.if-not-is_source.ensures
    (target_good c.args.names.now source.text.now c.in_ok-target.target.now c.args.tokens.now c.take_mark.new.tokens c.read_target.new.tokens c.in_ok-take_mark.ensures.mark c.in_ok-target.ensures.target)
