use Rattle.std.proofs.Common.{arith, Ok, Err, ◌+◌, ◌≡◌, ◌∷◌, ◌++◌, [], length, length-append, ap, ◌∙◌}
use Rattle.std.proofs.lemmas.Result.{err_from_is_err_and}
use Rattle.raml_syntax.specs.declared.values.ValueList.{ValueList}
use Rattle.raml_syntax.specs.declared.values.AfterValue.TheVariants.{Value, Rows}
use Rattle.raml_syntax.specs.Values.{after_value}
use Rattle.raml_syntax.specs.Sequences.{One}
use Rattle.raml_syntax.proofs.Tested.{reads_ok}
use Rattle.raml_syntax.proofs.ValueReading.{values_first, values_no_name, more_no_mark, more_no_name, more_next, more_end, rank_following_le}
use Rattle.raml_syntax.proofs.values.read_values.Goals as goal

pub returns-in_err-first-clause-values : goal.returns-in_err-first-clause-values
returns-in_err-first-clause-values c =
    let p = err_from_is_err_and c.from_residual.result c.from_residual.ensures.1 in
    rw (p.1, p.2) (values_no_name c.args.tokens.now c.read_value_name.new.tokens _ _ (c.as_slice.ensures ∙ c.new-names.ensures) c.in_err-first.ensures.name)

pub loop-ranks-init : goal.loop-ranks-init
loop-ranks-init c =
    let names = c.in_ok-push.ensures.ok ∙ ap (λ l. l ++ c.in_ok-first.first ∷ []) c.new-names.ensures in
    let ranks = c.in_ok-push-2.ensures.ok ∙ ap (λ l. l ++ 0 ∷ []) c.new-ranks.ensures in
    record {
      ready = c.in_ok-first.ensures.ready;
      rank = omega (arith, ap length names);
      few = omega (arith, ap length names);
      values = values_first c.args.tokens.now c.read_value_name.new.tokens c.in_ok-first.first _ c.push.new.self c.push-2.new.self (c.as_slice.ensures ∙ c.new-names.ensures) names ranks c.in_ok-first.ensures.name;
    }

pub returns-in_err-is_tied-clause-values : goal.returns-in_err-is_tied-clause-values
returns-in_err-is_tied-clause-values c =
    let p = err_from_is_err_and c.from_residual-in_err-is_tied.result c.from_residual-in_err-is_tied.ensures.1 in
    rw (p.1, p.2) (c.loop-ranks.invariant.values (Err c.in_err-is_tied.field-0.0) c.take_after_value.new.tokens (more_no_mark (record { names = c.loop-ranks.names; ranks = c.loop-ranks.ranks }) c.loop-ranks.rank c.loop-ranks.tokens c.take_after_value.new.tokens _ c.in_err-is_tied.ensures.mark))

pub returns-in_err-name-clause-values : goal.returns-in_err-name-clause-values
returns-in_err-name-clause-values c =
    let done : ValueList = record { names = c.loop-ranks.names; ranks = c.loop-ranks.ranks } in
    let p = err_from_is_err_and c.from_residual-in_err-name.result c.from_residual-in_err-name.ensures.1 in
    let mark = reads_ok (One after_value) _ (Value c.in-Value.is_tied) c.loop-ranks.tokens c.take_after_value.new.tokens c.in-Value.is c.in_ok-is_tied.ensures.mark in
    rw (p.1, p.2) (c.loop-ranks.invariant.values (Err c.in_err-name.field-0.0) c.read_value_name-in-Value.new.tokens
    (more_no_name done c.loop-ranks.rank c.loop-ranks.tokens c.take_after_value.new.tokens c.read_value_name-in-Value.new.tokens c.in-Value.is_tied _ _ c.as_slice-in-Value.ensures mark c.in_err-name.ensures.name))

pub loop-ranks-preserved : goal.loop-ranks-preserved
loop-ranks-preserved c =
    let done : ValueList = record { names = c.loop-ranks.names; ranks = c.loop-ranks.ranks } in
    let mark = reads_ok (One after_value) _ (Value c.in-Value.is_tied) c.loop-ranks.tokens c.take_after_value.new.tokens c.in-Value.is c.in_ok-is_tied.ensures.mark in
    let grown : length c.push-in-Value.new.self ≡ length c.loop-ranks.names + 1 = ap length c.in_ok-push-3.ensures.ok ∙ length-append c.loop-ranks.names (c.in_ok-name.name ∷ []) in
    let next = more_next done c.loop-ranks.rank c.loop-ranks.tokens c.take_after_value.new.tokens c.read_value_name-in-Value.new.tokens c.in-Value.is_tied c.in_ok-name.name _
    c.push-in-Value.new.self c.push-in-Value-2.new.self c.rank_following-rank.result c.as_slice-in-Value.ensures c.in_ok-push-3.ensures.ok c.in_ok-push-4.ensures.ok c.rank_following-rank.ensures mark c.in_ok-name.ensures.name in
    record {
      ready = c.in_ok-name.ensures.ready;
      rank = omega (arith, grown, c.loop-ranks.invariant.rank, rank_following_le c.loop-ranks.rank c.in-Value.is_tied, c.rank_following-rank.ensures);
      few = omega (arith, grown, c.in_ok-name.ensures.room, ap length c.as_slice-in-Value.ensures);
      values = λ result new z. c.loop-ranks.invariant.values result new (next result new z);
    }

pub returns-clause-values : goal.returns-clause-values
returns-clause-values c =
    let done : ValueList = record { names = c.loop-ranks.names; ranks = c.loop-ranks.ranks } in
    let mark = reads_ok (One after_value) _ Rows c.loop-ranks.tokens c.take_after_value.new.tokens c.in_default.is c.in_ok-is_tied.ensures.mark in
    c.loop-ranks.invariant.values (Ok done) c.take_after_value.new.tokens (more_end done c.loop-ranks.rank c.loop-ranks.tokens c.take_after_value.new.tokens mark)
