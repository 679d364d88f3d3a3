use Rattle.std.proofs.Common.{length, subst, sym, ap, ◌∙◌}
use Rattle.std.proofs.lemmas.List.{length-map}
use Rattle.alg_model.specs.Carriers.{carrier_of}
use Rattle.alg_model.specs.Expressions.{PureAlg}
use Rattle.alg_model.specs.Views.{pure_carrier}
use Rattle.code_gen.specs.Encoding.{decoded, IsEncoded}
use Rattle.link_state.specs.Routes.{AreFixedOf}
use Rattle.word_tables.specs.Tables.{word_rows}
use Rattle.metacli.proofs.Lent.{all_fixed_on, best_on, length_fixed, nodes_on}
use Rattle.metacli.proofs.routing.rows_over.Goals as goal

pub of-requires-clause-found : goal.of-requires-clause-found
of-requires-clause-found g c =
    let held = g.W.HeldRow.held in
    let net = c.args.net.now in
    let is = ap (λ (a : PureAlg). carrier_of a.expression) (c.in_ok-algebra.ensures ∙ c.alg.ensures.alg ∙ sym c.alg-2.ensures.alg) ∙ sym c.in_ok-carrier.ensures.carrier in
    let found = subst (λ d. AreFixedOf (λ row. decoded d (held row)) (λ row. IsEncoded d (held row)) net c.in_ok-found.found) is c.in_ok-found.ensures.fixed in
    all_fixed_on _ _ net 0 c.in_ok-found.found found.fixed_from

pub returns-clause-best : goal.returns-clause-best
returns-clause-best g c =
    let held = g.W.HeldRow.held in
    let net = c.args.net.now in
    let is = ap (λ (a : PureAlg). carrier_of a.expression) (c.in_ok-algebra.ensures ∙ c.alg.ensures.alg ∙ sym c.alg-2.ensures.alg) ∙ sym c.in_ok-carrier.ensures.carrier in
    let found = subst (λ d. AreFixedOf (λ row. decoded d (held row)) (λ row. IsEncoded d (held row)) net c.in_ok-found.found) is c.in_ok-found.ensures.fixed in
    rw (c.in_ok-rows.ensures.carrier, c.in_ok-rows.ensures.tables) (best_on _ _ net 0 c.in_ok-found.found found.fixed_from)

pub returns-clause-words : goal.returns-clause-words
returns-clause-words g c =
    let held = g.W.HeldRow.held in
    let net = c.args.net.now in
    let rows = c.in_ok-rows.rows in
    let d = pure_carrier c.in_ok-carrier.carrier in
    let is = ap (λ (a : PureAlg). carrier_of a.expression) (c.in_ok-algebra.ensures ∙ c.alg.ensures.alg ∙ sym c.alg-2.ensures.alg) ∙ sym c.in_ok-carrier.ensures.carrier in
    let found = subst (λ d. AreFixedOf (λ row. decoded d (held row)) (λ row. IsEncoded d (held row)) net c.in_ok-found.found) is c.in_ok-found.ensures.fixed in
    let best = best_on _ _ net 0 c.in_ok-found.found found.fixed_from in
    let many = sym (length-map rows.tables (word_rows d)) ∙ ap length c.in_ok-rows.ensures.tables ∙ length_fixed _ 0 c.in_ok-found.found ∙ found.count in
    record {
      carrier_is = ap pure_carrier c.in_ok-rows.ensures.carrier ∙ c.in_ok-carrier.ensures.carrier ∙ ap (λ (a : PureAlg). carrier_of a.expression) c.alg-2.ensures.alg;
      may_be = rw c.in_ok-rows.ensures.carrier c.in_ok-carrier.ensures.may_be;
      words = rw c.in_ok-rows.ensures.carrier c.in_ok-rows.ensures.words;
      nodes = rw (c.in_ok-rows.ensures.carrier, c.in_ok-rows.ensures.tables) (nodes_on net 0 _ best);
      count = many;
    }
