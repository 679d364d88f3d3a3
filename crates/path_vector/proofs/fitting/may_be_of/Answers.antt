use Rattle.std.proofs.Common.{◌≡◌, length, sym, ap, refl, ◌∙◌}
use Rattle.std.proofs.lemmas.Bool.{and_parts}
use Rattle.std.proofs.lemmas.List.{length-map}
use Rattle.std.specs.Prelude.{nat_lt}
use Rattle.std.specs.List.{list_all}
use Rattle.alg_model.specs.Carriers.{distinct}
use Rattle.alg_model.specs.Bounds.{greatest_number}
use Rattle.alg_model.specs.Tests.{is_in, is_at_most}
use Rattle.alg_model.specs.Views.{pure_value}
use Rattle.meta_base.specs.declared.ids.NodeId.{NodeId}
use Rattle.meta_base.specs.NodePaths.{numbers}
use Rattle.net_graph.specs.Tables.{carrier}
use Rattle.path_vector.specs.Node.{begins_with, greatest_on}
use Rattle.path_vector.proofs.PathTests.{all_numbers, all_but_last, path_fails}
use Rattle.path_vector.proofs.fitting.may_be_of.Goals as goal

pub returns-then-not-is_simple : goal.returns-then-not-is_simple
returns-then-not-is_simple c =
    let net = c.args.net.now in
    let path = c.args.route.now.path in
    let value = pure_value c.args.route.now.value in
    let starts = rw c.as_slice-path.ensures at (sym c.starts_at.ensures ∙ c.if-not-starts_at.false) in
    let fails = rw (c.get.ensures, c.node_count.ensures.count) at (sym c.is_simple.ensures ∙ c.if-not-is_simple.true) in
    path_fails (is_in (carrier net) value) (begins_with c.args.speaker.0 (numbers path)) (distinct (numbers path)) (list_all (λ n. nat_lt n (length net.nodes)) (numbers path)) (is_at_most (greatest_on net (numbers path)) value)
    (sym c.has_value.ensures ∙ c.if-not-has_value.false) starts (rw (sym (all_numbers path (length net.nodes))) fails)

pub returns : goal.returns
returns c =
    let net = c.args.net.now in
    let path = c.args.route.now.path in
    let value = pure_value c.args.route.now.value in
    let starts = rw c.as_slice-path.ensures at (sym c.starts_at.ensures ∙ c.if-not-starts_at.false) in
    let simple = rw (c.get.ensures, c.node_count.ensures.count) at (sym c.is_simple.ensures ∙ c.if-not-is_simple.false) in
    let both = and_parts (list_all (λ (n : NodeId). nat_lt n.0 (length net.nodes)) path) (distinct (numbers path)) simple in
    let size : length c.as_slice-path.result.now ≡ length (numbers path) = ap length c.as_slice-path.ensures ∙ sym (length-map path (λ (n : NodeId). n.0)) in
    let greatest : c.greatest_number.result ≡ greatest_number net.alg.edition = c.greatest_number.ensures ∙ ap greatest_number c.edition.ensures.edition in
    all_but_last (is_in (carrier net) value) (begins_with c.args.speaker.0 (numbers path)) (distinct (numbers path)) (list_all (λ n. nat_lt n (length net.nodes)) (numbers path)) (is_at_most (greatest_on net (numbers path)) value) c.is_at_most.result
    (sym c.has_value.ensures ∙ c.if-not-has_value.false) starts both.1 (sym (all_numbers path (length net.nodes)) ∙ both.0)
    (c.is_at_most.ensures.test ∙ rw (size, greatest) refl)
