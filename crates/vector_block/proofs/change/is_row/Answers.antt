use Rattle.std.proofs.Common.{◌≡◌, Option, Some, sym, ap, ◌∙◌}
use Rattle.std.specs.Prelude.{option_map}
use Rattle.std.proofs.lemmas.Result.{IfOk-weaker}
use Rattle.net_graph.specs.Routes.{PureRoute}
use Rattle.path_vector.specs.Node.{same_row}
use Rattle.vector_block.proofs.Offers.{choice_is_other, choice_is_row, is_equal, is_unequal}
use Rattle.vector_block.specs.Stores.{chosen_route, pure_store, route_of}
use Rattle.vector_block.proofs.change.is_row.Goals as goal

pub returns-then-ne : goal.returns-then-ne
returns-then-ne g c =
    let value = g.A.Algebra.sig_value c.args.site.now.algebra.now in
    let node = c.args.hearing.node.0 in
    let paths = c.args.store.now.paths in
    let best = c.in-Some-Some.best in
    let row = c.in-Some-Some.row.now in
    let rest = c.rest-rest.result in
    let route : Option PureRoute = (pure_store value c.args.store.now).rows node c.args.hearing.dest.0 in
    let row_is : route ≡ Some (route_of value paths row) = sym c.in-Some-Some.ensures.route in
    let begins = c.requires.begins (route_of value paths row) row_is in
    let goes = c.rest-rest.ensures.path in
    let are = ap (λ o. same_row (option_map (chosen_route value paths node) o) route) c.in-Some-Some.is-0 ∙ ap (same_row (Some (chosen_route value paths node best))) row_is in
    choice_is_other value paths node best row rest goes.0 goes.1 begins (λ e. is_unequal c.compare_rests.result (sym c.ne.ensures ∙ c.if-ne.true) (c.compare_rests.ensures ∙ e)) ∙ sym are

pub returns-else-ne : goal.returns-else-ne
returns-else-ne g c =
    let value = g.A.Algebra.sig_value c.args.site.now.algebra.now in
    let node = c.args.hearing.node.0 in
    let paths = c.args.store.now.paths in
    let best = c.in-Some-Some.best in
    let row = c.in-Some-Some.row.now in
    let rest = c.rest-rest.result in
    let route : Option PureRoute = (pure_store value c.args.store.now).rows node c.args.hearing.dest.0 in
    let row_is : route ≡ Some (route_of value paths row) = sym c.in-Some-Some.ensures.route in
    let begins = c.requires.begins (route_of value paths row) row_is in
    let goes = c.rest-rest.ensures.path in
    let are = ap (λ o. same_row (option_map (chosen_route value paths node) o) route) c.in-Some-Some.is-0 ∙ ap (same_row (Some (chosen_route value paths node best))) row_is in
    let one = choice_is_row value paths node best row rest goes.0 goes.1 begins (sym c.compare_rests.ensures ∙ is_equal c.compare_rests.result (sym c.ne.ensures ∙ c.if-ne.false)) in
    IfOk-weaker c.has_same_value.result _ _ (λ same e. e ∙ (one ∙ sym are)) c.has_same_value.ensures
