use Rattle.std.proofs.Common.{ap, ◌∙◌}
use Rattle.alg_model.specs.Carriers.{carrier_of}
use Rattle.alg_model.specs.Expressions.{PureAlg}
use Rattle.code_gen.specs.Compilation.{CompileOrder}
use Rattle.metacli.proofs.coding.arc_listing.Goals as goal

pub returns : goal.returns
returns c = record {
  the_order = c.in_ok-order.ensures ∙ ap (λ (a : PureAlg). CompileOrder (carrier_of a.expression)) c.alg.ensures.alg;
  the_labels = c.in_ok-labels.ensures;
}
