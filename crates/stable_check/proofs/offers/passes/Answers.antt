use Rattle.std.proofs.Common.{◌∙◌}
use Rattle.stable_check.proofs.Paths.{any_number}
use Rattle.stable_check.proofs.offers.passes.Goals as goal

pub returns : goal.returns
returns c = (rw c.as_slice.ensures at c.has_node.ensures) ∙ any_number c.args.route.now.path c.args.node.0
