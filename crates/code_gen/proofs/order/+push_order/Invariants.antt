use Rattle.std.proofs.Common.{◌+◌, ◌*◌}
use Rattle.alg_model.specs.Carriers.{carrier_of}
use Rattle.alg_model.specs.Forms.{part_count}
use Rattle.alg_model.specs.Views.{expression_of}
use Rattle.code_gen.proofs.order.+push_order.Given as goal

abbrev pub decreases-push_order : goal.decreases-push_order
decreases-push_order l = 2 * part_count (carrier_of (expression_of l.tree.now))

abbrev pub decreases-push_sides : goal.decreases-push_sides
decreases-push_sides l = 2 * (part_count (carrier_of (expression_of l.a.now)) + part_count (carrier_of (expression_of l.b.now))) + 1
