use Rattle.std.proofs.Common.{◌+◌, ◌*◌}
use Rattle.alg_model.specs.Carriers.{carrier_of}
use Rattle.alg_model.specs.Forms.{part_count}
use Rattle.alg_model.specs.Views.{expression_of}
use Rattle.code_gen.proofs.decoding.+take_value.Given as goal

abbrev pub decreases-take_value : goal.decreases-take_value
decreases-take_value l = 3 * part_count (carrier_of (expression_of l.tree.now))

abbrev pub decreases-take_boxed : goal.decreases-take_boxed
decreases-take_boxed l = 3 * part_count (carrier_of (expression_of l.tree.now)) + 1

abbrev pub decreases-take_side : goal.decreases-take_side
decreases-take_side l = 3 * (part_count (carrier_of (expression_of l.a.now)) + part_count (carrier_of (expression_of l.b.now))) + 2
