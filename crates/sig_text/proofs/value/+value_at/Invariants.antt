use Rattle.std.proofs.Common.{◌+◌, ◌*◌}
use Rattle.alg_model.specs.Carriers.{carrier_of}
use Rattle.alg_model.specs.Forms.{part_count}
use Rattle.alg_model.specs.Views.{expression_of}
use Rattle.sig_text.proofs.value.+value_at.Given as goal

abbrev pub decreases-value_at : goal.decreases-value_at
decreases-value_at l = 2 * part_count (carrier_of (expression_of l.tree.now))

abbrev pub decreases-pair_at : goal.decreases-pair_at
decreases-pair_at l = 2 * (part_count (carrier_of (expression_of l.a.now)) + part_count (carrier_of (expression_of l.b.now))) + 1

abbrev pub decreases-sided_at : goal.decreases-sided_at
decreases-sided_at l = 2 * (part_count (carrier_of (expression_of l.a.now)) + part_count (carrier_of (expression_of l.b.now))) + 1
