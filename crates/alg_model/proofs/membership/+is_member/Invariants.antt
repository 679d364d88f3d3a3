use Rattle.alg_model.specs.Carriers.{carrier_of}
use Rattle.alg_model.specs.Forms.{part_count}
use Rattle.alg_model.specs.Views.{expression_of}
use Rattle.alg_model.proofs.membership.+is_member.Given as goal

abbrev pub decreases-is_member : goal.decreases-is_member
decreases-is_member l = part_count (carrier_of (expression_of l.tree.now))
