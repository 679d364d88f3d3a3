use Rattle.alg_model.specs.Carriers.{carrier_of}
use Rattle.alg_model.specs.Forms.{part_count}
use Rattle.alg_model.specs.Views.{expression_of}
use Rattle.sig_text.proofs.print.+push_tree_value.Given as goal

abbrev pub decreases-push_tree_value : goal.decreases-push_tree_value
decreases-push_tree_value l = part_count (carrier_of (expression_of l.tree.now))
