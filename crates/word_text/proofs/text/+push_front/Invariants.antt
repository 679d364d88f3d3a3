use Rattle.std.proofs.Common.{◌+◌, ◌*◌}
use Rattle.alg_model.specs.Forms.{part_count}
use Rattle.alg_model.specs.Views.{pure_carrier}
use Rattle.word_text.proofs.text.+push_front.Given as goal

abbrev pub decreases-push_front : goal.decreases-push_front
decreases-push_front l = 2 * part_count (pure_carrier l.carrier.now)

abbrev pub decreases-push_pair : goal.decreases-push_pair
decreases-push_pair l = 2 * (part_count (pure_carrier l.c.now) + part_count (pure_carrier l.d.now)) + 1

abbrev pub decreases-push_side : goal.decreases-push_side
decreases-push_side l = 2 * (part_count (pure_carrier l.c.now) + part_count (pure_carrier l.d.now)) + 1
