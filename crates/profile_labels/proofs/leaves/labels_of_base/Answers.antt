use Rattle.std.proofs.Common.{arith}
use Rattle.alg_classes.specs.Classes.{alg_in}
use Rattle.alg_model.specs.Views.{expression_of}
use Rattle.profile_labels.proofs.Places.{candidates_cover}
use Rattle.profile_labels.proofs.leaves.labels_of_base.Goals as goal

pub returns : goal.returns
returns c = λ e is.
    candidates_cover (alg_in (expression_of c.args.tree.now) e) c.loop-place.place c.loop-place.list is c.requires.base (omega arith)
    (c.loop-place.invariant e is)
