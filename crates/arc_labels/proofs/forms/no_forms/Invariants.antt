use Rattle.std.proofs.Common.{◌≡◌, None, replicate}
use Rattle.arc_labels.proofs.forms.no_forms.Given as goal

abbrev pub invariant-loop-made : goal.invariant-loop-made
invariant-loop-made g l = l.forms.items ≡ replicate l._made None
