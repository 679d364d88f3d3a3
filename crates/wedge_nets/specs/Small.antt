-- The label without great numbers that a label leads to, and the value without great numbers that it acts on.
use Rattle.std.specs.Prelude.{◌≡◌}
use Rattle.alg_model.specs.Expressions.{Expression, PureLabel, PureValue}
use Rattle.alg_model.specs.Views.{pure_label, pure_value}
use Rattle.alg_model.specs.declared.tree.Label.{Label}
use Rattle.alg_model.specs.declared.tree.Value.{Value}
use Rattle.settled_laws.specs.SmallInstances.{small_label_on, small_value_under}

abbrev pub AreSmallOf : Expression → PureLabel → PureValue → Label × Value → Type 0
AreSmallOf a l v small = (pure_label small.0 ≡ small_label_on a l v) × (pure_value small.1 ≡ small_value_under a l v)
