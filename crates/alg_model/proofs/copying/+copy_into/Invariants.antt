use Rattle.std.proofs.Common.{◌+◌, ◌*◌, ℕ}
use Rattle.alg_model.specs.Expressions.{PureValue, pair, first, second}
use Rattle.alg_model.specs.Views.{pure_value}
use Rattle.alg_model.proofs.copying.+copy_into.Given as goal

-- how many pairs and sides the value is made of
abbrev made_of : PureValue → ℕ
made_of (pair u v) = 1 + made_of u + made_of v
made_of (first u) = 1 + made_of u
made_of (second v) = 1 + made_of v
made_of _ = 0

abbrev pub decreases-copy_into : goal.decreases-copy_into
decreases-copy_into l = 2 * made_of (pure_value l.value.now)

abbrev pub decreases-copy_pair_into : goal.decreases-copy_pair_into
decreases-copy_pair_into l = 2 * (made_of (pure_value l.u.now.value) + made_of (pure_value l.v.now.value)) + 1

abbrev pub decreases-copy_first_into : goal.decreases-copy_first_into
decreases-copy_first_into l = 2 * made_of (pure_value l.u.now.value) + 1

abbrev pub decreases-copy_second_into : goal.decreases-copy_second_into
decreases-copy_second_into l = 2 * made_of (pure_value l.v.now.value) + 1
