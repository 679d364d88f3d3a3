use Rattle.std.proofs.Common.{ℕ, ◌<◌}
use Rattle.std.specs.List.{AllByRecursion}
use Rattle.alg_model.specs.Expressions.{row_label}
use Rattle.alg_classes.specs.Classes.{AreDistinct, ClassOf, IsCovered}
use Rattle.table_classes.proofs.list.table_class_list.Given as goal

abbrev pub invariant-loop-place : goal.invariant-loop-place
invariant-loop-place l = record {
  distinct : AreDistinct l.list;
  each : AllByRecursion (ClassOf l.alg) l.list;
  covered : (r : ℕ) → r < l.place → IsCovered l.alg l.list (row_label r);
}
