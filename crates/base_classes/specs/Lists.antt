-- Labels of a base algebra among which each profile of its labels is.
use Rattle.std.specs.Prelude.{ℕ, ◌<◌, ◌==◌, List, if◌then◌else◌}
use Rattle.std.specs.List.{AllByRecursion}
use Rattle.alg_model.specs.Expressions.{Expression, PureAlg, add, cap, worst, width, pref, orig, seq, simseq, tags, guard, gate, table, lex, scoped, union, sum, plus, left, right}
use Rattle.alg_model.specs.Expressions.{PureLabel, number_label, keep, symbol_label, need, allow, deny}
use Rattle.alg_model.specs.Application.{IsLabel}
use Rattle.alg_classes.specs.declared.class.Class.{Class}
use Rattle.alg_classes.specs.Classes.{AreDistinct, ClassOf, IsCovered}

-- place, low, top, high
abbrev pub candidate_number : ℕ → ℕ → ℕ → ℕ → ℕ
candidate_number p low top high = if p == 0 then low else if p == 1 then 1 else if p == 2 then top else high

-- the label at a place below 4, which may be none of the algebra's
abbrev pub candidate : Expression → ℕ → PureLabel
candidate (add low high) p = number_label (candidate_number p low low high)
candidate (cap top low high) p = number_label (candidate_number p low top high)
candidate (worst top low high) p = number_label (candidate_number p low top high)
candidate (width top low high) p = number_label (candidate_number p low top high)
candidate (pref top) p = number_label (candidate_number p 0 top top)
candidate (orig top) p = keep
candidate (seq k) p = symbol_label 0
candidate (simseq k) p = symbol_label 0
candidate (tags k) p = keep
candidate (guard k) p = need 0
candidate gate p = if p == 0 then allow else deny
candidate (table t) p = keep
candidate (lex a b) p = keep
candidate (scoped a b) p = keep
candidate (union a b) p = keep
candidate (sum a b) p = keep
candidate (plus a b) p = keep
candidate (left a) p = keep
candidate (right a) p = keep

-- classes of the algebra, no two of one profile, among them that of each candidate before the place
pub record HasBefore (a : PureAlg) (place : ℕ) (classes : List Class) : Type 0 where
  pub distinct : AreDistinct classes
  pub each : AllByRecursion (ClassOf a) classes
  pub before : (p : ℕ) → p < place → IsLabel a.expression (candidate a.expression p) → IsCovered a classes (candidate a.expression p)
