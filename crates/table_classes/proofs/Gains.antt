-- A list of classes that gains the class of a row.
use Rattle.std.proofs.Common.{◌≡◌, refl, sym, subst, ℕ, List}
use Rattle.alg_model.specs.declared.tree.Label.{Row}
use Rattle.alg_model.specs.Expressions.{PureAlg, PureLabel, row_label}
use Rattle.alg_model.specs.Application.{IsLabel}
use Rattle.alg_classes.specs.declared.class.Class.{Class}
use Rattle.alg_classes.specs.declared.profile.Profile.{Profile}
use Rattle.alg_classes.specs.Profiles.{ProfileOf}
use Rattle.alg_classes.specs.Classes.{ClassOf, HasProfile, IsGrownBy, IsCovered}
use Rattle.alg_classes.specs.GrowthLaws.{grown_by_one}
use Rattle.table_classes.specs.declared.found.Found.{Found}
use Rattle.table_classes.specs.Rows.{IsTable, PureRow, IsRowOf}
use Rattle.table_classes.specs.Found.{found_class, AreAnswersOf}
use Rattle.table_classes.specs.Lists.{GainsRow}
use Rattle.table_classes.proofs.Answers.{profile_of_row, class_of_row}

-- a list that has the row's profile
pub gains_none : (a : PureAlg) (place : ℕ) (list : List Class) (p : Profile) → ProfileOf a.expression (row_label place) p → HasProfile list p
    → GainsRow a place list list
gains_none a place list p is has = record {
  keeps = λ q h. h;
  each = λ h. h;
  covered = (p, is, has);
}

-- a list to which the row's class was added
gains_one : (a : PureAlg) (place : ℕ) (old new : List Class) (class : Class) → ProfileOf a.expression (row_label place) class.profile
    → ClassOf a class → IsGrownBy old class new → GainsRow a place old new
gains_one a place old new class is one grown =
    let g = grown_by_one (ClassOf a) class.profile old new class refl one grown in
    record {
      keeps = g.kept;
      each = g.each;
      covered = (class.profile, is, g.reached class.profile refl);
    }

-- a list to which the class of what was found in the row was added
pub gains_found : (a : PureAlg) (place : ℕ) (old new : List Class) (class : Class) (row : PureRow) (x : Found)
    → IsTable a.expression → IsLabel a.expression (row_label place) → IsRowOf a.expression (row_label place) row → AreAnswersOf row x
    → class ≡ found_class (Row place) x → IsGrownBy old class new → GainsRow a place old new
gains_found a place old new class row x t i is answers e = gains_one a place old new class
    (subst (λ d. ProfileOf a.expression (row_label place) d.profile) (sym e) (profile_of_row a.expression (row_label place) row x is answers))
    (subst (ClassOf a) (sym e) (class_of_row a (row_label place) (Row place) row x t i is answers refl))

pub still_covered : (a : PureAlg) (place : ℕ) (old new : List Class) (l : PureLabel) → GainsRow a place old new → IsCovered a old l → IsCovered a new l
still_covered a place old new l gains is = (is.0, is.1, gains.keeps is.0 is.2)
