-- Labels of an algebra that has no parts, added place by place.
use Rattle.std.proofs.Common.{◌≡◌, refl, sym, subst, ⊎_elim, ℕ, ◌+◌, ◌<◌, ◌≤◌, List, [], arith}
use Rattle.std.proofs.lemmas.Bool.{cases_lt}
use Rattle.std.specs.List.{AllByRecursion}
use Rattle.alg_model.specs.Expressions.{PureAlg, PureLabel, row_label}
use Rattle.alg_model.specs.Application.{IsLabel}
use Rattle.alg_model.specs.Bounds.{greatest_number}
use Rattle.alg_model.specs.Formation.{IsAlg}
use Rattle.alg_model.specs.Forms.{IsBase}
use Rattle.alg_classes.specs.declared.profile.Profile.{Profile}
use Rattle.alg_classes.specs.Growth.{Only}
use Rattle.alg_classes.specs.Profiles.{ProfileOf}
use Rattle.base_classes.specs.Lists.{candidate}
use Rattle.base_classes.specs.CandidateLaws.{has_candidate, label_bounded}
use Rattle.table_classes.specs.Rows.{IsTable}
use Rattle.table_classes.specs.RowLaws.{each_row, row_bound}
use Rattle.profile_labels.specs.declared.outlined.Outlined.{Outlined}
use Rattle.profile_labels.specs.Growth.{Grown}
use Rattle.profile_labels.specs.Labels.{IsLabelWith}
use Rattle.profile_labels.specs.Outlines.{AreDistinct, OutlinedOf, IsCoveredBy, CoversBy}
use Rattle.profile_labels.specs.Places.{HasBefore}

-- an empty list has none before the first place
pub none_before : (a : PureAlg) (label_at : ℕ → PureLabel) (xs : List Outlined) → xs ≡ [] → HasBefore a label_at 0 xs
none_before a label_at xs empty = record {
  distinct = subst AreDistinct (sym empty) tt;
  each = subst (AllByRecursion (OutlinedOf a)) (sym empty) tt;
  before = λ p k. absurd (omega (arith, k));
}

-- the next place, where its label is covered
one_more : (a : PureAlg) (label_at : ℕ → PureLabel) (place : ℕ) (xs : List Outlined) → HasBefore a label_at place xs
    → (IsLabel a.expression (label_at place) → IsCoveredBy a xs (label_at place)) → HasBefore a label_at (place + 1) xs
one_more a label_at place xs h has = record {
  distinct = h.distinct;
  each = h.each;
  before = λ p k i. ⊎_elim
      (λ l. h.before p l i)
      (λ l. subst (λ q. IsLabel a.expression (label_at q) → IsCoveredBy a xs (label_at q)) (omega (arith, k, l)) has i)
      (cases_lt p place);
}

-- so too where there is no label
pub none_more : (a : PureAlg) (label_at : ℕ → PureLabel) (place : ℕ) (xs : List Outlined) → ¬ IsLabel a.expression (label_at place)
    → HasBefore a label_at place xs → HasBefore a label_at (place + 1) xs
none_more a label_at place xs none h = one_more a label_at place xs h (λ i. absurd (none i))

-- and where it is added
pub added_more : (a : PureAlg) (label_at : ℕ → PureLabel) (place : ℕ) (old new : List Outlined) (p : Profile) → IsLabelWith a (label_at place) p
    → HasBefore a label_at place old → Grown (OutlinedOf a) (Only p) old new → HasBefore a label_at (place + 1) new
added_more a label_at place old new p is h grown = one_more a label_at place new (record {
  distinct = grown.distinct h.distinct;
  each = grown.each h.each;
  before = λ q k i. let c = h.before q k i in (c.0, c.1, grown.kept c.0 c.2);
}) (λ i. (p, is.profile, grown.reached p refl))

-- a row of a table, and a label of another base algebra, with its profile
pub row_with : (a : PureAlg) (place : ℕ) (p : Profile) → IsTable a.expression → IsLabel a.expression (row_label place)
    → ProfileOf a.expression (row_label place) p → IsLabelWith a (row_label place) p
row_with a place p table i profile = record {
  label = i;
  small = row_bound a.expression (row_label place) (greatest_number a.edition) table i;
  profile = profile;
}

pub base_with : (a : PureAlg) (l : PureLabel) (p : Profile) → IsAlg a → IsBase a.expression → IsLabel a.expression l
    → ProfileOf a.expression l p → IsLabelWith a l p
base_with a l p is base i profile = record {
  label = i;
  small = label_bounded (greatest_number a.edition) a.expression l base is.bound i;
  profile = profile;
}

-- all rows cover a table
pub rows_cover : (a : PureAlg) (place : ℕ) (xs : List Outlined) → IsTable a.expression
    → ((r : ℕ) → IsLabel a.expression (row_label r) → r < place) → HasBefore a row_label place xs → CoversBy a xs
rows_cover a place xs table below h = record {
  distinct = h.distinct;
  each = h.each;
  labels = each_row a.expression table (IsCoveredBy a xs) (λ r i. h.before r (below r i) i);
}

-- all that are tried cover another base algebra
pub candidates_cover : (a : PureAlg) (place : ℕ) (xs : List Outlined) → IsAlg a → IsBase a.expression → 4 ≤ place
    → HasBefore a (candidate a.expression) place xs → CoversBy a xs
candidates_cover a place xs is base all h = record {
  distinct = h.distinct;
  each = h.each;
  labels = λ l i.
      let f = has_candidate a.expression l base is.formed.ranges i in
      let c = h.before f.0 (omega (arith, f.1, all)) f.2 in
      (c.0, f.3 c.0 c.1, c.2);
}
