-- Laws of lists of labels that are made of outlines.
use Rattle.std.proofs.Common.{◌≡◌, refl, sym, subst, ◌⊎◌, inl, inr, ⊎_elim, List, [], ◌∷◌, ◌++◌, Bool, true, false, ◌&&◌}
use Rattle.std.specs.List.{AllByRecursion}
use Rattle.alg_model.specs.Expressions.{PureAlg}
use Rattle.alg_model.specs.Properties.{monotone, strict, isotone, cancellative, total}
use Rattle.alg_model.specs.Views.{pure_label}
use Rattle.alg_classes.specs.Classes.{IsTruthOf}
use Rattle.alg_classes.specs.Facts.{fact_of}
use Rattle.alg_classes.specs.Growth.{Only}
use Rattle.alg_classes.specs.GrowthLaws.{grown_already, grown_by_new, grown_then}
use Rattle.alg_classes.specs.ListLaws.{all_and_one}
use Rattle.alg_classes.specs.Profiles.{bit}
use Rattle.alg_classes.specs.declared.fact.Fact.{Fact}
use Rattle.alg_classes.specs.declared.profile.Profile.{Profile}
use Rattle.profile_labels.specs.Deciding.{AllHave, AreDecided, AreGrown, Decides, DecidesMore, IsDecided}
use Rattle.profile_labels.specs.Labels as made
use Rattle.profile_labels.specs.Labels.{IsLabelWith, LabelledOf, of_label}
use Rattle.profile_labels.specs.Outlines.{CoversBy, Has, OutlinedOf, outline_label}
use Rattle.profile_labels.specs.declared.labelled.Labelled.{Labelled}
use Rattle.profile_labels.specs.declared.outlined.Outlined.{Outlined}

-- the label of an outline is one with its profile
pub labelled_of : (a : PureAlg) (x : Outlined) (z : Labelled) → OutlinedOf a x → z.profile ≡ x.profile → pure_label z.label ≡ outline_label x.outline.value
    → LabelledOf a z
labelled_of a x z is profile label =
    subst (λ l. IsLabelWith a l z.profile) (sym label) (subst (IsLabelWith a (outline_label x.outline.value)) (sym profile) is)

-- all of the longer list have a fact only where all of the shorter have it, and the label that is added
all_of_more : (k : Fact) (xs : List Labelled) (x : Labelled) → AllHave k (xs ++ x ∷ []) → AllHave k xs × (bit x.profile k ≡ true)
all_of_more k [] x h = (tt, h.0)
all_of_more k (y ∷ ys) x h = let more = all_of_more k ys x h.1 in ((h.0, more.0), more.1)

-- no outline is left
pub none_decided : (a : PureAlg) (old : List Labelled) → DecidesMore a [] old old
none_decided a old = record {
  each = λ e. e;
  kept = λ q t. t;
  decided = λ q h. absurd h;
}

-- the list decides all properties of the first outline already, or its label is added
pub decided_already : (a : PureAlg) (x : Outlined) (rest : List Outlined) (old new : List Labelled) → AreDecided old x.profile → DecidesMore a rest old new
    → DecidesMore a (x ∷ rest) old new
decided_already a x rest old new first more = record {
  each = more.each;
  kept = more.kept;
  decided = λ q h. ⊎_elim (λ e. subst (AreDecided new) e (more.kept x.profile first)) (λ g. more.decided q g) h;
}

pub decided_more : (a : PureAlg) (x : Outlined) (rest : List Outlined) (old mid new : List Labelled) (z : Labelled) → LabelledOf a z → z.profile ≡ x.profile
    → mid ≡ old ++ z ∷ [] → DecidesMore a rest mid new → DecidesMore a (x ∷ rest) old new
decided_more a x rest old mid new z is profile grown more =
    let keeps : (q : Profile) → AreDecided old q → AreDecided mid q =
    λ q t p all. t p (all_of_more (fact_of p) old z (subst (AllHave (fact_of p)) grown all)).0 in
    let decides : AreDecided mid x.profile =
    λ p all. subst (λ q. bit q (fact_of p) ≡ true) profile (all_of_more (fact_of p) old z (subst (AllHave (fact_of p)) grown all)).1 in
    record {
      each = λ e. more.each (subst (AllByRecursion (LabelledOf a)) (sym grown) (all_and_one (LabelledOf a) old z e is));
      kept = λ q t. more.kept q (keeps q t);
      decided = λ q h. ⊎_elim (λ e. subst (AreDecided new) e (more.kept x.profile decides)) (λ g. more.decided q g) h;
    }

-- labels that decide all properties of all profiles of an algebra decide it
pub decides_by_outlines : (a : PureAlg) (outlines : List Outlined) (old new : List Labelled) → old ≡ [] → CoversBy a outlines → DecidesMore a outlines old new → Decides a new
decides_by_outlines a outlines old new empty covers decided = record {
  each = decided.each (subst (AllByRecursion (LabelledOf a)) (sym empty) tt);
  labels = λ l i. let c = covers.labels l i in (c.0, c.1, decided.decided c.0 c.2);
}

-- the same of all profiles
pub none_grown : (a : PureAlg) (old : List Labelled) → AreGrown a [] old old
none_grown a old = record {
  kept = λ r h. h;
  reached = λ r h. absurd h;
  each = λ e. e;
  distinct = λ d. d;
}

first_or_rest : (x : Outlined) (rest : List Outlined) (p : Profile) → Has (x ∷ rest) p → Only x.profile p ⊎ Has rest p
first_or_rest x rest p h = ⊎_elim (λ e. inl (sym e)) (λ g. inr g) h

pub grown_already_by : (a : PureAlg) (x : Outlined) (rest : List Outlined) (old new : List Labelled) → made.Has old x.profile → AreGrown a rest old new
    → AreGrown a (x ∷ rest) old new
grown_already_by a x rest old new has = grown_then {of = of_label} (LabelledOf a) (Only x.profile) (Has rest) (Has (x ∷ rest)) old old new (first_or_rest x rest)
    (grown_already {of = of_label} (LabelledOf a) x.profile old has)

pub grown_more_by : (a : PureAlg) (x : Outlined) (rest : List Outlined) (old mid new : List Labelled) (z : Labelled) → LabelledOf a z → z.profile ≡ x.profile
    → ¬ made.Has old x.profile → mid ≡ old ++ z ∷ [] → AreGrown a rest mid new → AreGrown a (x ∷ rest) old new
grown_more_by a x rest old mid new z is profile none grown = grown_then {of = of_label} (LabelledOf a) (Only x.profile) (Has rest) (Has (x ∷ rest)) old mid new (first_or_rest x rest)
    (grown_by_new {of = of_label} (LabelledOf a) x.profile old mid z profile is none grown)

pub grown_covers : (a : PureAlg) (outlines : List Outlined) (old new : List Labelled) → old ≡ [] → CoversBy a outlines → AreGrown a outlines old new
    → made.CoversBy a new
grown_covers a outlines old new empty covers grown = record {
  distinct = grown.distinct (subst made.AreDistinct (sym empty) tt);
  each = grown.each (subst (AllByRecursion (LabelledOf a)) (sym empty) tt);
  labels = λ l i. let c = covers.labels l i in (c.0, c.1, grown.reached c.0 c.2);
}

-- what is tested of each property is tested of all
both_true : {P Q : Type 0} (b c : Bool) → IsTruthOf b P → IsTruthOf c Q → IsTruthOf (b && c) (P × Q)
both_true true c h i = (λ e. (h.0 refl, i.0 e), λ p. i.1 p.1)
both_true false c h i = (λ e. absurd (cc), λ p. h.1 p.0)

each_decided : (xs : List Labelled) (q : Profile) → (((IsDecided xs q monotone × IsDecided xs q strict) × IsDecided xs q isotone) × IsDecided xs q cancellative) × IsDecided xs q total
    → AreDecided xs q
each_decided xs q t monotone = t.0.0.0.0
each_decided xs q t strict = t.0.0.0.1
each_decided xs q t isotone = t.0.0.1
each_decided xs q t cancellative = t.0.1
each_decided xs q t total = t.1

pub decided_by_each : (xs : List Labelled) (q : Profile) (a b c d e : Bool) → IsTruthOf a (IsDecided xs q monotone) → IsTruthOf b (IsDecided xs q strict)
    → IsTruthOf c (IsDecided xs q isotone) → IsTruthOf d (IsDecided xs q cancellative) → IsTruthOf e (IsDecided xs q total)
    → IsTruthOf ((((a && b) && c) && d) && e) (AreDecided xs q)
decided_by_each xs q a b c d e f g h i j =
    let t = both_true (((a && b) && c) && d) e (both_true ((a && b) && c) d (both_true (a && b) c (both_true a b f g) h) i) j in
    (λ k. each_decided xs q (t.0 k), λ all. t.1 ((((all monotone, all strict), all isotone), all cancellative), all total))
