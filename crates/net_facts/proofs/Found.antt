-- The earliest of some properties that a label doesn't have, and the arcs before it that have all of them.
use Rattle.std.proofs.Common.{◌≡◌, ℕ, zero, suc, ◌+◌, ◌≤◌, List, [], ◌∷◌, Option, Some, None, Bool, true, false, not, cond, get_or, map, length, slice_get, refl, ap, sym, ◌∙◌, subst, arith, ◌-◌, below_more}
use Rattle.std.proofs.lemmas.Option.{same_Some}
use Rattle.std.specs.List.{AllByRecursion, find}
use Rattle.std.specs.Option.{MatchOption}
use Rattle.alg_classes.specs.FactLaws.{has_by_profile, misses_by_profile}
use Rattle.alg_classes.specs.Facts.{fact_of}
use Rattle.alg_classes.specs.Instances.{pure_property}
use Rattle.alg_classes.specs.Profiles.{bit, ProfileOf}
use Rattle.alg_classes.specs.declared.profile.Profile.{Profile}
use Rattle.alg_classes.specs.declared.property.Property.{Property}
use Rattle.alg_model.specs.Expressions.{Expression, PureLabel}
use Rattle.alg_model.specs.Properties.{PureProperty, Has}
use Rattle.alg_model.specs.Verdicts.{PureInstance}
use Rattle.net_graph.specs.Nets.{PureArc, PureNet}
use Rattle.property_infer.specs.Reported.{IsMissingOf}
use Rattle.net_facts.specs.MarkLaws.{AreHeld, held_at}
use Rattle.net_facts.specs.Misses.{HasAll, ArcHasAll, NetHasAll, AllBefore, StandsAfter, MissesEarliest, MissesFirst, IsFirstMissing}

abbrev pub Earliest : Expression → PureLabel → List Property → Option Property → Type 0
Earliest a l ps o = MatchOption o (HasAll (map pure_property ps) a l) (λ p. MissesEarliest (map pure_property ps) a l (pure_property p))

had_before : (P : PureProperty → Type 0) (p : PureProperty) (ps : List PureProperty) (n : ℕ) → P p → AllBefore P ps n → AllBefore P (p ∷ ps) (suc n)
had_before P p ps n h before zero less y e = subst P (same_Some p y e) h
had_before P p ps n h before (suc m) less y e = before m (omega arith) y e

stands_next : (P : PureProperty → Type 0) (p x : PureProperty) (ps : List PureProperty) (n : ℕ) → P p
    → StandsAfter P ps n x → StandsAfter P (p ∷ ps) (suc n) x
stands_next P p x ps n h s = record { at = s.at; before = had_before P p ps n h s.before }

earliest_next : (a : Expression) (l : PureLabel) (p : Property) (ps : List Property) (o : Option Property) → Has (pure_property p) a l
    → Earliest a l ps o → Earliest a l (p ∷ ps) o
earliest_next a l p ps None h more = (h, more)
earliest_next a l p ps (Some x) h more = record {
  place = suc more.place;
  stands = stands_next (λ q. Has q a l) (pure_property p) (pure_property x) (map pure_property ps) more.place h more.stands;
  misses = more.misses;
}

-- what a search in the list by the profile finds
pub earliest : (a : Expression) (l : PureLabel) (q : Profile) → ProfileOf a l q → (ps : List Property)
    → Earliest a l ps (find (λ p. not (bit q (fact_of (pure_property p)))) ps)
earliest a l q is [] = tt
earliest a l q is (p ∷ ps) = by (bit q (fact_of (pure_property p))) refl (earliest a l q is ps)
  where
    by : (b : Bool) → bit q (fact_of (pure_property p)) ≡ b → Earliest a l ps (find (λ p. not (bit q (fact_of (pure_property p)))) ps)
        → Earliest a l (p ∷ ps) (cond (not b) (Some p) (find (λ p. not (bit q (fact_of (pure_property p)))) ps))
    by true e more = earliest_next a l p ps (find (λ p. not (bit q (fact_of (pure_property p)))) ps) (has_by_profile (pure_property p) a l q is e) more
    by false e more = record {
      place = 0;
      stands = record { at = refl; before = λ m less. absurd (omega arith) };
      misses = misses_by_profile (pure_property p) a l q is e;
    }

-- what holds of each item before the end of the list holds of all
all_before_end : {X : Type 0} (P : X → Type 0) (xs : List X) (n : ℕ) → length xs ≤ n → AllBefore P xs n → AllByRecursion P xs
all_before_end P [] n h before = tt
all_before_end P (x ∷ xs) n h before =
    (before 0 (omega arith) x refl, all_before_end P xs (n - 1) (omega arith) (λ m less. before (suc m) (omega arith)))

halves : {X : Type 0} (P Q : X → Type 0) (xs : List X) → AllByRecursion (λ x. P x × Q x) xs → AllByRecursion P xs × AllByRecursion Q xs
halves P Q [] all = (tt, tt)
halves P Q (x ∷ xs) all = let more = halves P Q xs all.1 in ((all.0.0, more.0), (all.0.1, more.1))

each_property : (ps : List PureProperty) (net : PureNet) → AllByRecursion (ArcHasAll ps net) net.arcs → NetHasAll ps net
each_property [] net all = tt
each_property (p ∷ ps) net all =
    let both = halves (λ (a : PureArc). Has p net.alg.expression a.label) (ArcHasAll ps net) net.arcs all in
    (both.0, each_property ps net both.1)

-- where the labels of all arcs have all properties, the network does
pub all_pass : (ps : List PureProperty) (net : PureNet) (n : ℕ) → length net.arcs ≤ n → AllBefore (ArcHasAll ps net) net.arcs n → NetHasAll ps net
all_pass ps net n h before = each_property ps net (all_before_end (ArcHasAll ps net) net.arcs n h before)

-- one arc more
pub one_passes : (ps : List PureProperty) (net : PureNet) (n : ℕ) (a : PureArc) → slice_get net.arcs n ≡ Some a → ArcHasAll ps net a
    → AllBefore (ArcHasAll ps net) net.arcs n → AllBefore (ArcHasAll ps net) net.arcs (n + 1)
one_passes ps net n a at has before =
    below_more (λ m. (b : PureArc) → slice_get net.arcs m ≡ Some b → ArcHasAll ps net b) n before
    (λ b e. subst (ArcHasAll ps net) (same_Some a b (let here = at in cc)) has)

-- one whose label is marked
pub marked_passes : (ps : List PureProperty) (net : PureNet) (n number : ℕ) (numbers : List ℕ) (marks : List Bool) → AreHeld (HasAll ps net.alg.expression) net numbers marks
    → slice_get numbers n ≡ Some number → get_or marks number false ≡ true → AllBefore (ArcHasAll ps net) net.arcs n → AllBefore (ArcHasAll ps net) net.arcs (n + 1)
marked_passes ps net n number numbers marks held at marked before =
    below_more (λ m. (b : PureArc) → slice_get net.arcs m ≡ Some b → ArcHasAll ps net b) n before
    (λ b e. held_at (HasAll ps net.alg.expression) net numbers marks n number b held at e marked)

-- an instance that shows it of the arc at that place
pub first_shown : (ps : List PureProperty) (net : PureNet) (k : ℕ) (p : PureProperty) (arc : PureArc) (x : PureInstance) → MissesFirst ps net k p
    → slice_get net.arcs k ≡ Some arc → IsMissingOf net.alg p arc.label x → IsFirstMissing ps net k x
first_shown ps net k p arc x f at shown =
    let same : arc ≡ f.arc = same_Some arc f.arc (let there = f.stands.at in cc) in
    record {
      first = record {
        arc = f.arc;
        stands = f.stands;
        earliest = subst (MissesEarliest ps net.alg.expression f.arc.label) (sym shown.property) f.earliest;
      };
      label = shown.label ∙ ap (λ (a : PureArc). a.label) same;
      violates = shown.violates;
      bound = shown.bound;
    }
