-- What a changed choice does to levels. Lemmas, so that proofs of other crates may cite them.
use Rattle.std.proofs.Common.{◌≡◌, ◌≢◌, ℕ, ◌<◌, ◌⊎◌, inl, inr, Bool, true, false, Option, Some, None, subst, refl, sym, ◌∙◌, ap, arith}
use Rattle.std.specs.Prelude.{◌==◌, min}
use Rattle.std.proofs.lemmas.Bool.{eqb-true}
use Rattle.net_graph.specs.Nets.{PureNet}
use Rattle.net_graph.specs.Routes.{PureRoute}
use Rattle.net_graph.specs.RouteLaws.{neither_better}
use Rattle.net_graph.specs.Tables.{Reported, carrier, IsOfferBy, Offers, IsChoice}
use Rattle.settled_laws.specs.Offers.{ReportsOwnPaths, same_offer}
use Rattle.vector_rest.specs.Levels.{ReportsOnly, AreLevels}

-- an offer is one still, or is made of what the neighbour reported before its report changed
moved : (net : PureNet) (dest : ℕ) (reported other : Reported) (i j : ℕ) → ((m : ℕ) → (m == j) ≡ false → reported m ≡ other m)
    → (r : PureRoute) → Offers net dest reported i r → Offers net dest other i r ⊎ IsOfferBy net reported i j r
moved net dest reported other i j same r (inl own) = inl (inl own)
moved net dest reported other i j same r (inr (m, o)) = by (m == j) refl
  where
    by : (b : Bool) → (m == j) ≡ b → Offers net dest other i r ⊎ IsOfferBy net reported i j r
    by true e = inr (subst (λ n. IsOfferBy net reported i n r) (eqb-true m j e) o)
    by false e = inl (inr (m, record { next = o.next; is_reported = sym (same m e) ∙ o.is_reported; weighs = o.weighs; loopless = o.loopless; path = o.path }))

module _ (net : PureNet) (Has : PureRoute → Type 0) (level : Option PureRoute → ℕ) (are : AreLevels net Has level) where
  -- the neighbour's route has a lower level than what its arc makes of it
  extended : (reported : Reported) (i j : ℕ) → ReportsOnly Has reported → (r : PureRoute) → Has r → IsOfferBy net reported i j r → level (reported j) < level (Some r)
  extended reported i j reports r has o =
      let below : level (Some o.next) < level (Some r) = are.extends reported i j r o (reports j o.next o.is_reported) has in
      subst (λ t. level t < level (Some r)) (sym o.is_reported) below

  module _ (dest : ℕ) (reported other : Reported) (i j : ℕ) (reports : ReportsOnly Has reported) (reports_other : ReportsOnly Has other) (own : ReportsOwnPaths reported)
      (same : (m : ℕ) → (m == j) ≡ false → reported m ≡ other m) where
    both : (r s : PureRoute) → Has r → Has s → IsChoice net dest reported i (Some r) → IsChoice net dest other i (Some s) → (r ≡ s → ⊥)
        → min (level (reported j)) (level (other j)) < min (level (Some r)) (level (Some s))
    both r s has has_other choice choice_other apart =
        by (moved net dest reported other i j same r choice.0) (moved net dest other reported i j (λ m e. sym (same m e)) s choice_other.0)
      where
        by : Offers net dest other i r ⊎ IsOfferBy net reported i j r → Offers net dest reported i s ⊎ IsOfferBy net other i j s
            → min (level (reported j)) (level (other j)) < min (level (Some r)) (level (Some s))
        by (inl a) (inl b) =
            let path = neither_better (carrier net) r s (are.values r has) (are.values s has_other) (choice_other.1 r a) (choice.1 s b) in
            absurd (apart (same_offer net dest reported i r s own choice.0 b path))
        by (inl a) (inr b) =
            let order = are.orders s r has_other has (choice_other.1 r a) in
            let below = extended other i j reports_other s has_other b in
            omega (arith, order, below)
        by (inr a) (inl b) =
            let order = are.orders r s has has_other (choice.1 s b) in
            let below = extended reported i j reports r has a in
            omega (arith, order, below)
        by (inr a) (inr b) =
            let first = extended reported i j reports r has a in
            let second = extended other i j reports_other s has_other b in
            omega (arith, first, second)

    pub levels_rise : (r s : Option PureRoute) → IsChoice net dest reported i r → IsChoice net dest other i s
        → ((x : PureRoute) → r ≡ Some x → Has x) → ((x : PureRoute) → s ≡ Some x → Has x) → r ≢ s
        → min (level (reported j)) (level (other j)) < min (level r) (level s)
    levels_rise (Some r) (Some s) choice choice_other has has_other apart =
        both r s (has r refl) (has_other s refl) choice choice_other (λ e. apart (ap (λ x. Some x) e))
    levels_rise None (Some s) choice choice_other has has_other apart =
        by (moved net dest other reported i j (λ m e. sym (same m e)) s choice_other.0)
      where
        by : Offers net dest reported i s ⊎ IsOfferBy net other i j s → min (level (reported j)) (level (other j)) < min (level None) (level (Some s))
        by (inl b) = absurd (choice s b)
        by (inr b) =
            let below = extended other i j reports_other s (has_other s refl) b in
            let top = are.tops s (has_other s refl) in
            omega (arith, below, top)
    levels_rise (Some r) None choice choice_other has has_other apart =
        by (moved net dest reported other i j same r choice.0)
      where
        by : Offers net dest other i r ⊎ IsOfferBy net reported i j r → min (level (reported j)) (level (other j)) < min (level (Some r)) (level None)
        by (inl a) = absurd (choice_other r a)
        by (inr a) =
            let below = extended reported i j reports r (has r refl) a in
            let top = are.tops r (has r refl) in
            omega (arith, below, top)
    levels_rise None None choice choice_other has has_other apart = absurd (apart refl)
