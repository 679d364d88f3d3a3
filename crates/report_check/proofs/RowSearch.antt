-- What is found of a row, by its node's origin and arc by arc.
use Rattle.std.proofs.Common.{◌≡◌, ◌≢◌, ℕ, ◌+◌, ◌≤◌, List, ◌∷◌, Option, Some, None, IfSome, Bool, true, false, ◌||◌, ◌⊎◌, inl, inr, if◌then◌else◌, option_map, option_and_then, length, refl, sym, ◌∙◌, subst, arith}
use Rattle.std.specs.Bool.{Decides}
use Rattle.std.specs.List.{slice_get}
use Rattle.std.specs.Option.{option_or, is_none, MatchOption, IsSomeAnd}
use Rattle.std.specs.Ordering.{ordering_then, ordering_reverse}
use Rattle.std.specs.declared.cmp.Ordering.{Ordering}
use Rattle.std.specs.declared.cmp.Ordering.TheVariants.{Less, Greater}
use Rattle.meta_base.specs.NodePaths.{compare_paths}
use Rattle.alg_model.specs.Expressions.{PureCarrier, PureValue}
use Rattle.alg_model.specs.Carriers.{In, IsPreferred, Order}
use Rattle.alg_model.specs.Laws.{total_preorder}
use Rattle.net_graph.specs.Nets.{PureArc, PureNet, IsNet, arcs_from, origin_value}
use Rattle.net_graph.specs.Routes.{PureRoute}
use Rattle.net_graph.specs.Tables.{PureRow, Reported, Offers, carrier, is_among, route_at, value_at}
use Rattle.net_graph.specs.Unbeaten.{none_last}
use Rattle.net_graph.specs.Walks.{along}
use Rattle.net_graph.specs.ArcLaws.{along_none}
use Rattle.net_graph.specs.Views.{pure_route}
use Rattle.net_graph.specs.declared.route.Route.{Route}
use Rattle.stable_check.specs.Checks.{passed_on, offer_by, own_offer, ImprovedBy, IsMade, IsOutdone, MadeBy, Makes, OutdoneBy, Outdoes}
use Rattle.stable_check.specs.ArcSearch.{NoneBefore, none_more, none_at_all}
use Rattle.stable_check.specs.Offering.{improved_has, made_has, outdone_has, outdone_by, offer_made, own_made, own_found, offer_found}
use Rattle.report_check.specs.Findings.{IsMadeAlone}
use Rattle.report_check.specs.Judged.{IsBeaten, IsBeatenBy, IsBetterOffer}

pub refused : {P : Type 0} → ¬ P → Decides false P
refused f = (λ e. absurd (cc), λ h. absurd (f h))

-- an arc that makes no value shows nothing
pub no_image : (net : PureNet) (rows : List PureRow) (i j : ℕ) → along net i j (value_at rows j) ≡ None → ¬ ImprovedBy net rows i j
no_image net rows i j e h = none_last (carrier net) (value_at rows i) (rw e at h)

pub nothing_there : (net : PureNet) (rows : List PureRow) (i j : ℕ) → route_at rows j ≡ None → along net i j (value_at rows j) ≡ None
nothing_there net rows i j e = rw e (along_none net i j)

no_offer : (net : PureNet) (rows : List PureRow) (i j : ℕ) → along net i j (value_at rows j) ≡ None → offer_by net (route_at rows) i j ≡ None
no_offer net rows i j e = by (route_at rows j) refl e
  where
    none : (b : Bool) (x : Option PureRoute) → x ≡ None → (if b then None else x) ≡ None
    none true x h = refl
    none false x h = h

    by : (o : Option PureRoute) → route_at rows j ≡ o → along net i j (option_map (λ (r : PureRoute). r.value) o) ≡ None → option_and_then (passed_on net i j) o ≡ None
    by None f g = refl
    by (Some next) f g = rw g (none (is_among next.path i) None refl)

no_offer_outdoes : (net : PureNet) (reported : Reported) (i j : ℕ) → offer_by net reported i j ≡ None → ¬ OutdoneBy net reported i j
no_offer_outdoes net reported i j e h = rw e at h

no_offer_makes : (net : PureNet) (reported : Reported) (i j : ℕ) → offer_by net reported i j ≡ None → ¬ MadeBy net reported i j
no_offer_makes net reported i j e h = by (reported i) (rw e at h)
  where
    by : (o : Option PureRoute) → Makes None o → ⊥
    by None h = h
    by (Some r) h = absurd (cc)

pub not_outdone : (net : PureNet) (rows : List PureRow) (i j : ℕ) → along net i j (value_at rows j) ≡ None → ¬ OutdoneBy net (route_at rows) i j
not_outdone net rows i j e = no_offer_outdoes net (route_at rows) i j (no_offer net rows i j e)

pub not_made : (net : PureNet) (rows : List PureRow) (i j : ℕ) → along net i j (value_at rows j) ≡ None → Decides false (MadeBy net (route_at rows) i j)
not_made net rows i j e = refused (no_offer_makes net (route_at rows) i j (no_offer net rows i j e))

-- what the arc offers of the next route, where it makes this value of it
pub offer_is : (net : PureNet) (rows : List PureRow) (i j : ℕ) (next : PureRoute) (v : PureValue) → route_at rows j ≡ Some next → along net i j (value_at rows j) ≡ Some v
    → is_among next.path i ≡ false → offer_by net (route_at rows) i j ≡ Some (record { value = v; path = i ∷ next.path })
offer_is net rows i j next v e f g =
    let image : along net i j (Some next.value) ≡ Some v = rw e at f in
    rw (e, g, image) refl

passed_none : (net : PureNet) (rows : List PureRow) (i j : ℕ) (next : PureRoute) → route_at rows j ≡ Some next → is_among next.path i ≡ true → offer_by net (route_at rows) i j ≡ None
passed_none net rows i j next e g = rw (e, g) refl

pub passed_outdoes : (net : PureNet) (rows : List PureRow) (i j : ℕ) (next : PureRoute) → route_at rows j ≡ Some next → is_among next.path i ≡ true → ¬ OutdoneBy net (route_at rows) i j
passed_outdoes net rows i j next e g = no_offer_outdoes net (route_at rows) i j (passed_none net rows i j next e g)

pub passed_makes : (net : PureNet) (rows : List PureRow) (i j : ℕ) (next : PureRoute) → route_at rows j ≡ Some next → is_among next.path i ≡ true → Decides false (MadeBy net (route_at rows) i j)
passed_makes net rows i j next e g = refused (no_offer_makes net (route_at rows) i j (passed_none net rows i j next e g))

-- a value that is worse than the row's
abbrev pub IsWorse : PureCarrier → PureValue → Option PureRoute → Type 0
IsWorse c v row = IsSomeAnd row (λ (r : PureRoute). Order c v r.value ≡ Greater)

worse_then : (o p : Ordering) → o ≡ Greater → ordering_then o p ≢ Less
worse_then o p e f = grind arith

self_equal : (o : Ordering) → o ≡ ordering_reverse o → o ≢ Greater
self_equal o e f = grind arith

worse_outdoes : (c : PureCarrier) (s : PureRoute) (row : Option PureRoute) → IsWorse c s.value row → ¬ Outdoes c (Some s) row
worse_outdoes c s None w h = absurd w
worse_outdoes c s (Some r) w h = worse_then (Order c s.value r.value) (compare_paths s.path r.path) w h

worse_makes : (c : PureCarrier) (s : PureRoute) (row : Option PureRoute) → In c s.value → IsWorse c s.value row → ¬ Makes (Some s) row
worse_makes c s None i w h = absurd w
worse_makes c s (Some r) i w h =
    let same : s ≡ r = cc in
    let worse : Order c s.value s.value ≡ Greater = rw (← same) at w in
    self_equal (Order c s.value s.value) ((total_preorder c).flip s.value s.value i i) worse

-- the offer of a worse value, whether the path passes the node or not
worse_offer : (net : PureNet) (rows : List PureRow) (i j : ℕ) (next : PureRoute) (v : PureValue) (P : Option PureRoute → Type 0) → route_at rows j ≡ Some next → along net i j (value_at rows j) ≡ Some v
    → P None → P (Some (record { value = v; path = i ∷ next.path })) → P (offer_by net (route_at rows) i j)
worse_offer net rows i j next v P e f none some = by (is_among next.path i) refl
  where
    by : (b : Bool) → is_among next.path i ≡ b → P (offer_by net (route_at rows) i j)
    by true g = subst P (sym (passed_none net rows i j next e g)) none
    by false g = subst P (sym (offer_is net rows i j next v e f g)) some

pub worse_not_outdone : (net : PureNet) (rows : List PureRow) (i j : ℕ) (next : PureRoute) (v : PureValue) → route_at rows j ≡ Some next → along net i j (value_at rows j) ≡ Some v
    → IsWorse (carrier net) v (route_at rows i) → ¬ OutdoneBy net (route_at rows) i j
worse_not_outdone net rows i j next v e f w =
    worse_offer net rows i j next v (λ o. ¬ Outdoes (carrier net) o (route_at rows i)) e f (λ h. h)
    (worse_outdoes (carrier net) (record { value = v; path = i ∷ next.path }) (route_at rows i) w)

pub worse_not_made : (net : PureNet) (rows : List PureRow) (i j : ℕ) (next : PureRoute) (v : PureValue) → route_at rows j ≡ Some next → along net i j (value_at rows j) ≡ Some v
    → In (carrier net) v → IsWorse (carrier net) v (route_at rows i) → Decides false (MadeBy net (route_at rows) i j)
worse_not_made net rows i j next v e f k w = refused
    (worse_offer net rows i j next v (λ o. ¬ Makes o (route_at rows i)) e f (none (route_at rows i))
    (worse_makes (carrier net) (record { value = v; path = i ∷ next.path }) (route_at rows i) k w))
  where
    none : (o : Option PureRoute) → ¬ Makes None o
    none None h = h
    none (Some r) h = absurd (cc)

-- what follows of what was found, and of nothing
pub found_as : {X : Type 0} (o : Option X) (P Q : Type 0) (R S : X → Type 0) → MatchOption o P R → (P → Q) → ((x : X) → R x → S x) → MatchOption o Q S
found_as None P Q R S h f g = f h
found_as (Some x) P Q R S h f g = g x h

-- an offer that outdoes the row is there
pub outdoing : (c : PureCarrier) (o : Option Route) (row : Option PureRoute) → Outdoes c (option_map pure_route o) row
    → MatchOption o (¬ Outdoes c (option_map pure_route o) row) (λ s. (option_map pure_route o ≡ Some (pure_route s)) × Outdoes c (Some (pure_route s)) row)
outdoing c None row h = absurd h
outdoing c (Some s) row h = (refl, h)

-- the own origin's offer
pub made_alone : (net : PureNet) (dest i : ℕ) (reported : Reported) (o : Option PureRoute) (none b : Bool) → o ≡ reported i → none ≡ is_none o → Decides b (Makes (own_offer net dest i) o) → Decides (none || b) (IsMadeAlone net dest reported i)
made_alone net dest i reported o none b e n d = subst (λ (p : Option PureRoute). Decides (none || b) ((p ≡ None) ⊎ Makes (own_offer net dest i) p)) e (rw n (by o d))
  where
    none_makes : (o : Option PureRoute) → o ≡ None → ¬ Makes (own_offer net dest i) o
    none_makes None e h = h
    none_makes (Some r) e h = absurd (cc)

    by : (o : Option PureRoute) → Decides b (Makes (own_offer net dest i) o) → Decides (is_none o || b) ((o ≡ None) ⊎ Makes (own_offer net dest i) o)
    by None d = (λ e. inl refl, λ h. refl)
    by (Some r) d = (λ e. inr (d.0 e), λ h. some h)
      where
        some : (Some r ≡ None) ⊎ Makes (own_offer net dest i) (Some r) → b ≡ true
        some (inl e) = absurd (cc)
        some (inr h) = d.1 h

pub own_better : (net : PureNet) (dest i : ℕ) (rows : List PureRow) (s : PureRoute) → own_offer net dest i ≡ Some s → Outdoes (carrier net) (Some s) (route_at rows i) → IsBetterOffer net dest rows i s
own_better net dest i rows s e h = record { offers = inl (own_made net dest i s e); outdoes = h }

pub arc_better : (net : PureNet) (dest i j : ℕ) (rows : List PureRow) (s : PureRoute) → offer_by net (route_at rows) i j ≡ Some s → Outdoes (carrier net) (Some s) (route_at rows i) → IsBetterOffer net dest rows i s
arc_better net dest i j rows s e h = record { offers = inr (j, offer_made net (route_at rows) i j s e); outdoes = h }

pub weighed_better : (net : PureNet) (dest i j : ℕ) (rows : List PureRow) (made : PureRoute) (o : Option Route) (offer row : Option PureRoute) → offer ≡ Some made → row ≡ route_at rows i → offer_by net (route_at rows) i j ≡ Some made
    → MatchOption o (¬ Outdoes (carrier net) offer row) (λ s. (offer ≡ Some (pure_route s)) × Outdoes (carrier net) (Some (pure_route s)) row)
    → MatchOption o (¬ OutdoneBy net (route_at rows) i j) (λ s. IsBetterOffer net dest rows i (pure_route s))
weighed_better net dest i j rows made None offer row e f g h = λ out. h (rw (e, f) (rw g at out))
weighed_better net dest i j rows made (Some s) offer row e f g h = arc_better net dest i j rows (pure_route s) (g ∙ (sym e ∙ h.0)) (rw f at h.1)

-- arc by arc

pub found_more : {X : Type 0} (a b : Option X) (P Q R : Type 0) (S : X → Type 0) → MatchOption a P S → MatchOption b Q S → (P → Q → R) → MatchOption (option_or a b) R S
found_more None None P Q R S p q f = f p q
found_more None (Some x) P Q R S p q f = q
found_more (Some x) b P Q R S p q f = p

-- so far the row is made, or by none of these
abbrev pub MadeSoFar : PureNet → ℕ → List PureRow → ℕ → ℕ → Bool → Type 0
MadeSoFar net dest rows i n b =
    (b ≡ true → IsMade net dest (route_at rows) i)
    × (b ≡ false → ¬ IsMadeAlone net dest (route_at rows) i × NoneBefore net i (MadeBy net (route_at rows) i) n)

pub alone_made : (net : PureNet) (dest i : ℕ) (reported : Reported) → IsMadeAlone net dest reported i → IsMade net dest reported i
alone_made net dest i reported h = by (reported i) h
  where
    by : (o : Option PureRoute) → (o ≡ None) ⊎ Makes (own_offer net dest i) o → IfSome o (Offers net dest reported i)
    by None h = tt
    by (Some r) (inl e) = absurd (cc)
    by (Some r) (inr h) = inl (own_made net dest i r h)

pub arc_made : (net : PureNet) (dest i j : ℕ) (reported : Reported) → MadeBy net reported i j → IsMade net dest reported i
arc_made net dest i j reported h = by (reported i) h
  where
    by : (o : Option PureRoute) → Makes (offer_by net reported i j) o → IfSome o (Offers net dest reported i)
    by None h = tt
    by (Some r) h = inr (j, offer_made net reported i j r h)

none_yet : (net : PureNet) (i : ℕ) (Holds : ℕ → Type 0) → NoneBefore net i Holds 0
none_yet net i Holds k l a e h = absurd (omega arith)

pub made_first : (net : PureNet) (dest : ℕ) (rows : List PureRow) (i : ℕ) (b : Bool) → Decides b (IsMadeAlone net dest (route_at rows) i) → MadeSoFar net dest rows i 0 b
made_first net dest rows i b d = (
  λ e. alone_made net dest i (route_at rows) (d.0 e),
  λ e. (λ h. let f = d.1 h in absurd (cc), none_yet net i (MadeBy net (route_at rows) i)),
)

pub made_more : (net : PureNet) (dest : ℕ) (rows : List PureRow) (i n : ℕ) (a : PureArc) (b c : Bool) → slice_get (arcs_from net i) n ≡ Some a
    → MadeSoFar net dest rows i n b → Decides c (MadeBy net (route_at rows) i a.head) → MadeSoFar net dest rows i (n + 1) (b || c)
made_more net dest rows i n a true c at h d = (λ e. h.0 refl, λ e. absurd (cc))
made_more net dest rows i n a false c at h d = (
  λ e. arc_made net dest i a.head (route_at rows) (d.0 e),
  λ e. let before = h.1 refl in (before.0, none_more net i (MadeBy net (route_at rows) i) n a before.1 at (λ m. let f = d.1 m in absurd (cc))),
)

pub made_all : (net : PureNet) → IsNet net → (dest : ℕ) (rows : List PureRow) (i n : ℕ) (b : Bool) → length (arcs_from net i) ≤ n
    → MadeSoFar net dest rows i n b → Decides b (IsMade net dest (route_at rows) i)
made_all net w dest rows i n true all h = (λ e. h.0 refl, λ m. refl)
made_all net w dest rows i n false all h = refused (by (route_at rows i) refl)
  where
    reported : Reported
    reported = route_at rows

    not_offered : (r : PureRoute) → reported i ≡ Some r → Offers net dest reported i r → ⊥
    not_offered r e (inl o) = (h.1 refl).0 (inr (rw (e, own_found net dest i r o.0 o.1) refl))
    not_offered r e (inr (j, o)) = none_at_all net i (MadeBy net reported i) n (made_has net w reported i) all (h.1 refl).1 j (rw (e, offer_found net reported i j r o) refl)

    by : (o : Option PureRoute) → reported i ≡ o → IfSome o (Offers net dest reported i) → ⊥
    by None e m = (h.1 refl).0 (inl e)
    by (Some r) e m = not_offered r e m

-- nothing outdoes the row, and nothing beats it
abbrev pub NotOutdoneYet : PureNet → ℕ → List PureRow → ℕ → ℕ → Type 0
NotOutdoneYet net dest rows i n =
    (¬ Outdoes (carrier net) (own_offer net dest i) (route_at rows i)) × NoneBefore net i (OutdoneBy net (route_at rows) i) n

abbrev pub NotBeatenYet : PureNet → ℕ → List PureRow → ℕ → ℕ → Type 0
NotBeatenYet net dest rows i n =
    (¬ IsPreferred (carrier net) (origin_value net dest i) (value_at rows i)) × NoneBefore net i (ImprovedBy net rows i) n

pub not_outdone_first : (net : PureNet) (dest : ℕ) (rows : List PureRow) (i : ℕ) → ¬ Outdoes (carrier net) (own_offer net dest i) (route_at rows i) → NotOutdoneYet net dest rows i 0
not_outdone_first net dest rows i h = (h, none_yet net i (OutdoneBy net (route_at rows) i))

pub not_beaten_first : (net : PureNet) (dest : ℕ) (rows : List PureRow) (i : ℕ) → ¬ IsPreferred (carrier net) (origin_value net dest i) (value_at rows i) → NotBeatenYet net dest rows i 0
not_beaten_first net dest rows i h = (h, none_yet net i (ImprovedBy net rows i))

pub not_outdone_more : (net : PureNet) (dest : ℕ) (rows : List PureRow) (i n : ℕ) (a : PureArc) → slice_get (arcs_from net i) n ≡ Some a
    → NotOutdoneYet net dest rows i n → ¬ OutdoneBy net (route_at rows) i a.head → NotOutdoneYet net dest rows i (n + 1)
not_outdone_more net dest rows i n a at h f = (h.0, none_more net i (OutdoneBy net (route_at rows) i) n a h.1 at f)

pub not_beaten_more : (net : PureNet) (dest : ℕ) (rows : List PureRow) (i n : ℕ) (a : PureArc) → slice_get (arcs_from net i) n ≡ Some a
    → NotBeatenYet net dest rows i n → ¬ ImprovedBy net rows i a.head → NotBeatenYet net dest rows i (n + 1)
not_beaten_more net dest rows i n a at h f = (h.0, none_more net i (ImprovedBy net rows i) n a h.1 at f)

pub not_outdone_all : (net : PureNet) → IsNet net → (dest : ℕ) (rows : List PureRow) (i n : ℕ) → length (arcs_from net i) ≤ n → NotOutdoneYet net dest rows i n → ¬ IsOutdone net dest (route_at rows) i
not_outdone_all net w dest rows i n all h out =
    let none = none_at_all net i (OutdoneBy net (route_at rows) i) n (outdone_has net w (route_at rows) i) all h.1 in
    let d = outdone_by net dest (route_at rows) i false h.0 (refused (λ (x : (j : ℕ) × OutdoneBy net (route_at rows) i j). none x.0 x.1)) in
    let e = d.1 out in
    absurd (cc)

pub not_beaten_all : (net : PureNet) → IsNet net → (dest : ℕ) (rows : List PureRow) (i n : ℕ) → length (arcs_from net i) ≤ n → NotBeatenYet net dest rows i n → ¬ IsBeaten net dest rows i
not_beaten_all net w dest rows i n all h b = by b.0 b.1
  where
    by : (walk : List ℕ) → IsBeatenBy net dest rows i walk → ⊥
    by walk (inl o) = h.0 o.1
    by walk (inr (j, r, e, f, m)) = none_at_all net i (ImprovedBy net rows i) n (improved_has net w rows i) all h.1 j m
