-- The first of the offers to which no other is preferred, in words of the offers. Lemmas, so that proofs of other crates
-- may cite them.
use Rattle.std.proofs.Common.{◌≡◌, ◌≢◌, ℕ, zero, suc, ◌<◌, ◌⊎◌, inl, inr, List, [], ◌∷◌, Bool, true, false, not, Option, Some, None, subst, refl, sym, ◌∙◌, arith}
use Rattle.std.specs.Ordering.{ordering_reverse}
use Rattle.std.specs.declared.cmp.Ordering.{Ordering}
use Rattle.std.specs.declared.cmp.Ordering.TheVariants.{Less, Equal, Greater}
use Rattle.alg_model.specs.Expressions.{PureCarrier, PureValue}
use Rattle.alg_model.specs.Carriers.{In, Order}
use Rattle.alg_model.specs.Laws.{total_preorder}
use Rattle.net_graph.specs.Routes.{is_less}
use Rattle.net_graph.specs.Unbeaten.{unbeaten_trans}
use Rattle.distance_node.specs.Chosen.{entry_of, IsFirst}
use Rattle.distance_node.specs.Entries.{all_entries, entries_all, find_entry, found_entry, none_found, nothing_found}
use Rattle.distance_node.specs.Node.{Hop, hops_of, is_preferred, is_unbeaten, best_of}

-- ---- preference

pub to_less : (o : Ordering) → is_less o ≡ true → o ≡ Less
to_less Less e = refl
to_less Equal e = absurd (cc)
to_less Greater e = absurd (cc)

pub not_less : (o : Ordering) → is_less o ≡ false → o ≢ Less
not_less Less e = absurd (cc)
not_less Equal e = λ f. cc
not_less Greater e = λ f. cc

pub to_not_less : (o : Ordering) → o ≢ Less → is_less o ≡ false
to_not_less Less e = absurd (e refl)
to_not_less Equal e = refl
to_not_less Greater e = refl

unpreferred : (o : Ordering) → o ≢ Less → not (is_less o) ≡ true
unpreferred Less e = absurd (e refl)
unpreferred Equal e = refl
unpreferred Greater e = refl

pub unbeaten_of : (o : Ordering) → not (is_less o) ≡ true → o ≢ Less
unbeaten_of Less e = absurd (cc)
unbeaten_of Equal e = λ f. cc
unbeaten_of Greater e = λ f. cc

pub not_itself : (c : PureCarrier) (u : PureValue) → In c u → Order c u u ≢ Less
not_itself c u i = by (Order c u u) ((total_preorder c).flip u u i i)
  where
    by : (o : Ordering) → o ≡ ordering_reverse o → o ≢ Less
    by Less e = absurd (cc)
    by Equal e = λ f. cc
    by Greater e = absurd (cc)

pub not_back : (c : PureCarrier) (u v : PureValue) → In c u → In c v → Order c u v ≡ Less → Order c v u ≢ Less
not_back c u v i j e = by (Order c u v) (Order c v u) ((total_preorder c).flip u v i j) e
  where
    by : (a b : Ordering) → b ≡ ordering_reverse a → a ≡ Less → b ≢ Less
    by a b f g h = grind arith

-- ---- the best

-- what is first and unbeaten is found
pub first_is_best : (c : PureCarrier) (os : List (Option Hop)) (place : ℕ) (h : Hop) → IsFirst c os place h → best_of c (hops_of os) ≡ Some h
first_is_best c os place h f =
    find_entry (is_unbeaten c (hops_of os)) os place h f.there
    (all_entries (λ (g : Hop). not (is_preferred c g.value h.value)) os (λ k g e. unpreferred (Order c g.value h.value) (f.unbeaten k g e))) earlier
  where
    earlier : (k : ℕ) (g : Hop) → k < place → entry_of os k ≡ Some g → is_unbeaten c (hops_of os) g ≡ false
    earlier k g l e = by (is_unbeaten c (hops_of os) g) refl
      where
        by : (b : Bool) → is_unbeaten c (hops_of os) g ≡ b → b ≡ false
        by true p = absurd (unbeaten_of (Order c h.value g.value) (entries_all (λ (x : Hop). not (is_preferred c x.value g.value)) os p place h f.there) (f.first k g l e))
        by false p = refl

pub none_is_best : (c : PureCarrier) (os : List (Option Hop)) → ((k : ℕ) → entry_of os k ≡ None) → best_of c (hops_of os) ≡ None
none_is_best c os none = nothing_found (is_unbeaten c (hops_of os)) os none

-- an offer that none is preferred to
pub record IsUnbeatenEntry (c : PureCarrier) (os : List (Option Hop)) (h : Hop) : Type 0 where
  pub place : ℕ
  pub there : entry_of os place ≡ Some h
  pub unbeaten : (k : ℕ) (g : Hop) → entry_of os k ≡ Some g → Order c g.value h.value ≢ Less

pub best_is : (c : PureCarrier) (os : List (Option Hop)) (h : Hop) → best_of c (hops_of os) ≡ Some h → IsUnbeatenEntry c os h
best_is c os h e =
    let found = found_entry (is_unbeaten c (hops_of os)) os h e in
    record {
      place = found.0;
      there = found.1;
      unbeaten = λ k g f. unbeaten_of (Order c g.value h.value) (entries_all (λ (x : Hop). not (is_preferred c x.value h.value)) os found.2 k g f);
    }

abbrev pub AllIn : PureCarrier → List (Option Hop) → Type 0
AllIn c os = (k : ℕ) (g : Hop) → entry_of os k ≡ Some g → In c g.value

later : (c : PureCarrier) (os : List (Option Hop)) (h : Hop) → IsUnbeatenEntry c os h → IsUnbeatenEntry c (None ∷ os) h
later c os h b = record { place = suc b.place; there = b.there; unbeaten = unbeaten }
  where
    unbeaten : (k : ℕ) (g : Hop) → entry_of (None ∷ os) k ≡ Some g → Order c g.value h.value ≢ Less
    unbeaten zero g e = absurd (cc)
    unbeaten (suc k) g e = b.unbeaten k g e

alone : (c : PureCarrier) (os : List (Option Hop)) (x : Hop) → In c x.value → ((k : ℕ) → entry_of os k ≡ None) → IsUnbeatenEntry c (Some x ∷ os) x
alone c os x i none = record { place = 0; there = refl; unbeaten = unbeaten }
  where
    unbeaten : (k : ℕ) (g : Hop) → entry_of (Some x ∷ os) k ≡ Some g → Order c g.value x.value ≢ Less
    unbeaten zero g e =
        let same : x ≡ g = cc in
        subst (λ (z : Hop). Order c z.value x.value ≢ Less) same (not_itself c x.value i)
    unbeaten (suc k) g e = absurd (let n : None ≡ Some g = sym (none k) ∙ e in cc)

better_there : (c : PureCarrier) (os : List (Option Hop)) (x h : Hop) → AllIn c (Some x ∷ os) → IsUnbeatenEntry c os h → (h2 : Hop) × IsUnbeatenEntry c (Some x ∷ os) h2
better_there c os x h all b = by (is_less (Order c x.value h.value)) refl
  where
    x_in : In c x.value
    x_in = all 0 x refl

    h_in : In c h.value
    h_in = all (suc b.place) h b.there

    over : Order c x.value h.value ≡ Less → (k : ℕ) (g : Hop) → entry_of (Some x ∷ os) k ≡ Some g → Order c g.value x.value ≢ Less
    over e zero g f =
        let same : x ≡ g = cc in
        subst (λ (z : Hop). Order c z.value x.value ≢ Less) same (not_itself c x.value x_in)
    over e (suc k) g f = unbeaten_trans c (Some x.value) (Some h.value) (Some g.value) x_in h_in (all (suc k) g f) (not_back c x.value h.value x_in h_in e) (b.unbeaten k g f)

    kept : Order c x.value h.value ≢ Less → (k : ℕ) (g : Hop) → entry_of (Some x ∷ os) k ≡ Some g → Order c g.value h.value ≢ Less
    kept e zero g f =
        let same : x ≡ g = cc in
        rw same at e
    kept e (suc k) g f = b.unbeaten k g f

    by : (t : Bool) → is_less (Order c x.value h.value) ≡ t → (h2 : Hop) × IsUnbeatenEntry c (Some x ∷ os) h2
    by true e = (x, record { place = 0; there = refl; unbeaten = over (to_less (Order c x.value h.value) e) })
    by false e = (h, record { place = suc b.place; there = b.there; unbeaten = kept (not_less (Order c x.value h.value) e) })

-- of offers of the carrier there are none, or one is unbeaten
pub best_there : (c : PureCarrier) (os : List (Option Hop)) → AllIn c os → ((k : ℕ) → entry_of os k ≡ None) ⊎ ((h : Hop) × IsUnbeatenEntry c os h)
best_there c [] all = inl (λ k. refl)
best_there c (None ∷ os) all = elim (best_there c os (λ k. all (suc k))) [
  | inl none ↦ inl (none_more none)
  | inr b ↦ inr (b.0, later c os b.0 b.1)
]
  where
    none_more : ((k : ℕ) → entry_of os k ≡ None) → (k : ℕ) → entry_of (None ∷ os) k ≡ None
    none_more none zero = refl
    none_more none (suc k) = none k
best_there c (Some x ∷ os) all = elim (best_there c os (λ k. all (suc k))) [
  | inl none ↦ inr (x, alone c os x (all 0 x refl) none)
  | inr b ↦ inr (better_there c os x b.0 all b.1)
]

-- so where none is chosen there are none
pub none_best : (c : PureCarrier) (os : List (Option Hop)) → AllIn c os → best_of c (hops_of os) ≡ None → (k : ℕ) (g : Hop) → ¬ (entry_of os k ≡ Some g)
none_best c os all e k g f = elim (best_there c os all) [
  | inl none ↦ (let n : None ≡ Some g = sym (none k) ∙ f in cc)
  | inr b ↦ (
      let misses = none_found (is_unbeaten c (hops_of os)) os e b.1.place b.0 b.1.there in
      let holds = all_entries (λ (x : Hop). not (is_preferred c x.value b.0.value)) os (λ j x h. unpreferred (Order c x.value b.0.value) (b.1.unbeaten j x h)) in
      let n : true ≡ false = sym holds ∙ misses in cc)
]
