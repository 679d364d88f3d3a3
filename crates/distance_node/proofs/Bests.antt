-- How the best of some offers changes with one of them.
use Rattle.std.proofs.Common.{◌≡◌, ◌≢◌, ℕ, ◌<◌, ◌≤◌, List, [], ◌∷◌, ◌++◌, Bool, true, false, ◌==◌, length, cond, slice_get, Option, Some, None, subst, refl, sym, ap, ◌∙◌, arith}
use Rattle.std.specs.Prelude.{nat_lt, option_map, option_and_then}
use Rattle.std.specs.Ordering.{ordering_reverse}
use Rattle.std.specs.declared.cmp.Ordering.{Ordering}
use Rattle.std.specs.declared.cmp.Ordering.TheVariants.{Less, Equal, Greater}
use Rattle.std.proofs.lemmas.Bool.{eqb-true}
use Rattle.std.proofs.lemmas.Bool.Decides.{nat_tests}
use Rattle.std.proofs.lemmas.Option.{slice_get_within}
use Rattle.alg_model.specs.Carriers.{In, Order}
use Rattle.alg_model.specs.Expressions.{PureCarrier, PureValue}
use Rattle.alg_model.specs.Laws.{total_preorder}
use Rattle.arc_labels.specs.Images.{made_in}
use Rattle.net_graph.specs.Nets.{PureNet}
use Rattle.net_graph.specs.Routes.{is_less}
use Rattle.net_graph.specs.Tables.{carrier}
use Rattle.net_graph.specs.Unbeaten.{unbeaten_trans}
use Rattle.distance_node.specs.declared.chosen.Chosen.{Chosen}
use Rattle.distance_node.specs.declared.settling.Settled.TheVariants.{Stays, Moves, Lost}
use Rattle.distance_node.specs.Chosen.{IsBest, IsFirst, better_of, chosen_at, entry_of, hop_at}
use Rattle.distance_node.specs.Choosing.{AllIn, not_back, not_itself, to_less, not_less}
use Rattle.distance_node.specs.Node.{Hop}
use Rattle.distance_node.specs.Settling.{settled, settled_by}
use Rattle.distance_node.proofs.Pushing.{entry_pushed}

-- the offers are as they were but for the one at a place
pub record IsReplaced (os new : List (Option Hop)) (p : ℕ) (x : Option Hop) : Type 0 where
  pub at : entry_of new p ≡ x
  pub other : (k : ℕ) → (k == p) ≡ false → entry_of new k ≡ entry_of os k

flipped : (c : PureCarrier) (u v : PureValue) → In c u → In c v → Order c u v ≡ Greater → Order c v u ≡ Less
flipped c u v i j e = by (Order c u v) (Order c v u) ((total_preorder c).flip u v i j) e
  where
    by : (a b : Ordering) → b ≡ ordering_reverse a → a ≡ Greater → b ≡ Less
    by a b f g = grind arith

not_less_equal : (c : PureCarrier) (u v : PureValue) → In c u → In c v → Order c u v ≡ Equal → Order c v u ≢ Less
not_less_equal c u v i j e = by (Order c u v) (Order c v u) ((total_preorder c).flip u v i j) e
  where
    by : (a b : Ordering) → b ≡ ordering_reverse a → a ≡ Equal → b ≢ Less
    by a b f g h = grind arith

-- what is preferred to what nothing is preferred to is preferred to all
over_all : (c : PureCarrier) (x b g : PureValue) → In c x → In c b → In c g → Order c x b ≡ Less → Order c g b ≢ Less → Order c x g ≡ Less
over_all c x b g i j k e f = by (is_less (Order c x g)) refl
  where
    by : (t : Bool) → is_less (Order c x g) ≡ t → Order c x g ≡ Less
    by true h = to_less (Order c x g) h
    by false h = absurd (unbeaten_trans c (Some b) (Some g) (Some x) j k i f (not_less (Order c x g) h) e)

module _ (c : PureCarrier) (os new : List (Option Hop)) (p : ℕ) (all : AllIn c new) where
  module _ (h : Hop) (r : IsReplaced os new p (Some h)) where
    h_in : In c h.value
    h_in = all p h r.at

    itself : (g : Hop) (k : ℕ) → (k == p) ≡ true → entry_of new k ≡ Some g → h ≡ g
    itself g k e f =
        let one : Some h ≡ Some g = sym r.at ∙ (ap (entry_of new) (sym (eqb-true k p e)) ∙ f) in
        cc

    -- what holds of the new offer and of all others holds of all
    each : (P : Hop → Type 0) → P h → ((k : ℕ) (g : Hop) → (k == p) ≡ false → entry_of os k ≡ Some g → entry_of new k ≡ Some g → P g) → (k : ℕ) (g : Hop) → entry_of new k ≡ Some g → P g
    each P here there k g e = by (k == p) refl
      where
        by : (t : Bool) → (k == p) ≡ t → P g
        by true f = subst P (itself g k f e) here
        by false f = there k g f (sym (r.other k f) ∙ e) e

    earlier : (k : ℕ) → k < p → (k == p) ≡ false
    earlier k l = grind (arith, nat_tests)

    -- the one offer where there was none
    pub first_one : ((k : ℕ) → entry_of os k ≡ None) → IsFirst c new p h
    first_one none = record {
      there = r.at;
      unbeaten = each (λ g. Order c g.value h.value ≢ Less) (not_itself c h.value h_in) (λ k g f e _. absurd (let z : None ≡ Some g = sym (none k) ∙ e in cc));
      first = λ k g l e. absurd (let z : None ≡ Some g = sym (none k) ∙ (sym (r.other k (earlier k l)) ∙ e) in cc);
    }

    module _ (q : ℕ) (b : Hop) (b_in : In c b.value) (best : IsFirst c os q b) where
      -- a better one
      pub moves_better : Order c h.value b.value ≡ Less → IsFirst c new p h
      moves_better less = record {
        there = r.at;
        unbeaten = each (λ g. Order c g.value h.value ≢ Less) (not_itself c h.value h_in) (λ k g f e n. not_back c h.value g.value h_in (all k g n) (over k g e n));
        first = λ k g l n. over k g (sym (r.other k (earlier k l)) ∙ n) n;
      }
        where
          over : (k : ℕ) (g : Hop) → entry_of os k ≡ Some g → entry_of new k ≡ Some g → Order c h.value g.value ≡ Less
          over k g e n = over_all c h.value b.value g.value h_in b_in (all k g n) less (best.unbeaten k g e)

      -- one that is as good and no later
      pub moves_as_good : Order c h.value b.value ≡ Equal → p ≤ q → IsFirst c new p h
      moves_as_good equal early = record {
        there = r.at;
        unbeaten = each (λ g. Order c g.value h.value ≢ Less) (not_itself c h.value h_in)
            (λ k g f e n. unbeaten_trans c (Some h.value) (Some b.value) (Some g.value) h_in b_in (all k g n) (not_less_equal c h.value b.value h_in b_in equal) (best.unbeaten k g e));
        first = λ k g l n. (total_preorder c).congr h.value b.value g.value h_in b_in (all k g n) equal ∙ best.first k g (omega (arith, l, early)) (sym (r.other k (earlier k l)) ∙ n);
      }

      -- one that is worse, or as good and later
      pub stays_worse : (q == p) ≡ false → Order c h.value b.value ≢ Less → (p < q → Order c b.value h.value ≡ Less) → IsFirst c new q b
      stays_worse apart no_less worse = record {
        there = r.other q apart ∙ best.there;
        unbeaten = each (λ g. Order c g.value b.value ≢ Less) no_less (λ k g f e n. best.unbeaten k g e);
        first = λ k g l n. before k g l n;
      }
        where
          before : (k : ℕ) (g : Hop) → k < q → entry_of new k ≡ Some g → Order c b.value g.value ≡ Less
          before k g l n = by (k == p) refl
            where
              by : (t : Bool) → (k == p) ≡ t → Order c b.value g.value ≡ Less
              by true f =
                  let place : k ≡ p = eqb-true k p f in
                  subst (λ (z : Hop). Order c b.value z.value ≡ Less) (itself g k f n) (worse (omega (arith, l, place)))
              by false f = best.first k g l (sym (r.other k f) ∙ n)

  module _ (r : IsReplaced os new p None) where
    gone : (k : ℕ) (g : Hop) → entry_of new k ≡ Some g → entry_of os k ≡ Some g
    gone k g n = by (k == p) refl
      where
        by : (t : Bool) → (k == p) ≡ t → entry_of os k ≡ Some g
        by true f = absurd (let z : None ≡ Some g = sym r.at ∙ (ap (entry_of new) (sym (eqb-true k p f)) ∙ n) in cc)
        by false f = sym (r.other k f) ∙ n

    pub stays_without : (q : ℕ) (b : Hop) → IsFirst c os q b → (q == p) ≡ false → IsFirst c new q b
    stays_without q b best apart = record {
      there = r.other q apart ∙ best.there;
      unbeaten = λ k g n. best.unbeaten k g (gone k g n);
      first = λ k g l n. best.first k g l (gone k g n);
    }

    pub none_without : ((k : ℕ) → entry_of os k ≡ None) → (k : ℕ) → entry_of new k ≡ None
    none_without none k = by (entry_of new k) refl
      where
        by : (o : Option Hop) → entry_of new k ≡ o → entry_of new k ≡ None
        by None e = e
        by (Some g) e = absurd (let z : None ≡ Some g = sym (none k) ∙ gone k g e in cc)

-- ---- rows in an algebra's form

module _ {S : Type 0} (value : S → PureValue) (net : PureNet) (i : ℕ) (os new : List (Option Hop)) (p : ℕ) (made : Option S) (all : AllIn (carrier net) new) (old : AllIn (carrier net) os)
    (r : IsReplaced os new p (option_map (λ s. hop_at value net i (chosen_at p s)) made))
  where
    abbrev c : PureCarrier
    c = carrier net

    -- where the row stays it is the best
    pub settled_stays : (before : Option (Chosen S)) → IsBest value net i os before → settled value c before p made ≡ Stays → IsBest value net i new before
    settled_stays before best e = by before made r best e
      where
        by : (b : Option (Chosen S)) (o : Option S) → IsReplaced os new p (option_map (λ s. hop_at value net i (chosen_at p s)) o) → IsBest value net i os b → settled value c b p o ≡ Stays → IsBest value net i new b
        by None None r best e = none_without c os new p all r best
        by None (Some s) r best e = absurd (cc)
        by (Some b) None r best e = without (b.offer == p) refl e
          where
            without : (t : Bool) → (b.offer == p) ≡ t → cond t Lost Stays ≡ Stays → IsFirst c new b.offer (hop_at value net i b)
            without true f e = absurd (cc)
            without false f e = stays_without c os new p all r b.offer (hop_at value net i b) best f
        by (Some b) (Some s) r best e = ordered (Order c (value s) (value b.sig)) refl e
          where
            b_in : In c (value b.sig)
            b_in = old b.offer (hop_at value net i b) best.there

            s_in : In c (value s)
            s_in = all p (hop_at value net i (chosen_at p s)) r.at

            ordered : (o : Ordering) → Order c (value s) (value b.sig) ≡ o → settled_by o b.offer p ≡ Stays → IsFirst c new b.offer (hop_at value net i b)
            ordered Less f e = absurd (cc)
            ordered Equal f e = later (nat_lt b.offer p) refl e
              where
                later : (t : Bool) → nat_lt b.offer p ≡ t → cond t Stays Moves ≡ Stays → IsFirst c new b.offer (hop_at value net i b)
                later true g e =
                    let apart : (b.offer == p) ≡ false = grind (arith, nat_tests) in
                    let below : b.offer < p = grind (arith, nat_tests) in
                    stays_worse c os new p all (hop_at value net i (chosen_at p s)) r b.offer (hop_at value net i b) b_in best apart (λ h. let z : Equal ≡ Less = sym f ∙ h in cc) (λ l. absurd (omega (arith, l, below)))
                later false g e = absurd (cc)
            ordered Greater f e = other (b.offer == p) refl e
              where
                other : (t : Bool) → (b.offer == p) ≡ t → cond t Lost Stays ≡ Stays → IsFirst c new b.offer (hop_at value net i b)
                other true g e = absurd (cc)
                other false g e = stays_worse c os new p all (hop_at value net i (chosen_at p s)) r b.offer (hop_at value net i b) b_in best g (λ h. let z : Greater ≡ Less = sym f ∙ h in cc) (λ l. flipped c (value s) (value b.sig) s_in b_in f)

    -- where it moves the new offer is
    pub settled_moves : (before : Option (Chosen S)) → IsBest value net i os before → settled value c before p made ≡ Moves → IsBest value net i new (option_map (chosen_at p) made)
    settled_moves before best e = by before made r best e
      where
        by : (b : Option (Chosen S)) (o : Option S) → IsReplaced os new p (option_map (λ s. hop_at value net i (chosen_at p s)) o) → IsBest value net i os b → settled value c b p o ≡ Moves → IsBest value net i new (option_map (chosen_at p) o)
        by None None r best e = absurd (cc)
        by None (Some s) r best e = first_one c os new p all (hop_at value net i (chosen_at p s)) r best
        by (Some b) None r best e = without (b.offer == p) e
          where
            without : (t : Bool) → cond t Lost Stays ≡ Moves → IsBest value net i new None
            without true e = absurd (cc)
            without false e = absurd (cc)
        by (Some b) (Some s) r best e = ordered (Order c (value s) (value b.sig)) refl e
          where
            b_in : In c (value b.sig)
            b_in = old b.offer (hop_at value net i b) best.there

            ordered : (o : Ordering) → Order c (value s) (value b.sig) ≡ o → settled_by o b.offer p ≡ Moves → IsFirst c new p (hop_at value net i (chosen_at p s))
            ordered Less f e = moves_better c os new p all (hop_at value net i (chosen_at p s)) r b.offer (hop_at value net i b) b_in best f
            ordered Equal f e = no_later (nat_lt b.offer p) refl e
              where
                no_later : (t : Bool) → nat_lt b.offer p ≡ t → cond t Stays Moves ≡ Moves → IsFirst c new p (hop_at value net i (chosen_at p s))
                no_later true g e = absurd (cc)
                no_later false g e =
                    let early : p ≤ b.offer = grind (arith, nat_tests) in
                    moves_as_good c os new p all (hop_at value net i (chosen_at p s)) r b.offer (hop_at value net i b) b_in best f early
            ordered Greater f e = other (b.offer == p) e
              where
                other : (t : Bool) → cond t Lost Stays ≡ Moves → IsFirst c new p (hop_at value net i (chosen_at p s))
                other true e = absurd (cc)
                other false e = absurd (cc)

-- ---- one offer more

entry_inside : {X : Type 0} (xs : List (Option X)) (k : ℕ) (x : X) → entry_of xs k ≡ Some x → k < length xs
entry_inside {X} xs k x e = by (slice_get xs k) refl e
  where
    by : (o : Option (Option X)) → slice_get xs k ≡ o → option_and_then (λ z. z) o ≡ Some x → k < length xs
    by None f g = absurd (cc)
    by (Some z) f g = slice_get_within xs k z f

pub pushed_is_replaced : (os : List (Option Hop)) (x : Option Hop) → IsReplaced os (os ++ x ∷ []) (length os) x
pushed_is_replaced os x = record { at = entry_pushed os x (length os) ∙ rw (same (length os)) refl; other = λ k e. entry_pushed os x k ∙ rw e refl }
  where
    same : (k : ℕ) → (k == k) ≡ true
    same k = grind (arith, nat_tests)

-- the better of the best so far and of one offer more is the best of all
pub better_is_best : {S : Type 0} (value : S → PureValue) (net : PureNet) (i : ℕ) (os : List (Option Hop)) (made : Option S) (best : Option (Chosen S))
    → AllIn (carrier net) (os ++ option_map (λ s. hop_at value net i (chosen_at (length os) s)) made ∷ []) → AllIn (carrier net) os → IsBest value net i os best
    → IsBest value net i (os ++ option_map (λ s. hop_at value net i (chosen_at (length os) s)) made ∷ []) (better_of value (carrier net) best (option_map (chosen_at (length os)) made))
better_is_best {S} value net i os made best all old is = by best made all is
  where
    by : (b : Option (Chosen S)) (o : Option S) → AllIn (carrier net) (os ++ option_map (λ s. hop_at value net i (chosen_at (length os) s)) o ∷ []) → IsBest value net i os b
        → IsBest value net i (os ++ option_map (λ s. hop_at value net i (chosen_at (length os) s)) o ∷ []) (better_of value (carrier net) b (option_map (chosen_at (length os)) o))
    by None o all is = alone o all
      where
        alone : (o : Option S) → AllIn (carrier net) (os ++ option_map (λ s. hop_at value net i (chosen_at (length os) s)) o ∷ [])
            → IsBest value net i (os ++ option_map (λ s. hop_at value net i (chosen_at (length os) s)) o ∷ []) (option_map (chosen_at (length os)) o)
        alone None all = none_without (carrier net) os (os ++ None ∷ []) (length os) all (pushed_is_replaced os None) is
        alone (Some s) all = first_one (carrier net) os (os ++ Some (hop_at value net i (chosen_at (length os) s)) ∷ []) (length os) all (hop_at value net i (chosen_at (length os) s)) (pushed_is_replaced os (Some (hop_at value net i (chosen_at (length os) s)))) is
    by (Some b) None all is =
        let inside = entry_inside os b.offer (hop_at value net i b) is.there in
        let apart : (b.offer == length os) ≡ false = grind (arith, nat_tests) in
        stays_without (carrier net) os (os ++ None ∷ []) (length os) all (pushed_is_replaced os None) b.offer (hop_at value net i b) is apart
    by (Some b) (Some s) all is = either (is_less (Order (carrier net) (value s) (value b.sig))) refl
      where
        replaced : IsReplaced os (os ++ Some (hop_at value net i (chosen_at (length os) s)) ∷ []) (length os) (Some (hop_at value net i (chosen_at (length os) s)))
        replaced = pushed_is_replaced os (Some (hop_at value net i (chosen_at (length os) s)))

        inside : b.offer < length os
        inside = entry_inside os b.offer (hop_at value net i b) is.there

        b_in : In (carrier net) (value b.sig)
        b_in = old b.offer (hop_at value net i b) is.there

        either : (t : Bool) → is_less (Order (carrier net) (value s) (value b.sig)) ≡ t → IsBest value net i (os ++ Some (hop_at value net i (chosen_at (length os) s)) ∷ []) (cond t (Some (chosen_at (length os) s)) (Some b))
        either true e = moves_better (carrier net) os (os ++ Some (hop_at value net i (chosen_at (length os) s)) ∷ []) (length os) all (hop_at value net i (chosen_at (length os) s)) replaced b.offer (hop_at value net i b) b_in is (to_less (Order (carrier net) (value s) (value b.sig)) e)
        either false e =
            let apart : (b.offer == length os) ≡ false = (let l = inside in grind (arith, nat_tests)) in
            stays_worse (carrier net) os (os ++ Some (hop_at value net i (chosen_at (length os) s)) ∷ []) (length os) all (hop_at value net i (chosen_at (length os) s)) replaced b.offer (hop_at value net i b) b_in is apart (not_less (Order (carrier net) (value s) (value b.sig)) e) (λ l. absurd (omega (arith, l, inside)))

-- a row moves to an offer that was made
pub moved_is_made : {S : Type 0} (value : S → PureValue) (c : PureCarrier) (before : Option (Chosen S)) (offer : ℕ) (made : Bool) (place : Option S) → settled value c before offer (made_in made place) ≡ Moves → made_in made place ≡ place
moved_is_made value c before offer made None e = refl
moved_is_made value c before offer true (Some s) e = refl
moved_is_made value c None offer false (Some s) e = absurd (cc)
moved_is_made value c (Some b) offer false (Some s) e = absurd (by (b.offer == offer) e)
  where
    by : (t : Bool) → cond t Lost Stays ≡ Moves → ⊥
    by true f = absurd (cc)
    by false f = absurd (cc)

pub made_is_there : {S : Type 0} (place : Option S) → made_in true place ≡ place
made_is_there None = refl
made_is_there (Some s) = refl
