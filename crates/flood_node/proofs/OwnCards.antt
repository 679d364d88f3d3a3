-- A node's own card, part by part.
use Rattle.std.proofs.Common.{◌≡◌, ℕ, zero, suc, ◌+◌, ◌<◌, List, [], ◌∷◌, ◌++◌, length, map, take, get_or, slice_get, Some, refl, sym, ap, ◌∙◌, arith}
use Rattle.std.proofs.lemmas.List.{map-append}
use Rattle.std.specs.Prelude.{option_map}
use Rattle.std.proofs.lemmas.Option.{same_Some, slice_get-map, slice_get_read}
use Rattle.net_graph.specs.Nets.{PureArc, PureNet, origin_value}
use Rattle.flood_node.specs.Cards.{PureCardArc, PureCardOrigin, card_arc, card_origin, card_origins}

-- a list one further
pub take_next : {X : Type 0} (xs : List X) (k : ℕ) (x : X) → slice_get xs k ≡ Some x → take (k + 1) xs ≡ take k xs ++ x ∷ []
take_next [] k x e = absurd (cc)
take_next (y ∷ xs) zero x e = let same : y ≡ x = same_Some _ _ e in rw same refl
take_next (y ∷ xs) (suc k) x e =
    let next : suc k + 1 ≡ suc (k + 1) = omega arith in
    rw next (ap (λ l. y ∷ l) (take_next xs k x e))

-- what stands at a place, seen by a view
pub seen_at : {X Y : Type 0} (view : X → Y) (xs : List X) (all : List Y) (k : ℕ) (x : X) → map view xs ≡ all → k < length xs → x ≡ get_or xs k x → slice_get all k ≡ Some (view x)
seen_at view xs all k x e within is = ap (λ l. slice_get l k) (sym e) ∙ (slice_get-map view xs k ∙ ap (option_map view) (slice_get_read xs (length xs) k x refl within is))

-- the arcs so far, and one more
pub arcs_next : {X : Type 0} (view : X → PureCardArc) (old : List X) (new : X) (arcs : List PureArc) (k : ℕ) (a : PureArc) → map view old ≡ map card_arc (take k arcs) → slice_get arcs k ≡ Some a → view new ≡ card_arc a
    → map view (old ++ new ∷ []) ≡ map card_arc (take (k + 1) arcs)
arcs_next view old new arcs k a so at is =
    map-append view old (new ∷ []) ∙ (ap (λ l. l ++ view new ∷ []) so ∙ (ap (λ x. map card_arc (take k arcs) ++ x ∷ []) is
    ∙ (sym (map-append card_arc (take k arcs) (a ∷ [])) ∙ ap (map card_arc) (sym (take_next arcs k a at)))))

-- the origins so far, and those of one more destination
pub origins_next : (net : PureNet) (i k : ℕ) (old new : List PureCardOrigin) → old ≡ card_origins net i k → new ≡ old ++ card_origin k (origin_value net k i) → new ≡ card_origins net i (k + 1)
origins_next net i k old new so is =
    let next : suc k ≡ k + 1 = omega arith in
    is ∙ (ap (λ l. l ++ card_origin k (origin_value net k i)) so ∙ ap (card_origins net i) next)

-- an arc on a card is the one that stands there in the network
pub arc_on_card : {X : Type 0} (view : X → PureCardArc) (arcs : List X) (all : List PureArc) (place : ℕ) (a : PureArc) (x : X) → map view arcs ≡ map card_arc all → slice_get all place ≡ Some a → x ≡ get_or arcs place x
    → view x ≡ card_arc a
arc_on_card view [] [] place a x e at is = absurd (cc)
arc_on_card view [] (b ∷ all) place a x e at is = absurd (cc)
arc_on_card view (y ∷ arcs) [] place a x e at is = absurd (cc)
arc_on_card view (y ∷ arcs) (b ∷ all) zero a x e at is =
    let first : view y ≡ card_arc b = cc in
    ap view is ∙ (first ∙ ap card_arc (same_Some b a at))
arc_on_card view (y ∷ arcs) (b ∷ all) (suc place) a x e at is =
    let rest : map view arcs ≡ map card_arc all = cc in
    arc_on_card view arcs all place a x rest at is
