-- Copies of the parts of a network.
use Rattle.std.proofs.Common.{◌≡◌, ℕ, zero, suc, ◌+◌, ◌<◌, List, [], ◌∷◌, ◌++◌, Some, slice_get, get_or, length, map, take, refl, ap, ◌∙◌, arith, Global}
use Rattle.std.proofs.lemmas.List.{map-append, take_more}
use Rattle.std.proofs.lemmas.Option.{slice_get_within, get_or_from_slice_get}
use Rattle.std.specs.List.{AllZip}
use Rattle.std.specs.declared.vec.Vec.{Vec}
use Rattle.net_graph.specs.Nets.{PureArc, IsNet}
use Rattle.net_graph.specs.Copies.{IsCopyWith}
use Rattle.net_graph.specs.Changes.{PureChange, changed_arcs, changed, MayChange}
use Rattle.net_graph.specs.ChangeLaws.{changed_is_net}
use Rattle.net_graph.specs.Drafts.{net_with, IsDraft}
use Rattle.net_graph.specs.Groups.{item_at, items_at, StandAt}
use Rattle.net_graph.specs.declared.groups.Spot.{Spot}
use Rattle.net_graph.proofs.GroupLemmas.{item_at-stand}
use Rattle.net_graph.specs.Views.{pure_origin}
use Rattle.net_graph.specs.declared.parts.NetIndex.{NetIndex}
use Rattle.net_graph.specs.declared.parts.Origin.{Origin}

-- the names of cloned keys are those of the keys
pub names_cloned : (C : Vec ℕ Global → Vec ℕ Global → Type 0) → ((v w : Vec ℕ Global) → C v w → w.items ≡ v.items) → (ks ns : List (Vec ℕ Global)) → AllZip C ks ns
    → map (λ (v : Vec ℕ Global). v.items) ns ≡ map (λ (v : Vec ℕ Global). v.items) ks
names_cloned C f [] [] a = refl
names_cloned C f [] (n ∷ ns) a = absurd a
names_cloned C f (k ∷ ks) [] a = absurd a
names_cloned C f (k ∷ ks) (n ∷ ns) a = rw (f k n a.0, names_cloned C f ks ns a.1) refl

-- one more is taken of a list
pub take_got : {X : Type 0} (xs : List X) (i : ℕ) (x : X) → slice_get xs i ≡ Some x → take (i + 1) xs ≡ take i xs ++ x ∷ []
take_got xs i x e = take_more xs i x (slice_get_within xs i x e) ∙ ap (λ y. take i xs ++ y ∷ []) (get_or_from_slice_get xs i x x e)

-- an image more is pushed
pub images_more : {X Y Z : Type 0} (f : X → Y) (g : Z → Y) (made new : List Z) (z : Z) (xs : List X) (i : ℕ) (x : X) → slice_get xs i ≡ Some x → new ≡ made ++ z ∷ [] → g z ≡ f x → map g made ≡ map f (take i xs)
    → map g new ≡ map f (take (i + 1) xs)
images_more f g made new z xs i x e p h m = rw (p, take_got xs i x e, map-append g made (z ∷ []), map-append f (take i xs) (x ∷ []), m, h) refl

-- a place within a list has its item, whatever stands for those past the end
pub get_or_any : {X : Type 0} (xs : List X) (i : ℕ) (a b : X) → i < length xs → get_or xs i a ≡ get_or xs i b
get_or_any [] i a b h = absurd (omega arith)
get_or_any (x ∷ xs) zero a b h = refl
get_or_any (x ∷ xs) (suc i) a b h = get_or_any xs i a b (omega arith)

-- what stands at the spot of a place is the item of that place
pub item_stands : {X : Type 0} (groups : List (List X)) (spots read : List Spot) (i : ℕ) (d : Spot) → StandAt groups spots (items_at groups spots) → read ≡ spots → i < length read
    → (x : X) × (item_at groups (get_or read i d) ≡ Some x) × (slice_get (items_at groups spots) i ≡ Some x)
item_stands groups spots read i d s e h =
    let within : i < length spots = rw (← e) h in
    rw e (item_at-stand groups spots (items_at groups spots) i (get_or spots i d) s within (get_or_any spots i d (get_or spots i d) within))

-- the parts of a network with a change
pub changed_draft : (old known : NetIndex) (was arcs : List PureArc) (had origins : List Origin) (c : PureChange) → IsDraft old was had → MayChange (net_with old was had) c
    → arcs ≡ changed_arcs c was → map pure_origin origins ≡ map pure_origin had → IsCopyWith old known arcs
    → IsDraft known arcs origins
changed_draft old known was arcs had origins c k m a o e =
    let net : IsNet (changed (net_with old was had) c) = changed_is_net (net_with old was had) c k.is_net m in
    record { is_net = rw (e.alg, e.nodes, e.dests, a, o) net; joins = e.joins; origin_pairs = e.origin_pairs ∙ rw o k.origin_pairs }

pub changed_parts : (old known : NetIndex) (was arcs : List PureArc) (had origins : List Origin) (c : PureChange) → arcs ≡ changed_arcs c was
    → map pure_origin origins ≡ map pure_origin had → IsCopyWith old known arcs → net_with known arcs origins ≡ changed (net_with old was had) c
changed_parts old known was arcs had origins c a o e = rw (e.alg, e.nodes, e.dests, a, o) refl
