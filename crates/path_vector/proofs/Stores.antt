-- What a node heard, as it stands in one store.
use Rattle.std.proofs.Common.{◌≡◌, ℕ, suc, ◌+◌, ◌*◌, ◌<◌, ◌^◌, List, [], ◌∷◌, length, slice_get, Option, Some, None, refl, sym, ap, subst, ◌∙◌, arith}
use Rattle.std.specs.Prelude.{Vec, vec_len}
use Rattle.std.proofs.Math.ListN.{get_or, set}
use Rattle.std.proofs.lemmas.Option.{get_or_from_slice_get, slice_get_within}
use Rattle.meta_base.specs.declared.ids.ArcId.{ArcId}
use Rattle.path_vector.specs.Columns.{column, joined_from, listened, listened_to, AreSilent, HasEntry}
use Rattle.path_vector.specs.Known.{entry_of, HasHeard, Listened}
use Rattle.path_vector.specs.declared.known.Known.{Known}
use Rattle.path_vector.specs.declared.neighbour.Neighbour.{Neighbour}
use Rattle.path_vector.proofs.Choices.{entry_is}
use Rattle.path_vector.proofs.Columns.{column_entry, column_length, column_none, joined_from_at, joined_put, joined_set, place_within}

-- a place in a vector, by the beginning of its row
pub record IsPlaceIn (len row place : ℕ) : Type 0 where
  pub row_fits : row < 2 ^ 64
  pub fits : row + place < 2 ^ 64
  pub within : row + place < len

module _ {L S Z : Type 0} (dests : ℕ) (ns : List (Neighbour L)) (routes : Vec (Option (Known S)) Z) (count : length routes.items ≡ dests * length ns) (place dest : ℕ)
    (has : HasEntry place dest (listened dests ns routes.items))
  where
    there : (m : Neighbour L) × (slice_get ns place ≡ Some m) × (has.0 ≡ listened_to m (column dests (length ns) place routes.items))
    there = joined_from_at listened_to dests ns routes.items place has.0 has.1

    inside : dest < dests
    inside = subst (λ z. dest < z) (ap (λ (z : Listened L S). length z.heard) there.2 ∙ column_length dests (length ns) place routes.items) has.2

    within : dest * length ns + place < length routes.items
    within = subst (λ z. dest * length ns + place < z) (sym count) (place_within dests (length ns) dest place inside (slice_get_within ns place there.0 there.1))

    -- its place in the store
    pub entry_place : (width : ℕ) → width ≡ length ns → IsPlaceIn (vec_len routes) (dest * width) place
    entry_place width e =
        let here : dest * width + place < length routes.items = subst (λ z. dest * z + place < length routes.items) (sym e) within in
        let count = routes.ok in
        let small = routes.small in
        record { row_fits = omega arith; fits = omega arith; within = omega arith }

    is_there : (n : Listened L S) → slice_get (listened dests ns routes.items) place ≡ Some n → n ≡ listened_to there.0 (column dests (length ns) place routes.items)
    is_there n e =
        let same : n ≡ has.0 = (let f = sym e ∙ has.1 in cc) in
        same ∙ there.2

    -- what stands there is what was heard
    pub entry_heard : (x : Option (Known S)) → x ≡ get_or routes.items (dest * length ns + place) x → (n : Listened L S) → slice_get (listened dests ns routes.items) place ≡ Some n → entry_of n.heard dest ≡ x
    entry_heard x is n e = ap (λ (z : Listened L S). entry_of z.heard dest) (is_there n e) ∙ column_entry dests (length ns) place routes.items dest inside ∙ entry_is routes.items (dest * length ns + place) x within is

    -- and what is put there is heard
    pub entry_replaced : (route x : Option (Known S)) → x ≡ get_or routes.items (dest * length ns + place) x → (n : Listened L S) → slice_get (listened dests ns routes.items) place ≡ Some n
        → HasHeard dest route x (listened dests ns routes.items) place n (listened dests ns (set routes.items (dest * length ns + place) route))
    entry_replaced route x is n e =
        let same = sym (is_there n e) in
        record {
          now = listened_to there.0 (set (column dests (length ns) place routes.items) dest route);
          at = joined_set listened_to dests ns routes.items dest place route there.0 inside count there.1;
          arc = ap (λ (z : Listened L S). z.arc) same;
          label = ap (λ (z : Listened L S). z.label) same;
          heard = ap (λ (z : Listened L S). set z.heard dest route) same;
          was = entry_heard x is n e;
        }

-- where no entry stands in the store, nothing was heard
pub nothing_heard : {L S : Type 0} (dests width place : ℕ) (ns : List (Neighbour L)) (routes : List (Option (Known S))) → ((k : ℕ) → entry_of routes k ≡ None)
    → AreSilent dests ns (joined_from listened_to dests width place ns routes)
nothing_heard dests width place [] routes none = tt
nothing_heard dests width place (n ∷ ns) routes none = (
  record { arc = refl; label = refl; count = column_length dests width place routes; none = column_none dests width place routes none },
  nothing_heard dests width (suc place) ns routes none,
)

-- a neighbour that is put at another arc has heard what it heard
pub put_heard : {L S : Type 0} (dests : ℕ) (ns : List (Neighbour L)) (routes : List (Option (Known S))) (place : ℕ) (x : Neighbour L) (arc : ArcId) → x ≡ get_or ns place x
    → (n : Listened L S) → slice_get (listened dests ns routes) place ≡ Some n → listened dests (set ns place (record { arc = arc; label = x.label })) routes ≡ set (listened dests ns routes) place (record n { arc = arc })
put_heard {L} {S} dests ns routes place x arc is n e =
    let there = joined_from_at listened_to dests ns routes place n e in
    let same : x ≡ there.0 = is ∙ get_or_from_slice_get ns place there.0 x there.1 in
    let now : Neighbour L = record { arc = arc; label = x.label } in
    let label : x.label ≡ n.label = ap (λ (z : Neighbour L). z.label) same ∙ ap (λ (z : Listened L S). z.label) (sym there.2) in
    let heard : column dests (length ns) place routes ≡ n.heard = ap (λ (z : Listened L S). z.heard) (sym there.2) in
    joined_put listened_to dests ns routes place now ∙ ap (set (listened dests ns routes) place) (rw (label, heard) refl)
