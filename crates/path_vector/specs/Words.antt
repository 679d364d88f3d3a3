-- What is heard and said on arcs, in words of the network. Lemmas, so that proofs of other crates may cite them.
use Rattle.std.proofs.Common.{◌≡◌, ℕ, ◌<◌, List, [], ◌∷◌, ◌++◌, Bool, true, ◌&&◌, ◌==◌, length, cond, slice_get, inl, inr, Option, Some, None, refl, sym, ap, ◌∙◌, arith}
use Rattle.std.specs.Prelude.{nat_lt, option_map, option_and_then}
use Rattle.std.specs.Option.{option_map_or}
use Rattle.std.specs.List.{find}
use Rattle.std.proofs.lemmas.Bool.{and_parts}
use Rattle.std.proofs.lemmas.Bool.Decides.{nat_tests}
use Rattle.std.proofs.lemmas.Slice.Eq.{bytes_eq-Decides}
use Rattle.alg_model.specs.Application.{App}
use Rattle.alg_model.specs.Tests.{same_value, same_value-Decides}
use Rattle.net_graph.specs.Nets.{PureArc, PureNet, is_arc_between}
use Rattle.net_graph.specs.Routes.{PureRoute}
use Rattle.std.specs.Str.{bytes_eq}
use Rattle.net_graph.specs.Tables.{Reported, IsOfferBy, Offers, IsChoice}
use Rattle.path_vector.specs.Node.{PvState, PureUpdate, same_route, same_row, may_be_of, fits}
use Rattle.path_vector.specs.Coherent.{heard_of, last_said}
use Rattle.path_vector.specs.Choosing.{reported_by}

-- ---- rows

pub same_route_is : (r s : PureRoute) → same_route r s ≡ true → r ≡ s
same_route_is r s e =
    let both = and_parts (same_value r.value s.value) (bytes_eq r.path s.path) e in
    let value : r.value ≡ s.value = (same_value-Decides r.value s.value).0 both.0 in
    let path : r.path ≡ s.path = (bytes_eq-Decides r.path s.path).0 both.1 in
    let made : record { value = r.value; path = r.path } ≡ s = rw (value, path) refl in
    made

pub same_row_is : (r s : Option PureRoute) → same_row r s ≡ true → r ≡ s
same_row_is None None e = refl
same_row_is (Some r) (Some s) e = ap (λ x. Some x) (same_route_is r s e)
same_row_is (Some r) None e = absurd (cc)
same_row_is None (Some s) e = absurd (cc)

-- ---- updates that fit

-- the update may come on the arc
abbrev pub fits_on : PureNet → PureArc → PureUpdate → Bool
fits_on net a u = nat_lt u.dest (length net.dests) && option_map_or (may_be_of net a.head) u.route true

pub fits_is : (net : PureNet) (q : PvState) (a : PureArc) (u : PureUpdate) → q.net ≡ net → slice_get net.arcs a.id ≡ Some a → fits q a.id u ≡ fits_on net a u
fits_is net q a u e stands = rw (e, stands) refl

pub fits_parts : (net : PureNet) (a : PureArc) (u : PureUpdate) → fits_on net a u ≡ true → (u.dest < length net.dests) × ((r : PureRoute) → u.route ≡ Some r → may_be_of net a.head r ≡ true)
fits_parts net a u e =
    let both = and_parts (nat_lt u.dest (length net.dests)) (option_map_or (may_be_of net a.head) u.route true) e in
    let test : nat_lt u.dest (length net.dests) ≡ true = both.0 in
    (grind (arith, nat_tests), λ r f. rw f at both.1)

pub fits_from : (net : PureNet) (a : PureArc) (u : PureUpdate) → u.dest < length net.dests → ((r : PureRoute) → u.route ≡ Some r → may_be_of net a.head r ≡ true) → fits_on net a u ≡ true
fits_from net a u below f =
    let test : nat_lt u.dest (length net.dests) ≡ true = grind (arith, nat_tests) in
    rw test (by u.route refl)
  where
    by : (o : Option PureRoute) → u.route ≡ o → option_map_or (may_be_of net a.head) o true ≡ true
    by None e = refl
    by (Some r) e = f r e

-- ---- what was heard

pub heard_of_is : (net : PureNet) (q : PvState) (i dest j : ℕ) → q.net ≡ net → q.number ≡ i → heard_of q dest j ≡ reported_by net i (λ b. q.heard b dest) j
heard_of_is net q i dest j e f = rw (e, f) refl

-- what is reported is alike where the node has an arc
abbrev pub AreAlike : PureNet → ℕ → Reported → Reported → Type 0
AreAlike net i reported other = (j : ℕ) (a : PureArc) → find (is_arc_between i j) net.arcs ≡ Some a → reported j ≡ other j

pub offer_moves : (net : PureNet) (dest i : ℕ) (reported other : Reported) → AreAlike net i reported other → (r : PureRoute) → Offers net dest reported i r → Offers net dest other i r
offer_moves net dest i reported other same r (inl own) = inl own
offer_moves net dest i reported other same r (inr (j, o)) = inr (j, by (find (is_arc_between i j) net.arcs) refl o.weighs)
  where
    by : (f : Option PureArc) → find (is_arc_between i j) net.arcs ≡ f
        → option_and_then (λ l. option_and_then (App net.alg.expression l) (Some o.next.value)) (option_map (λ (a : PureArc). a.label) f) ≡ Some r.value → IsOfferBy net other i j r
    by None f g = absurd (cc)
    by (Some a) f g = record { next = o.next; is_reported = sym (same j a f) ∙ o.is_reported; weighs = o.weighs; loopless = o.loopless; path = o.path }

-- a choice stays one where what is reported is alike
pub choice_moves : (net : PureNet) (dest i : ℕ) (reported other : Reported) → AreAlike net i reported other → (o : Option PureRoute) → IsChoice net dest reported i o → IsChoice net dest other i o
choice_moves net dest i reported other same (Some r) c = (
  offer_moves net dest i reported other same r c.0,
  λ s o. c.1 s (offer_moves net dest i other reported (λ j a e. sym (same j a e)) s o),
)
choice_moves net dest i reported other same None c = λ r o. c r (offer_moves net dest i other reported (λ j a e. sym (same j a e)) r o)

-- ---- what is said

pub last_said_append : (dest : ℕ) (h : Option PureRoute) (us vs : List PureUpdate) → last_said dest h (us ++ vs) ≡ last_said dest (last_said dest h us) vs
last_said_append dest h [] vs = refl
last_said_append dest h (u ∷ us) vs = last_said_append dest (cond (u.dest == dest) u.route h) us vs
