-- What is offered to a node, in words of the network. Lemmas, so that proofs of other crates may cite them.
use Rattle.std.proofs.Common.{◌≡◌, ℕ, zero, suc, ◌+◌, ◌*◌, ◌^◌, ◌<◌, ◌≤◌, ◌⊎◌, inl, inr, List, ◌∷◌, ◌==◌, length, map, slice_get, Option, Some, None, subst, refl, sym, ap, ◌∙◌, arith}
use Rattle.std.specs.Prelude.{find, option_map, option_and_then}
use Rattle.std.specs.declared.cmp.Ordering.TheVariants.{Less}
use Rattle.std.proofs.lemmas.Bool.Decides.{nat_tests}
use Rattle.std.proofs.lemmas.Bool.{eqb-true}
use Rattle.std.proofs.lemmas.Option.{slice_get-map}
use Rattle.alg_model.specs.Application.{App}
use Rattle.alg_model.specs.Bounds.{AtMost, greatest_number}
use Rattle.alg_model.specs.Carriers.{In, Order}
use Rattle.alg_model.specs.Expressions.{PureValue}
use Rattle.alg_model.specs.Laws.{images_in, images_at_most, at_most_more, label_at_most_more, greatest_is_bounded}
use Rattle.alg_model.specs.Numbers.{max_label_number}
use Rattle.arc_labels.specs.Places.{arc_of_net, arc_there, numbered_at}
use Rattle.net_graph.specs.ArcLaws.{IsOrigin, origins_are, of_some, find_all}
use Rattle.net_graph.specs.Nets.{PureArc, PureOrigin, PureNet, IsNet, IsArcOf, IsOriginOf, arcs_from, is_origin_at, origin_value}
use Rattle.net_graph.specs.Tables.{carrier}
use Rattle.node_core.specs.Kinds.{listener, speaker}
use Rattle.node_core.specs.MachineLaws.{option_from, option_then}
use Rattle.distance_node.specs.Chosen.{entry_of}
use Rattle.distance_node.specs.Coherent.{IsHeard}
use Rattle.distance_node.specs.Choosing.{not_itself, first_is_best, none_is_best, best_is}
use Rattle.distance_node.specs.Entries.{map_alike}
use Rattle.distance_node.specs.Node.{Hop, greatest_at, own_hop, hop_by, offers, hops_of, best_of, choice}

-- ---- arcs

-- an arc that the node may route by
pub record IsArcFrom (net : PureNet) (i : ℕ) (a : PureArc) : Type 0 where
  pub stands : slice_get net.arcs a.id ≡ Some a
  pub tail : a.tail ≡ i
  pub is_arc : IsArcOf net.alg (length net.nodes) a

pub arc_from : (net : PureNet) → IsNet net → (i k : ℕ) (a : PureArc) → slice_get (arcs_from net i) k ≡ Some a → IsArcFrom net i a
arc_from net n i k a e =
    let at = numbered_at net.arcs (λ (b : PureArc). b.tail == i) 0 n.arc_ids k a e in
    let there = arc_there net n (λ (b : PureArc). b.tail == i) k a e in
    record { stands = there; tail = eqb-true a.tail i at.passes; is_arc = arc_of_net net n a.id a there }

pub listens_on : (net : PureNet) (i : ℕ) (a : PureArc) → IsArcFrom net i a → listener net a.id ≡ Some i
listens_on net i a f = ap (option_map (λ (b : PureArc). b.tail)) f.stands ∙ ap (λ z. Some z) f.tail

pub speaks_on : (net : PureNet) (i : ℕ) (a : PureArc) → IsArcFrom net i a → speaker net a.id ≡ Some a.head
speaks_on net i a f = ap (option_map (λ (b : PureArc). b.head)) f.stands

-- ---- offers

-- the own origin's
pub record IsOwnHop (net : PureNet) (dest i : ℕ) (g : Hop) : Type 0 where
  pub value : origin_value net dest i ≡ Some g.value
  pub next : g.next ≡ None

-- an arc's
pub record IsArcHop (net : PureNet) (i : ℕ) (heard : ℕ → Option PureValue) (g : Hop) : Type 0 where
  pub arc : PureArc
  pub place : ℕ
  pub there : slice_get (arcs_from net i) place ≡ Some arc
  pub from : PureValue
  pub is_heard : heard arc.id ≡ Some from
  pub made : App net.alg.expression arc.label from ≡ Some g.value
  pub next : g.next ≡ Some arc.head

abbrev hop : PureValue → Option ℕ → Hop
hop v n = record { value = v; next = n }

pub own_is : (net : PureNet) (dest i : ℕ) (g : Hop) → own_hop net dest i ≡ Some g → IsOwnHop net dest i g
own_is net dest i g e =
    let f = option_from (λ v. hop v None) (origin_value net dest i) g e in
    record { value = f.1 ∙ ap (λ (h : Hop). Some h.value) f.2; next = sym (ap (λ (h : Hop). h.next) f.2) }

-- the entry of an image
pub entry_map : {X Y : Type 0} (f : X → Option Y) (xs : List X) (k : ℕ) → entry_of (map f xs) k ≡ option_and_then f (slice_get xs k)
entry_map f xs k = ap (option_and_then (λ x. x)) (slice_get-map f xs k) ∙ by (slice_get xs k)
  where
    by : (o : Option _) → option_and_then (λ x. x) (option_map f o) ≡ option_and_then f o
    by None = refl
    by (Some x) = refl

pub offer_is : (net : PureNet) (dest i : ℕ) (heard : ℕ → Option PureValue) (k : ℕ) (g : Hop) → entry_of (offers net dest i heard) k ≡ Some g → IsOwnHop net dest i g ⊎ IsArcHop net i heard g
offer_is net dest i heard zero g e = inl (own_is net dest i g e)
offer_is net dest i heard (suc k) g e =
    let at = option_then (λ (a : PureArc). hop_by net a (heard a.id)) (slice_get (arcs_from net i) k) g (sym (entry_map (λ (a : PureArc). hop_by net a (heard a.id)) (arcs_from net i) k) ∙ e) in
    let image = option_from (λ v. hop v (Some at.0.head)) (option_and_then (App net.alg.expression at.0.label) (heard at.0.id)) g at.2 in
    let from = option_then (App net.alg.expression at.0.label) (heard at.0.id) image.0 image.1 in
    inr (record {
      arc = at.0;
      place = k;
      there = at.1;
      from = from.0;
      is_heard = from.1;
      made = from.2 ∙ ap (λ (h : Hop). Some h.value) image.2;
      next = sym (ap (λ (h : Hop). h.next) image.2);
    })

pub own_offered : (net : PureNet) (dest i : ℕ) (heard : ℕ → Option PureValue) (v : PureValue) → origin_value net dest i ≡ Some v → entry_of (offers net dest i heard) 0 ≡ Some (hop v None)
own_offered net dest i heard v e = rw e refl

pub arc_offered : (net : PureNet) (dest i : ℕ) (heard : ℕ → Option PureValue) (k : ℕ) (a : PureArc) (u v : PureValue) → slice_get (arcs_from net i) k ≡ Some a → heard a.id ≡ Some u
    → App net.alg.expression a.label u ≡ Some v → entry_of (offers net dest i heard) (suc k) ≡ Some (hop v (Some a.head))
arc_offered net dest i heard k a u v e f g = entry_map (λ (a : PureArc). hop_by net a (heard a.id)) (arcs_from net i) k ∙ rw (e, f, g) refl

-- what may be sent of an offer
pub record MayTell (net : PureNet) (dest clock : ℕ) (v : PureValue) : Type 0 where
  pub dest_in : dest < length net.dests
  pub value_in : In (carrier net) v
  pub small : AtMost (greatest_at clock) v

own_room : (clock : ℕ) → max_label_number ≤ greatest_at clock
own_room clock = omega arith

arc_room : (clock : ℕ) → clock * 2 ^ 64 + max_label_number ≤ greatest_at clock
arc_room clock = omega arith

pub own_may : (net : PureNet) → IsNet net → (dest i clock : ℕ) (g : Hop) → IsOwnHop net dest i g → MayTell net dest clock g.value
own_may net n dest i clock g o =
    let from = option_from (λ (q : PureOrigin). q.value) (find (is_origin_at dest i) net.origins) g.value o.value in
    let found = find_all (IsOriginOf net.alg (length net.nodes) (length net.dests)) (is_origin_at dest i) net.origins n.origins_in from.0 from.1 in
    let is = of_some (IsOrigin net dest i) (origin_value net dest i) g.value (origins_are net n dest i) o.value in
    let dest_is : from.0.dest ≡ dest = grind (arith, nat_tests, found.1) in
    record {
      dest_in = subst (λ z. z < length net.dests) dest_is found.0.dest_in;
      value_in = is.value_in;
      small = at_most_more max_label_number (greatest_at clock) g.value (own_room clock) is.small;
    }

-- what may have been heard on each of the node's arcs
abbrev pub AreHeard : PureNet → ℕ → ℕ → ℕ → (ℕ → Option PureValue) → Type 0
AreHeard net dest i clock heard = (k : ℕ) (a : PureArc) (v : PureValue) → slice_get (arcs_from net i) k ≡ Some a → heard a.id ≡ Some v → IsHeard net dest clock v

pub arc_may : (net : PureNet) → IsNet net → (dest i clock : ℕ) (heard : ℕ → Option PureValue) (g : Hop) → AreHeard net dest i clock heard → IsArcHop net i heard g → MayTell net dest clock g.value
arc_may net n dest i clock heard g are o =
    let is = (arc_from net n i o.place o.arc o.there).is_arc in
    let known = are o.place o.arc o.from o.there o.is_heard in
    let label = label_at_most_more (greatest_number net.alg.edition) max_label_number o.arc.label (greatest_is_bounded net.alg.edition) is.bound in
    let bound = images_at_most net.alg.expression o.arc.label o.from g.value (clock * 2 ^ 64) max_label_number is.label_in label known.small o.made in
    record {
      dest_in = known.dest_in;
      value_in = images_in net.alg.expression o.arc.label o.from g.value n.is_alg.formed is.label_in known.value_in o.made;
      small = at_most_more (clock * 2 ^ 64 + max_label_number) (greatest_at clock) g.value (arc_room clock) bound;
    }

-- all offers may be sent
pub offers_may : (net : PureNet) → IsNet net → (dest i clock : ℕ) (heard : ℕ → Option PureValue) → AreHeard net dest i clock heard → (k : ℕ) (g : Hop) → entry_of (offers net dest i heard) k ≡ Some g
    → MayTell net dest clock g.value
offers_may net n dest i clock heard are k g e = elim (offer_is net dest i heard k g e) [
  | inl own ↦ own_may net n dest i clock g own
  | inr arc ↦ arc_may net n dest i clock heard g are arc
]

-- and so may the choice
pub choice_may : (net : PureNet) → IsNet net → (dest i clock : ℕ) (heard : ℕ → Option PureValue) → AreHeard net dest i clock heard → (h : Hop) → choice net dest i heard ≡ Some h → MayTell net dest clock h.value
choice_may net n dest i clock heard are h e =
    let best = best_is (carrier net) (offers net dest i heard) h e in
    offers_may net n dest i clock heard are best.place h best.there

-- offers are made of what was heard on the node's arcs alone
pub offers_alike : (net : PureNet) (dest i : ℕ) (f g : ℕ → Option PureValue) → ((k : ℕ) (a : PureArc) → slice_get (arcs_from net i) k ≡ Some a → f a.id ≡ g a.id) → offers net dest i f ≡ offers net dest i g
offers_alike net dest i f g same =
    ap (λ os. own_hop net dest i ∷ os) (map_alike (λ (a : PureArc). hop_by net a (f a.id)) (λ (a : PureArc). hop_by net a (g a.id)) (arcs_from net i) (λ k a e. ap (hop_by net a) (same k a e)))

pub choice_alike : (net : PureNet) (dest i : ℕ) (f g : ℕ → Option PureValue) → ((k : ℕ) (a : PureArc) → slice_get (arcs_from net i) k ≡ Some a → f a.id ≡ g a.id) → choice net dest i f ≡ choice net dest i g
choice_alike net dest i f g same = ap (λ os. best_of (carrier net) (hops_of os)) (offers_alike net dest i f g same)

-- where nothing was heard the choice is the own origin's
pub silent_choice : (net : PureNet) → IsNet net → (dest i : ℕ) → choice net dest i (λ a. None) ≡ own_hop net dest i
silent_choice net n dest i = by (own_hop net dest i) refl
  where
    silent : (k : ℕ) → entry_of (offers net dest i (λ a. None)) (suc k) ≡ None
    silent k = entry_map (λ (a : PureArc). hop_by net a None) (arcs_from net i) k ∙ nothing (slice_get (arcs_from net i) k)
      where
        nothing : (o : Option PureArc) → option_and_then (λ (a : PureArc). hop_by net a None) o ≡ None
        nothing None = refl
        nothing (Some a) = refl

    by : (o : Option Hop) → own_hop net dest i ≡ o → choice net dest i (λ a. None) ≡ o
    by None e = none_is_best (carrier net) (offers net dest i (λ a. None)) none
      where
        none : (k : ℕ) → entry_of (offers net dest i (λ a. None)) k ≡ None
        none zero = e
        none (suc k) = silent k
    by (Some h) e = first_is_best (carrier net) (offers net dest i (λ a. None)) 0 h (record { there = e; unbeaten = unbeaten; first = λ k g l. absurd (omega (arith, l)) })
      where
        h_in : In (carrier net) h.value
        h_in = (own_may net n dest i 0 h (own_is net dest i h e)).value_in

        unbeaten : (k : ℕ) (g : Hop) → entry_of (offers net dest i (λ a. None)) k ≡ Some g → ¬ (Order (carrier net) g.value h.value ≡ Less)
        unbeaten zero g f =
            let same : h ≡ g = (let z = sym e ∙ f in cc) in
            subst (λ (z : Hop). ¬ (Order (carrier net) z.value h.value ≡ Less)) same (not_itself (carrier net) h.value h_in)
        unbeaten (suc k) g f = absurd (let z : None ≡ Some g = sym (silent k) ∙ f in cc)
