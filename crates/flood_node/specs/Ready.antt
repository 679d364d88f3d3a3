-- New nodes aren't begun, and the nodes of a machine are: one for each of the network, in order, and the cards that they
-- hold are true. Lemmas, so that proofs of other crates may cite them.
use Rattle.std.proofs.Common.{◌≡◌, ℕ, zero, suc, ◌+◌, ◌<◌, List, [], ◌∷◌, Bool, true, false, length, map, slice_get, Some, None, refl, sym, ap, ◌∙◌, subst, arith}
use Rattle.std.specs.Prelude.{nat_lt}
use Rattle.std.specs.List.{AllByRecursion, range_with_len}
use Rattle.std.proofs.lemmas.Bool.Decides.{nat_tests}
use Rattle.std.proofs.lemmas.Option.{slice_get_past}
use Rattle.net_graph.specs.Nets.{PureNet}
use Rattle.net_graph.specs.NetLaws.{all_weaker}
use Rattle.node_core.specs.Machine.{AreUnbegun, Machine}
use Rattle.flood_node.specs.Cards.{PureFlooded}
use Rattle.flood_node.specs.Knowing.{IsFlood, IsReachedCard}
use Rattle.flood_node.specs.Node.{FloodState, flooding, new_node}
use Rattle.flood_node.specs.Reported.{AreBegun, AreTrueCards, IsTrueCard}

unbegun_from : (net : PureNet) (i n : ℕ) → length net.nodes ≡ i + n → AreUnbegun flooding net i (map (new_node net) (range_with_len i n))
unbegun_from net i zero e = omega (arith, e)
unbegun_from net i (suc n) e =
    let more : length net.nodes ≡ i + 1 + n = omega (arith, e) in
    (refl, refl, refl, unbegun_from net (i + 1) n more)

pub new_are_unbegun : (net : PureNet) → AreUnbegun flooding net 0 (map (new_node net) (range_with_len 0 (length net.nodes)))
new_are_unbegun net = unbegun_from net 0 (length net.nodes) (omega arith)

module _ (net : PureNet) (c : Machine FloodState PureFlooded) (f : IsFlood net c) where
  node_there : (i : ℕ) (s : FloodState) (states : List FloodState) → ((k : ℕ) (x : FloodState) → slice_get (s ∷ states) k ≡ Some x → c.node (i + k) ≡ Some x) → c.node i ≡ Some s
  node_there i s states at = let place : i + 0 ≡ i = omega arith in subst (λ z. c.node z ≡ Some s) place (at 0 s refl)

  node_next : (i : ℕ) (s : FloodState) (states : List FloodState) → ((k : ℕ) (x : FloodState) → slice_get (s ∷ states) k ≡ Some x → c.node (i + k) ≡ Some x)
      → (k : ℕ) (x : FloodState) → slice_get states k ≡ Some x → c.node (i + 1 + k) ≡ Some x
  node_next i s states at k x e = let place : i + suc k ≡ i + 1 + k = omega arith in subst (λ z. c.node z ≡ Some x) place (at (suc k) x e)

  begun_from : (i : ℕ) (states : List FloodState) → ((k : ℕ) (x : FloodState) → slice_get states k ≡ Some x → c.node (i + k) ≡ Some x) → i + length states ≡ length net.nodes → AreBegun net i states
  begun_from i [] at count = omega (arith, count)
  begun_from i (s ∷ states) at count =
      let is = f.running.each i s (node_there i s states at) in
      (is.net_is, is.number_is, is.begun, begun_from (i + 1) states (node_next i s states at) (omega (arith, count)))

  cards_from : (i : ℕ) (states : List FloodState) → ((k : ℕ) (x : FloodState) → slice_get states k ≡ Some x → c.node (i + k) ≡ Some x) → AllByRecursion (λ (s : FloodState). AreTrueCards net s.cards) states
  cards_from i [] at = tt
  cards_from i (s ∷ states) at =
      (all_weaker (IsReachedCard net i) (IsTrueCard net) s.cards (λ x r. r.is_true) (f.held i s (node_there i s states at)), cards_from (i + 1) states (node_next i s states at))

  module _ (states : List FloodState) (are : (i : ℕ) → c.node i ≡ slice_get states i) where
    from_first : (k : ℕ) (x : FloodState) → slice_get states k ≡ Some x → c.node (0 + k) ≡ Some x
    from_first k x e = let place : 0 + k ≡ k = omega arith in ap c.node place ∙ (are k ∙ e)

    -- there is a node for each of the network
    pub states_count : length states ≡ length net.nodes
    states_count = by (nat_lt (length states) (length net.nodes)) (nat_lt (length net.nodes) (length states)) refl refl
      where
        by : (a b : Bool) → nat_lt (length states) (length net.nodes) ≡ a → nat_lt (length net.nodes) (length states) ≡ b → length states ≡ length net.nodes
        by true b e h =
            let fewer : length states < length net.nodes = grind (arith, nat_tests) in
            let there = f.running.there (length states) fewer in
            let past = slice_get_past states (length states) (omega arith) in
            absurd (let clash : Some there.0 ≡ None = sym there.1 ∙ (are (length states) ∙ past) in cc)
        by false true e h =
            let more : length net.nodes < length states = grind (arith, nat_tests) in
            absurd (beyond states (length net.nodes) more (sym (are (length net.nodes)) ∙ f.running.past (length net.nodes) (omega arith)))
          where
            beyond : (xs : List FloodState) (i : ℕ) → i < length xs → slice_get xs i ≡ None → ⊥
            beyond [] i l none = absurd (omega (arith, l))
            beyond (x ∷ xs) zero l none = absurd (cc)
            beyond (x ∷ xs) (suc i) l none = beyond xs i (omega (arith, l)) none
        by false false e h = grind (arith, nat_tests)

    pub states_begun : AreBegun net 0 states
    states_begun = let count = states_count in begun_from 0 states from_first (omega (arith, count))

    pub states_hold_true_cards : AllByRecursion (λ (s : FloodState). AreTrueCards net s.cards) states
    states_hold_true_cards = cards_from 0 states from_first
