-- The flooding kind is lawful. A lemma, so that proofs of other crates may cite it.
use Rattle.std.proofs.Common.{◌≡◌, ℕ, ◌≤◌, List, [], ◌∷◌, ◌++◌, Bool, true, false, length, cond, refl, arith}
use Rattle.net_graph.specs.Nets.{IsNet, arcs_to}
use Rattle.node_core.specs.Numbers.{max_begun}
use Rattle.node_core.specs.Kinds.{IsLawful, IsSentBy, IsLater, on_arc}
use Rattle.flood_node.specs.Cards.{PureCard, PureFlooded, card_of}
use Rattle.flood_node.specs.Node.{FloodState, holds, reported_by, Begin, Step, flooding}
use Rattle.flood_node.specs.Telling.{reported_few, reported_all, reported_by_speaker}

reported_is_sent : (s : FloodState) (card : PureCard) (t : ℕ) → IsSentBy flooding s t (reported_by s card t)
reported_is_sent s card t =
    record {
      stamped = reported_all (λ m. m.stamp ≡ t) (arcs_to s.net s.number) (record { card = card; stamp = t }) refl;
      spoken = λ n. reported_by_speaker s.net s.number (record { card = card; stamp = t }) n;
    }

begun_few : (s : FloodState) (a : ℕ) → IsNet s.net → length (on_arc a (Begin s).1) ≤ max_begun
begun_few s a n =
    let one = reported_few s.net s.number a (record { card = card_of s.net s.number; stamp = 0 }) n in
    omega (arith, one)

module _ (s : FloodState) (a : ℕ) (m : PureFlooded) (t : ℕ) where
  abbrev stepped_if : Bool → FloodState × List (ℕ × PureFlooded)
  stepped_if b = cond b (record s { last = t }, []) (record s { cards = s.cards ++ m.card ∷ []; last = t }, reported_by s m.card t)

  step_later : s.is_begun ≡ true → IsLater flooding s (Step s a m t).0 t
  step_later e = by (holds s m.card.node)
    where
      by : (b : Bool) → IsLater flooding s (stepped_if b).0 t
      by true = record { net = refl; number = refl; begun = e; last = refl }
      by false = record { net = refl; number = refl; begun = e; last = refl }

  step_sent : IsSentBy flooding s t (Step s a m t).1
  step_sent = by (holds s m.card.node)
    where
      by : (b : Bool) → IsSentBy flooding s t (stepped_if b).1
      by true = record { stamped = tt; spoken = λ n. tt }
      by false = reported_is_sent s m.card t

  step_few : (b : ℕ) → IsNet s.net → length (on_arc b (Step s a m t).1) ≤ 1
  step_few b n = by (holds s m.card.node)
    where
      by : (c : Bool) → length (on_arc b (stepped_if c).1) ≤ 1
      by true = omega arith
      by false = reported_few s.net s.number b (record { card = m.card; stamp = t }) n

-- what holds of every kind of node holds of flooding nodes
pub flooding_is_lawful : IsLawful flooding
flooding_is_lawful = record {
  begins = λ s. record { net = refl; number = refl; begun = refl; last = refl };
  begun_sends = λ s. reported_is_sent s (card_of s.net s.number) 0;
  begun_few = begun_few;
  steps = λ s a m t e. step_later s a m t e;
  step_sends = λ s a m t. step_sent s a m t;
  step_few = λ s a b m t n. step_few s a m t b n;
  unfit = λ s a m t e. absurd (cc);
  last_set = λ s t. refl;
  last_kept = λ s. refl;
  last_alone = λ s t u. refl;
}
