-- A kind of node, by what a node is (S) and what a message says (M). Arcs are numbers.
use Rattle.std.specs.Prelude.{◌≡◌, ℕ, ◌≤◌, ◌==◌, Bool, true, false, List, [], ◌∷◌, Option, Some, option_map, length, cond, slice_get}
use Rattle.std.specs.List.{AllByRecursion}
use Rattle.net_graph.specs.Nets.{PureArc, PureNet, IsNet}
use Rattle.node_core.specs.Numbers.{max_begun}

-- who listens on an arc, and who speaks on it
abbrev pub listener : PureNet → ℕ → Option ℕ
listener net a = option_map (λ (arc : PureArc). arc.tail) (slice_get net.arcs a)

abbrev pub speaker : PureNet → ℕ → Option ℕ
speaker net a = option_map (λ (arc : PureArc). arc.head) (slice_get net.arcs a)

-- the messages that are put on an arc, in order
abbrev pub on_arc : {M : Type 0} → ℕ → List (ℕ × M) → List M
on_arc a [] = []
on_arc a (p ∷ ps) = cond (p.0 == a) (p.1 ∷ on_arc a ps) (on_arc a ps)

pub record Kind (S M : Type 0) : Type 0 where
  -- a node's network, its number there, whether it is begun, and the last clock that it was given
  pub net : S → PureNet
  pub number : S → ℕ
  pub is_begun : S → Bool
  pub last : S → ℕ
  -- the node with another last clock
  pub with_last : S → ℕ → S
  -- the message may come to the node on the arc; a node takes one that may not, and forgets it
  pub fits : S → ℕ → M → Bool
  pub stamp : M → ℕ
  -- what an unbegun node becomes, and what it puts on which arcs, in order
  pub begin : S → S × List (ℕ × M)
  -- the same of a begun node after a message that came on an arc, at a clock
  pub step : S → ℕ → M → ℕ → S × List (ℕ × M)

-- what a node puts out is stamped with the clock and goes on arcs that the node speaks on, in a network that meets
-- the rules
pub record IsSentBy {S M : Type 0} (k : Kind S M) (s : S) (clock : ℕ) (out : List (ℕ × M)) : Type 0 where
  pub stamped : AllByRecursion (λ p. k.stamp p.1 ≡ clock) out
  pub spoken : IsNet (k.net s) → AllByRecursion (λ p. speaker (k.net s) p.0 ≡ Some (k.number s)) out

-- the second node is the first one, later: begun, at a clock
pub record IsLater {S M : Type 0} (k : Kind S M) (s t : S) (clock : ℕ) : Type 0 where
  pub net : k.net t ≡ k.net s
  pub number : k.number t ≡ k.number s
  pub begun : k.is_begun t ≡ true
  pub last : k.last t ≡ clock

-- What holds of every kind of node. A node puts at most max_begun messages on an arc when it begins, and one
-- in a step; a message that doesn't fit changes its last clock alone.
pub record IsLawful {S M : Type 0} (k : Kind S M) : Type 0 where
  pub begins : (s : S) → IsLater k s (k.begin s).0 0
  pub begun_sends : (s : S) → IsSentBy k s 0 (k.begin s).1
  pub begun_few : (s : S) (a : ℕ) → IsNet (k.net s) → length (on_arc a (k.begin s).1) ≤ max_begun
  pub steps : (s : S) (a : ℕ) (m : M) (t : ℕ) → k.is_begun s ≡ true → IsLater k s (k.step s a m t).0 t
  pub step_sends : (s : S) (a : ℕ) (m : M) (t : ℕ) → IsSentBy k s t (k.step s a m t).1
  pub step_few : (s : S) (a b : ℕ) (m : M) (t : ℕ) → IsNet (k.net s) → length (on_arc b (k.step s a m t).1) ≤ 1
  pub unfit : (s : S) (a : ℕ) (m : M) (t : ℕ) → k.fits s a m ≡ false → k.step s a m t ≡ (k.with_last s t, [])
  pub last_set : (s : S) (t : ℕ) → k.last (k.with_last s t) ≡ t
  pub last_kept : (s : S) → k.with_last s (k.last s) ≡ s
  pub last_alone : (s : S) (t u : ℕ) → k.with_last (k.with_last s t) u ≡ k.with_last s u
