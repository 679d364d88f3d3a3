-- What a node took, one message after another, and what came of it.
use Rattle.std.specs.Prelude.{◌≡◌, ℕ, ◌+◌, ◌==◌, max, List, [], ◌∷◌, ◌++◌, Option, Some, None, cond}
use Rattle.meta_base.specs.declared.ids.Delivery.{Delivery}
use Rattle.node_core.specs.Kinds.{Kind}

-- a message that a node took: the arc that it came on, and the clock that the node got by it
pub record Taken (M : Type 0) : Type 0 where
  pub clock : ℕ
  pub arc : ℕ
  pub message : M

module _ {M : Type 0} where
  -- as an entry of the node's log
  abbrev pub entry_of : Taken M → Delivery
  entry_of h = record { clock = h.clock; arc = record { 0 = h.arc } }

  -- what was taken on an arc, in order
  abbrev pub taken_on : ℕ → List (Taken M) → List M
  taken_on a [] = []
  taken_on a (h ∷ history) = cond (h.arc == a) (h.message ∷ taken_on a history) (taken_on a history)

  -- the node's clock after its history
  abbrev pub clock_past : ℕ → List (Taken M) → ℕ
  clock_past t [] = t
  clock_past t (h ∷ history) = clock_past h.clock history

module _ {S M : Type 0} (k : Kind S M) where
  -- the node after its history
  abbrev pub node_after : S → List (Taken M) → S
  node_after s [] = s
  node_after s (h ∷ history) = node_after (k.step s h.arc h.message h.clock).0 history

  -- all that it puts out, in order
  abbrev pub put_out : S → List (Taken M) → List (ℕ × M)
  put_out s [] = []
  put_out s (h ∷ history) = (k.step s h.arc h.message h.clock).1 ++ put_out (k.step s h.arc h.message h.clock).0 history

  -- each clock is one more than the greater of the message's stamp and the clock before
  abbrev pub IsTimed : ℕ → List (Taken M) → Type 0
  IsTimed t [] = Unit {0}
  IsTimed t (h ∷ history) = (h.clock ≡ max t (k.stamp h.message) + 1) × IsTimed h.clock history

  abbrev pub option_after : Option S → List (Taken M) → Option S
  option_after None history = None
  option_after (Some s) history = Some (node_after s history)

  abbrev pub option_out : Option S → List (Taken M) → List (ℕ × M)
  option_out None history = []
  option_out (Some s) history = put_out s history
