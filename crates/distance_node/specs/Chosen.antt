-- Rows in an algebra's own form: a value, and which of the offers it is.
use Rattle.std.specs.Prelude.{◌≡◌, ℕ, zero, suc, ◌<◌, List, Option, Some, None, cond, option_map, option_and_then, slice_get}
use Rattle.std.specs.declared.cmp.Ordering.TheVariants.{Less}
use Rattle.alg_model.specs.Carriers.{Order}
use Rattle.alg_model.specs.Expressions.{PureCarrier, PureValue}
use Rattle.net_graph.specs.Nets.{PureArc, PureNet, arcs_from}
use Rattle.net_graph.specs.Routes.{is_less}
use Rattle.net_graph.specs.Tables.{carrier}
use Rattle.distance_node.specs.declared.chosen.Chosen.{Chosen}
use Rattle.distance_node.specs.Node.{Hop}

-- the entry at a place, if there is one
abbrev pub entry_of : {X : Type 0} → List (Option X) → ℕ → Option X
entry_of entries k = option_and_then (λ x. x) (slice_get entries k)

-- the hop at a place of the offers is the first to which no other is preferred: those before it are worse
pub record IsFirst (c : PureCarrier) (os : List (Option Hop)) (place : ℕ) (h : Hop) : Type 0 where
  pub there : entry_of os place ≡ Some h
  pub unbeaten : (k : ℕ) (g : Hop) → entry_of os k ≡ Some g → ¬ (Order c g.value h.value ≡ Less)
  pub first : (k : ℕ) (g : Hop) → k < place → entry_of os k ≡ Some g → Order c h.value g.value ≡ Less

-- the neighbour that gives the offer at a place, if it is an arc's
abbrev pub next_at : PureNet → ℕ → ℕ → Option ℕ
next_at net i zero = None
next_at net i (suc k) = option_map (λ (a : PureArc). a.head) (slice_get (arcs_from net i) k)

module _ {S : Type 0} (value : S → PureValue) where
  abbrev pub hop_at : PureNet → ℕ → Chosen S → Hop
  hop_at net i r = record { value = value r.sig; next = next_at net i r.offer }

  -- the row is the best of the offers, or none where there are none
  abbrev pub IsBest : PureNet → ℕ → List (Option Hop) → Option (Chosen S) → Type 0
  IsBest net i os None = (k : ℕ) → entry_of os k ≡ None
  IsBest net i os (Some r) = IsFirst (carrier net) os r.offer (hop_at net i r)

  -- the better of two offers; the first, where the second isn't preferred
  abbrev pub better_of : PureCarrier → Option (Chosen S) → Option (Chosen S) → Option (Chosen S)
  better_of c None next = next
  better_of c (Some b) None = Some b
  better_of c (Some b) (Some x) = cond (is_less (Order c (value x.sig) (value b.sig))) (Some x) (Some b)

-- an offer of this value, at a place
abbrev pub chosen_at : {S : Type 0} → ℕ → S → Chosen S
chosen_at place s = record { sig = s; offer = place }
