-- What becomes of a node's row when it hears a report.
use Rattle.std.specs.Prelude.{◌≡◌, ℕ, ◌<◌, ◌==◌, false, true, Bool, ◌∷◌, length, Option, Some, None, Result, Ok, Err, cond, slice_get}
use Rattle.std.specs.Option.{option_map_or}
use Rattle.alg_model.specs.Expressions.{PureValue, PureCarrier}
use Rattle.net_graph.specs.Nets.{PureArc, PureNet}
use Rattle.net_graph.specs.Routes.{PureRoute}
use Rattle.path_vector.specs.Node.{choice, may_be_of, same_row}
use Rattle.path_vector.specs.Settling.{settled}
use Rattle.vector_block.specs.declared.store.Store.{Store}
use Rattle.vector_block.specs.declared.look.Hearing.{Hearing}
use Rattle.vector_block.specs.declared.look.Finding.{Finding}
use Rattle.vector_block.specs.declared.look.Finding.TheVariants as finding
use Rattle.vector_block.specs.Stores.{PureStore, said_by, with_report}

-- the node listens on the arc
abbrev pub listens : PureNet → ℕ → ℕ → Bool
listens net i a = option_map_or (λ (arc : PureArc). arc.tail == i) (slice_get net.arcs a) false

-- what a node heard last, by arc and destination
abbrev pub heard_at : PureNet → PureStore → ℕ → ℕ → ℕ → Option PureRoute
heard_at net s i a dest = cond (listens net i a) (s.heard a dest) None

-- The listener of the arc hears the report, which is its speaker's and of the destination, and may be that node's.
pub record IsHearing {S : Type 0} (value : S → PureValue) (net : PureNet) (s : Store S) (a : PureArc) (h : Hearing) : Type 0 where
  pub stands : slice_get net.arcs h.arc.0 ≡ Some a
  pub tail : a.tail ≡ h.node.0
  pub head : a.head ≡ h.speaker.0
  pub apart : (a.head == a.tail) ≡ false
  pub dest : h.dest.0 < length net.dests
  pub report : h.report.0 < length s.reports.items
  pub may : (r : PureRoute) → said_by value s.paths s.reports.items (Some h.report) ≡ Some r → may_be_of net a.head r ≡ true

-- What a node finds: its row stays, or the offer, of the spare value and the path of the report, is its row, or its row went
-- by the speaker and is lost.
module _ {S : Type 0} (is_sig : S → Type 0) (value : S → PureValue) (c : PureCarrier) (speaker node : ℕ) (row said offer : Option PureRoute) where
  abbrev pub IsFinding : Option S → Finding → Type 0
  IsFinding spare finding.Stays = settled c speaker row offer ≡ Some row
  IsFinding spare finding.Takes = (sig : S) × (spare ≡ Some sig) × is_sig sig × (said_route : PureRoute) × (said ≡ Some said_route)
      × (offer ≡ Some (record { value = value sig; path = node ∷ said_route.path })) × (settled c speaker row offer ≡ Some offer) × (same_row offer row ≡ false)
  IsFinding spare finding.Lost = settled c speaker row offer ≡ None

-- The node that heard a report has chosen its row for the destination: it is another, which was reported, where the answer
-- is true, and the one that it had, where it is false. After a refusal all is as it was.
abbrev pub HasRechosen : {E : Type 0} → PureNet → Hearing → PureStore → PureStore → Result Bool E → Type 0
HasRechosen net h before after (Ok true) =
    let row = choice net h.dest.0 h.node.0 (heard_at net before h.node.0) in
    (same_row row (before.rows h.node.0 h.dest.0) ≡ false) × (after ≡ with_report before h.node.0 (record { dest = h.dest.0; route = row; stamp = h.clock }))
HasRechosen net h before after (Ok false) = (choice net h.dest.0 h.node.0 (heard_at net before h.node.0) ≡ before.rows h.node.0 h.dest.0) × (after ≡ before)
HasRechosen net h before after (Err refusal) = after ≡ before
