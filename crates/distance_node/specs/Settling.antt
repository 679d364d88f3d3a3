-- When a row and the one offer that was replaced tell the choice, whatever the other offers are.
use Rattle.std.specs.Prelude.{ℕ, ◌==◌, nat_lt, Option, Some, None, cond}
use Rattle.std.specs.declared.cmp.Ordering.{Ordering}
use Rattle.std.specs.declared.cmp.Ordering.TheVariants.{Less, Equal, Greater}
use Rattle.alg_model.specs.Carriers.{Order}
use Rattle.alg_model.specs.Expressions.{PureCarrier, PureValue}
use Rattle.distance_node.specs.declared.chosen.Chosen.{Chosen}
use Rattle.distance_node.specs.declared.settling.Settled.{Settled}
use Rattle.distance_node.specs.declared.settling.Settled.TheVariants.{Stays, Moves, Lost}

-- how the row at a place is settled by an offer at another or at the same, that compares so with it
abbrev pub settled_by : Ordering → ℕ → ℕ → Settled
settled_by Less row offer = Moves
settled_by Equal row offer = cond (nat_lt row offer) Stays Moves
settled_by Greater row offer = cond (row == offer) Lost Stays

-- An offer moves the row to itself where it is preferred, or as good and not later; the row is lost where its own offer
-- got worse, and stays else.
abbrev pub settled : {S : Type 0} → (S → PureValue) → PureCarrier → Option (Chosen S) → ℕ → Option S → Settled
settled value c None offer None = Stays
settled value c None offer (Some s) = Moves
settled value c (Some b) offer None = cond (b.offer == offer) Lost Stays
settled value c (Some b) offer (Some s) = settled_by (Order c (value s) (value b.sig)) b.offer offer
