-- Rows of a table: the values that they act on, and what they do to them.
use Rattle.std.specs.Prelude.{◌≡◌, ℕ, ◌<◌, ◌≤◌, List, length, Option, Some, None, option_map, option_and_then, slice_get}
use Rattle.alg_model.specs.Expressions.{Expression, table, PureCarrier, named, name, PureLabel}
use Rattle.alg_model.specs.Carriers.{carrier_of}
use Rattle.alg_model.specs.Application.{App}
use Rattle.alg_model.specs.Numbers.{max_table_names}
use Rattle.alg_classes.specs.declared.fact.Fact.{Fact}
use Rattle.alg_classes.specs.declared.fact.Fact.TheVariants as fact
use Rattle.alg_classes.specs.Facts.{Action}
use Rattle.table_classes.specs.declared.fact.ValueFact.{ValueFact}
use Rattle.table_classes.specs.declared.fact.ValueFact.TheVariants.{Total, Dead, Monotone, Strict}
use Rattle.table_classes.specs.declared.fact.PairFact.{PairFact}
use Rattle.table_classes.specs.declared.fact.PairFact.TheVariants.{Isotone, Cancellative, Condensed, Narrow}

-- the algebra is a table
abbrev pub IsTable : Expression → Type 0
IsTable (table t) = Unit {0}
IsTable _ = ⊥

-- a row, with the names and the ranks of the table's values
pub record PureRow : Type 0 where
  pub names : List (List ℕ)
  pub ranks : List ℕ
  pub images : List (Option ℕ)

-- the image of the value at that place, if there is one
abbrev pub image_at : List (Option ℕ) → ℕ → Option ℕ
image_at images k = option_and_then (λ image. image) (slice_get images k)

-- the values are few, each has a rank, and each image is one of them
pub record IsRow (row : PureRow) : Type 0 where
  pub few : length row.names ≤ max_table_names
  pub ranked : length row.ranks ≡ length row.names
  pub within : (k place : ℕ) → image_at row.images k ≡ Some place → place < length row.names

-- the values that the row acts on
abbrev pub row_carrier : PureRow → PureCarrier
row_carrier row = named row.names row.ranks

-- what the row makes of a value
abbrev pub row_action : PureRow → Action
row_action row (name k) = option_map name (image_at row.images k)
row_action row _ = None

-- the row is what the label does in the table
pub record IsRowOf (a : Expression) (l : PureLabel) (row : PureRow) : Type 0 where
  pub carrier : carrier_of a ≡ row_carrier row
  pub action : App a l ≡ row_action row

-- the facts of the program
abbrev pub value_fact : ValueFact → Fact
value_fact Total = fact.Total
value_fact Dead = fact.Dead
value_fact Monotone = fact.Monotone
value_fact Strict = fact.Strict

abbrev pub pair_fact : PairFact → Fact
pair_fact Isotone = fact.Isotone
pair_fact Cancellative = fact.Cancellative
pair_fact Condensed = fact.Condensed
pair_fact Narrow = fact.Narrow
