-- What it means for a network to be a part of another.
use Rattle.std.specs.Prelude.{◌≡◌, ℕ, ◌+◌, Bool, true, false, List, [], ◌∷◌, None, length, cond}
use Rattle.net_graph.specs.Nets.{PureNet, has_arc, label_between, origin_value}
use Rattle.net_graph.specs.Tables.{PureRow}

-- the part has the arcs and origins of the known nodes, and no others
pub record IsPart (whole part : PureNet) (known : ℕ → Bool) : Type 0 where
  pub alg : part.alg ≡ whole.alg
  pub count : length part.nodes ≡ length whole.nodes
  pub origins : (dest i : ℕ) → known i ≡ true → origin_value part dest i ≡ origin_value whole dest i
  pub no_origins : (dest i : ℕ) → known i ≡ false → origin_value part dest i ≡ None
  pub labels : (i j : ℕ) → known i ≡ true → label_between part i j ≡ label_between whole i j
  pub no_labels : (i j : ℕ) → known i ≡ false → label_between part i j ≡ None

-- no arc leads from a known node to one that isn't
abbrev pub IsClosed : PureNet → (ℕ → Bool) → Type 0
IsClosed net known = (i j : ℕ) → known i ≡ true → has_arc net i j ≡ true → known j ≡ true

-- the rows from one on, with those of known nodes alone
abbrev pub rows_known : (ℕ → Bool) → ℕ → List PureRow → List PureRow
rows_known known from [] = []
rows_known known from (row ∷ rows) = cond (known from) row (record row { route = None }) ∷ rows_known known (from + 1) rows
