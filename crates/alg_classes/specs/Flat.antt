-- Which carriers are flat, that is, have no value worse than another; which values have a worse one, and one
-- that is worse. Both are tested by the carrier's parts.
use Rattle.std.specs.Prelude.{◌≡◌, ℕ, zero, suc, ◌+◌, ◌-◌, ◌==◌, List, [], ◌∷◌, ◌++◌, length, Bool, true, false, ◌&&◌, ◌||◌, if◌then◌else◌, nat_lt, slice_index}
use Rattle.alg_model.specs.Expressions.{PureCarrier, whole, up_to, down_from, seqs, simseqs, sets, one, named, pairs, sides}
use Rattle.alg_model.specs.Expressions.{PureValue, number, symbols, marks, unit, name, pair, first, second}
use Rattle.alg_model.specs.Carriers.{In, Order}
use Rattle.std.specs.declared.cmp.Ordering.TheVariants.{Less, Equal}

-- all values of the carrier are equivalent
abbrev pub IsFlat : PureCarrier → Type 0
IsFlat c = (u v : PureValue) → In c u → In c v → Order c u v ≡ Equal

-- the second is a value of the carrier, and the first is preferred to it
abbrev pub IsWorse : PureCarrier → PureValue → PureValue → Type 0
IsWorse c v w = In c w × (Order c v w ≡ Less)

-- some value of the carrier is worse than this one
abbrev pub HasWorse : PureCarrier → PureValue → Type 0
HasWorse c v = (w : PureValue) × IsWorse c v w

-- the rank of the last value of a table, which is the greatest
abbrev pub last_rank : List ℕ → ℕ
last_rank ranks = slice_index ranks (length ranks - 1)

-- the test whether a carrier is flat
abbrev pub is_flat : PureCarrier → Bool
is_flat whole = false
is_flat (up_to top) = top == 0
is_flat (down_from top) = top == 0
is_flat (seqs k) = false
is_flat (simseqs k) = false
is_flat (sets k) = true
is_flat one = true
is_flat (named names ranks) = last_rank ranks == 0
is_flat (pairs c d) = is_flat c && is_flat d
is_flat (sides c d) = false

-- the test whether a value has a worse one
abbrev pub has_worse : PureCarrier → PureValue → Bool
has_worse whole v = true
has_worse (up_to top) (number n) = nat_lt n top
has_worse (down_from top) (number n) = nat_lt 0 n
has_worse (seqs k) v = true
has_worse (simseqs k) (symbols ns) = nat_lt (length ns) k
has_worse (named names ranks) (name k) = nat_lt (slice_index ranks k) (last_rank ranks)
has_worse (pairs c d) (pair u v) = has_worse c u || has_worse d v
has_worse (sides c d) (first u) = true
has_worse (sides c d) (second v) = has_worse d v
has_worse _ _ = false

-- the numbers below this one, in order
abbrev pub numbers_below : ℕ → List ℕ
numbers_below zero = []
numbers_below (suc n) = numbers_below n ++ n ∷ []

-- a value to which none is preferred
abbrev pub best : PureCarrier → PureValue
best whole = number 0
best (up_to top) = number 0
best (down_from top) = number top
best (seqs k) = symbols []
best (simseqs k) = symbols []
best (sets k) = marks 0
best one = unit
best (named names ranks) = name 0
best (pairs c d) = pair (best c) (best d)
best (sides c d) = first (best c)

-- a worse value of the carrier than this one, if there is one, and else some value
abbrev pub worse_than : PureCarrier → PureValue → PureValue
worse_than whole (number n) = number (n + 1)
worse_than (up_to top) (number n) = number top
worse_than (down_from top) (number n) = number 0
worse_than (seqs k) (symbols ns) = symbols (ns ++ 0 ∷ [])
worse_than (simseqs k) (symbols ns) = symbols (numbers_below k)
worse_than (named names ranks) (name k) = name (length names - 1)
worse_than (pairs c d) (pair u v) = if has_worse c u then pair (worse_than c u) v else pair u (worse_than d v)
worse_than (sides c d) (first u) = second (best d)
worse_than (sides c d) (second v) = second (worse_than d v)
worse_than _ v = v
