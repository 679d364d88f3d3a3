-- Carriers: which values there are, and which of two is preferred (Griffin and Sobrinho 2005).
use Rattle.std.specs.Prelude.{◌≡◌, ℕ, ◌<◌, ◌≤◌, ◌^◌, ◌==◌, List, [], ◌∷◌, length, Bool, true, not, ◌&&◌, Option, Some, None, slice_index}
use Rattle.std.specs.List.{AllByRecursion, list_any}
use Rattle.std.specs.Ordering.{nat_cmp, ordering_then}
use Rattle.std.specs.declared.cmp.Ordering.{Ordering}
use Rattle.std.specs.declared.cmp.Ordering.TheVariants.{Less, Equal, Greater}
use Rattle.alg_model.specs.Expressions.{Expression, add, cap, worst, width, pref, orig, seq, simseq, tags, guard, gate, table, lex, scoped, union, sum, plus, left, right}
use Rattle.alg_model.specs.Expressions.{PureCarrier, whole, up_to, down_from, seqs, simseqs, sets, one, named, pairs, sides}
use Rattle.alg_model.specs.Expressions.{PureValue, number, symbols, marks, unit, name, pair, first, second}

-- the carrier of an algebra's values
abbrev pub carrier_of : Expression → PureCarrier
carrier_of (add low high) = whole
carrier_of (cap top low high) = up_to top
carrier_of (worst top low high) = up_to top
carrier_of (width top low high) = down_from top
carrier_of (pref top) = down_from top
carrier_of (orig top) = up_to top
carrier_of (seq n) = seqs n
carrier_of (simseq n) = simseqs n
carrier_of (tags n) = sets n
carrier_of (guard n) = sets n
carrier_of gate = one
carrier_of (table t) = named t.names t.ranks
carrier_of (lex a b) = pairs (carrier_of a) (carrier_of b)
carrier_of (scoped a b) = pairs (carrier_of a) (carrier_of b)
carrier_of (union a b) = sides (carrier_of a) (carrier_of b)
carrier_of (sum a b) = sides (carrier_of a) (carrier_of b)
carrier_of (plus a b) = carrier_of a
carrier_of (left a) = carrier_of a
carrier_of (right a) = carrier_of a

-- no number is there twice
abbrev pub distinct : List ℕ → Bool
distinct [] = true
distinct (n ∷ ns) = not (list_any (λ m. m == n) ns) && distinct ns

-- the value is in the carrier
abbrev pub In : PureCarrier → PureValue → Type 0
In whole (number n) = Unit {0}
In (up_to top) (number n) = n ≤ top
In (down_from top) (number n) = n ≤ top
In (seqs k) (symbols ns) = AllByRecursion (λ n. n < k) ns
In (simseqs k) (symbols ns) = AllByRecursion (λ n. n < k) ns × (distinct ns ≡ true)
In (sets k) (marks m) = m < 2 ^ k
In one unit = Unit {0}
In (named names ranks) (name k) = k < length names
In (pairs c d) (pair u v) = In c u × In d v
In (sides c d) (first u) = In c u
In (sides c d) (second v) = In d v
In _ _ = ⊥

-- how two values of the carrier compare: Less if the first is preferred, Equal if they are equivalent
abbrev pub Order : PureCarrier → PureValue → PureValue → Ordering
Order whole (number m) (number n) = nat_cmp m n
Order whole _ _ = Equal
Order (up_to top) (number m) (number n) = nat_cmp m n
Order (up_to top) _ _ = Equal
Order (down_from top) (number m) (number n) = nat_cmp n m
Order (down_from top) _ _ = Equal
Order (seqs k) (symbols ms) (symbols ns) = nat_cmp (length ms) (length ns)
Order (seqs k) _ _ = Equal
Order (simseqs k) (symbols ms) (symbols ns) = nat_cmp (length ms) (length ns)
Order (simseqs k) _ _ = Equal
Order (sets k) _ _ = Equal
Order one _ _ = Equal
Order (named names ranks) (name j) (name k) = nat_cmp (slice_index ranks j) (slice_index ranks k)
Order (named names ranks) _ _ = Equal
Order (pairs c d) (pair u v) (pair x y) = ordering_then (Order c u x) (Order d v y)
Order (pairs c d) _ _ = Equal
Order (sides c d) (first u) (first x) = Order c u x
Order (sides c d) (first u) (second y) = Less
Order (sides c d) (second v) (first x) = Greater
Order (sides c d) (second v) (second y) = Order d v y
Order (sides c d) _ _ = Equal

-- the same with none, which is worse than every value
abbrev pub OrderOrNone : PureCarrier → Option PureValue → Option PureValue → Ordering
OrderOrNone c (Some u) (Some v) = Order c u v
OrderOrNone c (Some u) None = Less
OrderOrNone c None (Some v) = Greater
OrderOrNone c None None = Equal

-- the first is preferred to the second
abbrev pub IsPreferred : PureCarrier → Option PureValue → Option PureValue → Type 0
IsPreferred c u v = OrderOrNone c u v ≡ Less

-- both are values, and neither is preferred
abbrev pub AreEquivalent : PureCarrier → Option PureValue → Option PureValue → Type 0
AreEquivalent c (Some u) (Some v) = Order c u v ≡ Equal
AreEquivalent c _ _ = ⊥
