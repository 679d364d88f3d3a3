-- A label and a value without great numbers, made of any: what the label makes of the value compares to it alike.
use Rattle.std.specs.Prelude.{ℕ, if◌then◌else◌, nat_le}
use Rattle.alg_model.specs.Expressions.{Expression, add, lex, scoped, union, sum, plus, left, right}
use Rattle.alg_model.specs.Expressions.{PureCarrier, whole, pairs, sides}
use Rattle.alg_model.specs.Expressions.{PureValue, number, pair, first, second}
use Rattle.alg_model.specs.Expressions.{PureLabel, pair_label, both_label, first_label, second_label, const_label, outer, inner}
use Rattle.alg_model.specs.Carriers.{carrier_of}

-- of two numbers the smaller is 0 here, and the greater 1
abbrev pub small_number : ℕ → ℕ → ℕ
small_number i j = if nat_le i j then 0 else 1

-- the value without great numbers: it compares to the other one, made small beside it, as the value does to the other
abbrev pub small_beside : PureCarrier → PureValue → PureValue → PureValue
small_beside whole (number i) (number j) = number (small_number i j)
small_beside (pairs c d) (pair s t) (pair x y) = pair (small_beside c s x) (small_beside d t y)
small_beside (sides c d) (first s) (first x) = first (small_beside c s x)
small_beside (sides c d) (first s) (second y) = first (small_beside c s s)
small_beside (sides c d) (second t) (first x) = second (small_beside d t t)
small_beside (sides c d) (second t) (second y) = second (small_beside d t y)
small_beside _ v _ = v

-- a label without great numbers, which only the values in it may have
abbrev pub small_label : Expression → PureLabel → PureLabel
small_label (lex a b) (pair_label l m) = pair_label (small_label a l) (small_label b m)
small_label (scoped a b) (outer l v) = outer (small_label a l) (small_beside (carrier_of b) v v)
small_label (scoped a b) (inner m) = inner (small_label b m)
small_label (union a b) (first_label l) = first_label (small_label a l)
small_label (union a b) (second_label m) = second_label (small_label b m)
small_label (sum a b) (both_label l m) = both_label (small_label a l) (small_label b m)
small_label (plus a b) (first_label l) = first_label (small_label a l)
small_label (plus a b) (second_label m) = second_label (small_label b m)
small_label (left a) (const_label v) = const_label (small_beside (carrier_of a) v v)
small_label _ l = l

-- the same of a label that acts on the value
abbrev pub small_label_on : Expression → PureLabel → PureValue → PureLabel
small_label_on (lex a b) (pair_label l m) (pair u v) = pair_label (small_label_on a l u) (small_label_on b m v)
small_label_on (scoped a b) (outer l w) (pair u v) = outer (small_label_on a l u) (small_beside (carrier_of b) w v)
small_label_on (scoped a b) (inner m) (pair u v) = inner (small_label_on b m v)
small_label_on (union a b) (first_label l) (first u) = first_label (small_label_on a l u)
small_label_on (union a b) (second_label m) (second v) = second_label (small_label_on b m v)
small_label_on (sum a b) (both_label l m) (first u) = both_label (small_label_on a l u) (small_label b m)
small_label_on (sum a b) (both_label l m) (second v) = both_label (small_label a l) (small_label_on b m v)
small_label_on (plus a b) (first_label l) v = first_label (small_label_on a l v)
small_label_on (plus a b) (second_label m) v = second_label (small_label_on b m v)
small_label_on (left a) (const_label w) v = const_label (small_beside (carrier_of a) w v)
small_label_on _ l v = l

-- the value that such a label acts on
abbrev pub small_value_under : Expression → PureLabel → PureValue → PureValue
small_value_under (add low high) l v = number 0
small_value_under (lex a b) (pair_label l m) (pair u v) = pair (small_value_under a l u) (small_value_under b m v)
small_value_under (scoped a b) (outer l w) (pair u v) = pair (small_value_under a l u) (small_beside (carrier_of b) v w)
small_value_under (scoped a b) (inner m) (pair u v) = pair (small_beside (carrier_of a) u u) (small_value_under b m v)
small_value_under (union a b) (first_label l) (first u) = first (small_value_under a l u)
small_value_under (union a b) (second_label m) (second v) = second (small_value_under b m v)
small_value_under (sum a b) (both_label l m) (first u) = first (small_value_under a l u)
small_value_under (sum a b) (both_label l m) (second v) = second (small_value_under b m v)
small_value_under (plus a b) (first_label l) v = small_value_under a l v
small_value_under (plus a b) (second_label m) v = small_value_under b m v
small_value_under (left a) (const_label w) v = small_beside (carrier_of a) v w
small_value_under (right a) l v = small_beside (carrier_of a) v v
small_value_under _ l v = v
