-- A scoped product is the function union of two lexical products (Gurney and Griffin 2007).
use Rattle.std.specs.Prelude.{◌≡◌, ◌↔◌}
use Rattle.alg_model.specs.Expressions.{Expression, lex, scoped, plus, left, right, PureValue, PureLabel, keep, pair_label, first_label, second_label, const_label, outer, inner}
use Rattle.alg_model.specs.Carriers.{carrier_of, In}
use Rattle.alg_model.specs.Application.{IsLabel, App}

-- labels that change the first part and set the second, beside labels that change the second alone
abbrev pub unscoped : Expression → Expression → Expression
unscoped a b = plus (lex a (left b)) (lex (right a) b)

-- the label `out(x,v)` among them, and the label `in(y)`
abbrev pub unscoped_outer : PureLabel → PureValue → PureLabel
unscoped_outer x v = first_label (pair_label x (const_label v))

abbrev pub unscoped_inner : PureLabel → PureLabel
unscoped_inner y = second_label (pair_label keep y)

-- the same values, the same labels under other names, and what they make of each value
pub record IsUnscoped (a b : Expression) : Type 0 where
  pub carrier : carrier_of (unscoped a b) ≡ carrier_of (scoped a b)
  pub outer_label : (x : PureLabel) (v : PureValue) → IsLabel (unscoped a b) (unscoped_outer x v) ↔ IsLabel (scoped a b) (outer x v)
  pub inner_label : (y : PureLabel) → IsLabel (unscoped a b) (unscoped_inner y) ↔ IsLabel (scoped a b) (inner y)
  pub outer_image : (x : PureLabel) (v w : PureValue) → In (carrier_of (scoped a b)) w → App (unscoped a b) (unscoped_outer x v) w ≡ App (scoped a b) (outer x v) w
  pub inner_image : (y : PureLabel) (w : PureValue) → In (carrier_of (scoped a b)) w → App (unscoped a b) (unscoped_inner y) w ≡ App (scoped a b) (inner y) w
