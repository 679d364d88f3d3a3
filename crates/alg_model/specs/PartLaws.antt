-- The parts of a formed expression are formed, and a scoped product is the function union of two
-- lexical products. Lemmas, so that proofs of other crates may cite them.
use Rattle.std.proofs.Common.{◌≡◌, refl, arith}
use Rattle.alg_model.specs.Expressions.{Expression, lex, scoped, union, sum, plus, left, right, outer, inner}
use Rattle.alg_model.specs.Carriers.{carrier_of}
use Rattle.alg_model.specs.Application.{App}
use Rattle.alg_model.specs.Formation.{IsFormed}
use Rattle.alg_model.specs.Scoped.{unscoped, unscoped_outer, unscoped_inner, IsUnscoped}
use Rattle.alg_model.specs.PreferenceLaws.{each_pair}

pub formed_lex : (a b : Expression) → IsFormed (lex a b) → IsFormed a × IsFormed b
formed_lex a b f = (
  record { ranges = f.ranges.0; carriers = f.carriers.0; size = omega (arith, f.size); names = f.names.0 },
  record { ranges = f.ranges.1; carriers = f.carriers.1; size = omega (arith, f.size); names = f.names.1 },
)

pub formed_scoped : (a b : Expression) → IsFormed (scoped a b) → IsFormed a × IsFormed b
formed_scoped a b f = (
  record { ranges = f.ranges.0; carriers = f.carriers.0; size = omega (arith, f.size); names = f.names.0 },
  record { ranges = f.ranges.1; carriers = f.carriers.1; size = omega (arith, f.size); names = f.names.1 },
)

pub formed_union : (a b : Expression) → IsFormed (union a b) → IsFormed a × IsFormed b
formed_union a b f = (
  record { ranges = f.ranges.0; carriers = f.carriers.0; size = omega (arith, f.size); names = f.names.0 },
  record { ranges = f.ranges.1; carriers = f.carriers.1; size = omega (arith, f.size); names = f.names.1 },
)

pub formed_sum : (a b : Expression) → IsFormed (sum a b) → IsFormed a × IsFormed b
formed_sum a b f = (
  record { ranges = f.ranges.0; carriers = f.carriers.0; size = omega (arith, f.size); names = f.names.0 },
  record { ranges = f.ranges.1; carriers = f.carriers.1; size = omega (arith, f.size); names = f.names.1 },
)

-- and both have one carrier
pub formed_plus : (a b : Expression) → IsFormed (plus a b) → IsFormed a × IsFormed b × (carrier_of a ≡ carrier_of b)
formed_plus a b f = (
  record { ranges = f.ranges.0; carriers = f.carriers.0; size = omega (arith, f.size); names = f.names.0 },
  record { ranges = f.ranges.1; carriers = f.carriers.1; size = omega (arith, f.size); names = f.names.1 },
  f.carriers.2,
)

pub formed_left : (a : Expression) → IsFormed (left a) → IsFormed a
formed_left a f = record { ranges = f.ranges; carriers = f.carriers; size = omega (arith, f.size); names = f.names }

pub formed_right : (a : Expression) → IsFormed (right a) → IsFormed a
formed_right a f = record { ranges = f.ranges; carriers = f.carriers; size = omega (arith, f.size); names = f.names }

-- a scoped product has the values of the union, and its labels under other names
pub scoped_is_a_union : (a b : Expression) → IsUnscoped a b
scoped_is_a_union a b = record {
  carrier = refl;
  outer_label = λ x v. (λ h. h, λ h. h);
  inner_label = λ y. (λ h. h.1, λ h. (tt, h));
  outer_image = λ x v w i. each_pair (carrier_of a) (carrier_of b)
      (λ w. App (unscoped a b) (unscoped_outer x v) w ≡ App (scoped a b) (outer x v) w) (λ s t _ _. refl) w i;
  inner_image = λ y w i. each_pair (carrier_of a) (carrier_of b)
      (λ w. App (unscoped a b) (unscoped_inner y) w ≡ App (scoped a b) (inner y) w) (λ s t _ _. refl) w i;
}
