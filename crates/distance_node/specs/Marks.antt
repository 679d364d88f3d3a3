-- What values in an algebra's own form mean to those that have one mark: what they mean in the mark's algebra.
use Rattle.std.specs.Prelude.{Option, Some, None}
use Rattle.alg_model.specs.Expressions.{PureValue, unit}

module _ {A S : Type 0} where
  abbrev pub meant : (A → S → PureValue) → Option A → S → PureValue
  meant value None s = unit
  meant value (Some a) s = value a s

  abbrev pub is_meant : (A → S → Type 0) → Option A → S → Type 0
  is_meant is_sig None s = ⊥
  is_meant is_sig (Some a) s = is_sig a s
