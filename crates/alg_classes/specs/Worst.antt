-- The worst value of a carrier, where there is one, and how great its numbers and those of the best may be.
use Rattle.std.specs.Prelude.{ℕ, ◌-◌, ◌≤◌, List, length, Option, Some, None, option_map}
use Rattle.alg_model.specs.Expressions.{PureCarrier, whole, up_to, down_from, seqs, simseqs, sets, one, named, pairs, sides}
use Rattle.alg_model.specs.Expressions.{PureValue, number, symbols, marks, unit, name, pair, second}
use Rattle.alg_model.specs.Carriers.{In}
use Rattle.alg_model.specs.Application.{both}
use Rattle.alg_model.specs.Bounds.{AtMost}
use Rattle.alg_model.specs.CarrierBounds.{CarrierAtMost}
use Rattle.alg_classes.specs.Flat.{HasWorse, numbers_below}

-- a value than which none is worse, unless each value has a worse one
abbrev pub worst : PureCarrier → Option PureValue
worst whole = None
worst (up_to top) = Some (number top)
worst (down_from top) = Some (number 0)
worst (seqs k) = None
worst (simseqs k) = Some (symbols (numbers_below k))
worst (sets k) = Some (marks 0)
worst one = Some unit
worst (named names ranks) = Some (name (length names - 1))
worst (pairs c d) = both (worst c) (worst d)
worst (sides c d) = option_map second (worst d)

-- the value is of the carrier and none is worse; or there is no such value
abbrev pub IsWorstIfAny : PureCarrier → Option PureValue → Type 0
IsWorstIfAny c None = (v : PureValue) → In c v → HasWorse c v
IsWorstIfAny c (Some w) = In c w × ¬ HasWorse c w

-- no number of the value is above all numbers of the carrier
abbrev pub IsWithin : PureCarrier → PureValue → Type 0
IsWithin c v = (n : ℕ) → CarrierAtMost n c → AtMost n v
