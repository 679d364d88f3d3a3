-- Which carriers have a worst value, and the profiles of the constants at the ends of a carrier.
use Rattle.std.specs.Prelude.{◌≡◌, Bool, true, false, ◌&&◌}
use Rattle.alg_model.specs.Expressions.{PureCarrier, whole, up_to, down_from, seqs, simseqs, sets, one, named, pairs, sides}
use Rattle.profile_labels.specs.declared.extreme.Extreme.{Extreme}
use Rattle.profile_labels.specs.declared.extreme.Extreme.TheVariants.{Best, Worst}

-- the test whether a carrier has a worst value
abbrev pub has_worst : PureCarrier → Bool
has_worst whole = false
has_worst (up_to top) = true
has_worst (down_from top) = true
has_worst (seqs k) = false
has_worst (simseqs k) = true
has_worst (sets k) = true
has_worst one = true
has_worst (named names ranks) = true
has_worst (pairs c d) = has_worst c && has_worst d
has_worst (sides c d) = has_worst d

-- there is a value at this end
abbrev pub HasExtreme : PureCarrier → Extreme → Type 0
HasExtreme c Best = Unit {0}
HasExtreme c Worst = has_worst c ≡ true
