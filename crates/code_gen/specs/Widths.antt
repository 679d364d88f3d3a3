-- How many words values have.
use Rattle.std.specs.Prelude.{◌≡◌, ℕ, ◌+◌, List, Bool, true, Option, Some, None, if◌then◌else◌, nat_le}
use Rattle.alg_model.specs.Expressions.{PureCarrier, PureValue, whole, up_to, down_from, seqs, simseqs, sets, one, named, pairs, sides}
use Rattle.alg_model.specs.Carriers.{In}
use Rattle.label_code.specs.declared.words.TheConstants.{HERE}
use Rattle.code_gen.specs.Encoding.{Enc}

-- the sum of both, where there are both and it is small
abbrev pub few : Option ℕ → Option ℕ → Option ℕ
few (Some m) (Some n) = if nat_le (m + n) HERE then Some (m + n) else None
few (Some m) None = None
few None o = None

-- how many words each value of the carrier has, where all have the same few; nothing is said of sides
abbrev pub width_of : PureCarrier → Option ℕ
width_of whole = Some 1
width_of (up_to top) = Some 1
width_of (down_from top) = Some 1
width_of (seqs k) = None
width_of (simseqs k) = None
width_of (sets k) = Some 1
width_of one = Some 0
width_of (named names ranks) = Some 1
width_of (pairs c d) = few (width_of c) (width_of d)
width_of (sides c d) = None

-- the words of each value of the carrier are one of these rows
abbrev pub HoldValues : (List ℕ → Bool) → PureCarrier → Type 0
HoldValues is_one c = (v : PureValue) → In c v → is_one (Enc v) ≡ true
