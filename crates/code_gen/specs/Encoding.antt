-- Values as words.
use Rattle.std.specs.Prelude.{◌≡◌, ℕ, ◌^◌, zero, suc, List, [], ◌∷◌, ◌++◌, ◌&&◌, length, take, drop, Option, Some, None, option_map, option_and_then, if◌then◌else◌, nat_le, nat_lt}
use Rattle.std.specs.List.{list_all}
use Rattle.alg_model.specs.Expressions.{PureCarrier, whole, up_to, down_from, seqs, simseqs, sets, one, named, pairs, sides}
use Rattle.alg_model.specs.Expressions.{PureValue, number, symbols, marks, unit, name, pair, first, second}
use Rattle.alg_model.specs.Carriers.{In}

-- a number, a set by its bits and the place of a name are one word, a sequence is its length and its symbols, a pair
-- one part after the other, and a side 0 or 1 and the value
abbrev pub Enc : PureValue → List ℕ
Enc (number n) = n ∷ []
Enc (symbols ns) = length ns ∷ ns
Enc (marks m) = m ∷ []
Enc unit = []
Enc (name k) = k ∷ []
Enc (pair u v) = Enc u ++ Enc v
Enc (first u) = 0 ∷ Enc u
Enc (second v) = 1 ∷ Enc v

-- what stands in front of a row, and the row after it
abbrev pub Front : Type 0
Front = Option (PureValue × List ℕ)

-- a word in front of a row, as this kind of value
abbrev pub word_front : (ℕ → PureValue) → List ℕ → Front
word_front make [] = None
word_front make (w ∷ row) = Some (make w, row)

-- a word in front of a row that is below this number, as this kind of value
abbrev pub small_front : ℕ → (ℕ → PureValue) → List ℕ → Front
small_front count make [] = None
small_front count make (w ∷ row) = if nat_lt w count then Some (make w, row) else None

-- a length in front of a row, and so many symbols below this number after it
abbrev pub symbols_front : ℕ → List ℕ → Front
symbols_front count [] = None
symbols_front count (n ∷ row) = if nat_le n (length row) && list_all (λ m. nat_lt m count) (take n row) then Some (symbols (take n row), drop n row) else None

-- what stands in front of a row, as this kind of value
abbrev pub made_front : (PureValue → PureValue) → Front → Front
made_front make f = option_map (λ r. (make r.0, r.1)) f

-- a value in front of a row, and one more after it, where `next` tells what stands in front of a row
abbrev pub pair_front : Front → (List ℕ → Front) → Front
pair_front f next = option_and_then (λ r. made_front (pair r.0) (next r.1)) f

-- a side in front of a row, and a value of the side after it
abbrev pub side_front : (List ℕ → Front) → (List ℕ → Front) → List ℕ → Front
side_front left right [] = None
side_front left right (zero ∷ row) = made_front first (left row)
side_front left right (suc zero ∷ row) = made_front second (right row)
side_front left right (suc (suc n) ∷ row) = None

-- the value of the carrier whose words stand in front of a row, if there is one
abbrev pub Dec : PureCarrier → List ℕ → Front
Dec whole row = word_front number row
Dec (up_to top) row = word_front number row
Dec (down_from top) row = word_front number row
Dec (seqs k) row = symbols_front k row
Dec (simseqs k) row = symbols_front k row
Dec (sets k) row = small_front (2 ^ k) marks row
Dec one row = Some (unit, row)
Dec (named names ranks) row = small_front (length names) name row
Dec (pairs c d) row = pair_front (Dec c row) (λ rest. Dec d rest)
Dec (sides c d) row = side_front (λ rest. Dec c rest) (λ rest. Dec d rest) row

-- the value in front, where there is one
abbrev pub value_in : Front → PureValue
value_in (Some (v, row)) = v
value_in None = unit

-- the value of the carrier whose words the row is
abbrev pub decoded : PureCarrier → List ℕ → PureValue
decoded c row = value_in (Dec c row)

-- the row is the words of a value of the carrier
abbrev pub IsEncoded : PureCarrier → List ℕ → Type 0
IsEncoded c row = (v : PureValue) × In c v × (Enc v ≡ row)
