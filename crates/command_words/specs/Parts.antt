-- The words after the command, taken apart into arguments and flags.
use Rattle.std.specs.Prelude.{ℕ, ◌+◌, List, [], ◌∷◌, Bool, true, false, not, ◌&&◌, nat_eq, Option, Some, None, option_map, is_none, if◌then◌else◌, codes}
use Rattle.std.specs.List.{starts_with, filter_map, list_any}
use Rattle.std.specs.Str.{bytes_eq}
use Rattle.command_words.specs.declared.parts.WordPart as part
use Rattle.command_words.specs.declared.usage.Flag.{Flag}
use Rattle.command_words.specs.Usages.{flag_word}

-- An argument, by its place among all words and as it stands there; or a flag with its value, the word after it. Only a
-- flag that is the last word has none.
pub data PurePart : Type 0 where
  argument : ℕ → List ℕ → PurePart
  flag : List ℕ → Option (List ℕ) → PurePart

-- the part without where its words lie in memory
abbrev pub pure_part : part.WordPart → PurePart
pure_part (part.TheVariants.Argument place word) = argument place word.now
pure_part (part.TheVariants.Flag word value) = flag word.now (option_map (λ v. v.now) value)

-- a flag begins with `--`
abbrev pub is_flag : List ℕ → Bool
is_flag word = starts_with nat_eq word (codes "--")

-- the parts of these words, the first of which stands at that place
abbrev pub parts_from : ℕ → List (List ℕ) → List PurePart
parts_from place [] = []
parts_from place (word ∷ []) = if is_flag word then flag word None ∷ [] else argument place word ∷ []
parts_from place (word ∷ next ∷ rest) =
    if is_flag word then flag word (Some next) ∷ parts_from (place + 2) rest
    else argument place word ∷ parts_from (place + 1) (next ∷ rest)

-- the place of an argument
abbrev pub place_of : PurePart → Option ℕ
place_of (argument place word) = Some place
place_of (flag word value) = None

-- the places of the arguments, from left to right
abbrev pub places : List PurePart → List ℕ
places parts = filter_map place_of parts

-- the word of a part
abbrev pub word_of : PurePart → List ℕ
word_of (argument place word) = word
word_of (flag word value) = word

-- an argument, and no flag
abbrev pub is_argument : PurePart → Bool
is_argument (argument place word) = true
is_argument (flag word value) = false

-- the value of a flag
abbrev pub value_of : PurePart → Option (List ℕ)
value_of (argument place word) = None
value_of (flag word value) = value

-- a flag without a value
abbrev pub misses_value : PurePart → Bool
misses_value (argument place word) = false
misses_value (flag word value) = is_none value

-- it is this flag
abbrev pub gives : Flag → PurePart → Bool
gives f (argument place word) = false
gives f (flag word value) = bytes_eq word (flag_word f)

-- a flag, but none of these
abbrev pub is_unknown : List Flag → PurePart → Bool
is_unknown flags part = is_none (place_of part) && not (list_any (λ f. gives f part) flags)
