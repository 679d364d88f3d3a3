-- Lists of properties among the words.
use Rattle.std.specs.Prelude.{ℕ, List, [], ◌∷◌, Bool, false, not, ◌&&◌, ◌==◌, nat_lt, Option, Some, None, if◌then◌else◌, codes, count_by}
use Rattle.std.specs.List.{list_all, list_any, slice_split}
use Rattle.std.specs.Str.{bytes_eq, byte}
use Rattle.command_words.specs.declared.command.Required.{Required}

-- the words of the five properties
abbrev pub property_words : List (List ℕ)
property_words = codes "monotone" ∷ codes "strict" ∷ codes "isotone" ∷ codes "cancellative" ∷ codes "total" ∷ []

-- the words between commas, some of which may be empty; a text without a comma is one word
abbrev pub list_words : List ℕ → List (List ℕ)
list_words text = slice_split (λ c. c == byte ",") text

-- it is one of the words
abbrev pub is_among : List (List ℕ) → List ℕ → Bool
is_among words word = list_any (λ w. bytes_eq w word) words

-- it is more than one of the words
abbrev pub is_twice_among : List (List ℕ) → List ℕ → Bool
is_twice_among words word = nat_lt 1 (count_by (λ w. bytes_eq w word) words)

-- it is the word of a property
abbrev pub is_property : List ℕ → Bool
is_property word = is_among property_words word

-- each is the word of a property, and none stands there twice
abbrev pub are_properties : List (List ℕ) → Bool
are_properties words = list_all is_property words && not (list_any (is_twice_among words) property_words)

-- no property has to hold
abbrev pub nothing_required : Required
nothing_required = record { monotone = false; strict = false; isotone = false; cancellative = false; total = false }

-- the properties whose words are among these have to hold
abbrev pub required_by : List (List ℕ) → Required
required_by words = record {
  monotone = is_among words (codes "monotone");
  strict = is_among words (codes "strict");
  isotone = is_among words (codes "isotone");
  cancellative = is_among words (codes "cancellative");
  total = is_among words (codes "total");
}

-- what the list asks for, if it is one or more of the five words, separated by commas, none twice
abbrev pub required_of : List ℕ → Option Required
required_of text = if are_properties (list_words text) then Some (required_by (list_words text)) else None
