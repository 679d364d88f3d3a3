-- How the line of an arc at the front of a text is read, word by word.
use Rattle.std.specs.Prelude.{◌≡◌, ◌⊎◌, ◌<◌, ◌≤◌, ℕ, List, [], ◌∷◌, ◌++◌, Bool, true, false, ◌==◌, ◌&&◌, ◌||◌, nat_le, length, codes}
use Rattle.std.specs.List.{list_all}
use Rattle.meta_base.specs.Bytes.{is_blank, front, after_front}
use Rattle.net_graph.specs.Nets.{is_name}
use Rattle.topology_file.specs.Numbers.{max_line_bytes}
use Rattle.topology_file.specs.Texts.{words_of, is_not, lines_of, said_of}
use Rattle.topology_file.specs.Forms.{PureLine, line_of}
use Rattle.topology_file.specs.declared.forms.Ways.{Ways}
use Rattle.topology_file.specs.declared.forms.Ways.TheVariants.{One, Both}

-- the words before the first colon of a text, and the colon with all that follows it
abbrev pub words_before : List ℕ → List (List ℕ)
words_before text = words_of (front (is_not 58) text)

abbrev pub from_colon : List ℕ → List ℕ
from_colon text = after_front (is_not 58) text

-- a byte that ends no line, neither its text nor what it says
abbrev pub is_said_byte : ℕ → Bool
is_said_byte c = is_not 10 c && is_not 13 c && is_not 35 c

-- so are all before the first colon
abbrev pub is_said_before : List ℕ → Bool
is_said_before text = list_all is_said_byte (front (is_not 58) text)

-- a word ends before this text, which goes on with a blank or a colon
abbrev pub ends_name : List ℕ → Bool
ends_name [] = false
ends_name (c ∷ cs) = is_blank c || c == 58

-- this byte comes first
abbrev pub begins_with : ℕ → List ℕ → Bool
begins_with byte [] = false
begins_with byte (c ∷ cs) = c == byte

-- a name has so many bytes
abbrev pub has_name_length : List ℕ → Bool
has_name_length name = nat_le 1 (length name) && nat_le (length name) 32

-- the first word before the colon of the text is this name, and the text after it is the rest
pub record BeginsNamed (text name rest : List ℕ) : Type 0 where
  pub words : words_before text ≡ name ∷ words_before rest
  pub colon : from_colon text ≡ from_colon rest
  pub said : is_said_before rest ≡ true → is_said_before text ≡ true
  pub is_named : is_name name ≡ true

-- no word stands before the colon of the text, and after the colon this
pub record IsColonThen (text literal : List ℕ) : Type 0 where
  pub words : words_before text ≡ []
  pub colon : from_colon text ≡ 58 ∷ literal
  pub said : is_said_before text ≡ true

-- the first word of a line that asks for these arcs
abbrev pub word_of : Ways → List ℕ
word_of One = codes "link"
word_of Both = codes "both"

-- what may stand at the end of a line that it doesn't say: nothing, a carriage return, or a comment
abbrev pub IsUnsaid : List ℕ → Type 0
IsUnsaid end = (end ≡ []) ⊎ ((end ≡ 13 ∷ []) ⊎ ((comment : List ℕ) × (end ≡ 35 ∷ comment)))

-- the rest of the text comes after such an end
pub record IsAfterEnd (text rest : List ℕ) : Type 0 where
  pub end : List ℕ
  pub cut : text ≡ end ++ rest
  pub unsaid : IsUnsaid end
  pub one_line : list_all (is_not 10) end ≡ true

-- a line ends before this text, which is empty or goes on with a line feed and the others
abbrev pub EndsLine : List ℕ → List ℕ → Type 0
EndsLine rest others = (rest ≡ 10 ∷ others) ⊎ ((rest ≡ []) × (others ≡ []))

-- the first line of the text has this form, and the others are those of the other text, which is shorter
pub record BeginsWithLine (text others : List ℕ) (form : PureLine) : Type 0 where
  pub line : List ℕ
  pub lines : lines_of text ≡ line ∷ lines_of others
  pub short : length line ≤ max_line_bytes
  pub says : line_of (said_of line) ≡ form
  pub shorter : length others < length text
