-- The lines of a text, what a line says, and the words of that.
use Rattle.std.specs.Prelude.{ℕ, ◌-◌, List, [], ◌∷◌, Bool, true, not, ◌==◌, if◌then◌else◌, length, take, slice_index}
use Rattle.std.specs.List.{onto_first}
use Rattle.meta_base.specs.Bytes.{is_blank, front}

-- any byte but this one
abbrev pub is_not : ℕ → ℕ → Bool
is_not byte c = not (c == byte)

-- any byte but a blank: one of a word of a line
abbrev pub is_no_blank : ℕ → Bool
is_no_blank c = not (is_blank c)

-- the lines of a text that begins with this byte and goes on in these lines
abbrev pub lines_from : ℕ → List (List ℕ) → List (List ℕ)
lines_from c lines = if c == 10 then [] ∷ lines else onto_first c lines

-- a text is cut at line feeds; what stands after the last one is a line if it isn't empty
abbrev pub lines_of : List ℕ → List (List ℕ)
lines_of [] = []
lines_of (c ∷ cs) = lines_from c (lines_of cs)

-- without one carriage return at the end
abbrev pub without_return : List ℕ → List ℕ
without_return line = if slice_index line (length line - 1) == 13 then take (length line - 1) line else line

-- what a line says: all up to the first #
abbrev pub said_of : List ℕ → List ℕ
said_of line = front (is_not 35) (without_return line)

-- a word ends before this text
abbrev pub ends_word : List ℕ → Bool
ends_word [] = true
ends_word (c ∷ cs) = is_blank c

-- the words of a text that begins with this byte and goes on in these words: a blank adds nothing, and
-- any other byte is a word of its own if a word ends after it, and else stands in the first one
abbrev pub words_from : ℕ → Bool → List (List ℕ) → List (List ℕ)
words_from c ends words = if is_blank c then words else (if ends then (c ∷ []) ∷ words else onto_first c words)

-- the words of a text, which blanks separate
abbrev pub words_of : List ℕ → List (List ℕ)
words_of [] = []
words_of (c ∷ cs) = words_from c (ends_word cs) (words_of cs)
