-- What a line asks for, by its form alone.
use Rattle.std.specs.Prelude.{ℕ, List, [], ◌∷◌, ◌&&◌, if◌then◌else◌, codes}
use Rattle.std.specs.List.{list_all}
use Rattle.std.specs.Str.{bytes_eq}
use Rattle.meta_base.specs.Bytes.{front, after_front}
use Rattle.net_graph.specs.Nets.{is_name}
use Rattle.topology_file.specs.Texts.{words_of, is_not}

pub data PureLine : Type 0 where
  -- nothing
  silent : PureLine
  -- nodes of these names
  nodes : List (List ℕ) → PureLine
  -- an arc: the names of its listener and its speaker, and the text of its label
  link : List ℕ → List ℕ → List ℕ → PureLine
  -- that arc, and the one back
  both : List ℕ → List ℕ → List ℕ → PureLine
  -- an origin: the names of its destination and its node, and the text of its value
  origin : List ℕ → List ℕ → List ℕ → PureLine
  -- a change: the arc gets this label, or is added
  then_link : List ℕ → List ℕ → List ℕ → PureLine
  -- a change: the arc is taken out
  then_drop : List ℕ → List ℕ → PureLine
  -- the line has no form of a network file
  bad : PureLine

-- words that aren't names add no nodes
abbrev pub named_nodes : List (List ℕ) → PureLine
named_nodes words = if list_all is_name words then nodes words else bad

-- `node A ..`, by the words after the first: there is one at least
abbrev pub node_line : List (List ℕ) → PureLine
node_line [] = bad
node_line (word ∷ words) = named_nodes (word ∷ words)

-- `then drop A B`
abbrev pub drop_line : List (List ℕ) → PureLine
drop_line (word ∷ kind ∷ a ∷ b ∷ []) =
    if bytes_eq word (codes "then") && bytes_eq kind (codes "drop") && is_name a && is_name b then then_drop a b else bad
drop_line _ = bad

-- the words of a line without a colon: none, `node A ..`, `then drop A B`
abbrev pub plain_line : List (List ℕ) → PureLine
plain_line [] = silent
plain_line (word ∷ words) = if bytes_eq word (codes "node") then node_line words else drop_line (word ∷ words)

-- `origin D at A`, by the words after the first
abbrev pub origin_line : List ℕ → List ℕ → List ℕ → List ℕ → PureLine
origin_line dest at a literal = if bytes_eq at (codes "at") && is_name dest && is_name a then origin dest a literal else bad

-- `then link A B`
abbrev pub then_line : List ℕ → List ℕ → List ℕ → List ℕ → List ℕ → PureLine
then_line word kind a b literal =
    if bytes_eq word (codes "then") && bytes_eq kind (codes "link") && is_name a && is_name b then then_link a b literal else bad

-- three words before a colon: `link A B`, `both A B`
abbrev pub short_line : List ℕ → List ℕ → List ℕ → List ℕ → PureLine
short_line word a b literal =
    if bytes_eq word (codes "link") && is_name a && is_name b then link a b literal
    else (if bytes_eq word (codes "both") && is_name a && is_name b then both a b literal else bad)

-- four words: `origin D at A`, `then link A B`
abbrev pub long_line : List ℕ → List ℕ → List ℕ → List ℕ → List ℕ → PureLine
long_line word x y z literal = if bytes_eq word (codes "origin") then origin_line x y z literal else then_line word x y z literal

-- the words before a colon, and the text after it
abbrev pub colon_line : List (List ℕ) → List ℕ → PureLine
colon_line (word ∷ x ∷ y ∷ []) literal = short_line word x y literal
colon_line (word ∷ x ∷ y ∷ z ∷ []) literal = long_line word x y z literal
colon_line _ literal = bad

-- the words before the first colon, and the colon with all that follows it, if there is one
abbrev pub line_from : List (List ℕ) → List ℕ → PureLine
line_from words [] = plain_line words
line_from words (colon ∷ literal) = colon_line words literal

-- what a line asks for that says this
abbrev pub line_of : List ℕ → PureLine
line_of said = line_from (words_of (front (is_not 58) said)) (after_front (is_not 58) said)
