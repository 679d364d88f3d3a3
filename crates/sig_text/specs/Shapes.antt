-- The shapes of literals: trees of words and numbers, before it is asked whether the algebra has them.
use Rattle.std.specs.Prelude.{◌≡◌, ◌⊎◌, ℕ, ◌≤◌, List, [], ◌∷◌, ◌++◌, true, codes}
use Rattle.std.specs.List.{AllByRecursion}
use Rattle.alg_model.specs.Expressions.{Expression, add, cap, worst, width, pref, orig, seq, simseq, tags, guard, gate, table, lex, scoped, union, sum, plus, left, right}
use Rattle.alg_model.specs.Expressions.{PureCarrier, whole, up_to, down_from, seqs, simseqs, sets, one, named, pairs, sides}
use Rattle.alg_model.specs.Carriers.{carrier_of, distinct}
use Rattle.sig_text.specs.Marks.{left_paren, right_paren, left_bracket, right_bracket, left_brace, right_brace, comma, colon, stroke, plus_sign, minus_sign, question_mark, exclamation_mark}
use Rattle.sig_text.specs.Parts.{Part, word, digits, mark}

pub data ValueShape : Type 0 where
  number_shape : ℕ → ValueShape
  list_shape : List ℕ → ValueShape
  set_shape : List ℕ → ValueShape
  word_shape : List ℕ → ValueShape
  pair_shape : ValueShape → ValueShape → ValueShape
  first_shape : ValueShape → ValueShape
  second_shape : ValueShape → ValueShape

pub data LabelShape : Type 0 where
  number_label_shape : ℕ → LabelShape
  word_label_shape : List ℕ → LabelShape
  -- a mark before a number
  marked_shape : ℕ → ℕ → LabelShape
  pair_label_shape : LabelShape → LabelShape → LabelShape
  both_shape : LabelShape → LabelShape → LabelShape
  first_label_shape : LabelShape → LabelShape
  second_label_shape : LabelShape → LabelShape
  value_label_shape : ValueShape → LabelShape
  outer_shape : LabelShape → ValueShape → LabelShape
  inner_shape : LabelShape → LabelShape

-- numbers after others, each after a comma
abbrev pub more_parts : List ℕ → List Part
more_parts [] = []
more_parts (n ∷ ns) = mark comma ∷ digits n ∷ more_parts ns

-- numbers with commas between them
abbrev pub numbers_parts : List ℕ → List Part
numbers_parts [] = []
numbers_parts (n ∷ ns) = digits n ∷ more_parts ns

-- `n`, `[n,..]`, `{n,..}`, a word, `(u,v)`, `l:u`, `r:v`
abbrev pub value_parts : ValueShape → List Part
value_parts (number_shape n) = digits n ∷ []
value_parts (list_shape ns) = mark left_bracket ∷ (numbers_parts ns ++ mark right_bracket ∷ [])
value_parts (set_shape ns) = mark left_brace ∷ (numbers_parts ns ++ mark right_brace ∷ [])
value_parts (word_shape w) = word w ∷ []
value_parts (pair_shape u v) =
    mark left_paren ∷ (value_parts u ++ mark comma ∷ (value_parts v ++ mark right_paren ∷ []))
value_parts (first_shape u) = word (codes "l") ∷ mark colon ∷ value_parts u
value_parts (second_shape v) = word (codes "r") ∷ mark colon ∷ value_parts v

-- `n`, a word, `+n`, `(x,y)`, `(x|y)`, `l:x`, `r:y`, a value, `out(x,v)`, `in(y)`
abbrev pub label_parts : LabelShape → List Part
label_parts (number_label_shape n) = digits n ∷ []
label_parts (word_label_shape w) = word w ∷ []
label_parts (marked_shape c n) = mark c ∷ digits n ∷ []
label_parts (pair_label_shape x y) =
    mark left_paren ∷ (label_parts x ++ mark comma ∷ (label_parts y ++ mark right_paren ∷ []))
label_parts (both_shape x y) =
    mark left_paren ∷ (label_parts x ++ mark stroke ∷ (label_parts y ++ mark right_paren ∷ []))
label_parts (first_label_shape x) = word (codes "l") ∷ mark colon ∷ label_parts x
label_parts (second_label_shape y) = word (codes "r") ∷ mark colon ∷ label_parts y
label_parts (value_label_shape v) = value_parts v
label_parts (outer_shape x v) =
    word (codes "out") ∷ mark left_paren ∷ (label_parts x ++ mark comma ∷ (value_parts v ++ mark right_paren ∷ []))
label_parts (inner_shape y) = word (codes "in") ∷ mark left_paren ∷ (label_parts y ++ mark right_paren ∷ [])

-- no number is above the greatest
abbrev pub AreSmall : ℕ → List ℕ → Type 0
AreSmall greatest ns = AllByRecursion (λ n. n ≤ greatest) ns

-- the shape is one that the carrier's kind asks for, with no number above the greatest; any word has that
-- of a table's name
abbrev pub HasValueShape : ℕ → PureCarrier → ValueShape → Type 0
HasValueShape greatest whole (number_shape n) = n ≤ greatest
HasValueShape greatest (up_to top) (number_shape n) = n ≤ greatest
HasValueShape greatest (down_from top) (number_shape n) = n ≤ greatest
HasValueShape greatest (seqs k) (list_shape ns) = AreSmall greatest ns
HasValueShape greatest (simseqs k) (list_shape ns) = AreSmall greatest ns
HasValueShape greatest (sets k) (set_shape ns) = AreSmall greatest ns × (distinct ns ≡ true)
HasValueShape greatest one (word_shape w) = w ≡ codes "unit"
HasValueShape greatest (named names ranks) (word_shape w) = Unit {0}
HasValueShape greatest (pairs c d) (pair_shape u v) = HasValueShape greatest c u × HasValueShape greatest d v
HasValueShape greatest (sides c d) (first_shape u) = HasValueShape greatest c u
HasValueShape greatest (sides c d) (second_shape v) = HasValueShape greatest d v
HasValueShape greatest _ _ = ⊥

-- the mark is one of two
abbrev pub IsOneOf : ℕ → ℕ → ℕ → Type 0
IsOneOf a b c = (c ≡ a) ⊎ (c ≡ b)

-- the shape is one that the algebra's kind asks for, with no number above the greatest; any word has that
-- of a row's name
abbrev pub HasLabelShape : ℕ → Expression → LabelShape → Type 0
HasLabelShape greatest (add low high) (number_label_shape n) = n ≤ greatest
HasLabelShape greatest (cap top low high) (number_label_shape n) = n ≤ greatest
HasLabelShape greatest (worst top low high) (number_label_shape n) = n ≤ greatest
HasLabelShape greatest (width top low high) (number_label_shape n) = n ≤ greatest
HasLabelShape greatest (pref top) (number_label_shape n) = n ≤ greatest
HasLabelShape greatest (orig top) (word_label_shape w) = w ≡ codes "keep"
HasLabelShape greatest (seq k) (number_label_shape n) = n ≤ greatest
HasLabelShape greatest (simseq k) (number_label_shape n) = n ≤ greatest
HasLabelShape greatest (tags k) (word_label_shape w) = w ≡ codes "keep"
HasLabelShape greatest (tags k) (marked_shape c n) = IsOneOf plus_sign minus_sign c × (n ≤ greatest)
HasLabelShape greatest (guard k) (marked_shape c n) = IsOneOf question_mark exclamation_mark c × (n ≤ greatest)
HasLabelShape greatest gate (word_label_shape w) = (w ≡ codes "allow") ⊎ (w ≡ codes "deny")
HasLabelShape greatest (table t) (word_label_shape w) = Unit {0}
HasLabelShape greatest (lex a b) (pair_label_shape x y) = HasLabelShape greatest a x × HasLabelShape greatest b y
HasLabelShape greatest (scoped a b) (outer_shape x v) =
    HasLabelShape greatest a x × HasValueShape greatest (carrier_of b) v
HasLabelShape greatest (scoped a b) (inner_shape y) = HasLabelShape greatest b y
HasLabelShape greatest (union a b) (first_label_shape x) = HasLabelShape greatest a x
HasLabelShape greatest (union a b) (second_label_shape y) = HasLabelShape greatest b y
HasLabelShape greatest (sum a b) (both_shape x y) = HasLabelShape greatest a x × HasLabelShape greatest b y
HasLabelShape greatest (plus a b) (first_label_shape x) = HasLabelShape greatest a x
HasLabelShape greatest (plus a b) (second_label_shape y) = HasLabelShape greatest b y
HasLabelShape greatest (left a) (value_label_shape v) = HasValueShape greatest (carrier_of a) v
HasLabelShape greatest (right a) (word_label_shape w) = w ≡ codes "keep"
HasLabelShape greatest _ _ = ⊥
