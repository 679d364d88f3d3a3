-- The trees of words and numbers that the grammar allows, before names are replaced.
use Rattle.std.specs.Prelude.{◌≡◌, ℕ, List, [], ◌∷◌, Bool, false, Option, codes}
use Rattle.std.specs.List.{AllByRecursion, list_any}
use Rattle.std.specs.Str.{bytes_eq}

-- `cap`, `worst` and `width`, which have a top and a range
pub data Ranged : Type 0 where
  cap_head : Ranged
  worst_head : Ranged
  width_head : Ranged

-- those that have one number
pub data Counted : Type 0 where
  lp_head : Counted
  op_head : Counted
  seq_head : Counted
  simseq_head : Counted
  tags_head : Counted
  guard_head : Counted

-- those that have two parts
pub data Paired : Type 0 where
  lex_head : Paired
  scoped_head : Paired
  union_head : Paired
  sum_head : Paired
  plus_head : Paired

-- those that have one part
pub data Single : Type 0 where
  left_head : Single
  right_head : Single

-- a value of a table after the first: does it have the rank of the value before it?
pub record ValueSyntax : Type 0 where
  pub is_tied : Bool
  pub name : List ℕ

-- `source -> target`
pub record MapSyntax : Type 0 where
  pub source : List ℕ
  pub target : List ℕ

-- what stands after a row's colon: `none`, or one map or more
pub data MapsSyntax : Type 0 where
  no_maps : MapsSyntax
  maps : MapSyntax → List MapSyntax → MapsSyntax

pub record RowSyntax : Type 0 where
  pub name : List ℕ
  pub images : MapsSyntax

pub record TableSyntax : Type 0 where
  pub first : List ℕ
  pub others : List ValueSyntax
  pub row : RowSyntax
  pub rows : List RowSyntax

pub data Syntax : Type 0 where
  named : List ℕ → Syntax
  -- low, high
  add_syntax : ℕ → ℕ → Syntax
  -- top, low, high
  ranged : Ranged → ℕ → ℕ → ℕ → Syntax
  counted : Counted → ℕ → Syntax
  gate_syntax : Syntax
  table_syntax : TableSyntax → Syntax
  paired : Paired → Syntax → Syntax → Syntax
  single : Single → Syntax → Syntax

-- `let name = body ;`
pub record LetSyntax : Type 0 where
  pub name : List ℕ
  pub body : Syntax

-- `raml header ;`, if the file has it, and then the statements
pub record FileSyntax : Type 0 where
  pub header : Option ℕ
  pub lets : List LetSyntax
  pub main : Syntax

abbrev pub ranged_word : Ranged → List ℕ
ranged_word cap_head = codes "cap"
ranged_word worst_head = codes "worst"
ranged_word width_head = codes "width"

abbrev pub counted_word : Counted → List ℕ
counted_word lp_head = codes "lp"
counted_word op_head = codes "op"
counted_word seq_head = codes "seq"
counted_word simseq_head = codes "simseq"
counted_word tags_head = codes "tags"
counted_word guard_head = codes "guard"

abbrev pub paired_word : Paired → List ℕ
paired_word lex_head = codes "lex"
paired_word scoped_head = codes "scoped"
paired_word union_head = codes "union"
paired_word sum_head = codes "sum"
paired_word plus_head = codes "plus"

abbrev pub single_word : Single → List ℕ
single_word left_head = codes "left"
single_word right_head = codes "right"

-- the word is one of these
abbrev pub is_among : List (List ℕ) → List ℕ → Bool
is_among words w = list_any (λ other. bytes_eq other w) words

-- the words that begin an expression of their own, and so stand for no name in place of one
abbrev pub expression_words : List (List ℕ)
expression_words =
    codes "add" ∷ codes "cap" ∷ codes "worst" ∷ codes "width" ∷ codes "lp" ∷ codes "op" ∷ codes "seq" ∷ codes "simseq" ∷ codes "tags" ∷ codes "guard" ∷
    codes "gate" ∷ codes "table" ∷ codes "lex" ∷ codes "scoped" ∷ codes "union" ∷ codes "sum" ∷ codes "plus" ∷ codes "left" ∷ codes "right" ∷ []

abbrev pub is_expression_word : List ℕ → Bool
is_expression_word w = is_among expression_words w

abbrev pub is_none : List ℕ → Bool
is_none w = bytes_eq w (codes "none")

-- a `none` straight after a row's colon is the row's, and begins no map
abbrev pub AreMaps : MapsSyntax → Type 0
AreMaps no_maps = Unit {0}
AreMaps (maps m ms) = is_none m.source ≡ false

abbrev pub IsRow : RowSyntax → Type 0
IsRow row = AreMaps row.images

-- what the trees of the grammar owe beside their form
abbrev pub IsSyntax : Syntax → Type 0
IsSyntax (named w) = is_expression_word w ≡ false
IsSyntax (table_syntax t) = IsRow t.row × AllByRecursion IsRow t.rows
IsSyntax (paired k a b) = IsSyntax a × IsSyntax b
IsSyntax (single k a) = IsSyntax a
IsSyntax _ = Unit {0}

pub record IsFile (file : FileSyntax) : Type 0 where
  pub lets : AllByRecursion (λ (l : LetSyntax). IsSyntax l.body) file.lets
  pub main : IsSyntax file.main
