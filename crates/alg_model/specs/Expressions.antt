-- Expressions, carriers, values and labels as contracts speak of them: pure trees, which say nothing
-- of where a tree of the program lies in memory.
use Rattle.std.specs.Prelude.{ℕ, List}
use Rattle.alg_model.specs.declared.tree.TableSpec.{TableSpec}
use Rattle.alg_model.specs.declared.edition.Edition.{Edition}

pub data Expression : Type 0 where
  -- low, high
  add : ℕ → ℕ → Expression
  -- top, low, high
  cap : ℕ → ℕ → ℕ → Expression
  worst : ℕ → ℕ → ℕ → Expression
  width : ℕ → ℕ → ℕ → Expression
  -- top
  pref : ℕ → Expression
  orig : ℕ → Expression
  -- how many symbols
  seq : ℕ → Expression
  simseq : ℕ → Expression
  -- how many numbers
  tags : ℕ → Expression
  guard : ℕ → Expression
  gate : Expression
  table : TableSpec → Expression
  lex : Expression → Expression → Expression
  scoped : Expression → Expression → Expression
  union : Expression → Expression → Expression
  sum : Expression → Expression → Expression
  plus : Expression → Expression → Expression
  left : Expression → Expression
  right : Expression → Expression

-- an algebra: what it does, and the edition of its text
pub record PureAlg : Type 0 where
  pub expression : Expression
  pub edition : Edition

pub data PureCarrier : Type 0 where
  -- all whole numbers, small ones preferred
  whole : PureCarrier
  -- 0 to this number, small ones preferred
  up_to : ℕ → PureCarrier
  -- 0 to this number, great ones preferred
  down_from : ℕ → PureCarrier
  -- sequences of symbols below this number, short ones preferred
  seqs : ℕ → PureCarrier
  -- such sequences without a repeat
  simseqs : ℕ → PureCarrier
  -- sets of numbers below this one, all equivalent
  sets : ℕ → PureCarrier
  -- one value
  one : PureCarrier
  -- named values, and the rank of each
  named : List (List ℕ) → List ℕ → PureCarrier
  -- pairs, compared by the first and then by the second
  pairs : PureCarrier → PureCarrier → PureCarrier
  -- values of either side, those of the first preferred
  sides : PureCarrier → PureCarrier → PureCarrier

pub data PureValue : Type 0 where
  number : ℕ → PureValue
  symbols : List ℕ → PureValue
  -- a set as the number with bit k set where k is in
  marks : ℕ → PureValue
  unit : PureValue
  -- the place of a named value
  name : ℕ → PureValue
  pair : PureValue → PureValue → PureValue
  first : PureValue → PureValue
  second : PureValue → PureValue

pub data PureLabel : Type 0 where
  number_label : ℕ → PureLabel
  keep : PureLabel
  symbol_label : ℕ → PureLabel
  mark : ℕ → PureLabel
  unmark : ℕ → PureLabel
  need : ℕ → PureLabel
  bar : ℕ → PureLabel
  allow : PureLabel
  deny : PureLabel
  row_label : ℕ → PureLabel
  pair_label : PureLabel → PureLabel → PureLabel
  both_label : PureLabel → PureLabel → PureLabel
  first_label : PureLabel → PureLabel
  second_label : PureLabel → PureLabel
  const_label : PureValue → PureLabel
  outer : PureLabel → PureValue → PureLabel
  inner : PureLabel → PureLabel
