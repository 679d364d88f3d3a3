-- The tables of all forms of rows.
use Rattle.std.specs.Prelude.{◌≡◌, ℕ, List}
use Rattle.alg_model.specs.Expressions.{PureCarrier}
use Rattle.label_code.specs.declared.fixed.FixedRow.{FixedRow}
use Rattle.net_graph.specs.Tables.{PureRow}
use Rattle.word_tables.specs.declared.found.FoundTable.{FoundTable}
use Rattle.word_tables.specs.declared.table.WordTable.{WordTable}
use Rattle.word_tables.specs.declared.table.WordTable.TheVariants.{One, Two, Three, Four, Any}
use Rattle.word_tables.specs.Found.{found_rows, AreFoundWords}

-- the words of a row of so many
abbrev pub fixed_words : {n : ℕ} → FixedRow n → List ℕ
fixed_words row = row.words

-- and of one of any number, which is the list of them
abbrev pub own_words : List ℕ → List ℕ
own_words row = row

-- the rows of a table
abbrev pub word_rows : PureCarrier → WordTable → List PureRow
word_rows c (One t) = found_rows fixed_words c t
word_rows c (Two t) = found_rows fixed_words c t
word_rows c (Three t) = found_rows fixed_words c t
word_rows c (Four t) = found_rows fixed_words c t
word_rows c (Any t) = found_rows own_words c t

-- the words of each route are those of a value of the carrier
abbrev pub AreWordsOf : PureCarrier → WordTable → Type 0
AreWordsOf c (One t) = AreFoundWords fixed_words c t
AreWordsOf c (Two t) = AreFoundWords fixed_words c t
AreWordsOf c (Three t) = AreFoundWords fixed_words c t
AreWordsOf c (Four t) = AreFoundWords fixed_words c t
AreWordsOf c (Any t) = AreFoundWords own_words c t

-- the table has the rows of this one, and their words are still those of values
pub record IsTableOf {W : Type 0} (held : W → List ℕ) (found : FoundTable W) (table : WordTable) : Type 0 where
  pub rows : (c : PureCarrier) → word_rows c table ≡ found_rows held c found
  pub words : (c : PureCarrier) → AreFoundWords held c found → AreWordsOf c table
