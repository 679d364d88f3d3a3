-- The tables of one form of rows, by the words that these hold.
use Rattle.std.specs.Prelude.{ℕ, List}
use Rattle.alg_model.specs.Expressions.{PureCarrier}
use Rattle.code_gen.specs.Encoding.{decoded, IsEncoded}
use Rattle.net_graph.specs.Tables.{PureRow}
use Rattle.best_first.specs.Found.{AllFound}
use Rattle.best_first.specs.Fixed.{fixed_rows}
use Rattle.word_tables.specs.declared.found.FoundTable.{FoundTable}

-- the rows of a table whose words are those of values of the carrier
abbrev pub found_rows : {W : Type 0} → (W → List ℕ) → PureCarrier → FoundTable W → List PureRow
found_rows held c t = fixed_rows (λ row. decoded c (held row)) t.dest.0 t.fixed

-- the words of each route are those of a value of the carrier
abbrev pub AreFoundWords : {W : Type 0} → (W → List ℕ) → PureCarrier → FoundTable W → Type 0
AreFoundWords held c t = AllFound (λ f. IsEncoded c (held f.sig)) t.fixed.rows
