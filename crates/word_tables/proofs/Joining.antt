-- How the rows of all destinations grow by one table after another.
use Rattle.std.proofs.Common.{◌≡◌, ℕ, ◌+◌, ◌<◌, ◌≤◌, List, [], ◌∷◌, ◌++◌, length, map, drop, get_or, append-nil, append_assoc, sym, ap, ◌∙◌}
use Rattle.std.proofs.lemmas.List.{at_drop_all, at_drop_more, map-append}
use Rattle.std.specs.List.{AllByRecursion}
use Rattle.alg_model.specs.Expressions.{PureCarrier, PureValue}
use Rattle.net_graph.specs.Tables.{PureRow}
use Rattle.best_first.specs.Numbered.{PureFixed}
use Rattle.best_first.specs.Fixed.{fixed_rows}
use Rattle.word_tables.specs.declared.table.WordTable.{WordTable}
use Rattle.word_tables.specs.Joined.{all_fixed_rows}
use Rattle.word_tables.specs.Tables.{word_rows}

pub all_push : {X : Type 0} (P : X → Type 0) (xs : List X) (x : X) → AllByRecursion P xs → P x → AllByRecursion P (xs ++ x ∷ [])
all_push P [] x h p = (p, tt)
all_push P (y ∷ xs) x h p = (h.0, all_push P xs x h.1 p)

module _ {S : Type 0} (value : S → PureValue) (c : PureCarrier) (found : List (PureFixed S)) where
  -- the rows of one table more
  pub tables_more : (tables : List WordTable) (table : WordTable) (k : ℕ) (fixed : PureFixed S) (whole : List (List PureRow)) → k < length found → fixed ≡ get_or found k fixed → word_rows c table ≡ fixed_rows value k fixed
      → map (word_rows c) tables ++ all_fixed_rows value k (drop k found) ≡ whole → map (word_rows c) (tables ++ table ∷ []) ++ all_fixed_rows value (k + 1) (drop (k + 1) found) ≡ whole
  tables_more tables table k fixed whole h is e before =
      let rest = all_fixed_rows value (k + 1) (drop (k + 1) found) in
      ap (λ l. l ++ rest) (map-append (word_rows c) tables (table ∷ []))
      ∙ append_assoc (map (word_rows c) tables) (word_rows c table ∷ []) rest
      ∙ ap (λ rows. map (word_rows c) tables ++ rows ∷ rest) (e ∙ ap (fixed_rows value k) is)
      ∙ ap (λ l. map (word_rows c) tables ++ l) (sym (at_drop_more (all_fixed_rows value k) found k fixed h))
      ∙ before

  -- once no routes are left, the tables are all
  pub tables_end : (tables : List WordTable) (k : ℕ) (whole : List (List PureRow)) → length found ≤ k → map (word_rows c) tables ++ all_fixed_rows value k (drop k found) ≡ whole → map (word_rows c) tables ≡ whole
  tables_end tables k whole h e = sym (append-nil (map (word_rows c) tables)) ∙ ap (λ l. map (word_rows c) tables ++ l) (sym (at_drop_all (all_fixed_rows value k) found k h)) ∙ e
