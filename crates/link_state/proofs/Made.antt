-- Tables that are made of the routes of their destinations.
use Rattle.std.proofs.Common.{◌≡◌, ℕ, ◌+◌, ◌<◌, List, [], ◌∷◌, ◌++◌, length, get_or, suc, arith, add-zero, zero-add, subst, sym}
use Rattle.alg_model.specs.Expressions.{PureValue}
use Rattle.net_graph.specs.declared.route.DestTable.{DestTable}
use Rattle.net_graph.specs.Nets.{PureNet}
use Rattle.net_graph.specs.Tables.{BestFirst}
use Rattle.net_graph.specs.Views.{rows_of}
use Rattle.best_first.specs.Fixed.{IsFixedOf, fixed_rows}
use Rattle.best_first.specs.Numbered.{PureFixed}
use Rattle.link_state.specs.Routes.{AreFixedOf}
use Rattle.link_state.specs.Tables.{IsTableOf, AreTablesFrom}
use Rattle.link_state.proofs.Placed.{from_at}

-- the routes at that place are those of the destination of that number
pub fixed_in : {S : Type 0} (value : S → PureValue) (is_sig : S → Type 0) (net : PureNet) (found : List (PureFixed S)) (k : ℕ) (fixed : PureFixed S)
    → AreFixedOf value is_sig net found → k < length found → fixed ≡ get_or found k fixed → IsFixedOf value is_sig net k fixed
fixed_in value is_sig net found k fixed of l e = rw zero-add at (from_at (IsFixedOf value is_sig net) 0 found k fixed of.fixed_from l e)

-- one more table at the end, that of the next destination
tables_pushed : (net : PureNet) (n : ℕ) (tables : List DestTable) (table : DestTable) → AreTablesFrom net n tables → IsTableOf net (n + length tables) table
    → AreTablesFrom net n (tables ++ table ∷ [])
tables_pushed net n [] table each h = (rw add-zero at h, tt)
tables_pushed net n (t ∷ tables) table each h =
    let far : n + suc (length tables) ≡ (n + 1) + length tables = omega arith in
    (each.0, tables_pushed net (n + 1) tables table each.1 (rw far at h))

-- one more table, made of the next routes
pub tables_more : {S : Type 0} (value : S → PureValue) (is_sig : S → Type 0) (net : PureNet) (dest : ℕ) (fixed : PureFixed S) (tables : List DestTable) (table : DestTable)
    → IsFixedOf value is_sig net dest fixed → table.dest.0 ≡ dest → rows_of table ≡ fixed_rows value dest fixed → length tables ≡ dest
    → AreTablesFrom net 0 tables → AreTablesFrom net 0 (tables ++ table ∷ [])
tables_more value is_sig net dest fixed tables table of d e n each =
    let best : BestFirst net dest (rows_of table) = subst (λ rows. BestFirst net dest rows) (sym e) of.best_first in
    let is : IsTableOf net dest table = record { dest = d; best_first = best } in
    let next : 0 + length tables ≡ dest = omega (arith, n) in
    tables_pushed net 0 tables table each (subst (λ k. IsTableOf net k table) (sym next) is)
