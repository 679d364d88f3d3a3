-- Where labels are monotone, the rows of stable tables of all destinations are the only ones. Lemmas, so that proofs of
-- other crates may cite them.
use Rattle.std.proofs.Common.{◌≡◌, ℕ, ◌+◌, List, [], ◌∷◌, length, sym, ap, ◌∙◌, refl, arith}
use Rattle.alg_model.specs.Properties.{monotone}
use Rattle.net_graph.specs.Nets.{PureNet}
use Rattle.net_graph.specs.Tables.{PureRow, NetHas, Stable, OnTablesFrom, joined_rows, AreStableRows, AreSettledRows}
use Rattle.settled_laws.specs.Agreement.{stable_is_unique}

-- stable tables of the same destinations are the same tables
same_tables : (net : PureNet) (dest : ℕ) (ts us : List (List PureRow)) → NetHas monotone net → OnTablesFrom (Stable net) dest ts → OnTablesFrom (Stable net) dest us → length ts ≡ length us → ts ≡ us
same_tables net dest [] [] m h k e = refl
same_tables net dest [] (u ∷ us) m h k e = absurd (omega arith)
same_tables net dest (t ∷ ts) [] m h k e = absurd (omega arith)
same_tables net dest (t ∷ ts) (u ∷ us) m h k e =
    let one = stable_is_unique net dest t u m h.0 k.0 in
    let rest = same_tables net (dest + 1) ts us m h.1 k.1 (omega arith) in
    cc

pub stable_rows_are_unique : (net : PureNet) (rows others : List PureRow) → NetHas monotone net → AreStableRows net rows → AreStableRows net others → others ≡ rows
stable_rows_are_unique net rows others m h k =
    let count : length k.tables ≡ length h.tables = k.count ∙ sym h.count in
    k.joined ∙ (ap joined_rows (same_tables net 0 k.tables h.tables m k.hold h.hold count) ∙ sym h.joined)

pub stable_rows_are_settled : (net : PureNet) (rows : List PureRow) → AreStableRows net rows → AreSettledRows net rows
stable_rows_are_settled net rows h = record { stable = h; only = λ m others k. stable_rows_are_unique net rows others m h k }
