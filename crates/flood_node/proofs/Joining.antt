-- The rows of all destinations, one table after another.
use Rattle.std.proofs.Common.{◌≡◌, ℕ, zero, suc, ◌+◌, ◌<◌, List, [], ◌∷◌, ◌++◌, true, length, map, slice_get, Option, Some, refl, sym, ap, ◌∙◌, subst, append_assoc, arith}
use Rattle.std.specs.Prelude.{is_some, option_and_then, option_map}
use Rattle.std.proofs.lemmas.List.{append-nil, length_push}
use Rattle.std.proofs.lemmas.Option.{same_Some, slice_get-map}
use Rattle.std.specs.declared.alloc.Global.{Global}
use Rattle.std.specs.declared.vec.Vec.{Vec}
use Rattle.net_graph.specs.Nets.{PureNet}
use Rattle.net_graph.specs.Tables.{PureRow, OnTablesFrom, joined_rows}
use Rattle.net_graph.specs.Views.{pure_row}
use Rattle.net_graph.specs.declared.route.RouteRow.{RouteRow}
use Rattle.flood_node.specs.FoundRows.{found_rows}
use Rattle.flood_node.specs.Node.{FloodState}
use Rattle.flood_node.specs.Rows.{AreAllFound, AreFound, AreLeaders, is_placed}
use Rattle.flood_node.specs.Reported.{AreFloodRows, AreReportedRows, IsReportedRow}

-- what was found of all nodes are the rows that they compute
module _ (net : PureNet) (dest : ℕ) where
  reported_rows : (nodes : List FloodState) (rows : List PureRow) → length rows ≡ length nodes → ((i : ℕ) (s : FloodState) (row : PureRow) → slice_get nodes i ≡ Some s → slice_get rows i ≡ Some row → IsReportedRow net dest s row) → AreReportedRows net nodes dest rows
  reported_rows [] [] c h = tt
  reported_rows [] (row ∷ rows) c h = absurd (omega (arith, c))
  reported_rows (s ∷ nodes) [] c h = absurd (omega (arith, c))
  reported_rows (s ∷ nodes) (row ∷ rows) c h = (h 0 s row refl refl, reported_rows nodes rows (omega (arith, c)) (λ i t r e f. h (suc i) t r e f))

  count_some : (rows : List PureRow) → length (map {B = Option PureRow} Some rows) ≡ length rows
  count_some [] = refl
  count_some (row ∷ rows) = let rest = count_some rows in omega (arith, rest)

  pub found_rows_reported : (nodes : List FloodState) (leaders : List ℕ) (bound : ℕ) (rows : List PureRow) (found : List (Option PureRow)) → map Some rows ≡ found → AreFound net nodes leaders bound dest found → AreReportedRows net nodes dest rows
  found_rows_reported nodes leaders bound rows found is so =
      reported_rows nodes rows (sym (count_some rows) ∙ (ap length is ∙ so.count))
      (λ i s row e f. so.rows i s row e (ap (λ l. slice_get l i) (sym is) ∙ (slice_get-map Some rows i ∙ ap (option_map Some) f)))

-- the rows that were added
pub rows_added : (old new : List PureRow) (found : List (Option PureRow)) → map Some new ≡ map Some old ++ found → (rows : List PureRow) × (new ≡ old ++ rows) × (map Some rows ≡ found)
rows_added [] new found e = (new, refl, e)
rows_added (row ∷ old) [] found e = absurd (cc)
rows_added (row ∷ old) (one ∷ new) found e =
    let first : Some one ≡ Some row = cc in
    let rest : map {B = Option PureRow} Some new ≡ map Some old ++ found = cc in
    let same : one ≡ row = same_Some one row first in
    let more = rows_added old new found rest in
    (more.0, ap (λ z. z ∷ new) same ∙ ap (λ l. row ∷ l) more.1, more.2)

on_push : (Holds : ℕ → List PureRow → Type 0) (dest : ℕ) (tables : List (List PureRow)) (rows : List PureRow) → OnTablesFrom Holds dest tables → Holds (dest + length tables) rows → OnTablesFrom Holds dest (tables ++ rows ∷ [])
on_push Holds dest [] rows so more = let same : dest + 0 ≡ dest = omega arith in (subst (λ z. Holds z rows) same more, tt)
on_push Holds dest (table ∷ tables) rows so more =
    let same : dest + length (table ∷ tables) ≡ dest + 1 + length tables = omega arith in
    (so.0, on_push Holds (dest + 1) tables rows so.1 (subst (λ z. Holds z rows) same more))

joined_push : (tables : List (List PureRow)) (rows : List PureRow) → joined_rows (tables ++ rows ∷ []) ≡ joined_rows tables ++ rows
joined_push [] rows = append-nil rows
joined_push (table ∷ tables) rows = ap (λ l. table ++ l) (joined_push tables rows) ∙ sym (append_assoc table (joined_rows tables) rows)

-- the rows of the tables of the destinations below one
pub record AreJoined (net : PureNet) (nodes : List FloodState) (count : ℕ) (rows : List PureRow) : Type 0 where
  pub tables : List (List PureRow)
  pub hold : OnTablesFrom (AreReportedRows net nodes) 0 tables
  pub so_many : length tables ≡ count
  pub joined : rows ≡ joined_rows tables

pub none_joined : (net : PureNet) (nodes : List FloodState) → AreJoined net nodes 0 []
none_joined net nodes = record { tables = []; hold = tt; so_many = refl; joined = refl }

-- and of one more
pub joined_next : (net : PureNet) (nodes : List FloodState) (leaders : List ℕ) (bound dest : ℕ) (old new : List PureRow) (found : List (Option PureRow)) → AreJoined net nodes dest old → AreFound net nodes leaders bound dest found
    → map Some new ≡ map Some old ++ found → AreJoined net nodes (dest + 1) new
joined_next net nodes leaders bound dest old new found so are e =
    let added = rows_added old new found e in
    let at : 0 + length so.tables ≡ dest = let many = so.so_many in omega (arith, many) in
    record {
      tables = so.tables ++ added.0 ∷ [];
      hold = on_push (AreReportedRows net nodes) 0 so.tables added.0 so.hold (subst (λ z. AreReportedRows net nodes z added.0) (sym at) (found_rows_reported net dest nodes leaders bound added.0 found added.2 are));
      so_many = length_push so.tables added.0 ∙ ap (λ n. n + 1) so.so_many;
      joined = added.1 ∙ (ap (λ l. l ++ added.0) so.joined ∙ sym (joined_push so.tables added.0));
    }

pub all_joined : (net : PureNet) (nodes : List FloodState) (count : ℕ) (rows : List PureRow) → AreJoined net nodes count rows → count ≡ length net.dests → AreFloodRows net nodes rows
all_joined net nodes count rows so e = record { tables = so.tables; hold = so.hold; count = so.so_many ∙ e; joined = so.joined }

-- the row of each node is there once all leaders were gone over
pub all_there : (net : PureNet) (nodes : List FloodState) (leaders : List ℕ) (dest : ℕ) (found : List (Option PureRow)) → AreLeaders nodes leaders → AreFound net nodes leaders (length nodes) dest found
    → (i : ℕ) → i < length found → is_placed found i ≡ true
all_there net nodes leaders dest found leading so i l =
    let count = so.count in
    let leads = leading.count in
    let leader = at leaders i (omega (arith, l, count, leads)) in
    let lower = (leading.each i leader.0 leader.1).0 in
    let row = so.there i leader.0 leader.1 (omega (arith, l, lower, count)) in
    ap (λ o. is_some (option_and_then (λ p. p) o)) row.1
  where
    at : {X : Type 0} (xs : List X) (k : ℕ) → k < length xs → (x : X) × (slice_get xs k ≡ Some x)
    at [] k h = absurd (omega (arith, h))
    at (x ∷ xs) zero h = (x, refl)
    at (x ∷ xs) (suc k) h = at xs k (omega (arith, h))

-- a vector of rows, as contracts see it
abbrev pub seen_rows : Vec (Option RouteRow) Global → List (Option PureRow)
seen_rows rows = map (option_map pure_row) rows.items

-- what was found for the destination at a place
pub found_at : (net : PureNet) (nodes : List FloodState) (leaders : List ℕ) (done bound dest k : ℕ) (found : List (Vec (Option RouteRow) Global)) (rows : Vec (Option RouteRow) Global) → AreAllFound net nodes leaders done bound dest (found_rows found)
    → slice_get found k ≡ Some rows → AreFound net nodes leaders bound k (seen_rows rows)
found_at net nodes leaders done bound dest k found rows so at = so.after k (seen_rows rows) (slice_get-map seen_rows found k ∙ ap (option_map seen_rows) at)
