-- The rows of the nodes.
use Rattle.std.proofs.Common.{◌≡◌, ℕ, ◌+◌, ◌≤◌, zero, suc, List, [], ◌∷◌, ◌++◌, length, map, slice_get, refl, sym, ap, ◌∙◌, append_assoc, arith}
use Rattle.std.specs.Prelude.{option_map}
use Rattle.std.specs.List.{filter_map, range_with_len}
use Rattle.std.proofs.lemmas.List.{map-append}
use Rattle.std.proofs.lemmas.Option.{slice_get-get_or}
use Rattle.net_graph.specs.Tables.{PureRow}
use Rattle.path_vector.specs.Node.{dest_rows}
use Rattle.path_vector.proofs.Beginnings.{range_next}
use Rattle.vector_block.specs.Blocks.{PureBlock, at_place, state_in, states_of, store_of}

-- the rows of nodes for a destination, by what the block has
pub rows_are : (b : PureBlock) → length b.clocks ≡ length b.net.nodes → (dest : ℕ) → map (λ node. record { node = node; dest = dest; route = at_place b.rows node dest }) (range_with_len 0 (length b.net.nodes)) ≡ dest_rows (states_of b) dest
rows_are b count dest = by 0 (length b.net.nodes) (omega (arith, count))
  where
    row : ℕ → PureRow
    row i = record { node = i; dest = dest; route = at_place b.rows i dest }

    by : (k n : ℕ) → k + n ≤ length b.clocks → map (λ node. record { node = node; dest = dest; route = at_place b.rows node dest }) (range_with_len k n)
        ≡ dest_rows (filter_map (λ i. option_map (state_in b.net (store_of b) i) (slice_get b.clocks i)) (range_with_len k n)) dest
    by k zero l = refl
    by k (suc n) l =
        let clock = slice_get-get_or b.clocks k 0 (omega (arith, l)) in
        ap (λ rest. record { node = k; dest = dest; route = at_place b.rows k dest } ∷ rest) (by (k + 1) n (omega (arith, l)))
        ∙ rw clock refl

-- one row more
pub row_next : (f : ℕ → PureRow) (before old : List PureRow) (n : ℕ) (row : PureRow) → old ≡ before ++ map f (range_with_len 0 n) → row ≡ f n → old ++ row ∷ [] ≡ before ++ map f (range_with_len 0 (n + 1))
row_next f before old n row e r =
    let next : n + 1 ≡ suc n = omega arith in
    let place : 0 + n ≡ n = omega arith in
    ap (λ l. l ++ row ∷ []) e
    ∙ (append_assoc before (map f (range_with_len 0 n)) (row ∷ [])
    ∙ (ap (λ x. before ++ (map f (range_with_len 0 n) ++ x ∷ [])) r
    ∙ ap (λ l. before ++ l) (sym (ap (λ z. map f (range_with_len 0 z)) next ∙ (ap (map f) (range_next 0 n ∙ ap (λ z. range_with_len 0 n ++ z ∷ []) place) ∙ map-append f (range_with_len 0 n) (n ∷ []))))))
