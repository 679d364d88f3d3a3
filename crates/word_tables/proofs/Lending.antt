-- The rows that a table lends.
use Rattle.std.proofs.Common.{◌≡◌, ℕ, ◌+◌, ◌<◌, zero, suc, List, [], ◌∷◌, Option, Some, map, option_map, length, slice_get, refl, ap, ◌∙◌, arith, zero-add}
use Rattle.std.proofs.lemmas.List.{length-map}
use Rattle.net_graph.specs.Routes.{PureRoute}
use Rattle.best_first.specs.Found.{found_at, row_from, rows_from}

-- there are as many rows as routes, or none, are found
pub length_rows : (dest i : ℕ) (os : List (Option PureRoute)) → length (rows_from dest i os) ≡ length os
length_rows dest i [] = refl
length_rows dest i (o ∷ os) = ap suc (length_rows dest (i + 1) os)

pub length_found : {X : Type 0} (f : X → PureRoute) (dest : ℕ) (xs : List (Option X)) → length (rows_from dest 0 (map (option_map f) xs)) ≡ length xs
length_found f dest xs = length_rows dest 0 (map (option_map f) xs) ∙ length-map xs (option_map f)

-- the row at a place
row_at : (dest i : ℕ) (os : List (Option PureRoute)) (k : ℕ) → k < length os → slice_get (rows_from dest i os) k ≡ Some (row_from (i + k) dest (found_at os k))
row_at dest i [] k h = absurd (omega arith)
row_at dest i (o ∷ os) zero h = let e : i ≡ i + zero = omega arith in ap (λ n. Some (row_from n dest o)) e
row_at dest i (o ∷ os) (suc k) h =
    let e : (i + 1) + k ≡ i + suc k = omega arith in
    row_at dest (i + 1) os k (omega arith) ∙ ap (λ n. Some (row_from n dest (found_at os k))) e

pub row_first : {X : Type 0} (f : X → PureRoute) (dest : ℕ) (xs : List (Option X)) (k : ℕ) → k < length xs
    → slice_get (rows_from dest 0 (map (option_map f) xs)) k ≡ Some (row_from k dest (found_at (map (option_map f) xs) k))
row_first f dest xs k h = rw zero-add at (row_at dest 0 (map (option_map f) xs) k (omega (arith, length-map xs (option_map f), h)))
