-- Rows that stand in the same places.
use Rattle.std.proofs.Common.{◌≡◌, ℕ, suc, ◌<◌, ◌≤◌, ◌⊎◌, inl, inr, List, [], ◌∷◌, Some, length, map, option_map, get_or, slice_get, refl, sym, ap, ◌∙◌, arith}
use Rattle.std.proofs.lemmas.Bool.{cases_lt}
use Rattle.std.proofs.lemmas.List.{length-map}
use Rattle.std.proofs.lemmas.Option.{same_Some, slice_get-map, slice_get_past, slice_get_read}
use Rattle.net_graph.specs.declared.route.RouteRow.{RouteRow}
use Rattle.net_graph.specs.Views.{pure_row}

-- lists are one that have the same in each place
pub same_places : {X : Type 0} (xs ys : List X) → ((i : ℕ) → slice_get xs i ≡ slice_get ys i) → xs ≡ ys
same_places [] [] h = refl
same_places [] (y ∷ ys) h = absurd (let e = h 0 in cc)
same_places (x ∷ xs) [] h = absurd (let e = h 0 in cc)
same_places (x ∷ xs) (y ∷ ys) h =
    let first : x ≡ y = same_Some x y (h 0) in
    let rest = same_places xs ys (λ i. h (suc i)) in
    cc

-- a row of the program stands in its place
pub row_there : (rows : List RouteRow) (k : ℕ) (row : RouteRow) → k < length rows → row ≡ get_or rows k row → slice_get (map pure_row rows) k ≡ Some (pure_row row)
row_there rows k row within at = slice_get-map pure_row rows k ∙ ap (option_map pure_row) (slice_get_read rows (length rows) k row refl within at)

-- as many rows, which are the same in each place, are the same rows
pub same_rows : (xs ys : List RouteRow) (n : ℕ) → length xs ≡ length ys → length xs ≤ n → ((k : ℕ) → k < n → slice_get (map pure_row xs) k ≡ slice_get (map pure_row ys) k)
    → map pure_row xs ≡ map pure_row ys
same_rows xs ys n e past h = same_places (map pure_row xs) (map pure_row ys) (λ i. by i (cases_lt i n))
  where
    by : (i : ℕ) → (i < n) ⊎ (n ≤ i) → slice_get (map pure_row xs) i ≡ slice_get (map pure_row ys) i
    by i (inl within) = h i within
    by i (inr beyond) =
        slice_get_past (map pure_row xs) i (omega (arith, length-map xs pure_row, past, beyond)) ∙ sym (slice_get_past (map pure_row ys) i (omega (arith, length-map ys pure_row, e, past, beyond)))

pub same_count : (xs ys : List RouteRow) → map pure_row xs ≡ map pure_row ys → length xs ≡ length ys
same_count xs ys e = sym (length-map xs pure_row) ∙ (ap length e ∙ length-map ys pure_row)
