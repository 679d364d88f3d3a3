-- Columns of a store that is kept row by row.
use Rattle.std.proofs.Common.{◌≡◌, ◌≢◌, ℕ, zero, suc, ◌+◌, ◌*◌, ◌<◌, ◌≤◌, List, [], ◌∷◌, length, slice_get, Option, Some, None, subst, refl, ap, ◌∙◌, arith}
use Rattle.std.specs.Prelude.{option_and_then}
use Rattle.std.proofs.Math.ListN.{drop, set}
use Rattle.std.proofs.Math.Nat.{zero-add, zero-mul, suc-mul, mul-le-mul_right}
use Rattle.std.proofs.lemmas.List.{drop-set-lt, drop-set-add, length-drop}
use Rattle.std.proofs.lemmas.Option.{slice_get_within}
use Rattle.path_vector.specs.Known.{entry_of}
use Rattle.path_vector.specs.Columns.{column, joined, joined_from}

-- ---- where things stand

first_row : (width place : ℕ) → zero * width + place ≡ place
first_row width place = omega (arith, zero-mul width)

next_row : (row width place : ℕ) → suc row * width + place ≡ width + (row * width + place)
next_row row width place = omega (arith, suc-mul row width)

-- a place of a row is within the store
pub place_within : (rows width row place : ℕ) → row < rows → place < width → row * width + place < rows * width
place_within rows width row place r p =
    let up_to : suc row * width ≤ rows * width = mul-le-mul_right width (omega arith) in
    omega (arith, suc-mul row width)

less_one_row : {X : Type 0} (rows width : ℕ) (entries : List (Option X)) → length entries ≡ suc rows * width → length (drop width entries) ≡ rows * width
less_one_row rows width entries count = omega (arith, length-drop width entries, suc-mul rows width)

in_first : {X : Type 0} (rows width place : ℕ) (entries : List (Option X)) → length entries ≡ suc rows * width → place < width → place < length entries
in_first rows width place entries count p = omega (arith, suc-mul rows width)

-- ---- entries

get_drop : {X : Type 0} (n : ℕ) (xs : List X) (i : ℕ) → slice_get (drop n xs) i ≡ slice_get xs (n + i)
get_drop zero xs i = rw (zero-add i) refl
get_drop (suc n) [] i = refl
get_drop (suc n) (x ∷ xs) i =
    let further : suc n + i ≡ suc (n + i) = omega arith in
    rw further (get_drop n xs i)

entry_drop : {X : Type 0} (n : ℕ) (xs : List (Option X)) (i : ℕ) → entry_of (drop n xs) i ≡ entry_of xs (n + i)
entry_drop n xs i = ap (option_and_then (λ z. z)) (get_drop n xs i)

entry_set : {X : Type 0} (xs : List (Option X)) (i : ℕ) (x : Option X) → i < length xs → entry_of (set xs i x) i ≡ x
entry_set [] i x l = absurd (omega arith)
entry_set (y ∷ xs) zero x l = refl
entry_set (y ∷ xs) (suc i) x l = entry_set xs i x (omega arith)

entry_kept : {X : Type 0} (xs : List (Option X)) (i j : ℕ) (x : Option X) → j ≢ i → entry_of (set xs i x) j ≡ entry_of xs j
entry_kept [] i j x apart = refl
entry_kept (y ∷ xs) zero zero x apart = absurd (apart refl)
entry_kept (y ∷ xs) zero (suc j) x apart = refl
entry_kept (y ∷ xs) (suc i) zero x apart = refl
entry_kept (y ∷ xs) (suc i) (suc j) x apart = entry_kept xs i j x (λ e. apart (ap suc e))

-- ---- one column

pub column_length : {X : Type 0} (rows width place : ℕ) (entries : List (Option X)) → length (column rows width place entries) ≡ rows
column_length zero width place entries = refl
column_length (suc rows) width place entries = ap suc (column_length rows width place (drop width entries))

pub column_entry : {X : Type 0} (rows width place : ℕ) (entries : List (Option X)) (row : ℕ) → row < rows → entry_of (column rows width place entries) row ≡ entry_of entries (row * width + place)
column_entry zero width place entries row r = absurd (omega arith)
column_entry (suc rows) width place entries zero r = rw (first_row width place) refl
column_entry (suc rows) width place entries (suc row) r = rw (next_row row width place)
    (column_entry rows width place (drop width entries) row (omega arith) ∙ entry_drop width entries (row * width + place))

pub column_none : {X : Type 0} (rows width place : ℕ) (entries : List (Option X)) → ((k : ℕ) → entry_of entries k ≡ None) → (row : ℕ) → entry_of (column rows width place entries) row ≡ None
column_none zero width place entries none row = refl
column_none (suc rows) width place entries none zero = none place
column_none (suc rows) width place entries none (suc row) = column_none rows width place (drop width entries) (λ k. entry_drop width entries k ∙ none (width + k)) row

pub column_set : {X : Type 0} (rows width place : ℕ) (entries : List (Option X)) (row : ℕ) (x : Option X) → row < rows → place < width → length entries ≡ rows * width
    → column rows width place (set entries (row * width + place) x) ≡ set (column rows width place entries) row x
column_set zero width place entries row x r p count = absurd (omega arith)
column_set (suc rows) width place entries zero x r p count =
    rw (first_row width place, entry_set entries place x (in_first rows width place entries count p), drop-set-lt width entries place x p) refl
column_set (suc rows) width place entries (suc row) x r p count =
    let before : place ≢ width + (row * width + place) = omega arith in
    rw (next_row row width place, entry_kept entries (width + (row * width + place)) place x before, drop-set-add width entries (row * width + place) x)
    (ap (λ z. entry_of entries place ∷ z) (column_set rows width place (drop width entries) row x (omega arith) p (less_one_row rows width entries count)))

pub column_kept : {X : Type 0} (rows width place other : ℕ) (entries : List (Option X)) (row : ℕ) (x : Option X) → row < rows → place < width → other < width → other ≢ place → length entries ≡ rows * width
    → column rows width other (set entries (row * width + place) x) ≡ column rows width other entries
column_kept zero width place other entries row x r p o apart count = absurd (omega arith)
column_kept (suc rows) width place other entries zero x r p o apart count =
    rw (first_row width place, entry_kept entries place other x apart, drop-set-lt width entries place x p) refl
column_kept (suc rows) width place other entries (suc row) x r p o apart count =
    let before : other ≢ width + (row * width + place) = omega arith in
    rw (next_row row width place, entry_kept entries (width + (row * width + place)) other x before, drop-set-add width entries (row * width + place) x)
    (ap (λ z. entry_of entries other ∷ z) (column_kept rows width place other (drop width entries) row x (omega arith) p o apart (less_one_row rows width entries count)))

-- ---- things, each with its column

module _ {N M X : Type 0} (join : N → List (Option X) → M) where
  joined_from_length : (rows width k : ℕ) (ns : List N) (entries : List (Option X)) → length (joined_from join rows width k ns entries) ≡ length ns
  joined_from_length rows width k [] entries = refl
  joined_from_length rows width k (n ∷ ns) entries = ap suc (joined_from_length rows width (suc k) ns entries)

  pub joined_length : (rows : ℕ) (ns : List N) (entries : List (Option X)) → length (joined join rows ns entries) ≡ length ns
  joined_length rows ns entries = joined_from_length rows (length ns) 0 ns entries

  joined_from_there : (rows width k : ℕ) (ns : List N) (entries : List (Option X)) (place : ℕ) (m : M) → slice_get (joined_from join rows width k ns entries) place ≡ Some m
      → (n : N) × (slice_get ns place ≡ Some n) × (m ≡ join n (column rows width (k + place) entries))
  joined_from_there rows width k [] entries place m e = absurd (cc)
  joined_from_there rows width k (n ∷ ns) entries zero m e =
      let same : m ≡ join n (column rows width k entries) = cc in
      let here : k + zero ≡ k = omega arith in
      (n, refl, rw here same)
  joined_from_there rows width k (n ∷ ns) entries (suc place) m e =
      let further : k + suc place ≡ suc k + place = omega arith in
      rw further (joined_from_there rows width (suc k) ns entries place m e)

  pub joined_from_at : (rows : ℕ) (ns : List N) (entries : List (Option X)) (place : ℕ) (m : M) → slice_get (joined join rows ns entries) place ≡ Some m
      → (n : N) × (slice_get ns place ≡ Some n) × (m ≡ join n (column rows (length ns) place entries))
  joined_from_at rows ns entries place m e =
      let there = joined_from_there rows (length ns) 0 ns entries place m e in
      (there.0, there.1, there.2 ∙ ap (λ z. join there.0 (column rows (length ns) z entries)) (zero-add place))

  -- a change before all of the places changes nothing
  joined_kept : (rows width k : ℕ) (ns : List N) (entries : List (Option X)) (row place : ℕ) (x : Option X) → row < rows → place < k → k + length ns ≤ width → length entries ≡ rows * width
      → joined_from join rows width k ns (set entries (row * width + place) x) ≡ joined_from join rows width k ns entries
  joined_kept rows width k [] entries row place x r p l count = refl
  joined_kept rows width k (n ∷ ns) entries row place x r p l count =
      let here : k < width = omega arith in
      let apart : k ≢ place = omega arith in
      rw (column_kept rows width place k entries row x r (omega arith) here apart count, joined_kept rows width (suc k) ns entries row place x r (omega arith) (omega arith) count) refl

  joined_from_set : (rows width k : ℕ) (ns : List N) (entries : List (Option X)) (row place : ℕ) (x : Option X) (n : N) → row < rows → k + length ns ≤ width → length entries ≡ rows * width
      → slice_get ns place ≡ Some n
      → joined_from join rows width k ns (set entries (row * width + (k + place)) x) ≡ set (joined_from join rows width k ns entries) place (join n (set (column rows width (k + place) entries) row x))
  joined_from_set rows width k [] entries row place x n r l count e = absurd (cc)
  joined_from_set rows width k (m ∷ ns) entries row zero x n r l count e =
      let same : m ≡ n = cc in
      let here : k + zero ≡ k = omega arith in
      rw (same, here, column_set rows width k entries row x r (omega arith) count, joined_kept rows width (suc k) ns entries row k x r (omega arith) (omega arith) count) refl
  joined_from_set rows width k (m ∷ ns) entries row (suc place) x n r l count e =
      let further : k + suc place ≡ suc k + place = omega arith in
      let within : place < length ns = slice_get_within ns place n e in
      let apart : k ≢ suc k + place = omega arith in
      rw (further, column_kept rows width (suc k + place) k entries row x r (omega arith) (omega arith) apart count, joined_from_set rows width (suc k) ns entries row place x n r (omega arith) count e) refl

  pub joined_set : (rows : ℕ) (ns : List N) (entries : List (Option X)) (row place : ℕ) (x : Option X) (n : N) → row < rows → length entries ≡ rows * length ns → slice_get ns place ≡ Some n
      → joined join rows ns (set entries (row * length ns + place) x) ≡ set (joined join rows ns entries) place (join n (set (column rows (length ns) place entries) row x))
  joined_set rows ns entries row place x n r count e =
      subst (λ z. joined join rows ns (set entries (row * length ns + z) x) ≡ set (joined join rows ns entries) place (join n (set (column rows (length ns) z entries) row x)))
      (zero-add place) (joined_from_set rows (length ns) 0 ns entries row place x n r (omega arith) count e)

  -- a thing that is put at a place gets the column there
  joined_from_put : (rows width k : ℕ) (ns : List N) (entries : List (Option X)) (place : ℕ) (n : N)
      → joined_from join rows width k (set ns place n) entries ≡ set (joined_from join rows width k ns entries) place (join n (column rows width (k + place) entries))
  joined_from_put rows width k [] entries place n = refl
  joined_from_put rows width k (m ∷ ns) entries zero n =
      let here : k + zero ≡ k = omega arith in
      rw here refl
  joined_from_put rows width k (m ∷ ns) entries (suc place) n =
      let further : k + suc place ≡ suc k + place = omega arith in
      rw further (ap (λ z. join m (column rows width k entries) ∷ z) (joined_from_put rows width (suc k) ns entries place n))

  pub joined_put : (rows : ℕ) (ns : List N) (entries : List (Option X)) (place : ℕ) (n : N)
      → joined join rows (set ns place n) entries ≡ set (joined join rows ns entries) place (join n (column rows (length ns) place entries))
  joined_put rows ns entries place n =
      ap (λ z. joined_from join rows z 0 (set ns place n) entries) (many ns place n) ∙ joined_from_put rows (length ns) 0 ns entries place n
      ∙ ap (λ z. set (joined join rows ns entries) place (join n (column rows (length ns) z entries))) (zero-add place)
    where
      many : (xs : List N) (i : ℕ) (y : N) → length (set xs i y) ≡ length xs
      many [] i y = refl
      many (x ∷ xs) zero y = refl
      many (x ∷ xs) (suc i) y = ap suc (many xs i y)
