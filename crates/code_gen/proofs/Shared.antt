-- Codes that are kept once each, and their numbers.
use Rattle.std.proofs.Common.{◌≡◌, ℕ, zero, suc, ◌+◌, ◌-◌, ◌<◌, ◌≤◌, List, [], ◌∷◌, ◌++◌, Some, length, map, get_or, slice_get, option_map, refl, ap, subst, sym, ◌∙◌, arith}
use Rattle.std.proofs.lemmas.List.{get_or_append_left, get_or-append_right, map-append}
use Rattle.std.proofs.lemmas.Option.{get_or_from_slice_get, slice_get-map, slice_get_read}
use Rattle.std.specs.Prelude.{slice_index_or}
use Rattle.std.specs.List.{AllByRecursion}
use Rattle.label_code.specs.declared.operations.Op.{Op}
use Rattle.code_gen.specs.Codes.{codes_at}

-- one code more leaves those at the numbers
kept : (codes : List (List Op)) (code : List Op) (numbers : List ℕ) → AllByRecursion (λ m. m < length codes) numbers → codes_at (codes ++ code ∷ []) numbers ≡ codes_at codes numbers
kept codes code [] all = refl
kept codes code (m ∷ numbers) all = rw (get_or_append_left codes (code ∷ []) [] m all.0, kept codes code numbers all.1) refl

-- a new code, and its number
pub pushed : (codes : List (List Op)) (code : List Op) (numbers : List ℕ) (v n : ℕ) → v ≡ length codes → n ≡ v → AllByRecursion (λ m. m < v) numbers
    → codes_at (codes ++ code ∷ []) (numbers ++ n ∷ []) ≡ codes_at codes numbers ++ code ∷ []
pushed codes code numbers v n e f all =
    map-append (λ m. slice_index_or (codes ++ code ∷ []) m []) numbers (n ∷ [])
    ∙ (ap (λ xs. xs ++ slice_index_or (codes ++ code ∷ []) n [] ∷ []) (kept codes code numbers (subst (λ x. AllByRecursion (λ m. m < x) numbers) e all))
    ∙ ap (λ x. codes_at codes numbers ++ x ∷ []) (get_or-append_right codes (code ∷ []) n n [] (sym (f ∙ e)) (omega arith) ∙ here (n - n) (omega arith)))
  where
    here : (k : ℕ) → k ≡ 0 → get_or (code ∷ []) k [] ≡ code
    here k g = rw g refl

-- one number more below a bound that is no smaller
pub below_more : (m n k : ℕ) (numbers : List ℕ) → m ≤ n → k < n → AllByRecursion (λ i. i < m) numbers → AllByRecursion (λ i. i < n) (numbers ++ k ∷ [])
below_more m n k [] h l all = (l, tt)
below_more m n k (i ∷ numbers) h l all = let f = all.0 in (omega (arith, f, h), below_more m n k numbers h l all.1)

pub below : (m n : ℕ) (numbers : List ℕ) → m ≤ n → AllByRecursion (λ i. i < m) numbers → AllByRecursion (λ i. i < n) numbers
below m n [] h all = tt
below m n (i ∷ numbers) h all = let f = all.0 in (omega (arith, f, h), below m n numbers h all.1)

-- the number at a place is below the bound
pub number_below : (m : ℕ) (numbers : List ℕ) (i n : ℕ) → i < length numbers → n ≡ get_or numbers i n → AllByRecursion (λ k. k < m) numbers → n < m
number_below m [] i n h e all = absurd (omega (arith, h))
number_below m (k ∷ numbers) zero n h e all = rw e all.0
number_below m (k ∷ numbers) (suc i) n h e all = number_below m numbers i n (omega (arith, h)) e all.1

-- the code at a place is that of its number
pub at_number : (codes : List (List Op)) (numbers : List ℕ) (i n : ℕ) → i < length numbers → n ≡ get_or numbers i n → slice_get (codes_at codes numbers) i ≡ Some (slice_index_or codes n [])
at_number codes numbers i n h e =
    slice_get-map (λ m. slice_index_or codes m []) numbers i ∙ ap (option_map (λ m. slice_index_or codes m [])) (slice_get_read numbers (length numbers) i n refl h e)

-- equal numbers are of equal codes
pub shared : (codes : List (List Op)) (numbers : List ℕ) (i j : ℕ) → slice_get numbers i ≡ slice_get numbers j → slice_get (codes_at codes numbers) i ≡ slice_get (codes_at codes numbers) j
shared codes numbers i j e =
    slice_get-map (λ m. slice_index_or codes m []) numbers i ∙ (ap (option_map (λ m. slice_index_or codes m [])) e ∙ sym (slice_get-map (λ m. slice_index_or codes m []) numbers j))

-- a number more, of an earlier code
pub number_more : (codes : List (List Op)) (numbers : List ℕ) (i n : ℕ) → i < length numbers → n ≡ get_or numbers i n
    → codes_at codes (numbers ++ n ∷ []) ≡ codes_at codes numbers ++ slice_index_or (codes_at codes numbers) i [] ∷ []
number_more codes numbers i n h e =
    map-append (λ m. slice_index_or codes m []) numbers (n ∷ [])
    ∙ ap (λ x. codes_at codes numbers ++ x ∷ []) (sym (get_or_from_slice_get (codes_at codes numbers) i (slice_index_or codes n []) [] (at_number codes numbers i n h e)))
