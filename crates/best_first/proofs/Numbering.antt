-- Routes that are kept as values in the order of their paths.
use Rattle.std.proofs.Common.{◌≡◌, ℕ, ◌<◌, zero, suc, List, [], ◌∷◌, ◌++◌, Option, Some, None, IfSome, length, replicate, inl, inr, refl, ap, arith}
use Rattle.std.specs.Option.{option_and_then}
use Rattle.std.specs.List.{slice_get}
use Rattle.std.proofs.lemmas.List.{map-set}
use Rattle.std.proofs.lemmas.Option.{slice_get_cases}
use Rattle.std.proofs.Math.ListN.{set}
use Rattle.meta_base.specs.declared.ids.NodeId.{NodeId}
use Rattle.path_store.specs.declared.trails.PathId.{PathId}
use Rattle.path_store.specs.PathOf.{path_by}
use Rattle.best_first.specs.Found.{found_at, AllFound}
use Rattle.best_first.specs.Fixed.{path_after}
use Rattle.best_first.specs.Numbered.{PureFixedRoute, route_by, rows_by}

-- where no node is fixed there is no route
pub rows_none : {S : Type 0} (sigs : List S) (n : ℕ) → rows_by sigs (replicate n None) ≡ replicate n None
rows_none sigs zero = refl
rows_none sigs (suc n) = ap (λ (rows : List (Option (PureFixedRoute _))). None ∷ rows) (rows_none sigs n)

get_more : {X : Type 0} (xs : List X) (x : X) (k : ℕ) → k < length xs → slice_get (xs ++ x ∷ []) k ≡ slice_get xs k
get_more [] x k l = absurd (omega arith)
get_more (y ∷ ys) x zero l = refl
get_more (y ∷ ys) x (suc k) l = get_more ys x k (omega arith)

get_last : {X : Type 0} (xs : List X) (x : X) → slice_get (xs ++ x ∷ []) (length xs) ≡ Some x
get_last [] x = refl
get_last (y ∷ ys) x = get_last ys x

module _ {S : Type 0} (sigs : List S) where
  row_at : (ids : List (Option PathId)) (k : ℕ) → found_at (rows_by sigs ids) k ≡ option_and_then (route_by sigs) (found_at ids k)
  row_at [] k = refl
  row_at (id ∷ ids) zero = refl
  row_at (id ∷ ids) (suc k) = row_at ids k

  -- the path of a node's route is that of its number
  pub path_at : (paths : List (List NodeId)) (ids : List (Option PathId)) (k : ℕ) → AllFound (λ id. id.0 < length sigs) ids
      → path_after paths (found_at (rows_by sigs ids) k) ≡ path_by paths (found_at ids k)
  path_at paths ids k within = rw (row_at ids k) (by (found_at ids k) (within k))
    where
      by : (o : Option PathId) → IfSome o (λ id. id.0 < length sigs) → path_after paths (option_and_then (route_by sigs) o) ≡ path_by paths o
      by None h = refl
      by (Some id) h = elim (slice_get_cases sigs id.0).1 [
        | inl (s, l, is, r) ↦ rw is refl
        | inr (past, none) ↦ absurd (omega arith)
      ]

  -- with one value more the routes are as they were
  rows_more : (s : S) (ids : List (Option PathId)) → AllFound (λ id. id.0 < length sigs) ids → rows_by (sigs ++ s ∷ []) ids ≡ rows_by sigs ids
  rows_more s [] within = refl
  rows_more s (None ∷ ids) within = ap (λ rows. None ∷ rows) (rows_more s ids (λ k. within (suc k)))
  rows_more s (Some id ∷ ids) within = rw (get_more sigs s id.0 (within 0)) (ap (λ rows. route_by sigs id ∷ rows) (rows_more s ids (λ k. within (suc k))))

  -- and one node more is fixed by it
  pub rows_fixed : (new_sigs : List S) (s : S) (ids : List (Option PathId)) (i : ℕ) (id : PathId) → AllFound (λ id. id.0 < length sigs) ids → id.0 ≡ length sigs → new_sigs ≡ sigs ++ s ∷ []
      → rows_by new_sigs (set ids i (Some id)) ≡ set (rows_by sigs ids) i (Some (record { sig = s; path = id }))
  rows_fixed new_sigs s ids i id within is more =
      rw (more, map-set (λ o. option_and_then (route_by (sigs ++ s ∷ [])) o) ids i (Some id), rows_more s ids within, is, get_last sigs s) refl
