-- Paths that are kept as steps.
use Rattle.std.proofs.Common.{◌≡◌, ℕ, ◌+◌, ◌<◌, ◌≤◌, zero, suc, List, [], ◌∷◌, ◌++◌, Option, Some, None, IfSome, length, slice_get, slice_index_or, Equal, inl, inr, refl, sym, ap, ◌∙◌, subst, arith}
use Rattle.std.proofs.Math.Seq.{get_or-append_seam}
use Rattle.std.proofs.lemmas.Bool.{cases_order}
use Rattle.std.specs.Cmp.{nat_cmp_is}
use Rattle.std.proofs.lemmas.List.{length-append, get_or_append_left}
use Rattle.meta_base.specs.NodePaths.{compare_nodes}
use Rattle.meta_base.specs.declared.ids.NodeId.{NodeId}
use Rattle.path_store.specs.PathOf.{path_of, path_by}
use Rattle.path_store.specs.declared.trails.PathId.{PathId}
use Rattle.path_store.specs.declared.trails.Step.{Step}
use Rattle.path_store.specs.Trails.{AreSteps, IsStep, marks_of, path_along, paths_after}

-- there is a path for each step
pub count_after : (paths : List (List NodeId)) (steps : List Step) → length (paths_after paths steps) ≡ length paths + length steps
count_after paths [] = omega arith
count_after paths (s ∷ steps) =
    let one = length-append paths (path_along paths s ∷ []) in
    let rest = count_after (paths ++ path_along paths s ∷ []) steps in
    omega arith

-- with a step more there is its path more
pub after_push : (paths : List (List NodeId)) (steps : List Step) (s : Step) → paths_after paths (steps ++ s ∷ []) ≡ paths_after paths steps ++ path_along (paths_after paths steps) s ∷ []
after_push paths [] s = refl
after_push paths (t ∷ steps) s = after_push (paths ++ path_along paths t ∷ []) steps s

pub steps_push : (paths : List (List NodeId)) (steps : List Step) (s : Step) → AreSteps paths steps → IsStep (paths_after paths steps) s → AreSteps paths (steps ++ s ∷ [])
steps_push paths [] s h is = (is, tt)
steps_push paths (t ∷ steps) s h is = (h.0, steps_push (paths ++ path_along paths t ∷ []) steps s h.1 is)

-- a path before the steps stays
path_stays : (paths : List (List NodeId)) (steps : List Step) (id : PathId) → id.0 < length paths → path_of (paths_after paths steps) id ≡ path_of paths id
path_stays paths [] id l = refl
path_stays paths (s ∷ steps) id l =
    path_stays (paths ++ path_along paths s ∷ []) steps id (let e = length-append paths (path_along paths s ∷ []) in omega arith)
    ∙ get_or_append_left paths (path_along paths s ∷ []) [] id.0 l

rest_stays : (paths : List (List NodeId)) (steps : List Step) (o : Option PathId) → IfSome o (λ id. id.0 < length paths) → path_by (paths_after paths steps) o ≡ path_by paths o
rest_stays paths steps None l = refl
rest_stays paths steps (Some id) l = path_stays paths steps id l

-- what the step of that number says of these paths
pub record IsStepOf (paths : List (List NodeId)) (id : PathId) (s : Step) : Type 0 where
  pub path : path_of paths id ≡ path_along paths s
  pub rest : IfSome s.rest (λ rest. rest.0 < id.0)
  pub after : s.after ≡ length (path_by paths s.rest)
  pub marks : s.marks ≡ marks_of (path_of paths id)

-- the path of a step is there, and its rest before it
pub step_there : (paths : List (List NodeId)) (steps : List Step) (k : ℕ) (id : PathId) (s : Step) → AreSteps paths steps → slice_get steps k ≡ Some s → id.0 ≡ length paths + k
    → IsStepOf (paths_after paths steps) id s
step_there paths [] k id s h e is = absurd (cc)
step_there paths (t ∷ steps) zero id s h e is = subst (IsStepOf (paths_after paths (t ∷ steps)) id) same record { path = path; rest = by t.rest h.0.rest; after = h.0.after ∙ ap length (sym stays); marks = h.0.marks ∙ ap marks_of (sym (path ∙ along)) }
  where
    same : t ≡ s
    same = cc

    place : id.0 ≡ length paths
    place = omega arith

    stays : path_by (paths_after paths (t ∷ steps)) t.rest ≡ path_by paths t.rest
    stays = rest_stays paths (t ∷ steps) t.rest h.0.rest

    path : path_of (paths_after paths (t ∷ steps)) id ≡ path_along (paths_after paths (t ∷ steps)) t
    path =
        let now = paths ++ path_along paths t ∷ [] in
        let within : id.0 < length now = let l = length-append paths (path_along paths t ∷ []) in omega (arith, place, l) in
        path_stays now steps id within
        ∙ (ap (λ n. slice_index_or now n []) place ∙ get_or-append_seam paths (path_along paths t) [] [])
        ∙ ap (λ rest. t.node ∷ rest) (sym stays)

    along : path_along (paths_after paths (t ∷ steps)) t ≡ path_along paths t
    along = ap (λ rest. t.node ∷ rest) stays

    by : (o : Option PathId) → IfSome o (λ rest. rest.0 < length paths) → IfSome o (λ rest. rest.0 < id.0)
    by None l = tt
    by (Some rest) l = omega (arith, place, l)
step_there paths (t ∷ steps) (suc k) id s h e is =
    let count : length (paths ++ path_along paths t ∷ []) ≡ length paths + 1 = length-append paths (path_along paths t ∷ []) in
    step_there (paths ++ path_along paths t ∷ []) steps k id s h.1 e (omega arith)

-- each path has a node, and no more nodes than there are numbers up to its own
pub record IsCounted (paths : List (List NodeId)) (id : PathId) : Type 0 where
  pub some : 0 < length (path_of paths id)
  pub few : length (path_of paths id) ≤ id.0 + 1

abbrev AreCounted : List (List NodeId) → Type 0
AreCounted paths = (id : PathId) → id.0 < length paths → IsCounted paths id

one_counted : (paths : List (List NodeId)) (s : Step) → AreCounted paths → IsStep paths s → AreCounted (paths ++ path_along paths s ∷ [])
one_counted paths s counted is id l = elim (cases_order id.0 (length paths)) [
  | inl same ↦ last same
  | inr (inl less) ↦ earlier less
  | inr (inr more) ↦ absurd (let e = length-append paths (path_along paths s ∷ []) in omega (arith, e, l, more))
]
  where
    now : List (List NodeId)
    now = paths ++ path_along paths s ∷ []

    earlier : id.0 < length paths → IsCounted now id
    earlier less =
        let same : path_of now id ≡ path_of paths id = get_or_append_left paths (path_along paths s ∷ []) [] id.0 less in
        let before = counted id less in
        record { some = rw same before.some; few = rw same before.few }

    by : (o : Option PathId) → IfSome o (λ rest. rest.0 < length paths) → length (path_by paths o) ≤ length paths
    by None h = omega arith
    by (Some rest) h = let most = (counted rest h).few in omega (arith, most, h)

    last : id.0 ≡ length paths → IsCounted now id
    last same =
        let path : path_of now id ≡ path_along paths s = ap (λ n. slice_index_or now n []) same ∙ get_or-append_seam paths (path_along paths s) [] [] in
        let most = by s.rest is.rest in
        record { some = rw path (omega arith); few = rw path (omega (arith, most, same)) }

all_counted : (paths : List (List NodeId)) (steps : List Step) → AreCounted paths → AreSteps paths steps → AreCounted (paths_after paths steps)
all_counted paths [] counted h = counted
all_counted paths (s ∷ steps) counted h = all_counted (paths ++ path_along paths s ∷ []) steps (one_counted paths s counted h.0) h.1

pub path_counted : (steps : List Step) → AreSteps [] steps → AreCounted (paths_after [] steps)
path_counted steps h = all_counted [] steps (λ id l. absurd (omega (arith, l))) h

-- a step that goes on has nodes after its own
pub goes_on : (steps : List Step) (id : PathId) (s : Step) → id.0 < length (paths_after [] steps) → AreSteps [] steps → IsStepOf (paths_after [] steps) id s → IfSome s.rest (λ rest. 0 < s.after)
goes_on steps id s there h is = by s.rest is.rest is.after
  where
    by : (o : Option PathId) → IfSome o (λ rest. rest.0 < id.0) → s.after ≡ length (path_by (paths_after [] steps) o) → IfSome o (λ rest. 0 < s.after)
    by None before after = tt
    by (Some rest) before after = let some = (path_counted steps h rest (omega (arith, before, there))).some in omega (arith, some, after)

-- paths of the same nodes are equal
pub nodes_same : (p : List ℕ) → compare_nodes p p ≡ Equal
nodes_same [] = refl
nodes_same (i ∷ p) = rw (sym (nat_cmp_is i i Equal refl)) (nodes_same p)
