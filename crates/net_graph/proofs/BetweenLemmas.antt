-- The arc between two nodes, as it is found among those of its tail.
use Rattle.std.proofs.Common.{◌≡◌, ◌<◌, ◌+◌, ℕ, zero, suc, List, [], ◌∷◌, ◌++◌, Bool, true, false, not, eqb, ltb, Option, Some, None, option_map, position, slice_get, take, length, map, refl, sym, ap, ◌∙◌, arith}
use Rattle.std.proofs.lemmas.Bool.Decides.{nat_tests}
use Rattle.std.specs.List.{find, prefix_len}
use Rattle.alg_model.specs.Expressions.{PureLabel}
use Rattle.meta_base.specs.declared.ids.ArcId.{ArcId}
use Rattle.net_graph.specs.ArcLaws.{find-filter}
use Rattle.net_graph.specs.Groups.{group_at}
use Rattle.net_graph.specs.Kept.{kept_arc}
use Rattle.net_graph.specs.Nets.{PureArc, PureNet, IsNet, AreNumbered, arcs_from, is_arc_between}
use Rattle.net_graph.specs.declared.arcs.KeptArc.{KeptArc}
use Rattle.net_graph.proofs.CopyLemmas.{take_got}

-- the first to pass is found
pub find_first : {X : Type 0} (p : X → Bool) (xs : List X) (i : ℕ) (x : X) → find p (take i xs) ≡ None → slice_get xs i ≡ Some x → p x ≡ true → find p xs ≡ Some x
find_first p [] i x n e t = absurd (cc)
find_first p (y ∷ ys) zero x n e t =
    let same : y ≡ x = cc in
    rw (same, t) refl
find_first p (y ∷ ys) (suc i) x n e t = by (λ m. find_first p ys i x m e t) (p y) refl n
  where
    by : (find p (take i ys) ≡ None → find p ys ≡ Some x) → (b : Bool) → p y ≡ b → find p (take (suc i) (y ∷ ys)) ≡ None → find p (y ∷ ys) ≡ Some x
    by rest true h m = absurd (let some : Some y ≡ None = rw h at m in cc)
    by rest false h m = rw h (rest (rw h at m))

-- one more that doesn't pass
find_push : {X : Type 0} (p : X → Bool) (xs : List X) (x : X) → find p xs ≡ None → p x ≡ false → find p (xs ++ x ∷ []) ≡ None
find_push p [] x n t = rw t refl
find_push {X} p (y ∷ ys) x n t = by (λ m. find_push p ys x m t) (p y) refl
  where
    by : (find p ys ≡ None → find p (ys ++ x ∷ []) ≡ None) → (b : Bool) → p y ≡ b → find p (y ∷ (ys ++ x ∷ [])) ≡ None
    by rest true h = absurd (let some : Some y ≡ None = rw h at n in cc)
    by rest false h = rw h (rest (rw h at n))

pub find_none : {X : Type 0} (p : X → Bool) (xs : List X) (i : ℕ) (x : X) → find p (take i xs) ≡ None → slice_get xs i ≡ Some x → p x ≡ false → find p (take (i + 1) xs) ≡ None
find_none p xs i x n e t = rw (take_got xs i x e) (find_push p (take i xs) x n t)

-- what is found among images is the image of what is found
find_mapped : {X Y : Type 0} (f : X → Y) (p : Y → Bool) (xs : List X) → find p (map f xs) ≡ option_map f (find (λ x. p (f x)) xs)
find_mapped f p [] = refl
find_mapped {X} {Y} f p (x ∷ xs) = by (find_mapped f p xs) (p (f x)) refl
  where
    by : find p (map f xs) ≡ option_map f (find (λ x. p (f x)) xs) → (b : Bool) → p (f x) ≡ b → find p (map f (x ∷ xs)) ≡ option_map f (find (λ x. p (f x)) (x ∷ xs))
    by rest true h = rw h refl
    by rest false h = rw h rest

-- how many stand before the one that is found
record IsBefore (n : ℕ) (p : PureArc → Bool) (arcs : List PureArc) (a : PureArc) : Type 0 where
  id_is : a.id ≡ n + prefix_len (λ (b : PureArc). not (p b)) arcs
  within : prefix_len (λ (b : PureArc). not (p b)) arcs < length arcs

found_at : (p : PureArc → Bool) (n : ℕ) (arcs : List PureArc) (a : PureArc) → AreNumbered n arcs → find p arcs ≡ Some a → IsBefore n p arcs a
found_at p n [] a ids e = absurd (cc)
found_at p n (b ∷ arcs) a ids e = by (found_at p (n + 1) arcs a ids.1) (p b) refl
  where
    by : (find p arcs ≡ Some a → IsBefore (n + 1) p arcs a) → (c : Bool) → p b ≡ c → IsBefore n p (b ∷ arcs) a
    by rest true h =
        let found : Some b ≡ Some a = rw h at e in
        let same : b ≡ a = cc in
        let id : a.id ≡ n = rw same at ids.0 in
        record { id_is = rw h (omega (arith, id)); within = rw h (omega arith) }
    by rest false h =
        let more = rest (rw h at e) in
        record { id_is = rw h (omega (arith, more.id_is)); within = rw h (omega (arith, more.within)) }

none_before : (p : PureArc → Bool) (arcs : List PureArc) → find p arcs ≡ None → prefix_len (λ (b : PureArc). not (p b)) arcs ≡ length arcs
none_before p [] e = refl
none_before p (b ∷ arcs) e = by (none_before p arcs) (p b) refl
  where
    by : (find p arcs ≡ None → prefix_len (λ (b : PureArc). not (p b)) arcs ≡ length arcs) → (c : Bool) → p b ≡ c → prefix_len (λ (b : PureArc). not (p b)) (b ∷ arcs) ≡ length (b ∷ arcs)
    by rest true h = absurd (let some : Some b ≡ None = rw h at e in cc)
    by rest false h = rw h (let more = rest (rw h at e) in omega (arith, more))

-- an arc of a network stands at the place of its number
place_found : (p : PureArc → Bool) (arcs : List PureArc) → AreNumbered 0 arcs → position p arcs ≡ option_map (λ (a : PureArc). a.id) (find p arcs)
place_found p arcs ids = by (find p arcs) refl
  where
    by : (o : Option PureArc) → find p arcs ≡ o → position p arcs ≡ option_map (λ (a : PureArc). a.id) o
    by (Some a) e =
        let before = found_at p 0 arcs a ids e in
        let below : ltb (prefix_len (λ (b : PureArc). not (p b)) arcs) (length arcs) ≡ true = let within = before.within in grind (arith, nat_tests) in
        let id : a.id ≡ prefix_len (λ (b : PureArc). not (p b)) arcs = let is = before.id_is in omega (arith, is) in
        rw (below, id) refl
    by None e =
        let all = none_before p arcs e in
        let past : ltb (length arcs) (length arcs) ≡ false = grind (arith, nat_tests) in
        rw (all, past) refl

ids_kept : (labels : List PureLabel) (o : Option KeptArc) → option_map (λ (id : ArcId). id.0) (option_map (λ (a : KeptArc). a.id) o) ≡ option_map (λ (a : PureArc). a.id) (option_map (kept_arc labels) o)
ids_kept labels None = refl
ids_kept labels (Some a) = refl

-- the number of the arc between two nodes is found among the arcs of the tail
pub between : (net : PureNet) (labels : List PureLabel) (out : List (List KeptArc)) (tail head : ℕ) → IsNet net → ((node : ℕ) → map (kept_arc labels) (group_at out node) ≡ arcs_from net node)
    → option_map (λ (id : ArcId). id.0) (option_map (λ (a : KeptArc). a.id) (find (λ (a : KeptArc). eqb a.head.0 head) (group_at out tail))) ≡ position (is_arc_between tail head) net.arcs
between net labels out tail head is filed =
    ids_kept labels (find (λ (a : KeptArc). eqb a.head.0 head) (group_at out tail))
    ∙ ap (option_map (λ (a : PureArc). a.id))
    (sym (find_mapped (kept_arc labels) (λ (a : PureArc). eqb a.head head) (group_at out tail))
    ∙ ap (find (λ (a : PureArc). eqb a.head head)) (filed tail)
    ∙ sym (find-filter (λ (a : PureArc). eqb a.tail tail) (λ (a : PureArc). eqb a.head head) net.arcs))
    ∙ sym (place_found (is_arc_between tail head) net.arcs is.arc_ids)
