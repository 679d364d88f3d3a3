-- The network of what cards say, made line by line.
use Rattle.std.proofs.Common.{◌≡◌, ℕ, zero, suc, ◌+◌, ◌<◌, ◌≤◌, List, [], ◌∷◌, ◌++◌, Bool, true, false, ◌||◌, length, filter, take, cond, slice_get, Some, refl, sym, ap, ◌∙◌, subst, arith}
use Rattle.std.specs.List.{AllByRecursion, list_any}
use Rattle.std.proofs.lemmas.List.Elements.{filter-append}
use Rattle.std.proofs.lemmas.Option.{same_Some}
use Rattle.net_graph.specs.Changes.{numbered_from}
use Rattle.alg_model.specs.Expressions.{PureLabel}
use Rattle.net_graph.specs.Lines.{arcs_with, with_arc}
use Rattle.net_graph.specs.Nets.{PureArc, PureNet, AreDistinct, joins_same, is_arc_between}
use Rattle.flood_node.proofs.OwnCards.{take_next}

module _ (known : ℕ → Bool) where
  abbrev pub reported_arcs : List PureArc → List PureArc
  reported_arcs arcs = numbered_from 0 (filter (λ (a : PureArc). known a.tail) arcs)

  numbered_push : (n : ℕ) (arcs : List PureArc) (a : PureArc) → numbered_from n (arcs ++ a ∷ []) ≡ numbered_from n arcs ++ record a { id = n + length arcs } ∷ []
  numbered_push n [] a = let same : n ≡ n + 0 = omega arith in ap (λ (z : ℕ). record a { id = z } ∷ []) same
  numbered_push n (b ∷ arcs) a =
      let same : n + 1 + length arcs ≡ n + suc (length arcs) = omega arith in
      ap (λ l. record b { id = n } ∷ l) (numbered_push (n + 1) arcs a ∙ ap (λ (z : ℕ). numbered_from (n + 1) arcs ++ record a { id = z } ∷ []) same)

  length_numbered : (n : ℕ) (arcs : List PureArc) → length (numbered_from n arcs) ≡ length arcs
  length_numbered n [] = refl
  length_numbered n (a ∷ arcs) = rw (length_numbered (n + 1) arcs) refl

  -- an arc more, whose tail is known
  pub arc_reported : (arcs : List PureArc) (k : ℕ) (a : PureArc) → slice_get arcs k ≡ Some a → known a.tail ≡ true → reported_arcs (take (k + 1) arcs) ≡ arcs_with a.tail a.head a.label (reported_arcs (take k arcs))
  arc_reported arcs k a at e =
      let passed = filter (λ (x : PureArc). known x.tail) (take k arcs) in
      let count : 0 + length passed ≡ length (reported_arcs (take k arcs)) = let same = length_numbered 0 passed in omega (arith, same) in
      ap reported_arcs (take_next arcs k a at)
      ∙ (ap (numbered_from 0) (filter-append (λ (x : PureArc). known x.tail) (take k arcs) (a ∷ []) ∙ ap (λ t. passed ++ cond t (a ∷ []) []) e)
      ∙ (numbered_push 0 passed a ∙ ap (λ (z : ℕ). reported_arcs (take k arcs) ++ record { id = z; tail = a.tail; head = a.head; label = a.label } ∷ []) count))

  -- and one whose tail isn't
  pub arc_not_reported : (arcs : List PureArc) (k : ℕ) (a : PureArc) → slice_get arcs k ≡ Some a → known a.tail ≡ false → reported_arcs (take (k + 1) arcs) ≡ reported_arcs (take k arcs)
  arc_not_reported arcs k a at e =
      ap reported_arcs (take_next arcs k a at)
      ∙ ap (numbered_from 0) (filter-append (λ (x : PureArc). known x.tail) (take k arcs) (a ∷ []) ∙ (ap (λ t. filter (λ (x : PureArc). known x.tail) (take k arcs) ++ cond t (a ∷ []) []) e ∙ append_nothing (filter (λ (x : PureArc). known x.tail) (take k arcs))))
    where
      append_nothing : (xs : List PureArc) → xs ++ [] ≡ xs
      append_nothing [] = refl
      append_nothing (x ∷ xs) = ap (λ l. x ∷ l) (append_nothing xs)

  none_numbered : (n i j : ℕ) (arcs : List PureArc) → list_any (is_arc_between i j) arcs ≡ false → list_any (is_arc_between i j) (numbered_from n arcs) ≡ false
  none_numbered n i j [] e = refl
  none_numbered n i j (a ∷ arcs) e = by (is_arc_between i j a) e (λ h. none_numbered (n + 1) i j arcs h)
    where
      by : (b : Bool) → (b || list_any (is_arc_between i j) arcs) ≡ false → (list_any (is_arc_between i j) arcs ≡ false → list_any (is_arc_between i j) (numbered_from (n + 1) arcs) ≡ false)
          → (b || list_any (is_arc_between i j) (numbered_from (n + 1) arcs)) ≡ false
      by true f r = f
      by false f r = r f

  none_passed : (i j : ℕ) (arcs : List PureArc) → list_any (is_arc_between i j) arcs ≡ false → list_any (is_arc_between i j) (filter (λ (x : PureArc). known x.tail) arcs) ≡ false
  none_passed i j [] e = refl
  none_passed i j (a ∷ arcs) e = by (is_arc_between i j a) refl e (known a.tail) (λ h. none_passed i j arcs h)
    where
      by : (b : Bool) → is_arc_between i j a ≡ b → (b || list_any (is_arc_between i j) arcs) ≡ false → (c : Bool) → (list_any (is_arc_between i j) arcs ≡ false → list_any (is_arc_between i j) (filter (λ (x : PureArc). known x.tail) arcs) ≡ false)
          → list_any (is_arc_between i j) (cond c (a ∷ filter (λ (x : PureArc). known x.tail) arcs) (filter (λ (x : PureArc). known x.tail) arcs)) ≡ false
      by true g f c r = absurd (cc)
      by false g f true r = rw g (r f)
      by false g f false r = r f

  none_before : (arcs : List PureArc) (k : ℕ) (a : PureArc) → AreDistinct joins_same arcs → slice_get arcs k ≡ Some a → list_any (is_arc_between a.tail a.head) (take k arcs) ≡ false
  none_before [] k a d e = absurd (cc)
  none_before (b ∷ arcs) zero a d e = refl
  none_before (b ∷ arcs) (suc k) a d e =
      let apart : joins_same b a ≡ false = at arcs k d.0 e in
      rw (apart, none_before arcs k a d.1 e) refl
    where
      at : (xs : List PureArc) (m : ℕ) → AllByRecursion (λ y. joins_same b y ≡ false) xs → slice_get xs m ≡ Some a → joins_same b a ≡ false
      at [] m h f = absurd (cc)
      at (x ∷ xs) zero h f = subst (λ z. joins_same b z ≡ false) (same_Some _ _ f) h.0
      at (x ∷ xs) (suc m) h f = at xs m h.1 f

  -- the arc isn't there before
  pub arc_absent : (arcs : List PureArc) (k : ℕ) (a : PureArc) → AreDistinct joins_same arcs → slice_get arcs k ≡ Some a → list_any (is_arc_between a.tail a.head) (reported_arcs (take k arcs)) ≡ false
  arc_absent arcs k a d e = none_numbered 0 a.tail a.head (filter (λ (x : PureArc). known x.tail) (take k arcs)) (none_passed a.tail a.head (take k arcs) (none_before arcs k a d e))

  -- and there are fewer than in the network
  pub fewer_reported : (arcs : List PureArc) (k : ℕ) (a : PureArc) → slice_get arcs k ≡ Some a → length (reported_arcs (take k arcs)) < length arcs
  fewer_reported arcs k a e =
      let count = length_numbered 0 (filter (λ (x : PureArc). known x.tail) (take k arcs)) in
      let fewer = passed_few (take k arcs) in
      let taken = take_few arcs k e in
      omega (arith, count, fewer, taken)
    where
      passed_few : (xs : List PureArc) → length (filter (λ (x : PureArc). known x.tail) xs) ≤ length xs
      passed_few [] = omega arith
      passed_few (x ∷ xs) = by (known x.tail) (passed_few xs)
        where
          by : (b : Bool) → length (filter (λ (x : PureArc). known x.tail) xs) ≤ length xs → length (cond b (x ∷ filter (λ (x : PureArc). known x.tail) xs) (filter (λ (x : PureArc). known x.tail) xs)) ≤ length (x ∷ xs)
          by true r = omega (arith, r)
          by false r = omega (arith, r)

      take_few : (xs : List PureArc) (m : ℕ) → slice_get xs m ≡ Some a → length (take m xs) < length xs
      take_few [] m f = absurd (cc)
      take_few (x ∷ xs) zero f = omega arith
      take_few (x ∷ xs) (suc m) f = let rest = take_few xs m f in omega (arith, rest)

-- an arc that was added is that one
pub arc_added : (draft new : PureNet) (a : PureArc) (tail head : ℕ) (label : PureLabel) → tail ≡ a.tail → head ≡ a.head → label ≡ a.label → new ≡ with_arc draft tail head label → new ≡ record draft { arcs = arcs_with a.tail a.head a.label draft.arcs }
arc_added draft new a tail head label t h l made =
    made ∙ (ap (λ z. with_arc draft z head label) t ∙ (ap (λ z. with_arc draft a.tail z label) h ∙ ap (λ z. with_arc draft a.tail a.head z) l))

-- a network with the arcs so far, and one more whose tail is known or isn't
pub arc_draft_next : (net : PureNet) (known : ℕ → Bool) (draft new : PureNet) (k : ℕ) (a : PureArc) → draft ≡ record net { arcs = reported_arcs known (take k net.arcs); origins = [] } → slice_get net.arcs k ≡ Some a → known a.tail ≡ true
    → new ≡ record draft { arcs = arcs_with a.tail a.head a.label draft.arcs } → new ≡ record net { arcs = reported_arcs known (take (k + 1) net.arcs); origins = [] }
arc_draft_next net known draft new k a so at e made =
    made ∙ (ap (λ (d : PureNet). record d { arcs = arcs_with a.tail a.head a.label d.arcs }) so ∙ ap (λ l. record net { arcs = l; origins = [] }) (sym (arc_reported known net.arcs k a at e)))

pub arc_draft_same : (net : PureNet) (known : ℕ → Bool) (draft new : PureNet) (k : ℕ) (a : PureArc) → draft ≡ record net { arcs = reported_arcs known (take k net.arcs); origins = [] } → slice_get net.arcs k ≡ Some a → known a.tail ≡ false
    → new ≡ draft → new ≡ record net { arcs = reported_arcs known (take (k + 1) net.arcs); origins = [] }
arc_draft_same net known draft new k a so at e made = made ∙ (so ∙ ap (λ l. record net { arcs = l; origins = [] }) (sym (arc_not_reported known net.arcs k a at e)))
