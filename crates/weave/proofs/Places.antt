-- What stands at a place of a list, before and after something was put there.
use Rattle.std.proofs.Common.{◌≡◌, ◌≢◌, ℕ, zero, suc, ◌≤◌, ◌==◌, false, cond, List, [], ◌∷◌, ◌++◌, Some, map, slice_get, slice_set, length, refl, sym, ap, subst, ◌∙◌}
use Rattle.std.proofs.lemmas.Bool.{eqb-true, eqb-false, false_from_ne_true}
use Rattle.std.proofs.lemmas.Option.{slice_get_past, same_Some}
use Rattle.node_core.specs.MachineLaws.{same_test, at_each, on_arc_join}
use Rattle.weave.specs.declared.lane.Lane.{Lane}
use Rattle.weave.specs.Lanes.{PureLane, HasPassed, lane_of, lane_in}
use Rattle.std.proofs.lemmas.List.{map-append}
use Rattle.meta_base.specs.declared.ids.ArcId.{ArcId}
use Rattle.node_core.specs.Kinds.{on_arc}
use Rattle.node_core.specs.Configs.{numbered}
use Rattle.weave.proofs.Passing.{passed_same, passed_then}

module _ {X : Type 0} where
  pub set_same : (xs : List X) (i : ℕ) (v old : X) → slice_get xs i ≡ Some old → slice_get (slice_set xs i v) i ≡ Some v
  set_same [] i v old e = absurd (cc)
  set_same (x ∷ xs) zero v old e = refl
  set_same (x ∷ xs) (suc i) v old e = set_same xs i v old e

  pub set_other : (xs : List X) (i j : ℕ) (v : X) → j ≢ i → slice_get (slice_set xs i v) j ≡ slice_get xs j
  set_other [] i j v ne = refl
  set_other (x ∷ xs) zero zero v ne = absurd (ne refl)
  set_other (x ∷ xs) zero (suc j) v ne = refl
  set_other (x ∷ xs) (suc i) zero v ne = refl
  set_other (x ∷ xs) (suc i) (suc j) v ne = set_other xs i j v (λ e. ne (ap suc e))

-- the test of two numbers, turned round
pub turned : (a b : ℕ) → (b == a) ≡ false → (a == b) ≡ false
turned a b ne = false_from_ne_true (a == b) (λ h. eqb-false b a ne (sym (eqb-true a b h)))

module _ {M : Type 0} where
  -- a message is put on one arc
  pub put_at : (lanes : List (Lane M)) (a : ℕ) (old new : Lane M) (m : M) → slice_get lanes a ≡ Some old → HasPassed (lane_of old) (m ∷ []) [] (lane_of new)
      → (b : ℕ) → HasPassed (lane_in (slice_get lanes b)) (cond (a == b) (m ∷ []) []) [] (lane_in (slice_get (slice_set lanes a new) b))
  put_at lanes a old new m is passed =
      at_each (λ b. HasPassed (lane_in (slice_get lanes b)) (cond (a == b) (m ∷ []) []) [] (lane_in (slice_get (slice_set lanes a new) b))) a
      (rw (same_test a, is, set_same lanes a new old is) passed)
      (λ b ne. rw (turned a b ne, set_other lanes a b new (eqb-false b a ne)) (passed_same (lane_in (slice_get lanes b))))

  -- past the lanes nothing is put
  pub put_past : (lanes : List (Lane M)) (a : ℕ) (m : M) → length lanes ≤ a → (b : ℕ) → HasPassed (lane_in (slice_get lanes b)) (cond (a == b) (m ∷ []) []) [] (lane_in (slice_get lanes b))
  put_past lanes a m past =
      at_each (λ b. HasPassed (lane_in (slice_get lanes b)) (cond (a == b) (m ∷ []) []) [] (lane_in (slice_get lanes b))) a
      (rw (slice_get_past lanes a past) tt)
      (λ b ne. rw (turned a b ne) (passed_same (lane_in (slice_get lanes b))))

  -- a message is taken on one arc
  pub taken_at : (lanes : List (Lane M)) (a : ℕ) (old new : Lane M) (m : M) → slice_get lanes a ≡ Some old → HasPassed (lane_of old) [] (m ∷ []) (lane_of new)
      → (b : ℕ) → HasPassed (lane_in (slice_get lanes b)) [] (cond (a == b) (m ∷ []) []) (lane_in (slice_get (slice_set lanes a new) b))
  taken_at lanes a old new m is passed =
      at_each (λ b. HasPassed (lane_in (slice_get lanes b)) [] (cond (a == b) (m ∷ []) []) (lane_in (slice_get (slice_set lanes a new) b))) a
      (rw (same_test a, is, set_same lanes a new old is) passed)
      (λ b ne. rw (turned a b ne, set_other lanes a b new (eqb-false b a ne)) (passed_same (lane_in (slice_get lanes b))))

  -- nothing is taken
  pub kept_at : (lanes : List (Lane M)) (a : ℕ) (old new : Lane M) → slice_get lanes a ≡ Some old → lane_of new ≡ lane_of old
      → (b : ℕ) → lane_in (slice_get (slice_set lanes a new) b) ≡ lane_in (slice_get lanes b)
  kept_at lanes a old new is same =
      at_each (λ b. lane_in (slice_get (slice_set lanes a new) b) ≡ lane_in (slice_get lanes b)) a
      (rw (is, set_same lanes a new old is) same)
      (λ b ne. rw (set_other lanes a b new (eqb-false b a ne)) refl)

  -- a message more is put on its arc
  pub put_more : (b : ℕ) (sent : List (ArcId × M)) (p : ArcId × M) (old mid new : PureLane M) → HasPassed old (on_arc b (map numbered sent)) [] mid → HasPassed mid (cond (p.0.0 == b) (p.1 ∷ []) []) [] new
      → HasPassed old (on_arc b (map numbered (sent ++ p ∷ []))) [] new
  put_more b sent p old mid new first last =
      let joined : on_arc b (map numbered (sent ++ p ∷ [])) ≡ on_arc b (map numbered sent) ++ cond (p.0.0 == b) (p.1 ∷ []) [] =
      ap (on_arc b) (map-append numbered sent (p ∷ [])) ∙ on_arc_join b (map numbered sent) (map numbered (p ∷ [])) in
      rw joined (passed_then old mid new (on_arc b (map numbered sent)) [] (cond (p.0.0 == b) (p.1 ∷ []) []) [] first last)

-- what holds of each item with its place holds of one more after them
pub each_pushed : {X : Type 0} (P : ℕ → X → Type 0) (xs : List X) (x : X) → ((w : ℕ) (y : X) → slice_get xs w ≡ Some y → P w y) → P (length xs) x → (w : ℕ) (y : X) → slice_get (xs ++ x ∷ []) w ≡ Some y → P w y
each_pushed P [] x before last zero y e = subst (P 0) (same_Some _ _ e) last
each_pushed P [] x before last (suc w) y e = absurd (cc)
each_pushed P (z ∷ xs) x before last zero y e = before 0 y e
each_pushed P (z ∷ xs) x before last (suc w) y e = each_pushed (λ n. P (suc n)) xs x (λ n. before (suc n)) last w y e
