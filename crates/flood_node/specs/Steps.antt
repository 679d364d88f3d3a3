-- What a step of a flooding node changes, and what nodes that begin put out. Lemmas, so that proofs of other crates may
-- cite them.
use Rattle.std.proofs.Common.{◌≡◌, ℕ, zero, suc, ◌+◌, ◌<◌, ◌⊎◌, inl, inr, List, [], ◌∷◌, ◌++◌, Bool, true, false, ◌||◌, length, cond, slice_get, Option, Some, None, refl, sym, ap, ◌∙◌, subst, arith}
use Rattle.std.specs.Prelude.{◌==◌}
use Rattle.std.specs.List.{list_any}
use Rattle.std.proofs.lemmas.Bool.{eqb-true}
use Rattle.std.proofs.lemmas.Bool.Decides.{nat_tests}
use Rattle.std.proofs.lemmas.Option.{same_Some}
use Rattle.net_graph.specs.Nets.{PureNet, IsNet}
use Rattle.node_core.specs.Kinds.{on_arc, speaker}
use Rattle.node_core.specs.Machine.{AreUnbegun, begun_messages}
use Rattle.node_core.specs.MachineLaws.{same_test, on_arc_join}
use Rattle.flood_node.specs.Cards.{PureCard, PureFlooded, card_of}
use Rattle.flood_node.specs.Node.{FloodState, holds, reported_by, Step, flooding}
use Rattle.flood_node.specs.Telling.{speaks, reported_once}

-- some item of the one list or of the other passes
pub any_left : {X : Type 0} (p : X → Bool) (xs ys : List X) → list_any p xs ≡ true → list_any p (xs ++ ys) ≡ true
any_left p [] ys e = absurd (cc)
any_left {X} p (x ∷ xs) ys e = by (p x) e (any_left p xs ys)
  where
    by : (b : Bool) → (b || list_any p xs) ≡ true → (list_any p xs ≡ true → list_any p (xs ++ ys) ≡ true) → (b || list_any p (xs ++ ys)) ≡ true
    by true e r = refl
    by false e r = r e

pub any_right : {X : Type 0} (p : X → Bool) (xs ys : List X) → list_any p ys ≡ true → list_any p (xs ++ ys) ≡ true
any_right p [] ys e = e
any_right {X} p (x ∷ xs) ys e = by (p x) (any_right p xs ys e)
  where
    by : (b : Bool) → list_any p (xs ++ ys) ≡ true → (b || list_any p (xs ++ ys)) ≡ true
    by true r = refl
    by false r = r

pub any_either : {X : Type 0} (p : X → Bool) (xs ys : List X) → list_any p (xs ++ ys) ≡ true → (list_any p xs ≡ true) ⊎ (list_any p ys ≡ true)
any_either p [] ys e = inr e
any_either {X} p (x ∷ xs) ys e = by (p x) e (any_either p xs ys)
  where
    by : (b : Bool) → (b || list_any p (xs ++ ys)) ≡ true → (list_any p (xs ++ ys) ≡ true → (list_any p xs ≡ true) ⊎ (list_any p ys ≡ true))
        → ((b || list_any p xs) ≡ true) ⊎ (list_any p ys ≡ true)
    by true e r = inl refl
    by false e r = r e

-- an item that passes is one of these
pub any_one : {X : Type 0} (p : X → Bool) (x : X) → p x ≡ true → list_any p (x ∷ []) ≡ true
any_one p x e = rw e refl

pub any_of_one : {X : Type 0} (p : X → Bool) (x : X) → list_any p (x ∷ []) ≡ true → p x ≡ true
any_of_one {X} p x e = by (p x) e
  where
    by : (b : Bool) → (b || false) ≡ true → b ≡ true
    by true e = refl
    by false e = e

module _ (s : FloodState) (a : ℕ) (m : PureFlooded) (t : ℕ) where
  abbrev after : FloodState
  after = (Step s a m t).0

  -- a node that doesn't hold the card keeps it and tells it
  pub step_new : holds s m.card.node ≡ false → Step s a m t ≡ (record s { cards = s.cards ++ m.card ∷ []; last = t }, reported_by s m.card t)
  step_new e = rw e refl

  -- and one that does changes its clock alone
  pub step_old : holds s m.card.node ≡ true → Step s a m t ≡ (record s { last = t }, [])
  step_old e = rw e refl

  -- it holds what it held, and the card
  pub still_holds : (k : ℕ) → holds s k ≡ true → holds after k ≡ true
  still_holds k e = by (holds s m.card.node) refl
    where
      by : (b : Bool) → holds s m.card.node ≡ b → holds after k ≡ true
      by true h = subst (λ x. holds x.0 k ≡ true) (sym (step_old h)) e
      by false h = subst (λ x. holds x.0 k ≡ true) (sym (step_new h)) (any_left (λ (c : PureCard). c.node == k) s.cards (m.card ∷ []) e)

  pub holds_new : holds after m.card.node ≡ true
  holds_new = by (holds s m.card.node) refl
    where
      by : (b : Bool) → holds s m.card.node ≡ b → holds after m.card.node ≡ true
      by true h = subst (λ x. holds x.0 m.card.node ≡ true) (sym (step_old h)) h
      by false h = subst (λ x. holds x.0 m.card.node ≡ true) (sym (step_new h)) (any_right (λ (c : PureCard). c.node == m.card.node) s.cards (m.card ∷ []) (any_one (λ (c : PureCard). c.node == m.card.node) m.card (same_test m.card.node)))

  -- and nothing else
  pub held_before : (k : ℕ) → holds after k ≡ true → (holds s k ≡ true) ⊎ ((holds s m.card.node ≡ false) × (m.card.node ≡ k))
  held_before k e = by (holds s m.card.node) refl
    where
      by : (b : Bool) → holds s m.card.node ≡ b → (holds s k ≡ true) ⊎ ((holds s m.card.node ≡ false) × (m.card.node ≡ k))
      by true h = inl (subst (λ x. holds x.0 k ≡ true) (step_old h) e)
      by false h = one h (any_either (λ (c : PureCard). c.node == k) s.cards (m.card ∷ []) (subst (λ x. holds x.0 k ≡ true) (step_new h) e))
        where
          one : holds s m.card.node ≡ false → (holds s k ≡ true) ⊎ (list_any (λ (c : PureCard). c.node == k) (m.card ∷ []) ≡ true) → (holds s k ≡ true) ⊎ ((holds s m.card.node ≡ false) × (m.card.node ≡ k))
          one h (inl old) = inl old
          one h (inr new) = inr (h, eqb-true m.card.node k (any_of_one (λ (c : PureCard). c.node == k) m.card new))

-- what a node that begins puts on an arc that another speaks on, and on one that it speaks on
speaks_other : (net : PureNet) (i j b : ℕ) → speaker net b ≡ Some j → (j == i) ≡ false → speaks net i b ≡ false
speaks_other net i j b e h = rw e h

pub speaks_itself : (net : PureNet) (i b : ℕ) → speaker net b ≡ Some i → speaks net i b ≡ true
speaks_itself net i b e = rw e (same_test i)

pub speaks_is : (net : PureNet) (i b : ℕ) → speaks net i b ≡ true → speaker net b ≡ Some i
speaks_is net i b e = by (speaker net b) refl
  where
    by : (o : Option ℕ) → speaker net b ≡ o → speaker net b ≡ Some i
    by None h = absurd (let f : false ≡ true = rw h at e in cc)
    by (Some j) h = let same : (j == i) ≡ true = rw h at e in h ∙ ap (λ n. Some n) (eqb-true j i same)

module _ (net : PureNet) (n : IsNet net) where
  -- the message that a node begins with
  abbrev pub own_message : ℕ → PureFlooded
  own_message j = record { card = card_of net j; stamp = 0 }

  put_by : (s : FloodState) (i b : ℕ) → s.net ≡ net → s.number ≡ i → on_arc b (reported_by s (card_of s.net s.number) 0) ≡ cond (speaks net i b) (own_message i ∷ []) []
  put_by s i b e f =
      subst (λ z. on_arc b (reported_by s (card_of s.net s.number) 0) ≡ cond (speaks z i b) (record { card = card_of z i; stamp = 0 } ∷ []) []) e
      (subst (λ z. on_arc b (reported_by s (card_of s.net s.number) 0) ≡ cond (speaks s.net z b) (record { card = card_of s.net z; stamp = 0 } ∷ []) []) f
      (reported_once s.net s.number b (record { card = card_of s.net s.number; stamp = 0 }) (subst (λ z. IsNet z) (sym e) n)))

  begun_past : (from b j : ℕ) (nodes : List FloodState) → AreUnbegun flooding net from nodes → speaker net b ≡ Some j → j < from → on_arc b (begun_messages flooding nodes) ≡ []
  begun_past from b j [] u e l = refl
  begun_past from b j (s ∷ nodes) u e l =
      let other : (j == from) ≡ false = grind (arith, nat_tests) in
      rw (on_arc_join b (reported_by s (card_of s.net s.number) 0) (begun_messages flooding nodes), put_by s from b u.0 u.1, speaks_other net from j b e other)
      (begun_past (from + 1) b j nodes u.3 e (omega (arith, l)))

  -- what waits at the start is its speaker's own card
  pub begun_at : (from k b j : ℕ) (nodes : List FloodState) → AreUnbegun flooding net from nodes → speaker net b ≡ Some j → j ≡ from + k → k < length nodes → on_arc b (begun_messages flooding nodes) ≡ own_message j ∷ []
  begun_at from k b j [] u e p l = absurd (omega (arith, l))
  begun_at from zero b j (s ∷ nodes) u e p l =
      let same : j ≡ from = omega (arith, p) in
      let first : on_arc b (reported_by s (card_of s.net s.number) 0) ≡ own_message j ∷ [] =
      put_by s j b u.0 (u.1 ∙ sym same) ∙ ap (λ t. cond t (own_message j ∷ []) []) (speaks_itself net j b e) in
      let past : on_arc b (begun_messages flooding nodes) ≡ [] = begun_past (from + 1) b j nodes u.3 e (omega (arith, same)) in
      rw (on_arc_join b (reported_by s (card_of s.net s.number) 0) (begun_messages flooding nodes), first, past) refl
  begun_at from (suc k) b j (s ∷ nodes) u e p l =
      let other : (j == from) ≡ false = grind (arith, nat_tests) in
      rw (on_arc_join b (reported_by s (card_of s.net s.number) 0) (begun_messages flooding nodes), put_by s from b u.0 u.1, speaks_other net from j b e other)
      (begun_at (from + 1) k b j nodes u.3 e (omega (arith, p)) (omega (arith, l)))

-- a node that isn't begun, at its place
pub new_at : (net : PureNet) (from : ℕ) (nodes : List FloodState) → AreUnbegun flooding net from nodes → (i : ℕ) (s : FloodState) → slice_get nodes i ≡ Some s → (s.net ≡ net) × (s.number ≡ from + i)
new_at net from [] u i s e = absurd (cc)
new_at net from (x ∷ nodes) u zero s e =
    let same : x ≡ s = same_Some _ _ e in
    let place : from ≡ from + 0 = omega arith in
    subst (λ y. (y.net ≡ net) × (y.number ≡ from + 0)) same (u.0, u.1 ∙ place)
new_at net from (x ∷ nodes) u (suc i) s e =
    let more = new_at net (from + 1) nodes u.3 i s e in
    let place : from + 1 + i ≡ from + suc i = omega arith in
    (more.0, more.1 ∙ place)

pub new_count : (net : PureNet) (from : ℕ) (nodes : List FloodState) → AreUnbegun flooding net from nodes → length net.nodes ≡ from + length nodes
new_count net from [] u = omega (arith, u)
new_count net from (x ∷ nodes) u = let more = new_count net (from + 1) nodes u.3 in omega (arith, more)
