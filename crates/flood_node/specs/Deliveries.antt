-- What a delivery to flooding nodes changes. Lemmas, so that proofs of other crates may cite them.
use Rattle.std.proofs.Common.{◌≡◌, ℕ, ◌+◌, ◌⊎◌, inl, inr, List, [], ◌∷◌, ◌++◌, Bool, true, false, length, length-append, cond, Some, refl, sym, ap, ◌∙◌, subst, arith}
use Rattle.std.specs.Prelude.{◌==◌}
use Rattle.std.specs.List.{AllByRecursion}
use Rattle.std.proofs.lemmas.Bool.{eqb-true, eqb-false}
use Rattle.std.proofs.lemmas.Option.{same_Some}
use Rattle.net_graph.specs.Nets.{PureNet, IsNet}
use Rattle.node_core.specs.Kinds.{on_arc, speaker}
use Rattle.node_core.specs.Machine.{Machine, changed_at, clock_after}
use Rattle.node_core.specs.Running.{IsRunning, IsNodeAt}
use Rattle.node_core.specs.MachineLaws.{same_test, at_each, IsDelivery}
use Rattle.flood_node.specs.Cards.{PureFlooded}
use Rattle.flood_node.specs.Node.{FloodState, holds, reported_by, Step, flooding}
use Rattle.flood_node.specs.Telling.{speaks, reported_once}
use Rattle.flood_node.specs.Steps.{step_new, step_old, still_holds, speaks_itself, speaks_is}

module _ (net : PureNet) (n : IsNet net) (c : Machine FloodState PureFlooded) (run : IsRunning flooding net c) (a : ℕ) (d : Machine FloodState PureFlooded) (w : IsDelivery flooding net c a d) where
  abbrev pub clock : ℕ
  clock = clock_after flooding c w.number w.message

  -- the node that took the message, after that, and what it sent
  abbrev pub taker : FloodState
  taker = (Step w.node a w.message clock).0

  abbrev pub sent : List (ℕ × PureFlooded)
  sent = (Step w.node a w.message clock).1

  -- the message that it sends on
  abbrev pub passed : PureFlooded
  passed = record { card = w.message.card; stamp = clock }

  pub at_node : IsNodeAt flooding net c w.number w.node
  at_node = run.each w.number w.node w.there

  pub node_after : (j : ℕ) → d.node j ≡ changed_at c.node w.number (Some taker) j
  node_after j = ap (λ x. x.node j) w.makes

  pub taker_there : d.node w.number ≡ Some taker
  taker_there = node_after w.number ∙ ap (λ t. cond t (Some taker) (c.node w.number)) (same_test w.number)

  pub link_after : (b : ℕ) → d.link b ≡ changed_at c.link a w.rest b ++ on_arc b sent
  link_after b = ap (λ x. x.link b) w.makes

  -- each node is the taker, or as it was
  pub was : (j : ℕ) (t : FloodState) → d.node j ≡ Some t → ((j ≡ w.number) × (t ≡ taker)) ⊎ (((j == w.number) ≡ false) × (c.node j ≡ Some t))
  was j t e = by (j == w.number) refl (sym (node_after j) ∙ e)
    where
      by : (b : Bool) → (j == w.number) ≡ b → cond b (Some taker) (c.node j) ≡ Some t → ((j ≡ w.number) × (t ≡ taker)) ⊎ (((j == w.number) ≡ false) × (c.node j ≡ Some t))
      by true h g = inl (eqb-true j w.number h, sym (same_Some _ _ g))
      by false h g = inr (h, g)

  reported : (b : ℕ) → on_arc b (reported_by w.node w.message.card clock) ≡ cond (speaks net w.number b) (passed ∷ []) []
  reported b =
      subst (λ z. on_arc b (reported_by w.node w.message.card clock) ≡ cond (speaks z w.number b) (passed ∷ []) []) at_node.net_is
      (subst (λ z. on_arc b (reported_by w.node w.message.card clock) ≡ cond (speaks w.node.net z b) (passed ∷ []) []) at_node.number_is
      (reported_once w.node.net w.node.number b passed (subst (λ z. IsNet z) (sym at_node.net_is) n)))

  -- a node that held the card sends nothing
  pub sent_old : holds w.node w.message.card.node ≡ true → (b : ℕ) → on_arc b sent ≡ []
  sent_old h b = ap (λ x. on_arc b x.1) (step_old w.node a w.message clock h)

  sent_reported : holds w.node w.message.card.node ≡ false → (b : ℕ) → on_arc b sent ≡ cond (speaks net w.number b) (passed ∷ []) []
  sent_reported h b = ap (λ x. on_arc b x.1) (step_new w.node a w.message clock h) ∙ reported b

  -- one that didn't sends it on, once on each arc that it speaks on
  pub sent_new : holds w.node w.message.card.node ≡ false → (b : ℕ) → speaker net b ≡ Some w.number → on_arc b sent ≡ passed ∷ []
  sent_new h b e = sent_reported h b ∙ ap (λ t. cond t (passed ∷ []) []) (speaks_itself net w.number b e)

  -- what is put on an arc
  pub sent_on : (b : ℕ) → (on_arc b sent ≡ []) ⊎ ((holds w.node w.message.card.node ≡ false) × (speaker net b ≡ Some w.number) × (on_arc b sent ≡ passed ∷ []))
  sent_on b = by (holds w.node w.message.card.node) refl
    where
      spoken : holds w.node w.message.card.node ≡ false → (t : Bool) → speaks net w.number b ≡ t → (on_arc b sent ≡ []) ⊎ ((holds w.node w.message.card.node ≡ false) × (speaker net b ≡ Some w.number) × (on_arc b sent ≡ passed ∷ []))
      spoken h true e = inr (h, speaks_is net w.number b e, sent_reported h b ∙ ap (λ t. cond t (passed ∷ []) []) e)
      spoken h false e = inl (sent_reported h b ∙ ap (λ t. cond t (passed ∷ []) []) e)

      by : (t : Bool) → holds w.node w.message.card.node ≡ t → (on_arc b sent ≡ []) ⊎ ((holds w.node w.message.card.node ≡ false) × (speaker net b ≡ Some w.number) × (on_arc b sent ≡ passed ∷ []))
      by true h = inl (sent_old h b)
      by false h = spoken h (speaks net w.number b) refl

  -- nothing on an arc that another speaks on
  pub sent_other : (b j : ℕ) → speaker net b ≡ Some j → (j == w.number) ≡ false → on_arc b sent ≡ []
  sent_other b j e ne = by (sent_on b)
    where
      by : (on_arc b sent ≡ []) ⊎ ((holds w.node w.message.card.node ≡ false) × (speaker net b ≡ Some w.number) × (on_arc b sent ≡ passed ∷ [])) → on_arc b sent ≡ []
      by (inl none) = none
      by (inr one) = absurd (eqb-false j w.number ne (same_Some _ _ (sym e ∙ one.1)))

  -- what stayed on an arc
  pub stayed : (P : PureFlooded → Type 0) (b : ℕ) → AllByRecursion P (c.link b) → AllByRecursion P (changed_at c.link a w.rest b)
  stayed P = at_each (λ b. AllByRecursion P (c.link b) → AllByRecursion P (changed_at c.link a w.rest b)) a
      (rw (same_test a) (λ all. (subst (AllByRecursion P) w.front all).1)) (λ b ne. rw ne (λ all. all))

  pub stayed_length : (b : ℕ) → cond (b == a) 1 0 + length (changed_at c.link a w.rest b) ≡ length (c.link b)
  stayed_length = at_each (λ b. cond (b == a) 1 0 + length (changed_at c.link a w.rest b) ≡ length (c.link b)) a
      (rw (same_test a) (let front : length (c.link a) ≡ length (w.message ∷ w.rest) = ap length w.front in omega (arith, front))) (λ b ne. rw ne (omega arith))

  pub length_after : (b : ℕ) → length (d.link b) ≡ length (changed_at c.link a w.rest b) + length (on_arc b sent)
  length_after b = ap length (link_after b) ∙ length-append (changed_at c.link a w.rest b) (on_arc b sent)

  -- a node holds what it held
  pub held_after : (j k : ℕ) (x y : FloodState) → c.node j ≡ Some x → d.node j ≡ Some y → holds x k ≡ true → holds y k ≡ true
  held_after j k x y e g h = by (was j y g)
    where
      by : ((j ≡ w.number) × (y ≡ taker)) ⊎ (((j == w.number) ≡ false) × (c.node j ≡ Some y)) → holds y k ≡ true
      by (inl is) =
          let same : x ≡ w.node = same_Some _ _ (sym e ∙ (ap c.node is.0 ∙ w.there)) in
          rw is.1 (still_holds w.node a w.message clock k (subst (λ z. holds z k ≡ true) same h))
      by (inr is) = subst (λ z. holds z k ≡ true) (same_Some _ _ (sym e ∙ is.1)) h
