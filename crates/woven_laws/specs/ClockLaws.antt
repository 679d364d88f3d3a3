-- How high the clocks get of nodes that take messages each by itself: no higher than the number of messages that all of
-- them took. Lemmas, so that proofs of other crates may cite them.
use Rattle.std.proofs.Common.{◌≡◌, ℕ, zero, suc, ◌+◌, ◌<◌, ◌≤◌, ◌-◌, ◌⊎◌, inl, inr, Bool, true, false, cond, List, [], ◌∷◌, ◌++◌, Option, Some, None, max, length, subst, refl, sym, ap, ◌∙◌, arith}
use Rattle.std.specs.Prelude.{◌==◌}
use Rattle.std.specs.List.{AllByRecursion}
use Rattle.std.proofs.lemmas.Bool.{cases_lt, eqb-true, false_from_ne_true}
use Rattle.std.proofs.lemmas.Bool.Decides.{nat_tests}
use Rattle.net_graph.specs.Nets.{PureNet, IsNet}
use Rattle.node_core.specs.Kinds.{Kind, IsLawful, listener, speaker, on_arc}
use Rattle.node_core.specs.Machine.{Machine}
use Rattle.node_core.specs.MachineLaws.{same_test, all_join, all_mapped, on_arc_all, listens_within}
use Rattle.node_core.specs.Running.{AreUpTo, IsRunning}
use Rattle.woven_laws.specs.ArcEnds.{ends_at, teller_within}
use Rattle.woven_laws.specs.Counts.{total, taken_by_all}
use Rattle.woven_laws.specs.CountLaws.{mark, total_plus, total_zero, total_swap, total_one, total_below}
use Rattle.woven_laws.specs.Histories.{Taken, taken_on, clock_past, put_out, IsTimed, option_out}
use Rattle.woven_laws.specs.Woven.{Woven}

-- a part of a sum is no more than the sum, and a sum that isn't 0 has such a part
part_below : (n : ℕ) (f : ℕ → ℕ) (i : ℕ) → i < n → f i ≤ total n f
part_below zero f i lt = absurd (omega (arith, lt))
part_below (suc n) f i lt = by (λ less. part_below n f i less) (i == n) refl
  where
    by : (i < n → f i ≤ total n f) → (b : Bool) → (i == n) ≡ b → f i ≤ total (suc n) f
    by rest true e = let same : f i ≡ f n = ap f (eqb-true i n e) in omega (arith, same)
    by rest false e = let less : i < n = grind (arith, nat_tests) in let part = rest less in omega (arith, part)

some_part : (n : ℕ) (f : ℕ → ℕ) → 1 ≤ total n f → (i : ℕ) × (i < n) × (1 ≤ f i)
some_part zero f some = absurd (omega (arith, some))
some_part (suc n) f some = elim (cases_lt 0 (f n)) [
  | inl here ↦ (n, omega arith, here)
  | inr none ↦ let rest = some_part n f (omega (arith, some, none)) in (rest.0, (let lt = rest.1 in omega (arith, lt)), rest.2)
]

-- a number is met once below a bound, at most
once_at_most : (n a : ℕ) → total n (λ i. mark (a == i)) ≤ 1
once_at_most n a = elim (cases_lt a n) [
  | inl lt ↦ let one = total_one n a lt in omega (arith, one)
  | inr past ↦ let none = total_zero n (λ i. mark (a == i)) (λ i lt. ap mark (false_from_ne_true (a == i) (λ e. let same = eqb-true a i e in absurd (omega (arith, same, lt, past))))) in omega (arith, none)
]

module _ {X : Type 0} (P : X → Type 0) where
  all_first : (xs ys : List X) → AllByRecursion P (xs ++ ys) → AllByRecursion P xs
  all_first [] ys all = tt
  all_first (x ∷ xs) ys all = (all.0, all_first xs ys all.1)

  all_second : (xs ys : List X) → AllByRecursion P (xs ++ ys) → AllByRecursion P ys
  all_second [] ys all = all
  all_second (x ∷ xs) ys all = all_second xs ys all.1

module _ {M : Type 0} where
  -- how many messages were taken at the clock
  abbrev clock_count : ℕ → List (Taken M) → ℕ
  clock_count t [] = 0
  clock_count t (h ∷ history) = mark (h.clock == t) + clock_count t history

  counted : (hs : List (Taken M)) → AllByRecursion (λ (h : Taken M). 1 ≤ clock_count h.clock hs) hs
  counted [] = tt
  counted (h ∷ hs) =
      (rw (same_test h.clock) (omega arith), all_mapped (λ (g : Taken M). 1 ≤ clock_count g.clock hs) (λ (g : Taken M). 1 ≤ mark (h.clock == g.clock) + clock_count g.clock hs) (λ g some. omega (arith, some)) hs (counted hs))

  -- what holds of the clock of each message that was taken holds of each that is counted
  of_counted : (P : ℕ → Type 0) (t : ℕ) (hs : List (Taken M)) → AllByRecursion (λ (h : Taken M). P h.clock) hs → 1 ≤ clock_count t hs → P t
  of_counted P t [] all some = absurd (omega (arith, some))
  of_counted P t (h ∷ hs) all some = by (λ more. of_counted P t hs all.1 more) (h.clock == t) refl some
    where
      by : (1 ≤ clock_count t hs → P t) → (b : Bool) → (h.clock == t) ≡ b → 1 ≤ mark b + clock_count t hs → P t
      by rest true e some = subst P (eqb-true h.clock t e) all.0
      by rest false e some = rest (omega (arith, some))

  counted_below : (n : ℕ) (hs : List (Taken M)) → total n (λ t. clock_count t hs) ≤ length hs
  counted_below n [] = let none = total_zero n (λ t. 0) (λ t lt. refl) in omega (arith, none)
  counted_below n (h ∷ hs) =
      let split = total_plus n (λ t. mark (h.clock == t)) (λ t. clock_count t hs) in
      let one = once_at_most n h.clock in
      let rest = counted_below n hs in
      omega (arith, split, one, rest)

  -- what holds of all messages that were taken on each arc holds of all
  each_taken : (net : PureNet) (P : M → Type 0) (i : ℕ) (hs : List (Taken M)) → AllByRecursion (λ (h : Taken M). listener net h.arc ≡ Some i) hs → ((a : ℕ) → listener net a ≡ Some i → AllByRecursion P (taken_on a hs))
      → AllByRecursion (λ (h : Taken M). P h.message) hs
  each_taken net P i [] heard all = tt
  each_taken net P i (h ∷ hs) heard all = (first (h.arc == h.arc) (same_test h.arc) (all h.arc heard.0), each_taken net P i hs heard.1 (λ a hears. others a (h.arc == a) (all a hears)))
    where
      first : (b : Bool) → b ≡ true → AllByRecursion P (cond b (h.message ∷ taken_on h.arc hs) (taken_on h.arc hs)) → P h.message
      first true e all = all.0
      first false e all = absurd (cc)

      others : (a : ℕ) (b : Bool) → AllByRecursion P (cond b (h.message ∷ taken_on a hs) (taken_on a hs)) → AllByRecursion P (taken_on a hs)
      others a true all = all.1
      others a false all = all

module _ {S M : Type 0} (k : Kind S M) (lawful : IsLawful k) (net : PureNet) (is_net : IsNet net) (c d : Machine S M) (h : ℕ → List (Taken M)) (w : Woven k net c h d) (running : IsRunning k net c)
    (n : ℕ) (up : AreUpTo k c n) where
  -- how many messages all nodes took at the clock
  abbrev taken_at : ℕ → ℕ
  taken_at t = total (length net.nodes) (λ i. clock_count t (h i))

  -- the clock is not above the bound at first, or messages were taken at it
  abbrev IsMet : ℕ → Type 0
  IsMet t = (t ≤ n) ⊎ (1 ≤ taken_at t)

  taken_met : (i : ℕ) → i < length net.nodes → AllByRecursion (λ (g : Taken M). IsMet g.clock) (h i)
  taken_met i within =
      all_mapped (λ (g : Taken M). 1 ≤ clock_count g.clock (h i)) (λ (g : Taken M). IsMet g.clock)
      (λ g some. inr (let part = part_below (length net.nodes) (λ j. clock_count g.clock (h j)) i within in omega (arith, some, part))) (h i) (counted (h i))

  -- what a node puts out is stamped with a clock at which it took a message
  put_met : (s : S) (hs : List (Taken M)) → AllByRecursion (λ (g : Taken M). IsMet g.clock) hs → AllByRecursion (λ (p : ℕ × M). IsMet (k.stamp p.1)) (put_out k s hs)
  put_met s [] all = tt
  put_met s (g ∷ hs) all =
      let next = k.step s g.arc g.message g.clock in
      all_join (λ (p : ℕ × M). IsMet (k.stamp p.1)) next.1 (put_out k next.0 hs)
      (all_mapped (λ (p : ℕ × M). k.stamp p.1 ≡ g.clock) (λ (p : ℕ × M). IsMet (k.stamp p.1)) (λ p e. subst IsMet (sym e) all.0) next.1 (lawful.step_sends s g.arc g.message g.clock).stamped)
      (put_met next.0 hs all.1)

  out_met : (j : ℕ) → j < length net.nodes → AllByRecursion (λ (p : ℕ × M). IsMet (k.stamp p.1)) (option_out k (c.node j) (h j))
  out_met j within = by (c.node j)
    where
      by : (o : Option S) → AllByRecursion (λ (p : ℕ × M). IsMet (k.stamp p.1)) (option_out k o (h j))
      by None = tt
      by (Some s) = put_met s (h j) (taken_met j within)

  -- so is all that is taken from an arc, and all that waits there
  arc_met : (a i j : ℕ) → listener net a ≡ Some i → speaker net a ≡ Some j → AllByRecursion (λ m. IsMet (k.stamp m)) (taken_on a (h i) ++ d.link a)
  arc_met a i j hears speaks =
      subst (AllByRecursion (λ m. IsMet (k.stamp m))) (w.link_is a i j hears speaks)
      (all_join (λ m. IsMet (k.stamp m)) (c.link a) (on_arc a (option_out k (c.node j) (h j)))
      (all_mapped (λ m. k.stamp m ≤ n) (λ m. IsMet (k.stamp m)) (λ m early. inl early) (c.link a) (up.stamps a))
      (on_arc_all (λ m. IsMet (k.stamp m)) a (option_out k (c.node j) (h j)) (out_met j (teller_within net is_net a j speaks))))

  heard_met : (i : ℕ) → AllByRecursion (λ (g : Taken M). IsMet (k.stamp g.message)) (h i)
  heard_met i = each_taken net (λ m. IsMet (k.stamp m)) i (h i) (w.heard i) (λ a hears. let at = ends_at net a (listens_within net a i hears) in all_first (λ m. IsMet (k.stamp m)) (taken_on a (h i)) (d.link a) (arc_met a i at.teller hears at.speaks))

  -- so the clock before each of a node's is met
  abbrev IsAfterMet : ℕ → Type 0
  IsAfterMet t = (u : ℕ) → t ≡ u + 1 → IsMet u

  greater_met : (s t : ℕ) → IsMet s → IsMet t → IsMet (max s t)
  greater_met s t a b = elim (cases_lt s t) [
    | inl less ↦ let is : max s t ≡ t = grind (arith, nat_tests, less) in subst IsMet (sym is) b
    | inr more ↦ let is : max s t ≡ s = grind (arith, nat_tests, more) in subst IsMet (sym is) a
  ]

  each_after : (t : ℕ) (hs : List (Taken M)) → IsMet t → IsTimed k t hs → AllByRecursion (λ (g : Taken M). IsMet g.clock) hs → AllByRecursion (λ (g : Taken M). IsMet (k.stamp g.message)) hs
      → AllByRecursion (λ (g : Taken M). IsAfterMet g.clock) hs
  each_after t [] met timed clocks stamps = tt
  each_after t (g ∷ hs) met timed clocks stamps =
      (λ u e. let is : max t (k.stamp g.message) ≡ u = (let at = timed.0 in omega (arith, at, e)) in subst IsMet is (greater_met t (k.stamp g.message) met stamps.0), each_after g.clock hs clocks.0 timed.1 clocks.1 stamps.1)

  after_met : (t : ℕ) → 1 ≤ taken_at t → IsAfterMet t
  after_met t some =
      let one = some_part (length net.nodes) (λ i. clock_count t (h i)) some in
      of_counted IsAfterMet t (h one.0) (each_after (c.clock one.0) (h one.0) (inl (up.clocks one.0)) (w.timed one.0) (taken_met one.0 one.1) (heard_met one.0)) one.2

  -- so messages were taken at each clock between the bound and one that is met
  all_met : (m : ℕ) → 1 ≤ taken_at (n + 1 + m) → m + 1 ≤ total (suc (n + 1 + m)) taken_at
  all_met zero some = omega (arith, some)
  all_met (suc m) some =
      let before : n + 1 + suc m ≡ n + 1 + m + 1 = omega arith in
      let next : total (n + 1 + suc m) taken_at ≡ total (suc (n + 1 + m)) taken_at = (let one : n + 1 + suc m ≡ suc (n + 1 + m) = omega arith in ap (λ x. total x taken_at) one) in
      let rest : m + 1 ≤ total (suc (n + 1 + m)) taken_at = elim (after_met (n + 1 + suc m) some (n + 1 + m) before) [
        | inl low ↦ absurd (omega (arith, low))
        | inr more ↦ all_met m more
      ] in
      omega (arith, some, next, rest)

  few_taken : (q : ℕ) → total q taken_at ≤ taken_by_all net h
  few_taken q =
      let swap = total_swap q (length net.nodes) (λ t i. clock_count t (h i)) in
      let each = total_below (length net.nodes) (λ i. total q (λ t. clock_count t (h i))) (λ i. length (h i)) (λ i lt. counted_below q (h i)) in
      omega (arith, swap, each)

  met_below : (t : ℕ) → IsMet t → t ≤ n + taken_by_all net h
  met_below t (inl low) = omega (arith, low)
  met_below t (inr some) = elim (cases_lt n t) [
    | inl above ↦
        let place : t ≡ n + 1 + (t - (n + 1)) = omega (arith, above) in
        let many = all_met (t - (n + 1)) (subst (λ x. 1 ≤ taken_at x) place some) in
        let few = few_taken (suc (n + 1 + (t - (n + 1)))) in
        omega (arith, above, many, few)
    | inr low ↦ omega (arith, low)
  ]

  past_met : (t : ℕ) (hs : List (Taken M)) → IsMet t → AllByRecursion (λ (g : Taken M). IsMet g.clock) hs → IsMet (clock_past t hs)
  past_met t [] met all = met
  past_met t (g ∷ hs) met all = past_met g.clock hs all.0 all.1

  pub woven_up_to : AreUpTo k d (n + taken_by_all net h)
  woven_up_to = record { clocks = clock; stamps = stamp }
    where
      clock : (i : ℕ) → d.clock i ≤ n + taken_by_all net h
      clock i = elim (cases_lt i (length net.nodes)) [
        | inl within ↦ subst (λ t. t ≤ n + taken_by_all net h) (sym (w.clock_is i)) (met_below (clock_past (c.clock i) (h i)) (past_met (c.clock i) (h i) (inl (up.clocks i)) (taken_met i within)))
        | inr past ↦
            let none : h i ≡ [] = w.none_takes i (running.past i past) in
            let same : d.clock i ≡ c.clock i = w.clock_is i ∙ ap (clock_past (c.clock i)) none in
            let low = up.clocks i in
            omega (arith, same, low)
      ]

      stamp : (a : ℕ) → AllByRecursion (λ m. k.stamp m ≤ n + taken_by_all net h) (d.link a)
      stamp a = elim (cases_lt a (length net.arcs)) [
        | inl within ↦
            let at = ends_at net a within in
            all_mapped (λ m. IsMet (k.stamp m)) (λ m. k.stamp m ≤ n + taken_by_all net h) (λ m met. met_below (k.stamp m) met) (d.link a)
            (all_second (λ m. IsMet (k.stamp m)) (taken_on a (h at.hearer)) (d.link a) (arc_met a at.hearer at.teller at.listens at.speaks))
        | inr past ↦
            subst (AllByRecursion (λ m. k.stamp m ≤ n + taken_by_all net h)) (w.outside a past)
            (all_mapped (λ m. k.stamp m ≤ n) (λ m. k.stamp m ≤ n + taken_by_all net h) (λ m low. omega (arith, low)) (c.link a) (up.stamps a))
      ]
