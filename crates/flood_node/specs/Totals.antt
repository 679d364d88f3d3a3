-- A run of flooding nodes that ends has as many deliveries as nodes are reached, each once for each arc that the node
-- that reaches it speaks on. Lemmas, so that proofs of other crates may cite them.
use Rattle.std.proofs.Common.{◌≡◌, ℕ, zero, suc, ◌+◌, ◌<◌, ◌≤◌, ◌⊎◌, inl, inr, List, [], ◌∷◌, Bool, true, false, ◌||◌, length, cond, slice_get, Some, option_map, refl, ap, ◌∙◌, subst, arith}
use Rattle.std.specs.Prelude.{◌==◌, nat_lt}
use Rattle.std.specs.List.{AllByRecursion}
use Rattle.std.specs.Option.{option_map_or}
use Rattle.std.proofs.lemmas.Bool.{eqb-true}
use Rattle.std.proofs.lemmas.Bool.Decides.{nat_tests}
use Rattle.meta_base.specs.declared.ids.Delivery.{Delivery}
use Rattle.net_graph.specs.Nets.{PureArc, PureNet, IsNet, IsArcOf}
use Rattle.net_graph.specs.NetLaws.{all_weaker}
use Rattle.node_core.specs.Kinds.{speaker}
use Rattle.node_core.specs.Machine.{Machine, AreUnbegun, Start, Replay, Drained}
use Rattle.rest_laws.specs.Ways.{total, over_arcs}
use Rattle.rest_laws.specs.WayLaws.{total_more, total_plus}
use Rattle.rest_laws.specs.Reach.{taken_on}
use Rattle.flood_node.specs.Cards.{PureCard, PureFlooded}
use Rattle.flood_node.specs.Node.{FloodState, has_card, flooding}
use Rattle.flood_node.specs.Reach.{Reach, reaches, count_nodes, cards_sent}
use Rattle.flood_node.specs.Knowing.{IsReachedCard, IsFlood}
use Rattle.flood_node.specs.Truth.{start_floods, replays_flood, drained_holds, head_in}
use Rattle.flood_node.specs.Counting.{by_heads, at_head, all_taken, IsCounted, counted_along, start_counted, card_count, total_alike}
use Rattle.flood_node.specs.Reaching.{sound, complete}

total_more_within : (n : ℕ) (f g : ℕ → ℕ) → ((i : ℕ) → i < n → f i ≤ g i) → total n f ≤ total n g
total_more_within zero f g e = omega arith
total_more_within (suc n) f g e =
    let first = total_more_within n f g (λ i lt. e i (omega (arith, lt))) in
    let last = e n (omega arith) in
    omega (arith, first, last)

total_some : (n i : ℕ) (f : ℕ → ℕ) → i < n → f i ≤ total n f
total_some zero i f l = absurd (omega (arith, l))
total_some (suc n) i f l = by (i == n) refl (λ less. total_some n i f less)
  where
    by : (b : Bool) → (i == n) ≡ b → (i < n → f i ≤ total n f) → f i ≤ total n f + f n
    by true e rest = let same : f i ≡ f n = ap f (eqb-true i n e) in omega (arith, same)
    by false e rest = let less : i < n = grind (arith, nat_tests) in let more = rest less in omega (arith, more)

one_if : (b c : Bool) → (b ≡ true → c ≡ true) → cond b 1 0 ≤ cond c 1 0
one_if true c h = rw (h refl) (omega arith)
one_if false true h = omega arith
one_if false false h = omega arith

arc_at_place : (arcs : List PureArc) (b : ℕ) → b < length arcs → (a : PureArc) × (slice_get arcs b ≡ Some a)
arc_at_place [] b l = absurd (omega (arith, l))
arc_at_place (a ∷ arcs) zero l = (a, refl)
arc_at_place (a ∷ arcs) (suc b) l = arc_at_place arcs b (omega (arith, l))

-- a card that is held is a true one of a node that is reached
pub held_reached : (net : PureNet) (i : ℕ) (cards : List PureCard) → AllByRecursion (IsReachedCard net i) cards → (j : ℕ) → has_card cards j ≡ true → (j < length net.nodes) × Reach net i j
held_reached net i [] all j e = absurd (cc)
held_reached net i (c ∷ cards) all j e = by (c.node == j) refl e (held_reached net i cards all.1 j)
  where
    by : (b : Bool) → (c.node == j) ≡ b → (b || has_card cards j) ≡ true → (has_card cards j ≡ true → (j < length net.nodes) × Reach net i j) → (j < length net.nodes) × Reach net i j
    by true h f rest = subst (λ z. (z < length net.nodes) × Reach net i z) (eqb-true c.node j h) (all.0.is_true.node_in, all.0.is_reached)
    by false h f rest = rest f

module _ (net : PureNet) (n : IsNet net) (nodes : List FloodState) (u : AreUnbegun flooding net 0 nodes) (journal : List Delivery) (c : Machine FloodState PureFlooded) (e : Replay flooding net nodes journal ≡ Some c) where
  flood : IsFlood net c
  flood = replays_flood net n nodes journal c u e

  abbrev reached : ℕ → ℕ
  reached j = count_nodes net (reaches net j)

  counted : IsCounted net n c (λ b. 0 + taken_on b journal)
  counted = counted_along net n journal (Start flooding nodes) c (λ b. 0) (start_floods net n nodes u) (start_counted net n nodes u) e

  -- what was taken on an arc or waits there is what its speaker holds
  held_count : (b j : ℕ) (t : FloodState) → speaker net b ≡ Some j → c.node j ≡ Some t → taken_on b journal + length (c.link b) ≡ count_nodes net (has_card t.cards)
  held_count b j t sp there =
      let all = counted b j t sp there in
      let cards = card_count net n t.cards (flood.apart j t there) (all_weaker (IsReachedCard net j) (λ (x : PureCard). x.node < length net.nodes) t.cards (λ x r. r.is_true.node_in) (flood.held j t there)) in
      omega (arith, all, cards)

  at_most : (b : ℕ) → b < length net.arcs → taken_on b journal + length (c.link b) ≤ at_head reached net.arcs b
  at_most b l =
      let arc = arc_at_place net.arcs b l in
      let sp : speaker net b ≡ Some arc.0.head = ap (option_map (λ (a : PureArc). a.head)) arc.1 in
      let within = head_in net n b arc.0.head sp in
      let node = flood.running.there arc.0.head within in
      let held = held_count b arc.0.head node.0 sp node.1 in
      let few : count_nodes net (has_card node.0.cards) ≤ reached arc.0.head =
      total_more (length net.nodes) (λ j. cond (has_card node.0.cards j) 1 0) (λ j. cond (reaches net arc.0.head j) 1 0)
      (λ j. one_if (has_card node.0.cards j) (reaches net arc.0.head j)
      (λ h. let r = held_reached net arc.0.head node.0.cards (flood.held arc.0.head node.0 node.1) j h in complete net n j r.0 arc.0.head within r.1)) in
      let head : at_head reached net.arcs b ≡ reached arc.0.head = ap (λ o. option_map_or (λ (a : PureArc). reached a.head) o 0) arc.1 in
      omega (arith, held, few, head)

  all_heads : over_arcs net (at_head reached net.arcs) ≡ cards_sent net
  all_heads = by_heads (length net.nodes) reached net.arcs (all_weaker (IsArcOf net.alg (length net.nodes)) (λ (a : PureArc). a.head < length net.nodes) net.arcs (λ a h. h.head_in) n.arcs_in)

  -- so deliveries and messages that wait are no more
  pub deliveries_at_most : length journal + over_arcs net (λ b. length (c.link b)) ≤ cards_sent net
  deliveries_at_most =
      let made = all_taken net journal (Start flooding nodes) c e in
      let sums = total_plus (length net.arcs) (λ b. taken_on b journal) (λ b. length (c.link b)) in
      let each = total_more_within (length net.arcs) (λ b. taken_on b journal + length (c.link b)) (at_head reached net.arcs) at_most in
      let all = all_heads in
      omega (arith, made, sums, each, all)

  drained_at : Drained c → (b : ℕ) → b < length net.arcs → taken_on b journal ≡ at_head reached net.arcs b
  drained_at drained b l =
      let arc = arc_at_place net.arcs b l in
      let sp : speaker net b ≡ Some arc.0.head = ap (option_map (λ (a : PureArc). a.head)) arc.1 in
      let within = head_in net n b arc.0.head sp in
      let node = flood.running.there arc.0.head within in
      let held = held_count b arc.0.head node.0 sp node.1 in
      let few = at_most b l in
      let head : at_head reached net.arcs b ≡ reached arc.0.head = ap (λ o. option_map_or (λ (a : PureArc). reached a.head) o 0) arc.1 in
      let none : length (c.link b) ≡ 0 = ap length (drained b) in
      let many : reached arc.0.head ≤ count_nodes net (has_card node.0.cards) =
      total_more (length net.nodes) (λ j. cond (reaches net arc.0.head j) 1 0) (λ j. cond (has_card node.0.cards j) 1 0)
      (λ j. one_if (reaches net arc.0.head j) (has_card node.0.cards j)
      (λ h. let r = sound net (length net.nodes) arc.0.head j h in drained_holds net n c flood drained r.0 arc.0.head j node.0 node.1 r.1)) in
      omega (arith, held, few, head, none, many)

  -- and where none waits there are exactly so many
  pub drained_deliveries : Drained c → length journal ≡ cards_sent net
  drained_deliveries drained =
      let made = all_taken net journal (Start flooding nodes) c e in
      let each = total_alike (length net.arcs) (λ b. taken_on b journal) (at_head reached net.arcs) (drained_at drained) in
      let all = all_heads in
      omega (arith, made, each, all)

  -- an arc on which a message waits, or none
  some_waits : (m : ℕ) → ((b : ℕ) → b < m → c.link b ≡ []) ⊎ ((b : ℕ) × (b < m) × (1 ≤ length (c.link b)))
  some_waits zero = inl (λ b l. absurd (omega (arith, l)))
  some_waits (suc m) = by (some_waits m) (c.link m) refl
    where
      by : ((b : ℕ) → b < m → c.link b ≡ []) ⊎ ((b : ℕ) × (b < m) × (1 ≤ length (c.link b))) → (l : List PureFlooded) → c.link m ≡ l
          → ((b : ℕ) → b < suc m → c.link b ≡ []) ⊎ ((b : ℕ) × (b < suc m) × (1 ≤ length (c.link b)))
      by (inr one) l h = let less = one.1 in inr (one.0, omega (arith, less), one.2)
      by (inl none) [] h = inl (λ b l. at b l (b == m) refl)
        where
          at : (b : ℕ) → b < suc m → (t : Bool) → (b == m) ≡ t → c.link b ≡ []
          at b l true g = ap c.link (eqb-true b m g) ∙ h
          at b l false g = none b (grind (arith, nat_tests))
      by (inl none) (x ∷ l) h = let some : 1 ≤ length (c.link m) = rw h (omega arith) in inr (m, omega arith, some)

  -- a replay that isn't drained has fewer
  pub fewer_deliveries : ¬ Drained c → length journal < cards_sent net
  fewer_deliveries not = by (some_waits (length net.arcs))
    where
      by : ((b : ℕ) → b < length net.arcs → c.link b ≡ []) ⊎ ((b : ℕ) × (b < length net.arcs) × (1 ≤ length (c.link b))) → length journal < cards_sent net
      by (inr one) =
          let most = deliveries_at_most in
          let some = total_some (length net.arcs) one.0 (λ b. length (c.link b)) one.1 in
          let here = one.2 in
          omega (arith, most, some, here)
      by (inl none) = absurd (not (λ b. at b (nat_lt b (length net.arcs)) refl))
        where
          at : (b : ℕ) → (t : Bool) → nat_lt b (length net.arcs) ≡ t → c.link b ≡ []
          at b true h = none b (grind (arith, nat_tests))
          at b false h = flood.running.on_arcs b (grind (arith, nat_tests))
