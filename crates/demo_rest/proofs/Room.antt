-- Each arc of a generated network has room for its deliveries.
use Rattle.std.proofs.Common.{◌≡◌, ℕ, zero, suc, ◌+◌, ◌-◌, ◌*◌, ◌^◌, ◌≤◌, ◌⊎◌, inl, inr, Bool, true, false, ◌==◌, cond, List, [], ◌∷◌, Option, Some, None, length, map, slice_get, refl, sym, ap, ◌∙◌, arith}
use Rattle.std.specs.List.{AllByRecursion, range_with_len}
use Rattle.std.specs.Option.{option_map_or}
use Rattle.std.proofs.lemmas.Bool.{eqb-true}
use Rattle.std.proofs.lemmas.Bool.Decides.{nat_tests}
use Rattle.std.proofs.Math.Nat.{pow-succ'}
use Rattle.std.proofs.lemmas.Nat.{pow_pos}
use Rattle.net_graph.specs.Nets.{PureArc, PureNet, IsNet}
use Rattle.node_core.specs.Kinds.{speaker}
use Rattle.node_core.specs.Machine.{Start}
use Rattle.path_vector.specs.Items.{item_at, item_there, of_all}
use Rattle.path_vector.specs.Node.{new_node, path_vector}
use Rattle.rest_laws.specs.Ways.{over_arcs, passes_on}
use Rattle.rest_laws.specs.WayLaws.{total_more}
use Rattle.rest_laws.specs.Reach.{HasRoom}
use Rattle.net_gen.specs.declared.links.Link.{Link}
use Rattle.net_gen.specs.Generated.{AreDemoNodes, group, links_to}
use Rattle.net_gen.specs.Networks.{arcs_of, generated_net}
use Rattle.demo_rest.proofs.Groups.{taken_by_group, room_at, room_if, room_to, all_below, all_room, room_more, room_of_all, none_to, some_to}
use Rattle.demo_rest.proofs.Starts.{waits_of, begun_few}
use Rattle.demo_rest.proofs.Sums.{summed, total_listed, arcs_summed}

-- the speaker is the first node, or of the group before the listener's
abbrev FromBelow : ℕ → ℕ → Type 0
FromBelow listener speaker = (speaker ≡ 0) ⊎ ((1 ≤ speaker) × (group speaker + 1 ≡ group listener))

arcs_below : (id : ℕ) (links : List Link) → AllByRecursion (λ (l : Link). FromBelow l.listener l.speaker) links → AllByRecursion (λ (a : PureArc). FromBelow a.tail a.head) (arcs_of id links)
arcs_below id [] all = tt
arcs_below id (l ∷ links) all = (all.0, arcs_below (id + 1) links all.1)

-- there is room on an arc of the next group for what is taken by a node
next_room : (h : ℕ) → taken_by_group h ≤ 2 ^ (h + 1)
next_room zero = omega arith
next_room (suc h) =
    let other : (suc h == 0) ≡ false = grind (arith, nat_tests) in
    let next : 2 ^ (suc h + 1) ≡ 2 * 2 ^ suc h = ap (λ n. 2 ^ n) (let e : suc h + 1 ≡ suc (suc h) = omega arith in e) ∙ pow-succ' 2 (suc h) in
    rw (other, next) (omega arith)

-- and for what waits there at the start
enough : (j g : ℕ) → 1 ≤ j → group j + 1 ≡ g → waits_of j + taken_by_group (group j) ≤ 2 ^ g
enough j g some e = by (1 == j) refl
  where
    none : (0 == j) ≡ false
    none = grind (arith, nat_tests)

    by : (b : Bool) → (1 == j) ≡ b → waits_of j + taken_by_group (group j) ≤ 2 ^ g
    by true f =
        let same : 1 ≡ j = eqb-true 1 j f in
        let two : 2 ^ g ≡ 2 = ap (λ n. 2 ^ n) (sym e ∙ ap (λ i. group i + 1) (sym same)) in
        let one : waits_of j + taken_by_group (group j) ≡ 2 = ap (λ i. waits_of i + taken_by_group (group i)) (sym same) in
        omega (arith, two, one)
    by false f =
        let next = next_room (group j) in
        let room : 2 ^ (group j + 1) ≡ 2 ^ g = ap (λ n. 2 ^ n) e in
        rw (none, f) (omega (arith, next, room))

module _ (seed n : ℕ) (is_net : IsNet (generated_net seed n)) where
  abbrev net : PureNet
  net = generated_net seed n

  abbrev links : List Link
  links = (links_to seed (n - 1)).links

  -- the room of an arc
  abbrev pub most : ℕ → ℕ
  most a = option_map_or (λ (arc : PureArc). room_at arc.tail) (slice_get net.arcs a) 0

  -- the room of all arcs on which node j listens
  into : (b j : ℕ) → speaker net b ≡ Some j → over_arcs net (λ a. cond (passes_on net a b) (most a) 0) ≤ summed (λ (l : Link). room_if j l.listener) links
  into b j speaks =
      let places : over_arcs net (λ a. option_map_or (λ (arc : PureArc). room_if j arc.tail) (slice_get net.arcs a) 0) ≡ summed (λ (arc : PureArc). room_if j arc.tail) net.arcs =
      total_listed (λ (arc : PureArc). room_if j arc.tail) net.arcs in
      let listed = arcs_summed (room_if j) 0 links in
      let less = total_more (length net.arcs) (λ a. cond (passes_on net a b) (most a) 0) (λ a. option_map_or (λ (arc : PureArc). room_if j arc.tail) (slice_get net.arcs a) 0) each in
      omega (arith, places, listed, less)
    where
      each : (a : ℕ) → cond (passes_on net a b) (most a) 0 ≤ option_map_or (λ (arc : PureArc). room_if j arc.tail) (slice_get net.arcs a) 0
      each a = by (slice_get net.arcs a) refl
        where
          by : (o : Option PureArc) → slice_get net.arcs a ≡ o → cond (passes_on net a b) (most a) 0 ≤ option_map_or (λ (arc : PureArc). room_if j arc.tail) o 0
          by None e = rw e (omega arith)
          by (Some arc) e = rw (e, speaks) (omega arith)

  pub has_room : HasRoom net (Start path_vector (map (new_node net) (range_with_len 0 (length net.nodes)))) most
  has_room b lt = by (item_there net.arcs b lt)
    where
      by : (arc : PureArc) × (slice_get net.arcs b ≡ Some arc) → length ((Start path_vector (map (new_node net) (range_with_len 0 (length net.nodes)))).link b) + over_arcs net (λ a. cond (passes_on net a b) (most a) 0) ≤ most b
      by (arc, e) =
          let speaks : speaker net b ≡ Some arc.head = rw e refl in
          let waits = begun_few seed n is_net b arc.head speaks 0 (length net.nodes) in
          let sum = into b arc.head speaks in
          let here : most b ≡ 2 ^ group arc.tail = rw e refl in
          from (of_all (λ (a : PureArc). FromBelow a.tail a.head) net.arcs arc below (item_at net.arcs b arc e)) waits sum here
        where
          below : AllByRecursion (λ (a : PureArc). FromBelow a.tail a.head) net.arcs
          below = arcs_below 0 links (all_below (λ l. FromBelow l.listener l.speaker) (λ k l i. rw (i.listener_is) (i.below)) seed (n - 1))

          from : FromBelow arc.tail arc.head → length ((Start path_vector (map (new_node net) (range_with_len 0 (length net.nodes)))).link b) ≤ waits_of arc.head
              → over_arcs net (λ a. cond (passes_on net a b) (most a) 0) ≤ summed (λ (l : Link). room_if arc.head l.listener) links
              → most b ≡ 2 ^ group arc.tail
              → length ((Start path_vector (map (new_node net) (range_with_len 0 (length net.nodes)))).link b) + over_arcs net (λ a. cond (passes_on net a b) (most a) 0) ≤ most b
          from (inl first) waits sum here =
              let none = none_to arc.head seed (n - 1) (λ i some within. let other : (arc.head == i) ≡ false = grind (arith, nat_tests) in other) in
              let one : waits_of arc.head ≡ 1 = rw first refl in
              let some = pow_pos (group arc.tail) in
              omega (arith, waits, sum, here, none, one, some)
          from (inr later) waits sum here =
              let few = some_to arc.head seed (n - 1) in
              let fits = enough arc.head (group arc.tail) later.0 later.1 in
              omega (arith, waits, sum, here, few, fits)

  -- the room of all arcs
  pub all_most : AreDemoNodes n → over_arcs net most ≤ 6223
  all_most d =
      let places : over_arcs net most ≡ summed (λ (arc : PureArc). room_at arc.tail) net.arcs = total_listed (λ (arc : PureArc). room_at arc.tail) net.arcs in
      let listed = arcs_summed room_at 0 links in
      let all = all_room seed (n - 1) in
      let more = room_more (n - 1) (512 - n) in
      let end : (n - 1) + (512 - n) ≡ 511 = omega (arith, d.least, d.most) in
      let whole = ap room_to end ∙ room_of_all in
      omega (arith, places, listed, all, more, whole)
