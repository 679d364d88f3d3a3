-- The nodes of the pair take turns: after two turns both have changed their routes, and after four they are where they
-- were, but for clocks.
use Rattle.std.proofs.Common.{◌≡◌, ℕ, zero, suc, ◌+◌, ◌-◌, ◌<◌, inl, inr, List, [], ◌∷◌, ◌++◌, Bool, true, not, Some, length, map, refl, sym, subst, ap, ◌∙◌, arith}
use Rattle.std.specs.Prelude.{filter, max}
use Rattle.std.specs.List.{AllByRecursion, range_with_len}
use Rattle.meta_base.specs.declared.ids.Delivery.{Delivery}
use Rattle.alg_model.specs.Expressions.{PureAlg, PureLabel, PureValue}
use Rattle.alg_model.specs.Formation.{IsAlg}
use Rattle.net_graph.specs.Nets.{PureNet, arcs_to}
use Rattle.net_graph.specs.Routes.{PureRoute}
use Rattle.node_core.specs.Kinds.{listener, on_arc}
use Rattle.node_core.specs.Machine.{Machine, ComesBefore, Drained, Ordered, Start, clock_after, deliver_at, replay_from, step_of, stepped}
use Rattle.node_core.specs.MachineLaws.{deliver_by_clock, front_is}
use Rattle.node_core.specs.Running.{entry_at}
use Rattle.path_vector.specs.Node.{PvState, PureUpdate, Begin, is_news, new_node, path_vector, reported_on}
use Rattle.settled_laws.specs.Pair.{pair_net, Fits, Improves}
use Rattle.pair_runs.specs.Unfinished.{HasUnfinishedRun}
use Rattle.pair_runs.specs.ImprovedValues.{AreTested, are_tested}
use Rattle.pair_runs.proofs.Choices.{route_of, p_alone, q_alone}
use Rattle.pair_runs.proofs.Turns.{IsEnd, Takes, update_of, p_takes, q_takes}

-- deliveries on the two arcs in turns: on arc a first, at the clock t, and each two turns at one clock
abbrev in_turns : ℕ → ℕ → ℕ → List Delivery
in_turns a t zero = []
in_turns a t (suc count) = entry_at t a ∷ in_turns (1 - a) (t + a) count

turns_count : (a t count : ℕ) → length (in_turns a t count) ≡ count
turns_count a t zero = refl
turns_count a t (suc count) = let rest = turns_count (1 - a) (t + a) count in omega (arith, rest)

module _ (net : PureNet) where
  all_later : (e : Delivery) (a t count : ℕ) → e.clock < t → AllByRecursion (ComesBefore net e) (in_turns a t count)
  all_later e a t zero l = tt
  all_later e a t (suc count) l = (inl l, all_later e (1 - a) (t + a) count (omega (arith, l)))

  module _ (first : listener net 0 ≡ Some 0) (second : listener net 1 ≡ Some 1) where
    later_there : (t count : ℕ) → AllByRecursion (ComesBefore net (entry_at t 0)) (in_turns 1 t count)
    later_there t zero = tt
    later_there t (suc count) = (inr (refl, (0, 1, first, second, omega arith)), all_later (entry_at t 0) 0 (t + 1) count (omega arith))

    -- from p's turn, and from q's
    are_ordered : (t count : ℕ) → Ordered net (in_turns 0 t count) × Ordered net (in_turns 1 t count)
    are_ordered t zero = (tt, tt)
    are_ordered t (suc count) =
        let same : t ≡ t + 0 = omega arith in (
          subst (λ n. AllByRecursion (ComesBefore net (entry_at t 0)) (in_turns 1 n count) × Ordered net (in_turns 1 n count)) same (later_there t count, (are_ordered t count).1),
          (all_later (entry_at t 1) 0 (t + 1) count (omega arith), (are_ordered (t + 1) count).0),
        )

-- a message waits in front of the rest on arc a, for node i, which is s, and gives it the clock
record Waits (net : PureNet) (c : Machine PvState PureUpdate) (a i : ℕ) (s : PvState) (u : PureUpdate) (rest : List PureUpdate) (t : ℕ) : Type 0 where
  pub listens : listener net a ≡ Some i
  pub there : c.node i ≡ Some s
  pub front : c.link a ≡ u ∷ rest
  pub clock_is : clock_after path_vector c i u ≡ t

delivers : (net : PureNet) (c : Machine PvState PureUpdate) (a i : ℕ) (s : PvState) (u : PureUpdate) (rest : List PureUpdate) (t : ℕ) → Waits net c a i s u rest t
    → deliver_at path_vector net c (entry_at t a) ≡ Some (stepped path_vector c a i s u rest)
delivers net c a i s u rest t h =
    deliver_by_clock path_vector net c (entry_at t a)
    (front_is path_vector net c a t (record { number = i; message = u; rest = rest; listens = h.listens; front = h.front; clock_is = sym h.clock_is }))
    ∙ rw (h.listens, h.front, h.there) refl

module _ (alg : PureAlg) (l : PureLabel) (v w : PureValue) where
  abbrev net : PureNet
  net = pair_net alg l v

  abbrev p_route : Bool → PureRoute
  p_route x = route_of v w 0 1 x

  abbrev q_route : Bool → PureRoute
  q_route x = route_of v w 1 0 x

  -- both have their own routes, or both have the one by the other; each has sent it to the other
  record IsRound (x : Bool) (t : ℕ) (c : Machine PvState PureUpdate) : Type 0 where
    pub p : PvState
    pub q : PvState
    pub p_there : c.node 0 ≡ Some p
    pub q_there : c.node 1 ≡ Some q
    pub p_is : IsEnd net p 0 (p_route x)
    pub q_is : IsEnd net q 1 (q_route x)
    pub p_clock : c.clock 0 ≡ t
    pub q_clock : c.clock 1 ≡ t
    pub to_p : c.link 0 ≡ update_of (q_route x) t ∷ []
    pub to_q : c.link 1 ≡ update_of (p_route x) t ∷ []

  -- p has changed its route, and sent the new one to q
  record IsHalf (x : Bool) (t : ℕ) (c : Machine PvState PureUpdate) : Type 0 where
    pub p : PvState
    pub q : PvState
    pub p_there : c.node 0 ≡ Some p
    pub q_there : c.node 1 ≡ Some q
    pub p_is : IsEnd net p 0 (p_route (not x))
    pub q_is : IsEnd net q 1 (q_route x)
    pub p_clock : c.clock 0 ≡ t + 1
    pub q_clock : c.clock 1 ≡ t
    pub to_p : c.link 0 ≡ []
    pub to_q : c.link 1 ≡ update_of (p_route x) t ∷ update_of (p_route (not x)) (t + 1) ∷ []

  next_clock : (n t : ℕ) → n ≡ t → max n t + 1 ≡ t + 1
  next_clock n t e = grind arith

  module _ (tested : AreTested alg l v w) where
    p_turn : (x : Bool) (t : ℕ) (c : Machine PvState PureUpdate) → IsRound x t c → (d : Machine PvState PureUpdate) × (deliver_at path_vector net c (entry_at (t + 1) 0) ≡ Some d) × IsHalf x t d
    p_turn x t c r = (d, delivers net c 0 0 r.p news [] (t + 1) waits, half)
      where
        news : PureUpdate
        news = update_of (q_route x) t

        d : Machine PvState PureUpdate
        d = stepped path_vector c 0 0 r.p news []

        clock : clock_after path_vector c 0 news ≡ t + 1
        clock = next_clock (c.clock 0) t r.p_clock

        waits : Waits net c 0 0 r.p news [] (t + 1)
        waits = record { listens = refl; there = r.p_there; front = r.to_p; clock_is = clock }

        takes : Takes net r.p 0 0 1 news (clock_after path_vector c 0 news) (p_route (not x))
        takes = p_takes alg l v w tested r.p x t (clock_after path_vector c 0 news) r.p_is

        half : IsHalf x t d
        half = record {
          p = (step_of path_vector c 0 0 r.p news).0;
          q = r.q;
          p_there = refl;
          q_there = r.q_there;
          p_is = takes.is_end;
          q_is = r.q_is;
          p_clock = clock;
          q_clock = r.q_clock;
          to_p = ap (on_arc 0) takes.puts;
          to_q = ap (λ us. us ++ on_arc 1 (step_of path_vector c 0 0 r.p news).1) r.to_q ∙ ap (λ ps. update_of (p_route x) t ∷ on_arc 1 ps) takes.puts ∙ ap (λ n. update_of (p_route x) t ∷ update_of (p_route (not x)) n ∷ []) clock;
        }

    q_turn : (x : Bool) (t : ℕ) (c : Machine PvState PureUpdate) → IsHalf x t c → (d : Machine PvState PureUpdate) × (deliver_at path_vector net c (entry_at (t + 1) 1) ≡ Some d) × IsRound (not x) (t + 1) d
    q_turn x t c r = (d, delivers net c 1 1 r.q news rest (t + 1) waits, round)
      where
        news : PureUpdate
        news = update_of (p_route x) t

        rest : List PureUpdate
        rest = update_of (p_route (not x)) (t + 1) ∷ []

        d : Machine PvState PureUpdate
        d = stepped path_vector c 1 1 r.q news rest

        clock : clock_after path_vector c 1 news ≡ t + 1
        clock = next_clock (c.clock 1) t r.q_clock

        waits : Waits net c 1 1 r.q news rest (t + 1)
        waits = record { listens = refl; there = r.q_there; front = r.to_q; clock_is = clock }

        takes : Takes net r.q 1 1 0 news (clock_after path_vector c 1 news) (q_route (not x))
        takes = q_takes alg l v w tested r.q x t (clock_after path_vector c 1 news) r.q_is

        round : IsRound (not x) (t + 1) d
        round = record {
          p = r.p;
          q = (step_of path_vector c 1 1 r.q news).0;
          p_there = r.p_there;
          q_there = refl;
          p_is = r.p_is;
          q_is = takes.is_end;
          p_clock = r.p_clock;
          q_clock = clock;
          to_p = ap (λ us. us ++ on_arc 0 (step_of path_vector c 1 1 r.q news).1) r.to_p ∙ ap (on_arc 0) takes.puts ∙ ap (λ n. update_of (q_route (not x)) n ∷ []) clock;
          to_q = ap (λ ps. rest ++ on_arc 1 ps) takes.puts;
        }

    -- the nodes begin with their own routes
    p_begun : (Begin (new_node net 0)).1 ≡ (1, update_of (p_route true) 0) ∷ []
    p_begun = ap (λ z. reported_on (filter (is_news (new_node net 0) z 0) (arcs_to net 0)) (record { dest = 0; route = z; stamp = 0 }) ++ []) (p_alone alg l v w tested (new_node net 0).heard refl)

    q_begun : (Begin (new_node net 1)).1 ≡ (0, update_of (q_route true) 0) ∷ []
    q_begun = ap (λ z. reported_on (filter (is_news (new_node net 1) z 0) (arcs_to net 1)) (record { dest = 0; route = z; stamp = 0 }) ++ []) (q_alone alg l v w tested (new_node net 1).heard refl)

    starts : IsRound true 0 (Start path_vector (map (new_node net) (range_with_len 0 (length net.nodes))))
    starts = record {
      p = (Begin (new_node net 0)).0;
      q = (Begin (new_node net 1)).0;
      p_there = refl;
      q_there = refl;
      p_is = record { net_is = refl; number_is = refl; row_is = p_alone alg l v w tested (new_node net 0).heard refl };
      q_is = record { net_is = refl; number_is = refl; row_is = q_alone alg l v w tested (new_node net 1).heard refl };
      p_clock = refl;
      q_clock = refl;
      to_p = ap (λ ps. on_arc 0 (ps ++ ((Begin (new_node net 1)).1 ++ []))) p_begun ∙ ap (λ ps. on_arc 0 ((1, update_of (p_route true) 0) ∷ (ps ++ []))) q_begun;
      to_q = ap (λ ps. on_arc 1 (ps ++ ((Begin (new_node net 1)).1 ++ []))) p_begun ∙ ap (λ ps. on_arc 1 ((1, update_of (p_route true) 0) ∷ (ps ++ []))) q_begun;
    }

    -- any number of turns, from p's or from q's
    record Goes (c : Machine PvState PureUpdate) (a t count : ℕ) : Type 0 where
      pub end : Machine PvState PureUpdate
      pub replays : replay_from path_vector net c (in_turns a t count) ≡ Some end
      pub waits : ¬ Drained end

    not_empty : (c : Machine PvState PureUpdate) (a : ℕ) (u : PureUpdate) (rest : List PureUpdate) → c.link a ≡ u ∷ rest → ¬ Drained c
    not_empty c a u rest e drained = let none : u ∷ rest ≡ [] = sym e ∙ drained a in absurd (cc)

    more : (c d : Machine PvState PureUpdate) (a t count : ℕ) → deliver_at path_vector net c (entry_at t a) ≡ Some d → Goes d (1 - a) (t + a) count → Goes c a t (suc count)
    more c d a t count e g = record { end = g.end; replays = rw e g.replays; waits = g.waits }

    goes : (count : ℕ) (x : Bool) (t : ℕ) (c : Machine PvState PureUpdate) → (IsRound x t c → Goes c 0 (t + 1) count) × (IsHalf x t c → Goes c 1 (t + 1) count)
    goes zero x t c = (
      λ r. record { end = c; replays = refl; waits = not_empty c 0 _ _ r.to_p },
      λ r. record { end = c; replays = refl; waits = not_empty c 1 _ _ r.to_q },
    )
    goes (suc count) x t c = (
      λ r.
          let turn = p_turn x t c r in
          let same : t + 1 ≡ t + 1 + 0 = omega arith in
          more c turn.0 0 (t + 1) count turn.1 (subst (λ n. Goes turn.0 1 n count) same ((goes count x t turn.0).1 turn.2)),
      λ r.
          let turn = q_turn x t c r in
          more c turn.0 1 (t + 1) count turn.1 ((goes count (not x) (t + 1) turn.0).0 turn.2),
    )

  -- so the new nodes have an unfinished run of each length
  pub never_rests : (count : ℕ) → IsAlg alg → Fits alg l v → Improves alg l v w → HasUnfinishedRun net count
  never_rests count a f g =
      let tested = are_tested alg l v w a f g in
      let run = (goes tested count true 0 (Start path_vector (map (new_node net) (range_with_len 0 (length net.nodes))))).0 (starts tested) in
      record {
        journal = in_turns 0 1 count;
        end = run.end;
        count_is = turns_count 0 1 count;
        ordered = (are_ordered net refl refl 1 count).0;
        replayed = run.replays;
        waits = run.waits;
      }
