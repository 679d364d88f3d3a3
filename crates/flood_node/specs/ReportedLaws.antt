-- The network that a node heard of is a network, and a part of the whole one. Lemmas, so that proofs of other crates
-- may cite them.
use Rattle.std.proofs.Common.{◌≡◌, ℕ, ◌+◌, ◌≤◌, List, [], ◌∷◌, Bool, true, false, length, filter, cond, Option, None, refl, sym, ap, ◌∙◌, arith}
use Rattle.std.specs.Prelude.{option_map}
use Rattle.std.specs.List.{AllByRecursion, find}
use Rattle.std.proofs.lemmas.Bool.Decides.{nat_tests}
use Rattle.alg_model.specs.Expressions.{PureLabel, PureValue}
use Rattle.net_graph.specs.Changes.{numbered_from}
use Rattle.net_graph.specs.ChangeLaws.{length-numbered_from}
use Rattle.net_graph.specs.Nets.{PureArc, PureOrigin, PureNet, IsNet, IsArcOf, IsOriginOf, AreDistinct, AreNumbered, joins_same, stands_same, is_arc_between, is_origin_at}
use Rattle.net_graph.specs.NetLaws.{all_passed, other_arcs_are_a_net}
use Rattle.net_graph.specs.Tables.{PureRow, BestFirst}
use Rattle.flood_node.specs.Reported.{Reported}
use Rattle.flood_node.specs.Partial.{IsPart, IsClosed, rows_known}
use Rattle.flood_node.specs.Parts.{best_in_part}

distinct_passed : {X : Type 0} (same : X → X → Bool) (p : X → Bool) (xs : List X) → AreDistinct same xs → AreDistinct same (filter p xs)
distinct_passed same p [] d = tt
distinct_passed {X} same p (x ∷ xs) d = by (p x) (distinct_passed same p xs d.1)
  where
    by : (b : Bool) → AreDistinct same (filter p xs) → AreDistinct same (cond b (x ∷ filter p xs) (filter p xs))
    by true more = (all_passed (λ y. same x y ≡ false) p xs d.0, more)
    by false more = more

fewer_passed : {X : Type 0} (p : X → Bool) (xs : List X) → length (filter p xs) ≤ length xs
fewer_passed p [] = omega arith
fewer_passed {X} p (x ∷ xs) = by (p x) (fewer_passed p xs)
  where
    by : (b : Bool) → length (filter p xs) ≤ length xs → length (cond b (x ∷ filter p xs) (filter p xs)) ≤ length (x ∷ xs)
    by true more = omega (arith, more)
    by false more = omega (arith, more)

-- what doesn't look at the numbers holds of the arcs with other numbers
all_renumbered : (P : PureArc → Type 0) (n : ℕ) (arcs : List PureArc) → ((a : PureArc) (i : ℕ) → P a → P (record a { id = i })) → AllByRecursion P arcs → AllByRecursion P (numbered_from n arcs)
all_renumbered P n [] k a = tt
all_renumbered P n (x ∷ arcs) k a = (k x n a.0, all_renumbered P (n + 1) arcs k a.1)

distinct_renumbered : (n : ℕ) (arcs : List PureArc) → AreDistinct joins_same arcs → AreDistinct joins_same (numbered_from n arcs)
distinct_renumbered n [] d = tt
distinct_renumbered n (x ∷ arcs) d = (all_renumbered (λ y. joins_same x y ≡ false) (n + 1) arcs (λ a i e. e) d.0, distinct_renumbered (n + 1) arcs d.1)

renumbered : (n : ℕ) (arcs : List PureArc) → AreNumbered n (numbered_from n arcs)
renumbered n [] = tt
renumbered n (x ∷ arcs) = (refl, renumbered (n + 1) arcs)

module _ (net : PureNet) (known : ℕ → Bool) where
  abbrev known_arcs : List PureArc
  known_arcs = filter (λ (a : PureArc). known a.tail) net.arcs

  pub reported_is_net : IsNet net → IsNet (Reported net known)
  reported_is_net n =
      let count = length-numbered_from 0 known_arcs in
      let fewer = fewer_passed (λ (a : PureArc). known a.tail) net.arcs in
      let room = n.arc_room in
      let arcs = other_arcs_are_a_net net (numbered_from 0 known_arcs) n (omega (arith, count, fewer, room))
      (all_renumbered (IsArcOf net.alg (length net.nodes)) 0 known_arcs
      (λ a i h. record { tail_in = h.tail_in; head_in = h.head_in; apart = h.apart; label_in = h.label_in; bound = h.bound })
      (all_passed (IsArcOf net.alg (length net.nodes)) (λ (a : PureArc). known a.tail) net.arcs n.arcs_in))
      (distinct_renumbered 0 known_arcs (distinct_passed joins_same (λ (a : PureArc). known a.tail) net.arcs n.arc_apart))
      (renumbered 0 known_arcs) in
      record {
        is_alg = n.is_alg;
        node_room = n.node_room;
        arc_room = arcs.arc_room;
        dest_room = n.dest_room;
        node_names = n.node_names;
        dest_names = n.dest_names;
        node_apart = n.node_apart;
        dest_apart = n.dest_apart;
        arcs_in = arcs.arcs_in;
        arc_apart = arcs.arc_apart;
        arc_ids = arcs.arc_ids;
        origins_in = all_passed (IsOriginOf net.alg (length net.nodes) (length net.dests)) (λ (o : PureOrigin). known o.node) net.origins n.origins_in;
        origin_apart = distinct_passed stands_same (λ (o : PureOrigin). known o.node) net.origins n.origin_apart;
      }

  -- what is found among arcs, whatever their numbers
  abbrev label_among : ℕ → ℕ → List PureArc → Option PureLabel
  label_among i j arcs = option_map (λ (a : PureArc). a.label) (find (is_arc_between i j) arcs)

  label_numbered : (i j n : ℕ) (arcs : List PureArc) → label_among i j (numbered_from n arcs) ≡ label_among i j arcs
  label_numbered i j n [] = refl
  label_numbered i j n (a ∷ arcs) = by (is_arc_between i j a) refl (label_numbered i j (n + 1) arcs)
    where
      by : (b : Bool) → is_arc_between i j a ≡ b → label_among i j (numbered_from (n + 1) arcs) ≡ label_among i j arcs → label_among i j (numbered_from n (a ∷ arcs)) ≡ label_among i j (a ∷ arcs)
      by true e r = rw e refl
      by false e r = rw e r

  label_known : (i j : ℕ) (arcs : List PureArc) → known i ≡ true → label_among i j (filter (λ (a : PureArc). known a.tail) arcs) ≡ label_among i j arcs
  label_known i j [] k = refl
  label_known i j (a ∷ arcs) k = by (known a.tail) refl (is_arc_between i j a) refl (label_known i j arcs k)
    where
      by : (b : Bool) → known a.tail ≡ b → (c : Bool) → is_arc_between i j a ≡ c → label_among i j (filter (λ (x : PureArc). known x.tail) arcs) ≡ label_among i j arcs
          → label_among i j (filter (λ (x : PureArc). known x.tail) (a ∷ arcs)) ≡ label_among i j (a ∷ arcs)
      by true h true e r = rw (h, e) refl
      by true h false e r = rw (h, e) r
      by false h true e r =
          let tail : a.tail ≡ i = grind (arith, nat_tests) in
          absurd (let clash : true ≡ false = sym k ∙ (ap known (sym tail) ∙ h) in cc)
      by false h false e r = rw (h, e) r

  label_unknown : (i j : ℕ) (arcs : List PureArc) → known i ≡ false → label_among i j (filter (λ (a : PureArc). known a.tail) arcs) ≡ None
  label_unknown i j [] k = refl
  label_unknown i j (a ∷ arcs) k = by (known a.tail) refl (is_arc_between i j a) refl (label_unknown i j arcs k)
    where
      by : (b : Bool) → known a.tail ≡ b → (c : Bool) → is_arc_between i j a ≡ c → label_among i j (filter (λ (x : PureArc). known x.tail) arcs) ≡ None
          → label_among i j (filter (λ (x : PureArc). known x.tail) (a ∷ arcs)) ≡ None
      by true h true e r =
          let tail : a.tail ≡ i = grind (arith, nat_tests) in
          absurd (let clash : false ≡ true = sym k ∙ (ap known (sym tail) ∙ h) in cc)
      by true h false e r = rw (h, e) r
      by false h c e r = rw h r

  abbrev value_among : ℕ → ℕ → List PureOrigin → Option PureValue
  value_among dest i origins = option_map (λ (o : PureOrigin). o.value) (find (is_origin_at dest i) origins)

  value_known : (dest i : ℕ) (origins : List PureOrigin) → known i ≡ true → value_among dest i (filter (λ (o : PureOrigin). known o.node) origins) ≡ value_among dest i origins
  value_known dest i [] k = refl
  value_known dest i (o ∷ origins) k = by (known o.node) refl (is_origin_at dest i o) refl (value_known dest i origins k)
    where
      by : (b : Bool) → known o.node ≡ b → (c : Bool) → is_origin_at dest i o ≡ c → value_among dest i (filter (λ (x : PureOrigin). known x.node) origins) ≡ value_among dest i origins
          → value_among dest i (filter (λ (x : PureOrigin). known x.node) (o ∷ origins)) ≡ value_among dest i (o ∷ origins)
      by true h true e r = rw (h, e) refl
      by true h false e r = rw (h, e) r
      by false h true e r =
          let node : o.node ≡ i = grind (arith, nat_tests) in
          absurd (let clash : true ≡ false = sym k ∙ (ap known (sym node) ∙ h) in cc)
      by false h false e r = rw (h, e) r

  value_unknown : (dest i : ℕ) (origins : List PureOrigin) → known i ≡ false → value_among dest i (filter (λ (o : PureOrigin). known o.node) origins) ≡ None
  value_unknown dest i [] k = refl
  value_unknown dest i (o ∷ origins) k = by (known o.node) refl (is_origin_at dest i o) refl (value_unknown dest i origins k)
    where
      by : (b : Bool) → known o.node ≡ b → (c : Bool) → is_origin_at dest i o ≡ c → value_among dest i (filter (λ (x : PureOrigin). known x.node) origins) ≡ None
          → value_among dest i (filter (λ (x : PureOrigin). known x.node) (o ∷ origins)) ≡ None
      by true h true e r =
          let node : o.node ≡ i = grind (arith, nat_tests) in
          absurd (let clash : false ≡ true = sym k ∙ (ap known (sym node) ∙ h) in cc)
      by true h false e r = rw (h, e) r
      by false h c e r = rw h r

  -- so what a node heard is a part of the network
  pub reported_is_part : IsPart net (Reported net known) known
  reported_is_part =
      record {
        alg = refl;
        count = refl;
        origins = λ dest i k. value_known dest i net.origins k;
        no_origins = λ dest i k. value_unknown dest i net.origins k;
        labels = λ i j k. label_numbered i j 0 known_arcs ∙ label_known i j net.arcs k;
        no_labels = λ i j k. label_numbered i j 0 known_arcs ∙ label_unknown i j net.arcs k;
      }

  -- a table that is made best first on the whole, and its rows of known nodes where no arc leaves them
  pub reported_table : IsNet net → IsClosed net known → (dest : ℕ) (table : List PureRow) → BestFirst net dest table → BestFirst (Reported net known) dest (rows_known known 0 table)
  reported_table n closed dest table b = best_in_part net (Reported net known) known reported_is_part dest table n closed b
