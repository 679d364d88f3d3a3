-- Networks are small, and one with a node, an arc, a destination or an origin more meets the rules of a
-- network. Lemmas, so that proofs of other crates may cite them.
use Rattle.std.proofs.Common.{◌≡◌, ℕ, ◌+◌, ◌<◌, ◌≤◌, List, [], ◌∷◌, ◌++◌, Bool, true, false, not, ◌||◌, ◌&&◌, eqb, ltb, Some, None, length, cond, filter, find, position, slice_get, refl, sym, ap, ◌∙◌, arith}
use Rattle.std.proofs.lemmas.List.{length_push}
use Rattle.std.proofs.lemmas.List.Folds.{find_at}
use Rattle.std.proofs.lemmas.Option.{slice_get_past}
use Rattle.std.proofs.lemmas.Bool.Decides.{nat_tests}
use Rattle.std.proofs.lemmas.Slice.Eq.{bytes_eq-Decides}
use Rattle.std.specs.List.{list_any, prefix_len, AllByRecursion, position_or_len}
use Rattle.std.specs.Str.{bytes_eq}
use Rattle.alg_model.specs.declared.edition.Edition.{Edition}
use Rattle.alg_model.specs.declared.edition.Edition.TheVariants.{One, Two}
use Rattle.alg_model.specs.Expressions.{PureAlg, PureLabel, PureValue}
use Rattle.alg_model.specs.Numbers.{IsMost, limits_of}
use Rattle.net_graph.specs.Limits.{max_arcs, most_nodes, most_dests, max_nodes, max_dests}
use Rattle.net_graph.specs.Nets.{PureArc, PureOrigin, PureNet, IsNet, IsArcOf, IsOriginOf, AreDistinct, AreNumbered, joins_same, stands_same, is_name, number_of, has_arc, has_origin}
use Rattle.net_graph.specs.Lines.{with_node, with_arc, with_dest, with_origin_at}

pub all_push : {X : Type 0} (P : X → Type 0) (xs : List X) (x : X) → AllByRecursion P xs → P x → AllByRecursion P (xs ++ x ∷ [])
all_push P [] x a p = (p, tt)
all_push P (y ∷ xs) x a p = (a.0, all_push P xs x a.1 p)

pub all_weaker : {X : Type 0} (P Q : X → Type 0) (xs : List X) → ((x : X) → P x → Q x) → AllByRecursion P xs → AllByRecursion Q xs
all_weaker P Q [] f a = tt
all_weaker P Q (x ∷ xs) f a = (f x a.0, all_weaker P Q xs f a.1)

-- what holds of all holds of those that pass
pub all_passed : {X : Type 0} (P : X → Type 0) (p : X → Bool) (xs : List X) → AllByRecursion P xs → AllByRecursion P (filter p xs)
all_passed P p [] a = tt
all_passed {X} P p (x ∷ xs) a = by (p x) (all_passed P p xs a.1)
  where
    by : (b : Bool) → AllByRecursion P (filter p xs) → AllByRecursion P (cond b (x ∷ filter p xs) (filter p xs))
    by true more = (a.0, more)
    by false more = more

pub either_false : (a b : Bool) → (a || b) ≡ false → (a ≡ false) × (b ≡ false)
either_false true b e = absurd (cc)
either_false false b e = (refl, e)

none_same : {X : Type 0} (same : X → X → Bool) (xs : List X) (x : X) → list_any (λ y. same y x) xs ≡ false → AllByRecursion (λ y. same y x ≡ false) xs
none_same same [] x e = tt
none_same same (y ∷ xs) x e = let both = either_false (same y x) (list_any (λ z. same z x) xs) e in (both.0, none_same same xs x both.1)

distinct_more : {X : Type 0} (same : X → X → Bool) (xs : List X) (x : X) → AreDistinct same xs → AllByRecursion (λ y. same y x ≡ false) xs → AreDistinct same (xs ++ x ∷ [])
distinct_more same [] x d a = (tt, tt)
distinct_more same (y ∷ xs) x d a = (all_push (λ z. same y z ≡ false) xs x d.0 a.0, distinct_more same xs x d.1 a.1)

-- an item that is the same as none stays apart from them
distinct_push : {X : Type 0} (same : X → X → Bool) (xs : List X) (x : X) → AreDistinct same xs → list_any (λ y. same y x) xs ≡ false → AreDistinct same (xs ++ x ∷ [])
distinct_push same xs x d e = distinct_more same xs x d (none_same same xs x e)

numbered_push : (n : ℕ) (arcs : List PureArc) (a : PureArc) → AreNumbered n arcs → a.id ≡ n + length arcs → AreNumbered n (arcs ++ a ∷ [])
numbered_push n [] a r e = (omega arith, tt)
numbered_push n (b ∷ arcs) a r e = (r.0, numbered_push (n + 1) arcs a r.1 (omega arith))

alike : (a b : Bool) → (a ≡ true → b ≡ true) → (b ≡ true → a ≡ true) → a ≡ b
alike true b f g = sym (f refl)
alike false true f g = g refl
alike false false f g = refl

bytes_eq_turned : (m n : List ℕ) → bytes_eq m n ≡ bytes_eq n m
bytes_eq_turned m n = alike (bytes_eq m n) (bytes_eq n m)
    (λ t. (bytes_eq-Decides n m).1 (sym ((bytes_eq-Decides m n).0 t)))
    (λ t. (bytes_eq-Decides m n).1 (sym ((bytes_eq-Decides n m).0 t)))

turned_any : (names : List (List ℕ)) (name : List ℕ) → list_any (λ n. bytes_eq name n) names ≡ list_any (λ n. bytes_eq n name) names
turned_any [] name = refl
turned_any (n ∷ names) name = rw (bytes_eq_turned name n, turned_any names name) refl

-- where every item was passed over, none passes
none_in_front : {X : Type 0} (p : X → Bool) (xs : List X) → length xs ≤ prefix_len (λ x. not (p x)) xs → list_any p xs ≡ false
none_in_front p [] h = refl
none_in_front p (x ∷ xs) h = by (λ k. none_in_front p xs k) (p x) h
  where
    by : (length xs ≤ prefix_len (λ x. not (p x)) xs → list_any p xs ≡ false) → (b : Bool) → length (x ∷ xs) ≤ cond (not b) (1 + prefix_len (λ x. not (p x)) xs) 0 → (b || list_any p xs) ≡ false
    by more true k = absurd (omega arith)
    by more false k = more (omega arith)

past_end : (m n : ℕ) → cond (ltb m n) (Some m) None ≡ None → n ≤ m
past_end m n e = grind (arith, nat_tests)

pub none_passes : {X : Type 0} (p : X → Bool) (xs : List X) → position p xs ≡ None → list_any p xs ≡ false
none_passes p xs e = none_in_front p xs (past_end (prefix_len (λ x. not (p x)) xs) (length xs) e)

-- the first that passes stands at the first place that passes
pub found_at_place : {X : Type 0} (p : X → Bool) (xs : List X) (i : ℕ) → position p xs ≡ Some i → (find p xs ≡ slice_get xs i) × (i < length xs)
found_at_place p xs i e = by (prefix_len (λ x. not (p x)) xs) refl e
  where
    by : (m : ℕ) → prefix_len (λ x. not (p x)) xs ≡ m → cond (ltb m (length xs)) (Some m) None ≡ Some i → (find p xs ≡ slice_get xs i) × (i < length xs)
    by m f g = inside (ltb m (length xs)) refl g
      where
        inside : (b : Bool) → ltb m (length xs) ≡ b → cond b (Some m) None ≡ Some i → (find p xs ≡ slice_get xs i) × (i < length xs)
        inside true h k =
            let same : m ≡ i = cc in
            (find_at p xs ∙ ap (slice_get xs) (f ∙ same), let l : m < length xs = grind (arith, nat_tests) in omega (arith, l, same))
        inside false h k = absurd (cc)

pub nothing_at_place : {X : Type 0} (p : X → Bool) (xs : List X) → position p xs ≡ None → find p xs ≡ None
nothing_at_place p xs e = find_at p xs ∙ slice_get_past xs (prefix_len (λ x. not (p x)) xs) (past_end (prefix_len (λ x. not (p x)) xs) (length xs) e)

-- a new name differs from the others
name_apart : (names : List (List ℕ)) (name : List ℕ) → AreDistinct (λ m n. bytes_eq m n) names → number_of names name ≡ None → AreDistinct (λ m n. bytes_eq m n) (names ++ name ∷ [])
name_apart names name d e = distinct_push (λ m n. bytes_eq m n) names name d (sym (turned_any names name) ∙ none_passes (λ n. bytes_eq name n) names e)

more_nodes : (alg : PureAlg) (n : ℕ) (a : PureArc) → IsArcOf alg n a → IsArcOf alg (n + 1) a
more_nodes alg n a h = record { tail_in = omega (arith, h.tail_in); head_in = omega (arith, h.head_in); apart = h.apart; label_in = h.label_in; bound = h.bound }

more_places : (alg : PureAlg) (n d m e : ℕ) (o : PureOrigin) → n ≤ m → d ≤ e → IsOriginOf alg n d o → IsOriginOf alg m e o
more_places alg n d m e o p q h = record { node_in = omega (arith, h.node_in); dest_in = omega (arith, h.dest_in); value_in = h.value_in; bound = h.bound }

-- no origin is of a destination past the last
pub none_past : (alg : PureAlg) (nodes dests node : ℕ) (origins : List PureOrigin) → AllByRecursion (IsOriginOf alg nodes dests) origins → list_any (λ (o : PureOrigin). eqb o.dest dests && eqb o.node node) origins ≡ false
none_past alg nodes dests node [] a = refl
none_past alg nodes dests node (o ∷ origins) a =
    let below : o.dest < dests = a.0.dest_in in
    let other : eqb o.dest dests ≡ false = grind (arith, nat_tests) in
    rw (other, none_past alg nodes dests node origins a.1) refl

-- the number of a name is one of the names'
pub number_within : (names : List (List ℕ)) (name : List ℕ) (d : ℕ) → number_of names name ≡ Some d → d < length names
number_within names name d e = within (position_or_len (λ n. bytes_eq name n) names) (length names) e
  where
    within : (m n : ℕ) → cond (ltb m n) (Some m) None ≡ Some d → d < n
    within m n e = grind (arith, nat_tests)

-- in any edition nodes and destinations are few
pub few_nodes : (e : Edition) → max_nodes e ≤ most_nodes
few_nodes One = omega arith
few_nodes Two = omega arith

pub few_dests : (e : Edition) → max_dests e ≤ most_dests
few_dests One = omega arith
few_dests Two = omega arith

-- and one edition has as many
pub most_of_nodes : IsMost max_nodes most_nodes
most_of_nodes = record { bounds = few_nodes; reached = (Two, refl) }

pub most_of_dests : IsMost max_dests most_dests
most_of_dests = record { bounds = few_dests; reached = (One, refl) }

-- all editions have as many arcs
pub arcs_alike : (e : Edition) → (limits_of e).arcs ≡ max_arcs
arcs_alike One = refl
arcs_alike Two = refl

pub with_node_is_net : (net : PureNet) (name : List ℕ) → IsNet net → is_name name ≡ true → number_of net.nodes name ≡ None → length net.nodes < max_nodes net.alg.edition → IsNet (with_node net name)
with_node_is_net net name n named absent room =
    let more = length_push net.nodes name in
    record {
      is_alg = n.is_alg;
      node_room = omega arith;
      arc_room = n.arc_room;
      dest_room = n.dest_room;
      node_names = all_push (λ m. is_name m ≡ true) net.nodes name n.node_names named;
      dest_names = n.dest_names;
      node_apart = name_apart net.nodes name n.node_apart absent;
      dest_apart = n.dest_apart;
      arcs_in = rw more (all_weaker (IsArcOf net.alg (length net.nodes)) (IsArcOf net.alg (length net.nodes + 1)) net.arcs (more_nodes net.alg (length net.nodes)) n.arcs_in);
      arc_apart = n.arc_apart;
      arc_ids = n.arc_ids;
      origins_in = rw more (all_weaker (IsOriginOf net.alg (length net.nodes) (length net.dests)) (IsOriginOf net.alg (length net.nodes + 1) (length net.dests)) net.origins
          (λ o. more_places net.alg (length net.nodes) (length net.dests) (length net.nodes + 1) (length net.dests) o (omega arith) (omega arith)) n.origins_in);
      origin_apart = n.origin_apart;
    }

-- other arcs make a network where they meet the rules
pub other_arcs_are_a_net : (net : PureNet) (arcs : List PureArc) → IsNet net → length arcs ≤ max_arcs → AllByRecursion (IsArcOf net.alg (length net.nodes)) arcs → AreDistinct joins_same arcs → AreNumbered 0 arcs
    → IsNet (record net { arcs = arcs })
other_arcs_are_a_net net arcs n room within apart ids = record {
  is_alg = n.is_alg;
  node_room = n.node_room;
  arc_room = room;
  dest_room = n.dest_room;
  node_names = n.node_names;
  dest_names = n.dest_names;
  node_apart = n.node_apart;
  dest_apart = n.dest_apart;
  arcs_in = within;
  arc_apart = apart;
  arc_ids = ids;
  origins_in = n.origins_in;
  origin_apart = n.origin_apart;
}

pub with_arc_is_net : (net : PureNet) (tail head : ℕ) (l : PureLabel) → IsNet net → IsArcOf net.alg (length net.nodes) (record { id = length net.arcs; tail = tail; head = head; label = l })
    → has_arc net tail head ≡ false → length net.arcs < max_arcs → IsNet (with_arc net tail head l)
with_arc_is_net net tail head l n within absent room =
    let new : PureArc = record { id = length net.arcs; tail = tail; head = head; label = l } in
    let more = length_push net.arcs new in
    other_arcs_are_a_net net (net.arcs ++ new ∷ []) n (omega arith) (all_push (IsArcOf net.alg (length net.nodes)) net.arcs new n.arcs_in within)
    (distinct_push joins_same net.arcs new n.arc_apart absent) (numbered_push 0 net.arcs new n.arc_ids (omega arith))

pub with_dest_is_net : (net : PureNet) (name : List ℕ) → IsNet net → is_name name ≡ true → number_of net.dests name ≡ None → length net.dests < max_dests net.alg.edition → IsNet (with_dest net name)
with_dest_is_net net name n named absent room =
    let more = length_push net.dests name in
    record {
      is_alg = n.is_alg;
      node_room = n.node_room;
      arc_room = n.arc_room;
      dest_room = omega arith;
      node_names = n.node_names;
      dest_names = all_push (λ m. is_name m ≡ true) net.dests name n.dest_names named;
      node_apart = n.node_apart;
      dest_apart = name_apart net.dests name n.dest_apart absent;
      arcs_in = n.arcs_in;
      arc_apart = n.arc_apart;
      arc_ids = n.arc_ids;
      origins_in = rw more (all_weaker (IsOriginOf net.alg (length net.nodes) (length net.dests)) (IsOriginOf net.alg (length net.nodes) (length net.dests + 1)) net.origins
          (λ o. more_places net.alg (length net.nodes) (length net.dests) (length net.nodes) (length net.dests + 1) o (omega arith) (omega arith)) n.origins_in);
      origin_apart = n.origin_apart;
    }

pub with_origin_at_is_net : (net : PureNet) (dest node : ℕ) (v : PureValue) → IsNet net → IsOriginOf net.alg (length net.nodes) (length net.dests) (record { node = node; dest = dest; value = v })
    → has_origin net dest node ≡ false → IsNet (with_origin_at net dest node v)
with_origin_at_is_net net dest node v n within absent =
    let new : PureOrigin = record { node = node; dest = dest; value = v } in
    record {
      is_alg = n.is_alg;
      node_room = n.node_room;
      arc_room = n.arc_room;
      dest_room = n.dest_room;
      node_names = n.node_names;
      dest_names = n.dest_names;
      node_apart = n.node_apart;
      dest_apart = n.dest_apart;
      arcs_in = n.arcs_in;
      arc_apart = n.arc_apart;
      arc_ids = n.arc_ids;
      origins_in = all_push (IsOriginOf net.alg (length net.nodes) (length net.dests)) net.origins new n.origins_in within;
      origin_apart = distinct_push stands_same net.origins new n.origin_apart absent;
    }
