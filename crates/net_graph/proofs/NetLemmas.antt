-- Networks with a node, an arc or an origin more, and what they are looked up by.
use Rattle.std.proofs.Common.{◌≡◌, ◌≢◌, ℕ, zero, suc, slice_get, subst, ◌<◌, List, [], ◌∷◌, ◌++◌, Bool, true, false, ◌||◌, ◌&&◌, eqb, Option, Some, None, length, map, filter, cond, refl, sym, ap, ◌∙◌, arith, unwrap_or, position, not, ◌+◌}
use Rattle.std.proofs.lemmas.List.{length_push, length-map, map-append}
use Rattle.std.proofs.lemmas.Option.{same_Some}
use Rattle.std.proofs.lemmas.Bool.Decides.{nat_tests}
use Rattle.std.specs.List.{list_any, prefix_len, AllByRecursion}
use Rattle.std.specs.Option.{option_map_or, IfSome}
use Rattle.alg_model.specs.Expressions.{PureLabel, PureValue}
use Rattle.alg_model.specs.Application.{IsLabel}
use Rattle.alg_model.specs.Carriers.{carrier_of, In}
use Rattle.alg_model.specs.Bounds.{AtMost, LabelAtMost, greatest_number}
use Rattle.net_graph.specs.declared.limits.TheConstants.{MAX_ARCS}
use Rattle.net_graph.specs.Limits.{max_nodes, max_dests}
use Rattle.net_graph.specs.Nets.{PureArc, PureOrigin, PureNet, is_name, number_of, has_arc, has_origin, is_origin_at}
use Rattle.net_graph.specs.Lines.{with_node, with_arc, with_dest, with_origin, with_origin_at, with_origin_of}
use Rattle.net_graph.specs.NetLaws.{none_past, number_within, with_node_is_net, with_arc_is_net, with_dest_is_net, with_origin_at_is_net}
use Rattle.net_graph.specs.Joins.{is_joined}
use Rattle.net_graph.proofs.JoinLemmas.{joined_more}
use Rattle.net_graph.specs.Parts.{IsKnown, origin_pair}
use Rattle.net_graph.specs.Dests.{dests_with, dest_number}

-- what holds of all images holds of all
pub all_mapped : {X Y : Type 0} (f : X → Y) (P : Y → Type 0) (xs : List X) → AllByRecursion P (map f xs) → AllByRecursion (λ x. P (f x)) xs
all_mapped f P [] a = tt
all_mapped f P (x ∷ xs) a = (a.0, all_mapped f P xs a.1)

-- what holds of all holds of one that was got
pub all_got : {X : Type 0} (P : X → Type 0) (xs : List X) (i : ℕ) (x : X) → AllByRecursion P xs → slice_get xs i ≡ Some x → P x
all_got P [] i x a e = absurd (cc)
all_got P (y ∷ xs) zero x a e = subst P (same_Some y x e) a.0
all_got P (y ∷ xs) (suc i) x a e = all_got P xs i x a.1 e

pub any_mapped : {X Y : Type 0} (f : X → Y) (p : Y → Bool) (xs : List X) → list_any p (map f xs) ≡ list_any (λ x. p (f x)) xs
any_mapped f p [] = refl
any_mapped f p (x ∷ xs) = ap (λ b. p (f x) || b) (any_mapped f p xs)

pub filter_mapped : {X Y : Type 0} (f : X → Y) (p : Y → Bool) (xs : List X) → map f (filter (λ x. p (f x)) xs) ≡ filter p (map f xs)
filter_mapped f p [] = refl
filter_mapped {X} {Y} f p (x ∷ xs) = by (filter_mapped f p xs) (p (f x))
  where
    by : map f (filter (λ x. p (f x)) xs) ≡ filter p (map f xs) → (b : Bool) → map f (cond b (x ∷ filter (λ x. p (f x)) xs) (filter (λ x. p (f x)) xs)) ≡ cond b (f x ∷ filter p (map f xs)) (filter p (map f xs))
    by more true = ap (λ (ys : List Y). f x ∷ ys) more
    by more false = more

pub known_node : (net : PureNet) (by_arc : List (List ℕ)) (by_origin : List (ℕ × ℕ)) (name : List ℕ) → IsKnown net by_arc by_origin
    → is_name name ≡ true → number_of net.nodes name ≡ None → length net.nodes < max_nodes net.alg.edition → IsKnown (with_node net name) by_arc by_origin
known_node net by_arc by_origin name k named absent room = record { is_net = with_node_is_net net name k.is_net named absent room; joins = k.joins; origin_pairs = k.origin_pairs }

pub known_dest : (net : PureNet) (by_arc : List (List ℕ)) (by_origin : List (ℕ × ℕ)) (name : List ℕ) → IsKnown net by_arc by_origin
    → is_name name ≡ true → number_of net.dests name ≡ None → length net.dests < max_dests net.alg.edition → IsKnown (with_dest net name) by_arc by_origin
known_dest net by_arc by_origin name k named absent room = record { is_net = with_dest_is_net net name k.is_net named absent room; joins = k.joins; origin_pairs = k.origin_pairs }

-- where the same nodes are joined
pub known_same : (net : PureNet) (by_arc new : List (List ℕ)) (by_origin : List (ℕ × ℕ)) → IsKnown net by_arc by_origin → ((i m : ℕ) → is_joined new i m ≡ is_joined by_arc i m) → IsKnown net new by_origin
known_same net by_arc new by_origin k same = record { is_net = k.is_net; joins = λ i m. same i m ∙ k.joins i m; origin_pairs = k.origin_pairs }

pub known_arc : (net : PureNet) (by_arc new : List (List ℕ)) (by_origin : List (ℕ × ℕ)) (tail head : ℕ) (l : PureLabel) → IsKnown net by_arc by_origin
    → tail < length net.nodes → head < length net.nodes → tail ≢ head → has_arc net tail head ≡ false → IsLabel net.alg.expression l → LabelAtMost (greatest_number net.alg.edition) l → length net.arcs < MAX_ARCS
    → ((i m : ℕ) → is_joined new i m ≡ (is_joined by_arc i m || eqb tail i && eqb head m))
    → IsKnown (with_arc net tail head l) new by_origin
known_arc net by_arc new by_origin tail head l k t h apart absent label bound room more =
    let arc : PureArc = record { id = length net.arcs; tail = tail; head = head; label = l } in
    let differ : eqb tail head ≡ false = grind (arith, nat_tests) in
    record {
      is_net = with_arc_is_net net tail head l k.is_net (record { tail_in = t; head_in = h; apart = differ; label_in = label; bound = bound }) absent room;
      joins = joined_more by_arc new net.arcs arc k.joins more;
      origin_pairs = k.origin_pairs;
    }

-- with an origin of a destination that is there
pub known_origin_at : (net : PureNet) (by_arc : List (List ℕ)) (by_origin : List (ℕ × ℕ)) (dest node : ℕ) (v : PureValue) → IsKnown net by_arc by_origin
    → dest < length net.dests → node < length net.nodes → has_origin net dest node ≡ false → In (carrier_of net.alg.expression) v → AtMost (greatest_number net.alg.edition) v
    → IsKnown (with_origin_at net dest node v) by_arc (by_origin ++ (dest, node) ∷ [])
known_origin_at net by_arc by_origin dest node v k d i absent member bound =
    let new : PureOrigin = record { node = node; dest = dest; value = v } in
    record {
      is_net = with_origin_at_is_net net dest node v k.is_net (record { node_in = i; dest_in = d; value_in = member; bound = bound }) absent;
      joins = k.joins;
      origin_pairs = ap (λ ps. ps ++ (dest, node) ∷ []) k.origin_pairs ∙ sym (map-append origin_pair net.origins (new ∷ []));
    }

-- what with_origin does, with the parts that the program keeps
pub origin_parts : (net : PureNet) (name : List ℕ) (node : ℕ) (v : PureValue)
    → with_origin net name node v ≡ record net { dests = dests_with net.dests name; origins = net.origins ++ record { node = node; dest = dest_number net.dests name; value = v } ∷ [] }
origin_parts net name node v = by (number_of net.dests name)
  where
    by : (o : Option ℕ) → with_origin_of net o name node v ≡ record net { dests = option_map_or (λ _. net.dests) o (net.dests ++ name ∷ []); origins = net.origins ++ record { node = node; dest = unwrap_or o (length net.dests); value = v } ∷ [] }
    by None = refl
    by (Some d) = refl

pub known_origin : (net : PureNet) (by_arc : List (List ℕ)) (by_origin : List (ℕ × ℕ)) (name : List ℕ) (node : ℕ) (v : PureValue) → IsKnown net by_arc by_origin
    → is_name name ≡ true → node < length net.nodes → IfSome (number_of net.dests name) (λ d. has_origin net d node ≡ false) → In (carrier_of net.alg.expression) v → AtMost (greatest_number net.alg.edition) v
    → (number_of net.dests name ≡ None → length net.dests < max_dests net.alg.edition)
    → IsKnown (with_origin net name node v) by_arc (by_origin ++ (dest_number net.dests name, node) ∷ [])
known_origin net by_arc by_origin name node v k named i absent member bound room = by (number_of net.dests name) refl absent
  where
    by : (o : Option ℕ) → number_of net.dests name ≡ o → IfSome o (λ d. has_origin net d node ≡ false)
        → IsKnown (with_origin_of net o name node v) by_arc (by_origin ++ (unwrap_or o (length net.dests), node) ∷ [])
    by (Some d) e a = known_origin_at net by_arc by_origin d node v k (number_within net.dests name d e) i a member bound
    by None e a =
        let new = with_dest net name in
        let more = length_push net.dests name in
        known_origin_at new by_arc by_origin (length net.dests) node v (known_dest net by_arc by_origin name k named e (room e)) (omega arith) i
        (none_past net.alg (length net.nodes) (length net.dests) node net.origins k.is_net.origins_in) member bound

before_mapped : {X Y : Type 0} (f : X → Y) (p : Y → Bool) (xs : List X) → prefix_len (λ y. not (p y)) (map f xs) ≡ prefix_len (λ x. not (p (f x))) xs
before_mapped f p [] = refl
before_mapped f p (x ∷ xs) = ap (λ m. cond (not (p (f x))) (1 + m) 0) (before_mapped f p xs)

-- the place of a pair is that of its origin
pub place_of_origin : (net : PureNet) (by_arc : List (List ℕ)) (by_origin : List (ℕ × ℕ)) (dest node : ℕ) → IsKnown net by_arc by_origin
    → position (λ p. eqb p.0 dest && eqb p.1 node) by_origin ≡ position (is_origin_at dest node) net.origins
place_of_origin net by_arc by_origin dest node k =
    rw (k.origin_pairs, before_mapped origin_pair (λ (p : ℕ × ℕ). eqb p.0 dest && eqb p.1 node) net.origins, length-map net.origins origin_pair) refl

-- a pair is noted exactly where there is such an origin
pub pair_of_origin : (net : PureNet) (by_arc : List (List ℕ)) (by_origin : List (ℕ × ℕ)) (dest node : ℕ) → IsKnown net by_arc by_origin → list_any (λ p. eqb p.0 dest && eqb p.1 node) by_origin ≡ has_origin net dest node
pair_of_origin net by_arc by_origin dest node k = ap (list_any (λ (p : ℕ × ℕ). eqb p.0 dest && eqb p.1 node)) k.origin_pairs ∙ any_mapped origin_pair (λ (p : ℕ × ℕ). eqb p.0 dest && eqb p.1 node) net.origins

-- the pair of an origin that may be added is not noted
pub no_origin_pair : (net : PureNet) (by_arc : List (List ℕ)) (by_origin : List (ℕ × ℕ)) (name : List ℕ) (node : ℕ) → IsKnown net by_arc by_origin → IfSome (number_of net.dests name) (λ d. has_origin net d node ≡ false)
    → list_any (λ p. eqb p.0 (dest_number net.dests name) && eqb p.1 node) by_origin ≡ false
no_origin_pair net by_arc by_origin name node k absent = by (number_of net.dests name) absent
  where
    by : (o : Option ℕ) → IfSome o (λ d. has_origin net d node ≡ false) → list_any (λ p. eqb p.0 (unwrap_or o (length net.dests)) && eqb p.1 node) by_origin ≡ false
    by (Some d) a = pair_of_origin net by_arc by_origin d node k ∙ a
    by None a = pair_of_origin net by_arc by_origin (length net.dests) node k ∙ none_past net.alg (length net.nodes) (length net.dests) node net.origins k.is_net.origins_in
