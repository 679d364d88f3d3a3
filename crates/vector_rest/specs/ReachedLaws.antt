-- What holds of the values that can occur. Lemmas, so that proofs of other crates may cite them.
use Rattle.std.proofs.Common.{◌≡◌, ℕ, zero, suc, ◌+◌, ◌-◌, ◌≤◌, ◌⊎◌, inl, inr, List, [], ◌∷◌, ◌++◌, Bool, true, false, cond, Some, None, slice_get, length, option_and_then, subst, refl, sym, ◌∙◌, ap, arith}
use Rattle.std.specs.Prelude.{◌==◌}
use Rattle.std.specs.List.{list_any, filter_map, find}
use Rattle.std.proofs.lemmas.Bool.Decides.{nat_tests}
use Rattle.std.proofs.lemmas.Option.{same_Some}
use Rattle.alg_model.specs.Expressions.{PureValue}
use Rattle.alg_model.specs.Carriers.{In}
use Rattle.alg_model.specs.Application.{App}
use Rattle.alg_model.specs.ImageLaws.{images_in}
use Rattle.alg_model.specs.Tests.{same_value, same_value-Decides}
use Rattle.net_graph.specs.Nets.{PureArc, PureOrigin, PureNet, IsNet, IsOriginOf, origin_value, is_origin_at}
use Rattle.net_graph.specs.Routes.{PureRoute}
use Rattle.net_graph.specs.Tables.{carrier}
use Rattle.node_core.specs.Machine.{Machine}
use Rattle.node_core.specs.MachineLaws.{option_from, option_then}
use Rattle.path_vector.specs.Node.{PvState, PureUpdate, fits}
use Rattle.path_vector.specs.Coherent.{IsCoherent}
use Rattle.path_vector.specs.Items.{IsItem, of_all, found_item, found_some, item_split, item_left, item_right, item_mapped, item_maps}
use Rattle.path_vector.specs.Choosing.{arc_is_in, arc_stands, may_be_parts}
use Rattle.path_vector.specs.Words.{fits_is, fits_parts}
use Rattle.vector_rest.specs.Reached.{once, images_of, all_images, reached, value_of, origin_values, heard_values, waiting_values, start_values}

-- ---- each value once

any_item : (v : PureValue) (vs : List PureValue) → list_any (λ u. same_value u v) vs ≡ true → IsItem v vs
any_item v vs e =
    let there = found_some (λ u. same_value u v) vs e in
    let found = found_item (λ u. same_value u v) vs there.0 there.1 in
    subst (λ x. IsItem x vs) ((same_value-Decides there.0 v).0 found.1) found.0

pub in_once : (vs : List PureValue) (x : PureValue) → IsItem x vs → IsItem x (once vs)
in_once [] x i = absurd i
in_once (v ∷ vs) x i = by (list_any (λ u. same_value u v) vs) refl i (in_once vs)
  where
    by : (b : Bool) → list_any (λ u. same_value u v) vs ≡ b → (v ≡ x) ⊎ IsItem x vs → ((y : PureValue) → IsItem y vs → IsItem y (once vs)) → IsItem x (cond b (once vs) (v ∷ once vs))
    by true e (inl same) rest = rest x (subst (λ z. IsItem z vs) same (any_item v vs e))
    by true e (inr more) rest = rest x more
    by false e (inl same) rest = inl same
    by false e (inr more) rest = inr (rest x more)

pub from_once : (vs : List PureValue) (x : PureValue) → IsItem x (once vs) → IsItem x vs
from_once [] x i = absurd i
from_once (v ∷ vs) x i = by (list_any (λ u. same_value u v) vs) i (from_once vs x)
  where
    by : (b : Bool) → IsItem x (cond b (once vs) (v ∷ once vs)) → (IsItem x (once vs) → IsItem x vs) → IsItem x (v ∷ vs)
    by true i rest = inr (rest i)
    by false (inl same) rest = inl same
    by false (inr more) rest = inr (rest more)

-- ---- images

module _ (net : PureNet) where
  image_there : (vs : List PureValue) (v w : PureValue) (a : PureArc) → IsItem v vs → IsItem a net.arcs → App net.alg.expression a.label v ≡ Some w → IsItem w (all_images net vs)
  image_there [] v w a i k e = absurd i
  image_there (x ∷ vs) v w a (inl same) k e =
      item_left (images_of net x) (all_images net vs) w
      (subst (λ z. IsItem w (images_of net z)) (sym same) (item_maps (λ (a : PureArc). App net.alg.expression a.label v) net.arcs a w k e))
  image_there (x ∷ vs) v w a (inr more) k e = item_right (images_of net x) (all_images net vs) w (image_there vs v w a more k e)

  images_all_in : IsNet net → (vs : List PureValue) → ((v : PureValue) → IsItem v vs → In (carrier net) v) → (w : PureValue) → IsItem w (all_images net vs) → In (carrier net) w
  images_all_in n [] h w i = absurd i
  images_all_in n (x ∷ vs) h w i = by (item_split (images_of net x) (all_images net vs) w i) (images_all_in n vs (λ v k. h v (inr k)) w)
    where
      by : IsItem w (images_of net x) ⊎ IsItem w (all_images net vs) → (IsItem w (all_images net vs) → In (carrier net) w) → In (carrier net) w
      by (inl here) rest =
          let made = item_mapped (λ (a : PureArc). App net.alg.expression a.label x) net.arcs w here in
          images_in net.alg.expression made.0.label x w n.is_alg.formed (arc_is_in net made.0 n made.1).label_in (h x (inl refl)) made.2
      by (inr there) rest = rest there

  -- ---- what is reached

  module _ (vs : List PureValue) where
    -- an arc's label leads one step further
    pub reached_next : (k : ℕ) (v w : PureValue) (a : PureArc) → IsItem v (reached net vs k) → IsItem a net.arcs → App net.alg.expression a.label v ≡ Some w → IsItem w (reached net vs (suc k))
    reached_next k v w a i at e =
        in_once (all_images net (reached net vs k) ++ reached net vs k) w
        (item_left (all_images net (reached net vs k)) (reached net vs k) w (image_there (reached net vs k) v w a i at e))

    pub reached_more : (k : ℕ) (v : PureValue) → IsItem v (reached net vs k) → IsItem v (reached net vs (suc k))
    reached_more k v i = in_once (all_images net (reached net vs k) ++ reached net vs k) v (item_right (all_images net (reached net vs k)) (reached net vs k) v i)

    reached_plus : (d k : ℕ) (v : PureValue) → IsItem v (reached net vs k) → IsItem v (reached net vs (d + k))
    reached_plus zero k v i = let none : 0 + k ≡ k = omega arith in subst (λ m. IsItem v (reached net vs m)) (sym none) i
    reached_plus (suc d) k v i =
        let next : suc (d + k) ≡ suc d + k = omega arith in
        subst (λ m. IsItem v (reached net vs m)) next (reached_more (d + k) v (reached_plus d k v i))

    pub reached_up : (j k : ℕ) (v : PureValue) → j ≤ k → IsItem v (reached net vs j) → IsItem v (reached net vs k)
    reached_up j k v h i =
        let sum : (k - j) + j ≡ k = omega (arith, h) in
        subst (λ m. IsItem v (reached net vs m)) sum (reached_plus (k - j) j v i)

    pub reached_start : (k : ℕ) (v : PureValue) → IsItem v vs → IsItem v (reached net vs k)
    reached_start k v i = reached_up 0 k v (omega arith) (in_once vs v i)

    pub reached_in : IsNet net → ((v : PureValue) → IsItem v vs → In (carrier net) v) → (k : ℕ) (v : PureValue) → IsItem v (reached net vs k) → In (carrier net) v
    reached_in n h zero v i = h v (from_once vs v i)
    reached_in n h (suc k) v i = by (item_split (all_images net (reached net vs k)) (reached net vs k) v (from_once (all_images net (reached net vs k) ++ reached net vs k) v i)) (reached_in n h k)
      where
        by : IsItem v (all_images net (reached net vs k)) ⊎ IsItem v (reached net vs k) → ((u : PureValue) → IsItem u (reached net vs k) → In (carrier net) u) → In (carrier net) v
        by (inl new) rest = images_all_in n (reached net vs k) rest v new
        by (inr old) rest = rest v old

-- ---- the values at the start

module _ (net : PureNet) (n : IsNet net) (start : Machine PvState PureUpdate) (k : IsCoherent net start) (dest : ℕ) where
  pub origin_there : (i : ℕ) (v : PureValue) → origin_value net dest i ≡ Some v → IsItem v (start_values net start dest)
  origin_there i v e =
      let from = option_from (λ (o : PureOrigin). o.value) (find (is_origin_at dest i) net.origins) v e in
      let found = found_item (is_origin_at dest i) net.origins from.0 from.1 in
      let at : is_origin_at dest i from.0 ≡ true = found.1 in
      let test : (from.0.dest == dest) ≡ true = grind (arith, nat_tests) in
      item_left (origin_values net dest) (heard_values net start dest ++ waiting_values start dest net.arcs) v
      (item_maps (λ (o : PureOrigin). cond (o.dest == dest) (Some o.value) None) net.origins from.0 v found.0 (rw test (ap (λ x. Some x) from.2)))

  pub heard_there : (a : PureArc) (s : PvState) (r : PureRoute) → IsItem a net.arcs → start.node a.tail ≡ Some s → s.heard a.id dest ≡ Some r → IsItem r.value (start_values net start dest)
  heard_there a s r item node e =
      item_right (origin_values net dest) (heard_values net start dest ++ waiting_values start dest net.arcs) r.value
      (item_left (heard_values net start dest) (waiting_values start dest net.arcs) r.value
      (item_maps (λ (a : PureArc). option_and_then (λ (s : PvState). value_of (s.heard a.id dest)) (start.node a.tail)) net.arcs a r.value item (rw (node, e) refl)))

  waiting_at : (arcs : List PureArc) (a : PureArc) (u : PureUpdate) (r : PureRoute) → IsItem a arcs → IsItem u (start.link a.id) → u.dest ≡ dest → u.route ≡ Some r → IsItem r.value (waiting_values start dest arcs)
  waiting_at [] a u r i at d e = absurd i
  waiting_at (b ∷ arcs) a u r (inl same) at d e =
      let test : (u.dest == dest) ≡ true = grind (arith, nat_tests) in
      item_left (filter_map (λ (u : PureUpdate). cond (u.dest == dest) (value_of u.route) None) (start.link b.id)) (waiting_values start dest arcs) r.value
      (subst (λ (z : PureArc). IsItem r.value (filter_map (λ (u : PureUpdate). cond (u.dest == dest) (value_of u.route) None) (start.link z.id))) (sym same)
      (item_maps (λ (u : PureUpdate). cond (u.dest == dest) (value_of u.route) None) (start.link a.id) u r.value at (rw (test, e) refl)))
  waiting_at (b ∷ arcs) a u r (inr more) at d e =
      item_right (filter_map (λ (u : PureUpdate). cond (u.dest == dest) (value_of u.route) None) (start.link b.id)) (waiting_values start dest arcs) r.value (waiting_at arcs a u r more at d e)

  pub waiting_there : (a : PureArc) (u : PureUpdate) (r : PureRoute) → IsItem a net.arcs → IsItem u (start.link a.id) → u.dest ≡ dest → u.route ≡ Some r → IsItem r.value (start_values net start dest)
  waiting_there a u r item at d e =
      item_right (origin_values net dest) (heard_values net start dest ++ waiting_values start dest net.arcs) r.value
      (item_right (heard_values net start dest) (waiting_values start dest net.arcs) r.value (waiting_at net.arcs a u r item at d e))

  -- they are of the carrier
  origins_in : (v : PureValue) → IsItem v (origin_values net dest) → In (carrier net) v
  origins_in v i =
      let made = item_mapped (λ (o : PureOrigin). cond (o.dest == dest) (Some o.value) None) net.origins v i in
      by (made.0.dest == dest) made.0.value made.2 (of_all (IsOriginOf net.alg (length net.nodes) (length net.dests)) net.origins made.0 n.origins_in made.1).value_in
    where
      by : (b : Bool) (x : PureValue) → cond b (Some x) None ≡ Some v → In (carrier net) x → In (carrier net) v
      by true x e h = subst (In (carrier net)) (same_Some _ _ e) h
      by false x e h = absurd (cc)

  heard_in : (v : PureValue) → IsItem v (heard_values net start dest) → In (carrier net) v
  heard_in v i =
      let made = item_mapped (λ (a : PureArc). option_and_then (λ (s : PvState). value_of (s.heard a.id dest)) (start.node a.tail)) net.arcs v i in
      let node = option_then (λ (s : PvState). value_of (s.heard made.0.id dest)) (start.node made.0.tail) v made.2 in
      let route = option_from (λ (r : PureRoute). r.value) (node.0.heard made.0.id dest) v node.2 in
      let known = k.known made.0 node.0 dest route.0 (arc_stands net made.0 n made.1) node.1 route.1 in
      subst (In (carrier net)) route.2 (may_be_parts net made.0.head route.0 known.1).value_in

  waits_in : (arcs : List PureArc) → ((a : PureArc) → IsItem a arcs → IsItem a net.arcs) → (v : PureValue) → IsItem v (waiting_values start dest arcs) → In (carrier net) v
  waits_in [] h v i = absurd i
  waits_in (a ∷ arcs) h v i =
      by (item_split (filter_map (λ (u : PureUpdate). cond (u.dest == dest) (value_of u.route) None) (start.link a.id)) (waiting_values start dest arcs) v i) (waits_in arcs (λ b j. h b (inr j)) v)
    where
      stands : slice_get net.arcs a.id ≡ Some a
      stands = arc_stands net a n (h a (inl refl))

      of_update : (u : PureUpdate) → IsItem u (start.link a.id) → (b : Bool) → cond b (value_of u.route) None ≡ Some v → In (carrier net) v
      of_update u at true e =
          let route = option_from (λ (r : PureRoute). r.value) u.route v e in
          let there = k.nodes a.tail (arc_is_in net a n (h a (inl refl))).tail_in in
          let fit : fits there.0 a.id u ≡ true = of_all (λ u. fits there.0 a.id u ≡ true) (start.link a.id) u (k.fit a there.0 stands there.1.0) at in
          let may = (fits_parts net a u (sym (fits_is net there.0 a u there.1.1 stands) ∙ fit)).1 route.0 route.1 in
          subst (In (carrier net)) route.2 (may_be_parts net a.head route.0 may).value_in
      of_update u at false e = absurd (cc)

      by : IsItem v (filter_map (λ (u : PureUpdate). cond (u.dest == dest) (value_of u.route) None) (start.link a.id)) ⊎ IsItem v (waiting_values start dest arcs)
          → (IsItem v (waiting_values start dest arcs) → In (carrier net) v) → In (carrier net) v
      by (inl here) rest =
          let made = item_mapped (λ (u : PureUpdate). cond (u.dest == dest) (value_of u.route) None) (start.link a.id) v here in
          of_update made.0 made.1 (made.0.dest == dest) made.2
      by (inr there) rest = rest there

  pub start_in : (v : PureValue) → IsItem v (start_values net start dest) → In (carrier net) v
  start_in v i = by (item_split (origin_values net dest) (heard_values net start dest ++ waiting_values start dest net.arcs) v i)
    where
      others : IsItem v (heard_values net start dest) ⊎ IsItem v (waiting_values start dest net.arcs) → In (carrier net) v
      others (inl heard) = heard_in v heard
      others (inr waits) = waits_in net.arcs (λ a j. j) v waits

      by : IsItem v (origin_values net dest) ⊎ IsItem v (heard_values net start dest ++ waiting_values start dest net.arcs) → In (carrier net) v
      by (inl own) = origins_in v own
      by (inr more) = others (item_split (heard_values net start dest) (waiting_values start dest net.arcs) v more)
