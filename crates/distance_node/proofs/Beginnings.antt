-- What a node tells when it begins, a destination after another.
use Rattle.std.proofs.Common.{◌≡◌, ℕ, suc, ◌+◌, ◌≤◌, List, [], ◌∷◌, ◌++◌, true, false, is_some, length, cond, Option, Some, None, subst, refl, sym, ap, ◌∙◌, arith}
use Rattle.std.specs.Prelude.{IfSome, option_map}
use Rattle.std.specs.List.{range_with_len}
use Rattle.std.proofs.lemmas.List.{append-nil, append_assoc}
use Rattle.alg_model.specs.Bounds.{AtMost}
use Rattle.alg_model.specs.Expressions.{PureValue}
use Rattle.net_graph.specs.Nets.{PureNet, IsNet, arcs_to, origin_value}
use Rattle.net_graph.specs.NetLaws.{few_dests}
use Rattle.distance_node.specs.declared.chosen.Chosen.{Chosen}
use Rattle.distance_node.specs.Beginning.{AreBegun}
use Rattle.distance_node.specs.Chosen.{hop_at}
use Rattle.distance_node.specs.Node.{Hop, PureVector, greatest_at, all_begun, begun_of, own_hop, reported_on}
use Rattle.distance_node.specs.Offers.{own_is, own_may}
use Rattle.distance_node.specs.Tellings.{reported_of}
use Rattle.distance_node.proofs.Pushing.{pushed_count, pushed_holds, pushed_images, range_next}

begun_append : (net : PureNet) (i : ℕ) (xs ys : List ℕ) → all_begun net i (xs ++ ys) ≡ all_begun net i xs ++ all_begun net i ys
begun_append net i [] ys = refl
begun_append net i (x ∷ xs) ys = ap (λ z. begun_of net i x ++ z) (begun_append net i xs ys) ∙ sym (append_assoc (begun_of net i x) (all_begun net i xs) (all_begun net i ys))

-- one destination more
pub reported_next : (net : PureNet) (i k : ℕ) (out new : List (ℕ × PureVector)) → out ≡ all_begun net i (range_with_len 0 k) → new ≡ out ++ begun_of net i k → new ≡ all_begun net i (range_with_len 0 (k + 1))
reported_next net i k out new so next =
    let place : 0 + k ≡ k = omega arith in
    let last : suc k ≡ k + 1 = omega arith in
    next ∙ (ap (λ z. z ++ begun_of net i k) so
    ∙ (ap (λ z. all_begun net i (range_with_len 0 k) ++ z) (sym (append-nil (begun_of net i k)))
    ∙ (sym (begun_append net i (range_with_len 0 k) (k ∷ []))
    ∙ (ap (λ z. all_begun net i (range_with_len 0 k ++ z ∷ [])) (sym place)
    ∙ (ap (all_begun net i) (sym (range_next 0 k))
    ∙ ap (λ z. all_begun net i (range_with_len 0 z)) last)))))

module _ {S : Type 0} (is_sig : S → Type 0) (value : S → PureValue) (net : PureNet) (i : ℕ) where
  -- the row of the own origin's value is its offer
  pub own_row : (dest : ℕ) (row : Option (Chosen S)) → option_map (λ (r : Chosen S). value r.sig) row ≡ origin_value net dest i → IfSome row (λ r. r.offer ≡ 0) → option_map (hop_at value net i) row ≡ own_hop net dest i
  own_row dest row e first = rw (← e) (by row first)
    where
      by : (o : Option (Chosen S)) → IfSome o (λ r. r.offer ≡ 0) → option_map {U = Hop} (hop_at value net i) o ≡ option_map {U = Hop} (λ v. record { value = v; next = None }) (option_map (λ (r : Chosen S). value r.sig) o)
      by None f = refl
      by (Some r) f = rw f refl

  -- what is sent of it
  pub reported_one : (dest : ℕ) (row : Option (Chosen S)) (out new : List (ℕ × PureVector)) → option_map (hop_at value net i) row ≡ own_hop net dest i
      → new ≡ cond (is_some row) (out ++ reported_on (arcs_to net i) (record { dest = dest; value = reported_of value row; stamp = 0 })) out → new ≡ out ++ begun_of net i dest
  reported_one dest row out new e f = f ∙ subst (λ (o : Option Hop). cond (is_some row) (out ++ reported_on (arcs_to net i) (record { dest = dest; value = reported_of value row; stamp = 0 })) out
      ≡ out ++ cond (is_some o) (reported_on (arcs_to net i) (record { dest = dest; value = option_map (λ (h : Hop). h.value) o; stamp = 0 })) []) e (by row)
    where
      by : (o : Option (Chosen S)) → cond (is_some o) (out ++ reported_on (arcs_to net i) (record { dest = dest; value = reported_of value o; stamp = 0 })) out
          ≡ out ++ cond (is_some (option_map (hop_at value net i) o)) (reported_on (arcs_to net i) (record { dest = dest; value = option_map (λ (h : Hop). h.value) (option_map (hop_at value net i) o); stamp = 0 })) []
      by None = sym (append-nil out)
      by (Some r) = refl

  first_of : (o : Option (Chosen S)) → IfSome o (λ r. r.offer ≡ 0) → (r : Chosen S) → o ≡ Some r → r.offer ≡ 0
  first_of None f r e = absurd (cc)
  first_of (Some x) f r e = let same : x ≡ r = cc in ap (λ (z : Chosen S). z.offer) (sym same) ∙ f

  -- one row more
  pub rows_next : (k : ℕ) (rows : List (Option (Chosen S))) (row : Option (Chosen S)) → AreBegun is_sig value net i k rows → IfSome row (λ r. is_sig r.sig) → IfSome row (λ r. r.offer ≡ 0)
      → option_map (hop_at value net i) row ≡ own_hop net k i → AreBegun is_sig value net i (k + 1) (rows ++ row ∷ [])
  rows_next k rows row are sig first e = record {
    row_count = pushed_count rows row ∙ ap (λ z. z + 1) are.row_count;
    sigs = pushed_holds (λ (r : Chosen S). is_sig r.sig) rows row are.sigs sig;
    first = pushed_holds (λ (r : Chosen S). r.offer ≡ 0) rows row are.first first;
    hops = pushed_images (hop_at value net i) rows row (λ d. own_hop net d i) k are.row_count are.hops e;
  }

  pub no_rows : AreBegun is_sig value net i 0 []
  no_rows = record { row_count = refl; sigs = λ dest r e. absurd (cc); first = λ dest r e. absurd (cc); hops = λ dest l. absurd (omega (arith, l)) }

  -- the own origin's value may be sent at the start
  pub own_small : IsNet net → (dest : ℕ) (row : Option (Chosen S)) → option_map (hop_at value net i) row ≡ own_hop net dest i → IfSome (reported_of value row) (AtMost (greatest_at 0))
  own_small n dest None e = tt
  own_small n dest (Some r) e = (own_may net n dest i 0 (hop_at value net i r) (own_is net dest i (hop_at value net i r) (sym e))).small

  -- where there is a row it is sent, and else nothing is
  pub reported_some : (dest : ℕ) (row : Option (Chosen S)) (out new : List (ℕ × PureVector)) → option_map (hop_at value net i) row ≡ own_hop net dest i → is_some row ≡ true
      → new ≡ out ++ reported_on (arcs_to net i) (record { dest = dest; value = reported_of value row; stamp = 0 }) → new ≡ out ++ begun_of net i dest
  reported_some dest row out new e some f =
      reported_one dest row out new e (f ∙ ap (λ b. cond b (out ++ reported_on (arcs_to net i) (record { dest = dest; value = reported_of value row; stamp = 0 })) out) (sym some))

  pub reported_none : (dest : ℕ) (row : Option (Chosen S)) (out new : List (ℕ × PureVector)) → option_map (hop_at value net i) row ≡ own_hop net dest i → is_some row ≡ false → new ≡ out → new ≡ out ++ begun_of net i dest
  reported_none dest row out new e none f =
      reported_one dest row out new e (f ∙ ap (λ b. cond b (out ++ reported_on (arcs_to net i) (record { dest = dest; value = reported_of value row; stamp = 0 })) out) (sym none))

-- a network has few destinations
pub dests_few : (net : PureNet) → IsNet net → length net.dests ≤ 64
dests_few net n =
    let room = n.dest_room in
    let few = few_dests net.alg.edition in
    omega (arith, room, few)
