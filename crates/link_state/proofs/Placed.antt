-- Items that stand in places of their own.
use Rattle.std.proofs.Common.{◌≡◌, ℕ, ◌+◌, ◌*◌, ◌/◌, ◌<◌, ◌≤◌, List, [], ◌∷◌, Option, Some, None, IfSome, IfOk, Ok, Err, map, length, length-append, get_or, zero, suc, arith, refl, ap, add-zero, zero-add}
use Rattle.std.specs.Prelude.{Result, flat_map}
use Rattle.std.proofs.Math.Nat.{div-le_of_le-mul, div-mul-le_self, mul_comm, mul-div_cancel, mul-le-mul_left, mul-zero, zero-div}
use Rattle.std.proofs.lemmas.Nat.{le-div}
use Rattle.std.proofs.lemmas.List.{length-map}
use Rattle.alg_model.specs.Expressions.{PureValue}
use Rattle.net_graph.specs.Nets.{PureNet}
use Rattle.best_first.specs.Fixed.{AreFixedFrom, IsFixedOf}
use Rattle.best_first.specs.Numbered.{PureFixed}
use Rattle.best_first.specs.Ranges.{AreFrom, from_joined}
use Rattle.link_state.specs.Routes.{AreFixedOf, IsShareOf, first_of}

-- where each place has what its number asks, the items from number n on are what theirs ask
placed_from : {T : Type 0} (P : ℕ → T → Type 0) (n : ℕ) (items : List T)
    → ((k : ℕ) (d : Option T) → k < length items → IfSome (get_or (map Some items) k d) (P (n + k)))
    → AreFrom P n items
placed_from P n [] each = tt
placed_from P n (item ∷ items) each =
    let first : P (n + 0) item = each 0 None (omega arith) in
    (rw add-zero at first, placed_from P (n + 1) items (λ k d h. let e : n + suc k ≡ (n + 1) + k = omega arith in rw e at (each (suc k) d (omega arith))))

-- so many places with one item each have so many items
pub all_counted : {T : Type 0} (n : ℕ) (places : List (Option T)) (items : List T) → length places ≡ n → map Some items ≡ places → length items ≡ n
all_counted {T} n places items count same = omega (arith, length-map items (λ (t : T). Some t), ap length same)

-- where each place has what its number asks or none, and none has none, all items are what their numbers ask
pub all_placed : {T : Type 0} (P : ℕ → T → Type 0) (n : ℕ) (places : List (Option T)) (items : List T) → length places ≡ n
    → ((k : ℕ) (d : Option T) → k < n → IfSome (get_or places k d) (P k))
    → map Some items ≡ places → AreFrom P 0 items
all_placed P n places items count each same =
    let long : length items ≡ n = all_counted n places items count same in
    placed_from P 0 items (λ k d h. rw (same, zero-add) (each k d (omega arith)))

-- the item at that place is what its number asks
pub from_at : {T : Type 0} (P : ℕ → T → Type 0) (n : ℕ) (items : List T) (k : ℕ) (item : T) → AreFrom P n items → k < length items → item ≡ get_or items k item → P (n + k) item
from_at P n [] k item each h e = absurd (omega arith)
from_at P n (x ∷ items) zero item each h e = rw (e, add-zero) each.0
from_at P n (x ∷ items) (suc k) item each h e =
    let far : n + suc k ≡ (n + 1) + k = omega arith in
    rw far (from_at P (n + 1) items k item each.1 (omega arith) e)

-- the destinations of worker k come before those of the next, and all are the network's
pub shares_follow : (dests workers k : ℕ) → 0 < workers → first_of dests workers k ≤ first_of dests workers (k + 1)
shares_follow dests workers k some =
    let more : dests * k ≤ dests * (k + 1) = mul-le-mul_left dests (omega arith) in
    le-div (dests * k / workers) (dests * (k + 1)) workers some (let below = div-mul-le_self (dests * k) workers in omega arith)

pub shares_within : (dests workers k : ℕ) → k ≤ workers → first_of dests workers k ≤ dests
shares_within dests workers k few =
    let less : dests * k ≤ dests * workers = mul-le-mul_left dests few in
    let turned : dests * workers ≡ workers * dests = mul_comm dests workers in
    div-le_of_le-mul workers (omega arith)

module _ {S : Type 0} (value : S → PureValue) (is_sig : S → Type 0) (net : PureNet) (workers : ℕ) where
  -- the routes of the workers from k on, joined, are those of all their destinations
  shares_joined : (k : ℕ) (shares : List (List (PureFixed S))) → AreFrom (IsShareOf value is_sig net workers) k shares
      → AreFixedFrom value is_sig net (first_of (length net.dests) workers k) (flat_map (λ share. share) shares)
      × (first_of (length net.dests) workers k + length (flat_map (λ share. share) shares) ≡ first_of (length net.dests) workers (k + length shares))
  shares_joined k [] each = (tt, rw (add-zero, add-zero) refl)
  shares_joined k (share ∷ shares) each =
      let rest = shares_joined (k + 1) shares each.1 in
      let long = length-append share (flat_map (λ s. s) shares) in
      let next : k + suc (length shares) ≡ (k + 1) + length shares = omega arith in (
        from_joined (IsFixedOf value is_sig net) _ share (flat_map (λ s. s) shares) each.0.fixed_from (rw (each.0.count) rest.0),
        rw next (omega (arith, long, each.0.count, rest.1)),
      )

  -- where each place has the routes of its worker or none, and none has none, these joined are the network's
  all_fixed_joined : (places : List (Option (List (PureFixed S)))) (shares : List (List (PureFixed S))) (found : List (PureFixed S)) → 0 < workers → length places ≡ workers
      → ((k : ℕ) (d : Option (List (PureFixed S))) → k < workers → IfSome (get_or places k d) (IsShareOf value is_sig net workers k))
      → map Some shares ≡ places → found ≡ flat_map (λ share. share) shares → AreFixedOf value is_sig net found
  all_fixed_joined places shares found some count each same is =
      let all = all_placed (IsShareOf value is_sig net workers) workers places shares count each same in
      let long : length shares ≡ workers = all_counted workers places shares count same in
      let joined = shares_joined 0 shares all in
      let first : first_of (length net.dests) workers 0 ≡ 0 = rw mul-zero (zero-div workers) in
      let last : first_of (length net.dests) workers workers ≡ length net.dests = mul-div_cancel (length net.dests) some in
      let whole : 0 + length shares ≡ workers = omega arith in
      rw is record {
        fixed_from = rw first at joined.0;
        count = let all = rw (first, whole, last) at joined.1 in omega arith;
      }

  -- unless memory was refused
  pub joined_fixed : {E : Type 0} (places : List (Option (List (PureFixed S)))) (shares : List (List (PureFixed S))) (r : Result (List (PureFixed S)) E) → 0 < workers → length places ≡ workers
      → ((k : ℕ) (d : Option (List (PureFixed S))) → k < workers → IfSome (get_or places k d) (IsShareOf value is_sig net workers k))
      → map Some shares ≡ places → IfOk r (λ found. found ≡ flat_map (λ share. share) shares) → IfOk r (AreFixedOf value is_sig net)
  joined_fixed places shares (Ok found) some count each same is = all_fixed_joined places shares found some count each same is
  joined_fixed places shares (Err e) some count each same is = tt

  pub joined_counted : {E : Type 0} (r : Result (List (PureFixed S)) E) → IfOk r (AreFixedOf value is_sig net) → IfOk r (λ found. length found ≡ length net.dests)
  joined_counted (Ok found) are = are.count
  joined_counted (Err e) are = tt
