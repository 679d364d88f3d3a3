-- The links of a node, and of all nodes, whatever is drawn.
use Rattle.std.proofs.Common.{◌≡◌, ℕ, zero, suc, ◌+◌, ◌-◌, ◌*◌, ◌/◌, ◌%◌, ◌^◌, ◌<◌, ◌≤◌, Bool, true, false, cond, eqb, List, [], ◌∷◌, ◌++◌, length, refl, arith, length-append}
use Rattle.std.specs.List.{AllByRecursion}
use Rattle.net_gen.specs.declared.links.TheConstants.{MOST_WEIGHT}
use Rattle.net_gen.specs.declared.links.Link.{Link}
use Rattle.net_gen.specs.Draws.{next, drawn}
use Rattle.net_gen.specs.Generated.{Drawn, weight, group, speaker, hub_link, link, apart_from, links_of, links_to}

-- a link of the node k, which is numbered from 1 on
pub record IsLinkOf (k : ℕ) (l : Link) : Type 0 where
  pub listener_is : l.listener ≡ k
  pub before : l.speaker < k
  pub least : 1 ≤ l.weight
  pub most : l.weight ≤ MOST_WEIGHT

rest_lt : (m y : ℕ) → 0 < m → y % m < m
rest_lt m y h = omega arith

weight_in : (x : ℕ) → (1 ≤ weight x) × (weight x ≤ MOST_WEIGHT)
weight_in x = let h = rest_lt MOST_WEIGHT (next x / 2 ^ 33) (omega arith) in (omega arith, omega arith)

below_last : (k t : ℕ) → 1 ≤ k → t < (k - 1) / 5 + 1 → (k - 1) % 5 + 5 * t < k
below_last k t h b = omega arith

speaker_before : (k x : ℕ) → 1 ≤ k → speaker k x < k
speaker_before k x h = below_last k (drawn ((k - 1) / 5 + 1) x) h (rest_lt ((k - 1) / 5 + 1) (next x / 2 ^ 33) (omega arith))

is_link : (k x : ℕ) → 1 ≤ k → IsLinkOf k (link k x)
is_link k x h = record { listener_is = refl; before = speaker_before k x h; least = (weight_in (next x)).0; most = (weight_in (next x)).1 }

first_link : (k x : ℕ) → 1 ≤ k → IsLinkOf k (hub_link k x)
first_link k x h = record { listener_is = refl; before = omega arith; least = (weight_in x).0; most = (weight_in x).1 }

one_or_two : (P : List Link → Type 0) (l m : Link) → P (l ∷ []) → (eqb m.speaker l.speaker ≡ false → P (l ∷ m ∷ [])) → P (l ∷ apart_from l m)
one_or_two P l m one two = by (eqb m.speaker l.speaker) refl
  where
    by : (b : Bool) → eqb m.speaker l.speaker ≡ b → P (l ∷ cond b [] (m ∷ []))
    by true e = one
    by false e = two e

-- a node has one link, or two of different speakers
pub each_links : (k x : ℕ) (P : List Link → Type 0) → 1 ≤ k → ((l : Link) → IsLinkOf k l → P (l ∷ []))
    → ((l m : Link) → IsLinkOf k l → IsLinkOf k m → eqb m.speaker l.speaker ≡ false → P (l ∷ m ∷ [])) → P (links_of k x).links
unfolding links_of
each_links k x P h one two = by (eqb (group k) 0)
  where
    y : ℕ
    y = next (next x)

    by : (b : Bool) → P (cond {A = Drawn} b (record { links = hub_link k x ∷ []; state = next x }) (record { links = link k x ∷ apart_from (link k x) (link k y); state = next (next y) })).links
    by true = one (hub_link k x) (first_link k x h)
    by false = one_or_two P (link k x) (link k y) (one (link k x) (is_link k x h)) (two (link k x) (link k y) (is_link k x h) (is_link k y h))

pub all_append : {X : Type 0} (P : X → Type 0) (xs ys : List X) → AllByRecursion P xs → AllByRecursion P ys → AllByRecursion P (xs ++ ys)
all_append P [] ys a b = b
all_append P (x ∷ xs) ys a b = (a.0, all_append P xs ys a.1 b)

-- what holds of each node's links holds of all
pub all_links : (P : Link → Type 0) (seed k : ℕ) → ((j : ℕ) (l : Link) → j ≤ k → IsLinkOf j l → P l) → AllByRecursion P (links_to seed k).links
unfolding links_to
all_links P seed zero f = tt
all_links P seed (suc k) f =
    let before = links_to seed k in
    all_append P before.links (links_of (suc k) before.state).links
    (all_links P seed k (λ j l b i. f j l (omega arith) i))
    (each_links (suc k) before.state (AllByRecursion P) (omega arith) (λ l i. (f (suc k) l (omega arith) i, tt))
    (λ l m i j e. (f (suc k) l (omega arith) i, (f (suc k) m (omega arith) j, tt))))

-- there are two for each node, at the most
pub few_links : (seed k : ℕ) → length (links_to seed k).links ≤ 2 * k
unfolding links_to
few_links seed zero = omega arith
few_links seed (suc k) =
    let before = links_to seed k in
    let more : length (links_of (suc k) before.state).links ≤ 2 = each_links (suc k) before.state (λ ls. length ls ≤ 2) (omega arith) (λ l i. omega arith) (λ l m i j e. omega arith) in
    omega (arith, few_links seed k, length-append before.links (links_of (suc k) before.state).links)
