-- The groups of generated nodes: who listens to whom, and how many links there are by group.
use Rattle.std.proofs.Common.{◌≡◌, ℕ, zero, suc, ◌+◌, ◌-◌, ◌*◌, ◌^◌, ◌/◌, ◌%◌, ◌<◌, ◌≤◌, ◌⊎◌, inl, inr, Bool, true, false, ◌==◌, cond, List, [], ◌∷◌, ◌++◌, refl, subst, sym, ap, arith}
use Rattle.std.specs.List.{AllByRecursion}
use Rattle.std.proofs.lemmas.Bool.{eqb-true}
use Rattle.std.proofs.lemmas.Bool.Decides.{nat_tests}
use Rattle.net_gen.specs.declared.links.Link.{Link}
use Rattle.net_gen.specs.Draws.{next, drawn}
use Rattle.net_gen.specs.Generated.{Drawn, group, hub_link, link, apart_from, links_of, links_to}
use Rattle.net_gen.proofs.NodeLinks.{all_append}
use Rattle.demo_rest.proofs.Sums.{summed, summed_join}

-- a link of the node k is to the first node, or to one of the group before its own
pub record IsFromBelow (k : ℕ) (l : Link) : Type 0 where
  pub listener_is : l.listener ≡ k
  pub below : (l.speaker ≡ 0) ⊎ ((1 ≤ l.speaker) × (group l.speaker + 1 ≡ group k))

group_below : (g t : ℕ) → 1 ≤ g → g < 5 → (1 ≤ g + 5 * t) × (((g + 5 * t) - 1) % 5 + 1 ≡ g)
group_below g t some few = (omega arith, omega arith)

pub few_groups : (k : ℕ) → group k < 5
few_groups k = omega arith

link_below : (k x : ℕ) → (group k == 0) ≡ false → IsFromBelow k (link k x)
link_below k x e =
    let some : 1 ≤ group k = grind (arith, nat_tests) in
    record { listener_is = refl; below = inr (group_below (group k) (drawn ((k - 1) / 5 + 1) x) some (few_groups k)) }

-- so many deliveries on the arcs of a node of the group
abbrev pub taken_by_group : ℕ → ℕ
taken_by_group g = cond (g == 0) 1 (2 * 2 ^ g)

one_or_two : (P : List Link → Type 0) (l m : Link) → P (l ∷ []) → P (l ∷ m ∷ []) → P (l ∷ apart_from l m)
one_or_two P l m one two = by (m.speaker == l.speaker)
  where
    by : (b : Bool) → P (l ∷ cond b [] (m ∷ []))
    by true = one
    by false = two

-- a node's links: one, if its group is the first, and else one or two
pub each_links : (k x : ℕ) (P : List Link → Type 0) → ((group k == 0) ≡ true → (l : Link) → IsFromBelow k l → P (l ∷ []))
    → ((group k == 0) ≡ false → (l m : Link) → IsFromBelow k l → IsFromBelow k m → P (l ∷ []) × P (l ∷ m ∷ [])) → P (links_of k x).links
unfolding links_of
each_links k x P one two = by (group k == 0) refl
  where
    y : ℕ
    y = next (next x)

    by : (b : Bool) → (group k == 0) ≡ b → P (cond {A = Drawn} b (record { links = hub_link k x ∷ []; state = next x }) (record { links = link k x ∷ apart_from (link k x) (link k y); state = next (next y) })).links
    by true e = one e (hub_link k x) (record { listener_is = refl; below = inl refl })
    by false e =
        let both = two e (link k x) (link k y) (link_below k x e) (link_below k y e) in
        one_or_two P (link k x) (link k y) both.0 both.1

-- what holds of each node's links holds of all
pub all_below : (P : Link → Type 0) → ((k : ℕ) (l : Link) → IsFromBelow k l → P l) → (seed k : ℕ) → AllByRecursion P (links_to seed k).links
unfolding links_to
all_below P f seed zero = tt
all_below P f seed (suc k) =
    let before = links_to seed k in
    all_append P before.links (links_of (suc k) before.state).links (all_below P f seed k)
    (each_links (suc k) before.state (AllByRecursion P) (λ e l i. (f (suc k) l i, tt)) (λ e l m i j. ((f (suc k) l i, tt), (f (suc k) l i, (f (suc k) m j, tt)))))

-- the room of a link, by its listener; the same if that is j
abbrev pub room_at : ℕ → ℕ
room_at k = 2 ^ group k

abbrev pub room_if : ℕ → ℕ → ℕ
room_if j k = cond (j == k) (room_at k) 0

-- ---- the room of all links

power_zero : (g : ℕ) → (g == 0) ≡ true → 2 ^ g ≡ 1
power_zero g e = let same : g ≡ 0 = eqb-true g 0 e in ap (λ n. 2 ^ n) same

-- a sum over a node's links, of what only looks at the listener
node_summed : (f : ℕ → ℕ) (k x : ℕ) → summed (λ (l : Link). f l.listener) (links_of k x).links ≤ cond (group k == 0) (f k) (2 * f k)
node_summed f k x = by (group k == 0) refl
  where
    by : (b : Bool) → (group k == 0) ≡ b → summed (λ (l : Link). f l.listener) (links_of k x).links ≤ cond b (f k) (2 * f k)
    by true e = each_links k x (λ ls. summed (λ (l : Link). f l.listener) ls ≤ f k)
        (λ g l i. let same = ap f i.listener_is in omega (arith, same)) (λ g l m i j. absurd (cc))
    by false e = each_links k x (λ ls. summed (λ (l : Link). f l.listener) ls ≤ 2 * f k) (λ g l i. absurd (cc))
        (λ g l m i j. let same = ap f i.listener_is in let other = ap f j.listener_is in (omega (arith, same), omega (arith, same, other)))

node_room : (k x : ℕ) → summed (λ (l : Link). room_at l.listener) (links_of k x).links ≤ taken_by_group (group k)
node_room k x = by (group k == 0) refl (node_summed room_at k x)
  where
    by : (b : Bool) → (group k == 0) ≡ b → summed (λ (l : Link). room_at l.listener) (links_of k x).links ≤ cond b (room_at k) (2 * room_at k)
        → summed (λ (l : Link). room_at l.listener) (links_of k x).links ≤ cond b 1 (2 * 2 ^ group k)
    by true e h = let one = power_zero (group k) e in omega (arith, one, h)
    by false e h = h

-- the same of the nodes 1 to k
abbrev pub room_to : ℕ → ℕ
room_to zero = 0
room_to (suc k) = room_to k + taken_by_group (group (suc k))

pub all_room : (seed k : ℕ) → summed (λ (l : Link). room_at l.listener) (links_to seed k).links ≤ room_to k
unfolding links_to
all_room seed zero = omega arith
all_room seed (suc k) =
    let before = links_to seed k in
    let more = node_room (suc k) before.state in
    let rest = all_room seed k in
    let both = summed_join (λ (l : Link). room_at l.listener) before.links (links_of (suc k) before.state).links in
    omega (arith, more, rest, both)

pub room_more : (k d : ℕ) → room_to k ≤ room_to (k + d)
room_more k zero = let same : k + 0 ≡ k = omega arith in rw same (omega arith)
room_more k (suc d) =
    let rest = room_more k d in
    let same : k + suc d ≡ suc (k + d) = omega arith in
    rw same (omega (arith, rest))

pub room_of_all : room_to 511 ≡ 6223
room_of_all = refl

-- ---- the room of the links of one node

node_if : (j k x : ℕ) → (j == k) ≡ false → summed (λ (l : Link). room_if j l.listener) (links_of k x).links ≡ 0
node_if j k x e =
    let most = node_summed (room_if j) k x in
    let none : room_if j k ≡ 0 = rw e refl in
    by (group k == 0) none most
  where
    by : (b : Bool) → room_if j k ≡ 0 → summed (λ (l : Link). room_if j l.listener) (links_of k x).links ≤ cond b (room_if j k) (2 * room_if j k) → summed (λ (l : Link). room_if j l.listener) (links_of k x).links ≡ 0
    by true none h = omega (arith, none, h)
    by false none h = omega (arith, none, h)

node_here : (j k x : ℕ) → (j == k) ≡ true → summed (λ (l : Link). room_if j l.listener) (links_of k x).links ≤ taken_by_group (group j)
node_here j k x e =
    let same : j ≡ k = eqb-true j k e in
    let here : room_if j k ≡ 2 ^ group k = rw e refl in
    subst (λ i. summed (λ (l : Link). room_if j l.listener) (links_of k x).links ≤ taken_by_group (group i)) (sym same)
    (by (group k == 0) refl here (node_summed (room_if j) k x))
  where
    by : (b : Bool) → (group k == 0) ≡ b → room_if j k ≡ 2 ^ group k → summed (λ (l : Link). room_if j l.listener) (links_of k x).links ≤ cond b (room_if j k) (2 * room_if j k)
        → summed (λ (l : Link). room_if j l.listener) (links_of k x).links ≤ cond b 1 (2 * 2 ^ group k)
    by true g here h = let one = power_zero (group k) g in omega (arith, one, here, h)
    by false g here h = omega (arith, here, h)

-- no links where j isn't 1 to k
pub none_to : (j seed k : ℕ) → ((i : ℕ) → 1 ≤ i → i ≤ k → (j == i) ≡ false) → summed (λ (l : Link). room_if j l.listener) (links_to seed k).links ≡ 0
unfolding links_to
none_to j seed zero f = refl
none_to j seed (suc k) f =
    let before = links_to seed k in
    let more = node_if j (suc k) before.state (f (suc k) (omega arith) (omega arith)) in
    let rest = none_to j seed k (λ i a b. f i a (omega arith)) in
    let both = summed_join (λ (l : Link). room_if j l.listener) before.links (links_of (suc k) before.state).links in
    omega (arith, more, rest, both)

pub some_to : (j seed k : ℕ) → summed (λ (l : Link). room_if j l.listener) (links_to seed k).links ≤ taken_by_group (group j)
unfolding links_to
some_to j seed zero = omega arith
some_to j seed (suc k) = by (j == suc k) refl (some_to j seed k)
  where
    before : Drawn
    before = links_to seed k

    more : List Link
    more = (links_of (suc k) (links_to seed k).state).links

    both : summed (λ (l : Link). room_if j l.listener) (before.links ++ more) ≡ summed (λ (l : Link). room_if j l.listener) before.links + summed (λ (l : Link). room_if j l.listener) more
    both = summed_join (λ (l : Link). room_if j l.listener) before.links more

    by : (b : Bool) → (j == suc k) ≡ b → summed (λ (l : Link). room_if j l.listener) before.links ≤ taken_by_group (group j) → summed (λ (l : Link). room_if j l.listener) (before.links ++ more) ≤ taken_by_group (group j)
    by true e rest =
        let same : j ≡ suc k = eqb-true j (suc k) e in
        let here = node_here j (suc k) before.state e in
        let none = none_to j seed k (λ i a b. let other : (j == i) ≡ false = grind (arith, nat_tests) in other) in
        omega (arith, both, here, none)
    by false e rest =
        let none = node_if j (suc k) before.state e in
        omega (arith, both, none, rest)
