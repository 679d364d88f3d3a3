-- A generated network is a network.
use Rattle.std.proofs.Common.{◌≡◌, ℕ, zero, suc, ◌+◌, ◌-◌, ◌<◌, ◌≤◌, Bool, true, false, ◌&&◌, ◌==◌, List, [], ◌∷◌, ◌++◌, length, map, refl, sym, subst, arith}
use Rattle.std.specs.Prelude.{decimal}
use Rattle.std.specs.List.{AllByRecursion, range_with_len}
use Rattle.std.specs.Str.{bytes_eq}
use Rattle.std.proofs.lemmas.Bool.Decides.{nat_tests}
use Rattle.std.proofs.lemmas.Fmt.{decimal_injective}
use Rattle.std.proofs.lemmas.List.FromFn.{length-map-range_with_len}
use Rattle.std.proofs.lemmas.Slice.Eq.{bytes_eq-Decides}
use Rattle.alg_model.specs.Formation.{IsAlg}
use Rattle.net_graph.specs.Nets.{PureArc, IsNet, IsArcOf, AreDistinct, AreNumbered, is_name, joins_same}
use Rattle.net_gen.specs.declared.links.Link.{Link}
use Rattle.net_gen.specs.Generated.{AreDemoNodes, Drawn, node_name, links_of, links_to}
use Rattle.net_gen.specs.Networks.{demo_alg, arcs_of, node_names, generated_net}
use Rattle.net_gen.proofs.Names.{node_is_name}
use Rattle.net_gen.proofs.NodeLinks.{IsLinkOf, each_links, all_append, all_links, few_links}
use Rattle.net_gen.proofs.Steps.{length_arcs}

-- ---- names

are_names : (a count : ℕ) → a + count ≤ 1000 → AllByRecursion (λ n. is_name n ≡ true) (map node_name (range_with_len a count))
are_names a zero h = tt
are_names a (suc count) h = (node_is_name a (omega arith), are_names (a + 1) count (omega arith))

is_false : (b : Bool) → (b ≡ true → ⊥) → b ≡ false
is_false true f = absurd (f refl)
is_false false f = refl

other_name : (k j : ℕ) → k < j → j < 1000 → bytes_eq (node_name k) (node_name j) ≡ false
other_name k j l h =
    is_false (bytes_eq (node_name k) (node_name j))
    (λ t. let e : node_name k ≡ node_name j = (bytes_eq-Decides (node_name k) (node_name j)).0 t in
    let d : decimal k ≡ decimal j = cc in
    let same = decimal_injective k j (omega arith) (omega arith) d in
    omega arith)

others : (k a count : ℕ) → k < a → a + count ≤ 1000 → AllByRecursion (λ n. bytes_eq (node_name k) n ≡ false) (map node_name (range_with_len a count))
others k a zero l h = tt
others k a (suc count) l h = (other_name k a l (omega arith), others k (a + 1) count (omega arith) (omega arith))

apart_names : (a count : ℕ) → a + count ≤ 1000 → AreDistinct (λ m n. bytes_eq m n) (map node_name (range_with_len a count))
apart_names a zero h = tt
apart_names a (suc count) h = (others a (a + 1) count (omega arith) (omega arith), apart_names (a + 1) count (omega arith))

-- ---- arcs

pub numbered_arcs : (id : ℕ) (links : List Link) → AreNumbered id (arcs_of id links)
numbered_arcs id [] = tt
numbered_arcs id (l ∷ links) = (refl, numbered_arcs (id + 1) links)

abbrev same_link : Link → Link → Bool
same_link l m = l.listener == m.listener && l.speaker == m.speaker

all_arcs : (P : PureArc → Type 0) (Q : Link → Type 0) → ((a : PureArc) (l : Link) → a.tail ≡ l.listener → a.head ≡ l.speaker → Q l → P a)
    → (id : ℕ) (links : List Link) → AllByRecursion Q links → AllByRecursion P (arcs_of id links)
all_arcs P Q f id [] all = tt
all_arcs P Q f id (l ∷ links) all = (f _ l refl refl all.0, all_arcs P Q f (id + 1) links all.1)

apart_arcs : (id : ℕ) (links : List Link) → AreDistinct same_link links → AreDistinct joins_same (arcs_of id links)
apart_arcs id [] d = tt
apart_arcs id (l ∷ links) d = (
  all_arcs (λ a. (l.listener == a.tail && l.speaker == a.head) ≡ false) (λ m. same_link l m ≡ false) (λ a m t h e. rw (t, h) e) (id + 1) links d.0,
  apart_arcs (id + 1) links d.1,
)

distinct_join : (xs ys : List Link) → AreDistinct same_link xs → AreDistinct same_link ys → AllByRecursion (λ x. AllByRecursion (λ y. same_link x y ≡ false) ys) xs → AreDistinct same_link (xs ++ ys)
distinct_join [] ys d e all = e
distinct_join (x ∷ xs) ys d e all = (all_append (λ y. same_link x y ≡ false) xs ys d.0 all.0, distinct_join xs ys d.1 e all.1)

other_listener : (l m : Link) → l.listener < m.listener → same_link l m ≡ false
other_listener l m h = let other : (l.listener == m.listener) ≡ false = grind (arith, nat_tests) in rw other refl

other_speaker : (l m : Link) → (m.speaker == l.speaker) ≡ false → same_link l m ≡ false
other_speaker l m h =
    let other : (l.speaker == m.speaker) ≡ false = grind (arith, nat_tests) in
    rw other (never (l.listener == m.listener))
  where
    never : (b : Bool) → (b && false) ≡ false
    never true = refl
    never false = refl

links_apart : (seed k : ℕ) → AreDistinct same_link (links_to seed k).links
unfolding links_to
links_apart seed zero = tt
links_apart seed (suc k) = distinct_join before.links more (links_apart seed k) here there
  where
    before : Drawn
    before = links_to seed k

    more : List Link
    more = (links_of (suc k) (links_to seed k).state).links

    here : AreDistinct same_link more
    here = each_links (suc k) before.state (AreDistinct same_link) (omega arith) (λ l i. (tt, tt)) (λ l m i j e. ((other_speaker l m e, tt), (tt, tt)))

    there : AllByRecursion (λ x. AllByRecursion (λ y. same_link x y ≡ false) more) before.links
    there = all_links (λ x. AllByRecursion (λ y. same_link x y ≡ false) more) seed k (λ j x b o.
        let less : (l : Link) → IsLinkOf (suc k) l → same_link x l ≡ false = λ l i. other_listener x l (omega (arith, i.listener_is, o.listener_is)) in
        each_links (suc k) before.state (AllByRecursion (λ y. same_link x y ≡ false)) (omega arith) (λ l i. (less l i, tt)) (λ l m i k e. (less l i, (less m k, tt))))

arcs_fit : (n id : ℕ) (links : List Link) → AllByRecursion (λ (l : Link). (l.listener < n) × (l.speaker < l.listener) × (1 ≤ l.weight) × (l.weight ≤ 9)) links → AllByRecursion (IsArcOf demo_alg n) (arcs_of id links)
arcs_fit n id [] all = tt
arcs_fit n id (l ∷ links) all =
    let is = all.0 in (
      record { tail_in = is.0; head_in = omega (arith, is.0, is.1); apart = apart l.listener l.speaker is.1; label_in = (is.2, is.3); bound = omega (arith, is.3) },
      arcs_fit n (id + 1) links all.1,
    )
  where
    apart : (i j : ℕ) → j < i → (i == j) ≡ false
    apart i j h = grind (arith, nat_tests)

-- ---- the network

demo_is_alg : IsAlg demo_alg
demo_is_alg = record { formed = record { ranges = omega arith; carriers = tt; size = omega arith; names = tt }; bound = (omega arith, omega arith) }

pub generated_is_net : (seed n : ℕ) → AreDemoNodes n → IsNet (generated_net seed n)
generated_is_net seed n d = record {
  is_alg = demo_is_alg;
  node_room = omega (arith, count, d.most);
  arc_room = omega (arith, few_links seed (n - 1), arcs, d.most);
  dest_room = omega arith;
  node_names = are_names 0 n (omega (arith, d.most));
  dest_names = (refl, (refl, tt));
  node_apart = apart_names 0 n (omega (arith, d.most));
  dest_apart = ((refl, tt), (tt, tt));
  arcs_in = subst (λ c. AllByRecursion (IsArcOf demo_alg c) (arcs_of 0 links)) (sym count) (arcs_fit n 0 links fit);
  arc_apart = apart_arcs 0 links (links_apart seed (n - 1));
  arc_ids = numbered_arcs 0 links;
  origins_in = (
    record { node_in = omega (arith, count, d.least); dest_in = omega arith; value_in = tt; bound = omega arith },
    (record { node_in = omega (arith, count, d.least); dest_in = omega arith; value_in = tt; bound = omega arith }, tt),
  );
  origin_apart = ((refl, tt), (tt, tt));
}
  where
    links : List Link
    links = (links_to seed (n - 1)).links

    count : length (node_names n) ≡ n
    count = length-map-range_with_len node_name 0 n

    arcs : length (arcs_of 0 links) ≡ length links
    arcs = length_arcs 0 links

    fit : AllByRecursion (λ (l : Link). (l.listener < n) × (l.speaker < l.listener) × (1 ≤ l.weight) × (l.weight ≤ 9)) links
    fit = all_links (λ l. (l.listener < n) × (l.speaker < l.listener) × (1 ≤ l.weight) × (l.weight ≤ 9)) seed (n - 1)
        (λ j l b i. (omega (arith, i.listener_is, b, d.least), omega (arith, i.listener_is, i.before), i.least, i.most))
