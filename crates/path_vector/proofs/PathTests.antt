-- Tests of paths, which go over nodes, as tests of their numbers.
use Rattle.std.proofs.Common.{◌≡◌, ◌≢◌, ◌⊎◌, ◌↔◌, ℕ, ◌≤◌, subst, List, [], ◌∷◌, Bool, true, false, ◌&&◌, ltb, length, refl, arith}
use Rattle.std.specs.Prelude.{◌==◌, nat_lt}
use Rattle.std.specs.Bool.{Decides}
use Rattle.std.specs.List.{list_any, list_all}
use Rattle.std.specs.Str.{bytes_eq}
use Rattle.meta_base.specs.declared.ids.NodeId.{NodeId}
use Rattle.std.specs.Ordering.{nat_cmp}
use Rattle.std.specs.declared.cmp.Ordering.{Ordering}
use Rattle.std.specs.declared.cmp.Ordering.TheVariants.{Less, Equal, Greater}
use Rattle.std.proofs.lemmas.Bool.{and_parts}
use Rattle.std.proofs.lemmas.Bool.Decides.{nat_tests}
use Rattle.std.proofs.lemmas.Slice.Eq.{bytes_eq-Decides}
use Rattle.net_graph.specs.RouteLaws.{paths_equal}
use Rattle.meta_base.specs.NodePaths.{numbers, compare_nodes, compare_paths}
use Rattle.net_graph.specs.Tables.{is_among}

pub any_number : (nodes : List NodeId) (i : ℕ) → list_any (λ (n : NodeId). n.0 == i) nodes ≡ is_among (numbers nodes) i
any_number [] i = refl
any_number (n ∷ nodes) i = rw (any_number nodes i) refl

pub all_numbers : (nodes : List NodeId) (count : ℕ) → list_all (λ (n : NodeId). ltb n.0 count) nodes ≡ list_all (λ n. nat_lt n count) (numbers nodes)
all_numbers [] count = refl
all_numbers (n ∷ nodes) count = rw (all_numbers nodes count) refl

-- paths that compare as equal are one, and others are not
pub same_paths : (p q : List ℕ) → compare_paths p q ≡ Equal → bytes_eq p q ≡ true
same_paths p q e = (bytes_eq-Decides p q).1 (paths_equal p q e)

nodes_self : (p : List ℕ) → compare_nodes p p ≡ Equal
nodes_self [] = refl
nodes_self (i ∷ p) =
    let same : nat_cmp i i ≡ Equal = grind (arith, nat_tests) in
    rw (same, nodes_self p) refl

paths_self : (p : List ℕ) → compare_paths p p ≡ Equal
paths_self p =
    let same : nat_cmp (length p) (length p) ≡ Equal = grind (arith, nat_tests) in
    rw (same, nodes_self p) refl

pub other_paths : (p q : List ℕ) → compare_paths p q ≢ Equal → bytes_eq p q ≡ false
other_paths p q f = by (bytes_eq p q) refl
  where
    by : (b : Bool) → bytes_eq p q ≡ b → b ≡ false
    by true e = absurd (f (subst (λ z. compare_paths p z ≡ Equal) ((bytes_eq-Decides p q).0 e) (paths_self p)))
    by false e = refl

pub and_true : (b : Bool) → (b && true) ≡ b
and_true true = refl
and_true false = refl

pub and_false : (b : Bool) → (b && false) ≡ false
and_false true = refl
and_false false = refl

pub unequal : (o p : Ordering) → (o ≡ Less) ⊎ (o ≡ Greater) → p ≡ o → p ≢ Equal
unequal o p h e f = grind arith

-- tests that decide one thing are one
pub one_test : (a b : Bool) {P : Type 0} → ((a ≡ true) ↔ P) → Decides b P → a ≡ b
one_test true true h d = refl
one_test false false h d = refl
one_test true false h d = absurd (let e = d.1 (h.0 refl) in cc)
one_test false true h d = absurd (let e = h.1 (d.0 refl) in cc)

-- a chain of tests
pub all_but_last : (a b c d e x : Bool) → a ≡ true → b ≡ true → c ≡ true → d ≡ true → x ≡ e → x ≡ (a && b && c && d && e)
all_but_last a b c d e x p q r s h = rw (p, q, r, s) h

pub path_fails : (a b c d e : Bool) → a ≡ true → b ≡ true → (d && c) ≡ false → false ≡ (a && b && c && d && e)
path_fails a b true true e p q r = absurd (cc)
path_fails a b true false e p q r = rw (p, q) refl
path_fails a b false d e p q r = rw (p, q) refl

-- what is below one bound is below a greater one
pub all_below_more : (path : List NodeId) (few many : ℕ) → few ≤ many → list_all (λ (n : NodeId). nat_lt n.0 few) path ≡ true → list_all (λ (n : NodeId). nat_lt n.0 many) path ≡ true
all_below_more [] few many l all = refl
all_below_more (n ∷ path) few many l all =
    let both = and_parts (nat_lt n.0 few) (list_all (λ (n : NodeId). nat_lt n.0 few) path) all in
    let test : nat_lt n.0 few ≡ true = both.0 in
    let more : nat_lt n.0 many ≡ true = grind (arith, nat_tests) in
    rw (more, all_below_more path few many l both.1) refl
