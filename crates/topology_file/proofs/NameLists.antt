-- What the names of a line make of a network, one after another.
use Rattle.std.proofs.Common.{◌≡◌, ℕ, ◌+◌, ◌<◌, ◌≤◌, Bool, true, false, not, ◌||◌, cond, ltb, leb, List, [], ◌∷◌, ◌++◌, length, Some, None, Result, Ok, Err, refl, ◌∙◌, arith, length-append}
use Rattle.std.proofs.lemmas.Bool.Decides.{nat_tests}
use Rattle.std.specs.List.{list_any, list_all, prefix_len}
use Rattle.std.specs.Option.{is_some}
use Rattle.std.specs.Str.{bytes_eq}
use Rattle.net_graph.specs.Limits.{max_nodes}
use Rattle.net_graph.specs.Nets.{PureNet, IsNet, number_of, is_name}
use Rattle.net_graph.specs.NetLaws.{number_within}
use Rattle.net_graph.specs.Lines.{with_node}
use Rattle.topology_file.specs.declared.faults.What.TheVariants.{Nodes}
use Rattle.topology_file.specs.declared.faults.NetKind.{NetKind}
use Rattle.topology_file.specs.declared.faults.NetKind.TheVariants.{BadLine, NodeTwice, TooMany}
use Rattle.topology_file.specs.NetText.{names_twice}
use Rattle.topology_file.specs.LineErrors.{after_names, fault_after}

-- the number of a name is that of one of them
pub named_within : (names : List (List ℕ)) (name : List ℕ) (n : ℕ) → number_of names name ≡ Some n → n < length names
named_within names name n e = number_within names name n e

any_position : {X : Type 0} (p : X → Bool) (xs : List X) → ltb (prefix_len (λ x. not (p x)) xs) (length xs) ≡ list_any p xs
any_position p [] = refl
any_position {X} p (x ∷ xs) = by (p x) (any_position p xs)
  where
    by : (b : Bool) → ltb (prefix_len (λ y. not (p y)) xs) (length xs) ≡ list_any p xs → ltb (cond (not b) (1 + prefix_len (λ y. not (p y)) xs) 0) (length (x ∷ xs)) ≡ (b || list_any p xs)
    by true e = grind (arith, nat_tests)
    by false e = grind (arith, nat_tests)

-- a name has a number where it is one of them
is_there : (names : List (List ℕ)) (name : List ℕ) → is_some (number_of names name) ≡ list_any (λ n. bytes_eq name n) names
is_there names name = by (ltb at (length names)) ∙ any_position (λ n. bytes_eq name n) names
  where
    at : ℕ
    at = prefix_len (λ n. not (bytes_eq name n)) names

    by : (b : Bool) → is_some (cond b (Some at) None) ≡ b
    by true = refl
    by false = refl

any_push : {X : Type 0} (p : X → Bool) (xs : List X) (x : X) → list_any p (xs ++ x ∷ []) ≡ (list_any p xs || p x)
any_push p [] x = by (p x)
  where
    by : (b : Bool) → (b || false) ≡ b
    by true = refl
    by false = refl
any_push {X} p (y ∷ xs) x = rw (any_push p xs x) (by (p y))
  where
    by : (b : Bool) → (b || (list_any p xs || p x)) ≡ ((b || list_any p xs) || p x)
    by true = refl
    by false = refl

is_there_push : (names : List (List ℕ)) (new name : List ℕ) → is_some (number_of (names ++ new ∷ []) name) ≡ (is_some (number_of names name) || bytes_eq name new)
is_there_push names new name = rw (is_there (names ++ new ∷ []) name, is_there names name) (any_push (λ n. bytes_eq name n) names new)

shuffled : (a b c d e : Bool) → ((a || b) || (c || (d || e))) ≡ ((b || d) || (a || (c || e)))
shuffled true true c d e = refl
shuffled true false c true e = refl
shuffled true false c false e = refl
shuffled false true c d e = refl
shuffled false false true true e = refl
shuffled false false true false e = refl
shuffled false false false true e = refl
shuffled false false false false e = refl

-- after a new name stands one that is there twice, where that is the new one or was there before it
pub twice_more : (there : List (List ℕ)) (new : List ℕ) (names : List (List ℕ)) → names_twice (there ++ new ∷ []) names ≡ (list_any (λ w. bytes_eq w new) names || names_twice there names)
twice_more there new [] = refl
twice_more there new (name ∷ names) =
    rw (is_there_push there new name, twice_more (there ++ new ∷ []) name names, twice_more there new names, twice_more there name names)
    (shuffled (is_some (number_of there name)) (bytes_eq name new) (list_any (λ w. bytes_eq w name) names) (list_any (λ w. bytes_eq w new) names) (names_twice there names))

-- a name is there or not, and what is after it
pub twice_first : (there : List (List ℕ)) (name : List ℕ) (names : List (List ℕ)) → names_twice there (name ∷ names) ≡ (is_some (number_of there name) || (list_any (λ w. bytes_eq w name) names || names_twice there names))
twice_first there name names = rw (twice_more there name names) refl

after : (b : Bool) (kind : NetKind) (r : Result PureNet NetKind) → r ≡ Err kind → cond b r (Err BadLine) ≡ Err (cond b kind BadLine)
after true kind r e = e
after false kind r e = refl

-- the first of these nodes is added, and then the others
pub names_more : (net : PureNet) (name : List ℕ) (names : List (List ℕ)) → is_name name ≡ true → number_of net.nodes name ≡ None → after_names net (name ∷ names) ≡ after_names (with_node net name) names
names_more net name names named absent =
    let count : length net.nodes + length (name ∷ names) ≡ length (net.nodes ++ name ∷ []) + length names = omega (arith, length-append net.nodes (name ∷ [])) in
    rw (named, absent, count) refl

-- the first is there
pub names_there : (net : PureNet) (name : List ℕ) (names : List (List ℕ)) (k : ℕ) → is_name name ≡ true → number_of net.nodes name ≡ Some k → after_names net (name ∷ names) ≡ Err (fault_after NodeTwice names)
names_there net name names k named e = rw (named, e) (after (list_all is_name names) NodeTwice (Err NodeTwice) refl)

-- no node may be added, and a name stands twice
pub full_twice : (net : PureNet) (name : List ℕ) (names : List (List ℕ)) → is_name name ≡ true → number_of net.nodes name ≡ None
    → (list_any (λ w. bytes_eq w name) names || names_twice net.nodes names) ≡ true → after_names net (name ∷ names) ≡ Err (fault_after NodeTwice names)
full_twice net name names named absent twice = rw (named, absent, twice_more net.nodes name names, twice) (after (list_all is_name names) NodeTwice (Err NodeTwice) refl)

-- or none does
pub full_once : (net : PureNet) (name : List ℕ) (names : List (List ℕ)) → is_name name ≡ true → number_of net.nodes name ≡ None → max_nodes net.alg.edition ≤ length net.nodes
    → (list_any (λ w. bytes_eq w name) names || names_twice net.nodes names) ≡ false → after_names net (name ∷ names) ≡ Err (fault_after (TooMany Nodes) names)
full_once net name names named absent full once =
    let above : ltb (max_nodes net.alg.edition) (length net.nodes + length (name ∷ names)) ≡ true = grind (arith, nat_tests) in
    let room : leb (length net.nodes + length (name ∷ names)) (max_nodes net.alg.edition) ≡ false = grind (arith, nat_tests) in
    rw (named, absent, twice_more net.nodes name names, once, room) (after (list_all is_name names) (TooMany Nodes) (Err (TooMany Nodes)) refl)

-- no name adds nothing
pub names_none : (net : PureNet) → IsNet net → after_names net [] ≡ Ok net
names_none net n =
    let most = n.node_room in
    let room : leb (length net.nodes + 0) (max_nodes net.alg.edition) ≡ true = grind (arith, nat_tests) in
    rw room refl
