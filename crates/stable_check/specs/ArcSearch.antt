-- A search among the arcs of a node, and look-ups in a network's lists.
use Rattle.std.proofs.Common.{◌≡◌, ℕ, ◌+◌, ◌<◌, ◌≤◌, List, Option, Some, None, true, ◌==◌, map, option_map, length, refl, sym, ap, ◌∙◌, below_more, subst, arith}
use Rattle.std.specs.List.{slice_get, find}
use Rattle.std.proofs.lemmas.Bool.Decides.{nat_tests}
use Rattle.std.proofs.lemmas.Option.{same_Some, slice_get_within}
use Rattle.alg_model.specs.Views.{pure_value}
use Rattle.net_graph.specs.Nets.{PureArc, PureOrigin, PureNet, IsNet, is_arc_between, arcs_from, origins_of, has_arc, label_between, origin_value}
use Rattle.net_graph.specs.Views.{pure_origin}
use Rattle.net_graph.specs.declared.parts.Origin.{Origin}
use Rattle.net_graph.specs.ArcLaws.{any_find, find-filter, found_between}
use Rattle.stable_check.specs.Lists.{IsPlaced, find_placed, filter_placed, find-map}

-- an arc of the node is the one to its head
pub record IsOut (net : PureNet) (i : ℕ) (a : PureArc) : Type 0 where
  pub tail : a.tail ≡ i
  pub label : label_between net a.tail a.head ≡ Some a.label

pub out_arc : (net : PureNet) → IsNet net → (i m : ℕ) (a : PureArc) → slice_get (arcs_from net i) m ≡ Some a → IsOut net i a
out_arc net n i m a e =
    let p = filter_placed (λ (b : PureArc). b.tail == i) net.arcs m a e in
    let t = p.passes in
    record {
      tail = grind (arith, nat_tests);
      label = ap (option_map (λ (b : PureArc). b.label)) (found_between net.arcs n.arc_apart p.place a p.there);
    }

-- where there is an arc it is one of the node's
pub arc_placed : (net : PureNet) (i j : ℕ) → has_arc net i j ≡ true → (a : PureArc) × IsPlaced (λ (b : PureArc). b.head == j) (arcs_from net i) a
arc_placed net i j e =
    let f = any_find (is_arc_between i j) net.arcs e in
    let g : find (λ (b : PureArc). b.head == j) (arcs_from net i) ≡ Some f.0 = sym (find-filter (λ (b : PureArc). b.tail == i) (λ (b : PureArc). b.head == j) net.arcs) ∙ f.1 in
    (f.0, find_placed (λ (b : PureArc). b.head == j) (arcs_from net i) f.0 g)

-- none of the first n arcs of the node goes to a head of which it holds
abbrev pub NoneBefore : PureNet → ℕ → (ℕ → Type 0) → ℕ → Type 0
NoneBefore net i Holds n = (k : ℕ) → k < n → (a : PureArc) → slice_get (arcs_from net i) k ≡ Some a → ¬ Holds a.head

pub none_more : (net : PureNet) (i : ℕ) (Holds : ℕ → Type 0) (n : ℕ) (a : PureArc) → NoneBefore net i Holds n → slice_get (arcs_from net i) n ≡ Some a → ¬ Holds a.head → NoneBefore net i Holds (n + 1)
none_more net i Holds n a before at not_here =
    below_more (λ k. (b : PureArc) → slice_get (arcs_from net i) k ≡ Some b → ¬ Holds b.head) n before
    (λ b e. subst (λ (x : PureArc). ¬ Holds x.head) (same_Some a b (sym at ∙ e)) not_here)

-- where none of all arcs does, and it holds only where there is an arc, it holds nowhere
pub none_at_all : (net : PureNet) (i : ℕ) (Holds : ℕ → Type 0) (n : ℕ) → ((j : ℕ) → Holds j → has_arc net i j ≡ true) → length (arcs_from net i) ≤ n → NoneBefore net i Holds n
    → (j : ℕ) → ¬ Holds j
none_at_all net i Holds n arc all before j h =
    let f = arc_placed net i j (arc j h) in
    let within = slice_get_within (arcs_from net i) f.1.place f.0 f.1.there in
    let passes = f.1.passes in
    let head : f.0.head ≡ j = grind (arith, nat_tests) in
    before f.1.place (omega arith) f.0 f.1.there (subst Holds (sym head) h)

-- what is found among a destination's origins is the one at the node
pub origin_found : (net : PureNet) (dest i : ℕ) (origins : List Origin) → map pure_origin origins ≡ origins_of net dest
    → option_map (λ (o : Origin). pure_value o.value) (find (λ (o : Origin). o.node.0 == i) origins) ≡ origin_value net dest i
origin_found net dest i origins e =
    let f = find-filter (λ (b : PureOrigin). b.dest == dest) (λ (b : PureOrigin). b.node == i) net.origins in
    let g = ap (find (λ (b : PureOrigin). b.node == i)) e in
    let h = find-map (λ (b : PureOrigin). b.node == i) pure_origin origins in
    rw (f, ← g, h) (by (find (λ (a : Origin). a.node.0 == i) origins))
  where
    by : (o : Option Origin) → option_map (λ (a : Origin). pure_value a.value) o ≡ option_map (λ (b : PureOrigin). b.value) (option_map pure_origin o)
    by None = refl
    by (Some a) = refl
