-- Lists of nodes: which are there, and when two are one.
use Rattle.std.proofs.Common.{◌≡◌, ◌≢◌, ℕ, List, [], ◌∷◌, Bool, true, false, ◌==◌, ◌&&◌, ltb, length, refl, ap, arith}
use Rattle.std.specs.Bool.{Decides}
use Rattle.std.specs.List.{list_any, list_all}
use Rattle.std.specs.Ordering.{nat_cmp}
use Rattle.std.specs.declared.cmp.Ordering.TheVariants.{Equal}
use Rattle.std.proofs.lemmas.Bool.Decides.{nat_tests, Decides-ltb}
use Rattle.meta_base.specs.declared.ids.NodeId.{NodeId}
use Rattle.meta_base.specs.NodePaths.{numbers, compare_nodes, compare_paths}
use Rattle.net_graph.specs.Nets.{PureNet}
use Rattle.net_graph.specs.Routes.{PureRoute}
use Rattle.net_graph.specs.RowTexts.{AreNodesOf}
use Rattle.net_graph.specs.Tables.{is_among}
use Rattle.net_graph.specs.RouteLaws.{same_route, paths_equal}

pub any_number : (nodes : List NodeId) (i : ℕ) → list_any (λ (n : NodeId). n.0 == i) nodes ≡ is_among (numbers nodes) i
any_number [] i = refl
any_number (n ∷ nodes) i = rw (any_number nodes i) refl

both : (a b : Bool) {P Q : Type 0} → Decides a P → Decides b Q → Decides (a && b) (P × Q)
both true b p q = (λ e. (p.0 refl, q.0 e), λ h. q.1 h.1)
both false b p q = (λ e. absurd (cc), λ h. p.1 h.0)

pub all_nodes : (net : PureNet) (count : ℕ) → count ≡ length net.nodes → (nodes : List NodeId) → Decides (list_all (λ (n : NodeId). ltb n.0 count) nodes) (AreNodesOf net (numbers nodes))
all_nodes net count e [] = (λ h. tt, λ h. refl)
all_nodes net count e (n ∷ nodes) = both (ltb n.0 count) (list_all (λ (m : NodeId). ltb m.0 count) nodes) (rw e (Decides-ltb n.0 (length net.nodes))) (all_nodes net count e nodes)

nodes_self : (p : List ℕ) → compare_nodes p p ≡ Equal
nodes_self [] = refl
nodes_self (i ∷ p) =
    let same : nat_cmp i i ≡ Equal = grind (arith, nat_tests) in
    rw (same, nodes_self p) refl

paths_self : (p : List ℕ) → compare_paths p p ≡ Equal
paths_self p =
    let same : nat_cmp (length p) (length p) ≡ Equal = grind (arith, nat_tests) in
    rw (same, nodes_self p) refl

-- routes of one path are one route where their values are
pub same_by_value : (r s : PureRoute) (b : Bool) → compare_paths r.path s.path ≡ Equal → Decides b (r.value ≡ s.value) → Decides b (r ≡ s)
same_by_value r s b e d = (λ h. same_route r s (d.0 h) (paths_equal r.path s.path e), λ h. d.1 (ap (λ (x : PureRoute). x.value) h))

pub differ_by_path : (r s : PureRoute) → compare_paths r.path s.path ≢ Equal → Decides false (r ≡ s)
differ_by_path r s f = (λ h. absurd (cc), λ h. absurd (f (rw h (paths_self s.path))))
