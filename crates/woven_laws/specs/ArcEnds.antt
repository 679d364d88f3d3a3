-- Who listens and who speaks on the arcs of a network. Lemmas, so that proofs of other crates may cite them.
use Rattle.std.proofs.Common.{◌≡◌, ℕ, ◌<◌, ◌≤◌, ◌⊎◌, List, Some, None, length, slice_get, get_or, option_map, inl, inr, subst, ap, arith}
use Rattle.std.proofs.lemmas.Option.{slice_get_cases}
use Rattle.net_graph.specs.Nets.{PureArc, PureNet, IsNet, IsArcOf}
use Rattle.net_graph.specs.ArcLaws.{all_at}
use Rattle.node_core.specs.Kinds.{listener, speaker}
use Rattle.node_core.specs.MachineLaws.{option_from}

-- an arc of the network: who listens and who speaks there
pub record HasEnds (net : PureNet) (a : ℕ) : Type 0 where
  pub hearer : ℕ
  pub teller : ℕ
  pub listens : listener net a ≡ Some hearer
  pub speaks : speaker net a ≡ Some teller

got_at : {X : Type 0} (xs : List X) (i : ℕ) → i < length xs → (x : X) × (slice_get xs i ≡ Some x)
got_at {X = X} xs i h = by (slice_get_cases xs i).1
  where
    by : (((x : X) × (i < length xs) × (slice_get xs i ≡ Some x) × (get_or xs i x ≡ x)) ⊎ ((length xs ≤ i) × (slice_get xs i ≡ None))) → (x : X) × (slice_get xs i ≡ Some x)
    by (inl w) = (w.0, w.2)
    by (inr p) = let past = p.0 in absurd (omega (arith, h, past))

ends_of : (net : PureNet) (a : ℕ) (x : PureArc) → slice_get net.arcs a ≡ Some x → HasEnds net a
ends_of net a x e = record { hearer = x.tail; teller = x.head; listens = ap (option_map (λ (y : PureArc). y.tail)) e; speaks = ap (option_map (λ (y : PureArc). y.head)) e }

pub ends_at : (net : PureNet) (a : ℕ) → a < length net.arcs → HasEnds net a
ends_at net a h = let got = got_at net.arcs a h in ends_of net a got.0 got.1

-- where one listens one speaks
pub ends_heard : (net : PureNet) (a i : ℕ) → listener net a ≡ Some i → HasEnds net a
ends_heard net a i e = let from = option_from (λ (x : PureArc). x.tail) (slice_get net.arcs a) i e in ends_of net a from.0 from.1

-- both are nodes of the network
pub hearer_within : (net : PureNet) → IsNet net → (a i : ℕ) → listener net a ≡ Some i → i < length net.nodes
hearer_within net is_net a i e =
    let from = option_from (λ (x : PureArc). x.tail) (slice_get net.arcs a) i e in
    subst (λ n. n < length net.nodes) from.2 (all_at (IsArcOf net.alg (length net.nodes)) net.arcs a from.0 is_net.arcs_in from.1).tail_in

pub teller_within : (net : PureNet) → IsNet net → (a i : ℕ) → speaker net a ≡ Some i → i < length net.nodes
teller_within net is_net a i e =
    let from = option_from (λ (x : PureArc). x.head) (slice_get net.arcs a) i e in
    subst (λ n. n < length net.nodes) from.2 (all_at (IsArcOf net.alg (length net.nodes)) net.arcs a from.0 is_net.arcs_in from.1).head_in
