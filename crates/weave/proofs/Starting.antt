-- What a phase starts with.
use Rattle.std.proofs.Common.{◌≡◌, ℕ, zero, suc, ◌*◌, ◌<◌, ◌≤◌, ◌^◌, List, [], ◌∷◌, Option, Some, None, map, length, slice_get, vec_len, option_map, refl, sym, ap, subst, ◌∙◌, arith}
use Rattle.std.specs.declared.alloc.Global.{Global}
use Rattle.std.specs.declared.collections.VecDeque.{VecDeque}
use Rattle.std.proofs.lemmas.List.{length-map}
use Rattle.std.proofs.lemmas.Option.{slice_get_past}
use Rattle.net_graph.specs.Nets.{PureNet, IsNet}
use Rattle.node_core.specs.Configs.{waits_on}
use Rattle.node_core.specs.Kinds.{Kind, IsLawful}
use Rattle.node_core.specs.Machine.{Machine, AreUnbegun, Start}
use Rattle.node_core.specs.OrderLaws.{start_up_to}
use Rattle.node_core.specs.Running.{IsRunning}
use Rattle.woven_laws.specs.Counts.{total, waiting_on}
use Rattle.woven_laws.specs.CountLaws.{total_same}
use Rattle.weave.specs.declared.started.Started.{Started}
use Rattle.weave.specs.Started.{IsStarted}
use Rattle.weave.proofs.Round.{begun_link_few}

there : {Y : Type 0} (xs : List Y) (i : ℕ) → i < length xs → slice_get xs i ≡ None → ⊥
there [] i h e = absurd (omega (arith, h))
there (x ∷ xs) zero h e = absurd (cc)
there (x ∷ xs) (suc i) h e = there xs i (omega (arith, h)) e

-- a machine that runs has as many nodes as its network
pub made_count : {N S M : Type 0} (k : Kind S M) (net : PureNet) (state : N → S) (c : Machine S M) → IsRunning k net c → (made : List N) → ((i : ℕ) → c.node i ≡ option_map state (slice_get made i)) → length made ≡ length net.nodes
made_count k net state c running made are = order (length made) (length net.nodes) fewer more
  where
    order : (m n : ℕ) → (m < n → ⊥) → (n < m → ⊥) → m ≡ n
    order m n p q = omega (arith, p, q)

    fewer : length made < length net.nodes → ⊥
    fewer h =
        let one = running.there (length made) h in
        let none : c.node (length made) ≡ None = are (length made) ∙ ap (option_map state) (slice_get_past made (length made) (omega arith)) in
        let clash : Some one.0 ≡ None = sym one.1 ∙ none in
        absurd (cc)

    more : length net.nodes < length made → ⊥
    more h = missing (slice_get made (length net.nodes)) refl
      where
        missing : (o : Option _) → slice_get made (length net.nodes) ≡ o → ⊥
        missing None e = there made (length net.nodes) h e
        missing (Some n) e =
            let clash : Some (state n) ≡ None = sym (are (length net.nodes) ∙ ap (option_map state) e) ∙ running.past (length net.nodes) (omega arith) in
            absurd (cc)

module _ {N X S M : Type 0} (state : N → S) (note : X → M) (k : Kind S M) (lawful : IsLawful k) (net : PureNet) (is_net : IsNet net) (nodes : List S) (unbegun : AreUnbegun k net 0 nodes)
    (c : Machine S M) (start : c ≡ Start k nodes) (running : IsRunning k net c) (made : List N) (links : List (VecDeque X Global))
    (nodes_are : (i : ℕ) → c.node i ≡ option_map state (slice_get made i)) (links_are : (a : ℕ) → c.link a ≡ map note (waits_on links a)) where
  pub few_links : (a : ℕ) → length (waits_on links a) ≤ 2 ^ 16
  few_links a =
      let few : length (c.link a) ≤ 64 = subst (λ m. length (m.link a) ≤ 64) (sym start) (begun_link_few k net lawful is_net nodes unbegun a) in
      let len : length (c.link a) ≡ length (waits_on links a) = ap length (links_are a) ∙ length-map (waits_on links a) note in
      omega (arith, few, len)

  most : (n : ℕ) (f : ℕ → ℕ) → ((i : ℕ) → f i ≤ 64) → total n f ≤ n * 64
  most zero f h = omega arith
  most (suc n) f h = let r = most n f h in let s = h n in omega (arith, r, s)

  small_start : waiting_on net (Start k nodes) ≤ 2 ^ 20
  small_start =
      let sum = most (length net.arcs) (λ a. length ((Start k nodes).link a)) (λ a. begun_link_few k net lawful is_net nodes unbegun a) in
      let room = is_net.arc_room in
      omega (arith, sum, room)

  pub has_started : (started : Started N X) → started.nodes ≡ made → started.links.items ≡ links → vec_len started.links ≡ length net.arcs → length links ≡ length net.arcs → started.waiting ≡ total (length links) (λ a. length (waits_on links a))
      → IsStarted state note k net (Start k nodes) started
  has_started started same_nodes same_links count len waiting =
      record {
        nodes_are = λ i. ap (λ m. m.node i) (sym start) ∙ (nodes_are i ∙ ap (λ (ns : List N). option_map state (slice_get ns i)) (sym same_nodes));
        links_are = λ a. ap (λ m. m.link a) (sym start) ∙ (links_are a ∙ ap (λ (ls : List (VecDeque X Global)). map note (waits_on ls a)) (sym same_links));
        clock_is = λ i. refl;
        link_count = count;
        running = subst (IsRunning k net) start running;
        few = small_start;
        early = start_up_to k lawful nodes;
        waiting = waiting ∙ (ap (λ n. total n (λ b. length (waits_on links b))) len ∙ total_same (length net.arcs) (λ b. length (waits_on links b)) (λ b. length ((Start k nodes).link b))
            (λ b lt. sym (length-map (waits_on links b) note) ∙ (sym (ap length (links_are b)) ∙ ap (λ m. length (m.link b)) start)));
      }
