-- The new nodes of a network make a coherent machine. Lemmas, so that proofs of other crates may cite them.
use Rattle.std.proofs.Common.{◌≡◌, ℕ, zero, suc, ◌+◌, ◌<◌, ◌≤◌, inl, inr, List, [], ◌∷◌, ◌++◌, Bool, true, false, ◌||◌, ◌==◌, length, map, cond, is_some, slice_get, Option, Some, None, subst, refl, sym, ap, ◌∙◌, arith}
use Rattle.std.specs.List.{AllByRecursion, list_any, range_with_len}
use Rattle.std.proofs.lemmas.Bool.{cases_lt, eqb-true}
use Rattle.std.proofs.lemmas.Bool.Decides.{nat_tests}
use Rattle.std.proofs.lemmas.Option.{same_Some}
use Rattle.alg_model.specs.Bounds.{AtMost}
use Rattle.alg_model.specs.Carriers.{In}
use Rattle.alg_model.specs.Expressions.{PureValue}
use Rattle.net_graph.specs.Nets.{PureNet, IsNet, arcs_to}
use Rattle.net_graph.specs.Tables.{carrier}
use Rattle.node_core.specs.Kinds.{on_arc, speaker}
use Rattle.node_core.specs.Machine.{Machine, AreUnbegun, begun_messages, Start}
use Rattle.node_core.specs.Running.{IsRunning}
use Rattle.node_core.specs.MachineLaws.{same_test, all_join, on_arc_all, on_arc_join, option_from, start_runs}
use Rattle.distance_node.specs.Coherent.{IsCoherent, last_reported}
use Rattle.distance_node.specs.Fitting.{fits_from, last_reported_append}
use Rattle.distance_node.specs.Lawful.{distance_is_lawful}
use Rattle.distance_node.specs.Node.{Hop, DvState, PureVector, value_of, own_hop, choice, greatest_at, fits_in, vector_of, reported_on, begun_of, all_begun, Begin, distance, new_node, new_nodes}
use Rattle.distance_node.specs.Offers.{own_is, own_may, silent_choice}
use Rattle.distance_node.specs.Reported.{speaks, reported_once, reported_all}

-- a node of a machine that runs is one of the network
pub inside_of : (net : PureNet) (c : Machine DvState PureVector) → IsRunning distance net c → (i : ℕ) (s : DvState) → c.node i ≡ Some s → i < length net.nodes
inside_of net c run i s e = elim (cases_lt i (length net.nodes)) [
  | inl within ↦ within
  | inr past ↦ absurd (let z : None ≡ Some s = sym (run.past i past) ∙ e in cc)
]

-- ---- new nodes

-- the new nodes from number i on
abbrev nodes_from : PureNet → ℕ → ℕ → List DvState
nodes_from net i n = map (new_node net) (range_with_len i n)

are_unbegun : (net : PureNet) (i n : ℕ) → length net.nodes ≡ i + n → AreUnbegun distance net i (nodes_from net i n)
are_unbegun net i zero e = omega (arith, e)
are_unbegun net i (suc n) e = (refl, refl, refl, are_unbegun net (i + 1) n (omega (arith, e)))

pub new_unbegun : (net : PureNet) → AreUnbegun distance net 0 (new_nodes net)
new_unbegun net = are_unbegun net 0 (length net.nodes) (omega arith)

at_range : {X : Type 0} (f : ℕ → X) (a n i : ℕ) (x : X) → slice_get (map f (range_with_len a n)) i ≡ Some x → x ≡ f (a + i)
at_range f a zero i x e = absurd (cc)
at_range f a (suc n) zero x e =
    let place : a ≡ a + 0 = omega arith in
    let same : f a ≡ x = cc in
    sym same ∙ ap f place
at_range f a (suc n) (suc i) x e =
    let place : a + 1 + i ≡ a + suc i = omega arith in
    at_range f (a + 1) n i x e ∙ ap f place

-- what a node of the start is
pub begun_is : (net : PureNet) (i : ℕ) (s : DvState) → (Start distance (new_nodes net)).node i ≡ Some s → s ≡ (Begin (new_node net i)).0
begun_is net i s e =
    let from = option_from (λ z. (Begin z).0) (slice_get (new_nodes net) i) s e in
    let place : 0 + i ≡ i = omega arith in
    let new : from.0 ≡ new_node net i = at_range (new_node net) 0 (length net.nodes) i from.0 from.1 ∙ ap (new_node net) place in
    sym from.2 ∙ ap (λ z. (Begin z).0) new

-- ---- what stands on an arc

-- what a value is, if it is there, and this else
abbrev or_this : Option PureValue → Option PureValue → Option PureValue
or_this None h = h
or_this (Some v) h = Some v

or_twice : (u h : Option PureValue) → or_this u (or_this u h) ≡ or_this u h
or_twice None h = refl
or_twice (Some v) h = refl

module _ (net : PureNet) (n : IsNet net) (a : ℕ) where
  -- on an arc on which a node doesn't speak it says nothing
  one_silent : (i d : ℕ) → speaks net i a ≡ false → on_arc a (begun_of net i d) ≡ []
  one_silent i d e = by (is_some (own_hop net d i))
    where
      by : (b : Bool) → on_arc a (cond b (reported_on (arcs_to net i) (vector_of d (own_hop net d i) 0)) []) ≡ []
      by true = reported_once net i a (vector_of d (own_hop net d i) 0) n ∙ ap (λ b. cond b (vector_of d (own_hop net d i) 0 ∷ []) []) e
      by false = refl

  silent : (i : ℕ) (dests : List ℕ) → speaks net i a ≡ false → on_arc a (all_begun net i dests) ≡ []
  silent i [] e = refl
  silent i (d ∷ dests) e =
      on_arc_join a (begun_of net i d) (all_begun net i dests)
      ∙ (ap (λ l. l ++ on_arc a (all_begun net i dests)) (one_silent i d e) ∙ silent i dests e)

  module _ (j : ℕ) (speaks_here : speaks net j a ≡ true) where
    -- what it says of one row on an arc on which it speaks
    one_said : (d dest : ℕ) (h : Option PureValue) → last_reported dest h (on_arc a (begun_of net j d)) ≡ cond (d == dest) (or_this (value_of (own_hop net d j)) h) h
    one_said d dest h = by (own_hop net d j)
      where
        reported : (m : PureVector) → on_arc a (reported_on (arcs_to net j) m) ≡ m ∷ []
        reported m = reported_once net j a m n ∙ ap (λ b. cond b (m ∷ []) []) speaks_here

        nothing : (b : Bool) → h ≡ cond b h h
        nothing true = refl
        nothing false = refl

        by : (o : Option Hop) → last_reported dest h (on_arc a (cond (is_some o) (reported_on (arcs_to net j) (vector_of d o 0)) [])) ≡ cond (d == dest) (or_this (value_of o) h) h
        by None = nothing (d == dest)
        by (Some x) = ap (last_reported dest h) (reported (vector_of d (Some x) 0))

    all_said : (dest : ℕ) (dests : List ℕ) (h : Option PureValue) → last_reported dest h (on_arc a (all_begun net j dests)) ≡ cond (list_any (λ d. d == dest) dests) (or_this (value_of (own_hop net dest j)) h) h
    all_said dest [] h = refl
    all_said dest (d ∷ dests) h =
        ap (last_reported dest h) (on_arc_join a (begun_of net j d) (all_begun net j dests))
        ∙ (last_reported_append dest h (on_arc a (begun_of net j d)) (on_arc a (all_begun net j dests))
        ∙ (ap (λ z. last_reported dest z (on_arc a (all_begun net j dests))) (one_said d dest h) ∙ by (λ z. all_said dest dests z) (d == dest) refl))
      where
        twice : (b : Bool) (u : Option PureValue) → cond b (or_this u (or_this u h)) (or_this u h) ≡ or_this u h
        twice true u = or_twice u h
        twice false u = refl

        by : ((z : Option PureValue) → last_reported dest z (on_arc a (all_begun net j dests)) ≡ cond (list_any (λ d. d == dest) dests) (or_this (value_of (own_hop net dest j)) z) z)
            → (b : Bool) → (d == dest) ≡ b → last_reported dest (cond b (or_this (value_of (own_hop net d j)) h) h) (on_arc a (all_begun net j dests))
            ≡ cond (b || list_any (λ d. d == dest) dests) (or_this (value_of (own_hop net dest j)) h) h
        by rest true e =
            let same : d ≡ dest = eqb-true d dest e in
            ap (λ z. last_reported dest (or_this (value_of (own_hop net z j)) h) (on_arc a (all_begun net j dests))) same
            ∙ (rest (or_this (value_of (own_hop net dest j)) h) ∙ twice (list_any (λ d. d == dest) dests) (value_of (own_hop net dest j)))
        by rest false e = rest h

in_range : (a n dest : ℕ) → a ≤ dest → dest < a + n → list_any (λ d. d == dest) (range_with_len a n) ≡ true
in_range a zero dest l m = absurd (omega (arith, l, m))
in_range a (suc n) dest l m = by (λ k. in_range (a + 1) n dest k (omega (arith, m))) (a == dest) refl
  where
    by : (a + 1 ≤ dest → list_any (λ d. d == dest) (range_with_len (a + 1) n) ≡ true) → (b : Bool) → (a == dest) ≡ b → (b || list_any (λ d. d == dest) (range_with_len (a + 1) n)) ≡ true
    by rest true e = refl
    by rest false e = let k : a + 1 ≤ dest = grind (arith, nat_tests) in rest k

module _ (net : PureNet) (n : IsNet net) where
  abbrev all_dests : List ℕ
  all_dests = range_with_len 0 (length net.dests)

  -- after a node has begun, its listeners know its rows
  said_row : (a j dest : ℕ) → speaks net j a ≡ true → last_reported dest None (on_arc a (all_begun net j all_dests)) ≡ value_of (own_hop net dest j)
  said_row a j dest e = all_said net n a j e dest all_dests None ∙ by (list_any (λ d. d == dest) all_dests) refl (own_hop net dest j) refl
    where
      by : (b : Bool) → list_any (λ d. d == dest) all_dests ≡ b → (o : Option Hop) → own_hop net dest j ≡ o → cond b (or_this (value_of o) None) None ≡ value_of o
      by b f None g = none b
        where
          none : (c : Bool) → cond {A = Option PureValue} c None None ≡ None
          none true = refl
          none false = refl
      by true f (Some h) g = refl
      by false f (Some h) g =
          let within = (own_may net n dest j 0 h (own_is net dest j h g)).dest_in in
          absurd (let t = in_range 0 (length net.dests) dest (omega arith) (omega (arith, within)) in let z : true ≡ false = sym t ∙ f in cc)

  module _ (a j : ℕ) (sp : speaker net a ≡ Some j) where
    abbrev puts : ℕ → ℕ → List PureVector
    puts i k = on_arc a (begun_messages distance (nodes_from net i k))

    other : (i : ℕ) → (j == i) ≡ false → speaks net i a ≡ false
    other i e = rw sp e

    here : speaks net j a ≡ true
    here = rw sp (same_test j)

    passed : (i k : ℕ) → j < i → puts i k ≡ []
    passed i zero l = refl
    passed i (suc k) l =
        let apart : (j == i) ≡ false = grind (arith, nat_tests) in
        on_arc_join a (all_begun net i all_dests) (begun_messages distance (nodes_from net (i + 1) k))
        ∙ (ap (λ m. m ++ puts (i + 1) k) (silent net n a i all_dests (other i apart)) ∙ passed (i + 1) k (omega (arith, l)))

    nothing_more : (ms : List PureVector) → ms ++ [] ≡ ms
    nothing_more [] = refl
    nothing_more (m ∷ ms) = ap (λ l. m ∷ l) (nothing_more ms)

    speaker_puts : (i k : ℕ) → i ≤ j → j < i + k → puts i k ≡ on_arc a (all_begun net j all_dests)
    speaker_puts i zero l m = absurd (omega (arith, l, m))
    speaker_puts i (suc k) l m = on_arc_join a (all_begun net i all_dests) (begun_messages distance (nodes_from net (i + 1) k)) ∙ by (λ next. speaker_puts (i + 1) k next (omega (arith, m))) (j == i) refl
      where
        by : (i + 1 ≤ j → puts (i + 1) k ≡ on_arc a (all_begun net j all_dests)) → (b : Bool) → (j == i) ≡ b → on_arc a (all_begun net i all_dests) ++ puts (i + 1) k ≡ on_arc a (all_begun net j all_dests)
        by rest true e =
            let same : j ≡ i = eqb-true j i e in
            ap (λ l. on_arc a (all_begun net i all_dests) ++ l) (passed (i + 1) k (omega (arith, same)))
            ∙ (nothing_more (on_arc a (all_begun net i all_dests)) ∙ ap (λ z. on_arc a (all_begun net z all_dests)) (sym same))
        by rest false e =
            let next : i + 1 ≤ j = grind (arith, nat_tests) in
            ap (λ l. l ++ puts (i + 1) k) (silent net n a i all_dests (other i e)) ∙ rest next

  -- all that waits fits
  begun_fits : (i : ℕ) (dests : List ℕ) → AllByRecursion (λ (p : ℕ × PureVector). fits_in net p.1 ≡ true) (all_begun net i dests)
  begun_fits i [] = tt
  begun_fits i (d ∷ dests) = all_join (λ (p : ℕ × PureVector). fits_in net p.1 ≡ true) (begun_of net i d) (all_begun net i dests) (by (own_hop net d i) refl) (begun_fits i dests)
    where
      by : (o : Option Hop) → own_hop net d i ≡ o → AllByRecursion (λ (p : ℕ × PureVector). fits_in net p.1 ≡ true) (cond (is_some o) (reported_on (arcs_to net i) (vector_of d o 0)) [])
      by None e = tt
      by (Some h) e =
          let may = own_may net n d i 0 h (own_is net d i h e) in
          reported_all (λ m. fits_in net m ≡ true) (arcs_to net i) (vector_of d (Some h) 0) (fits_from net (vector_of d (Some h) 0) may.dest_in (λ v f. fit v f may.value_in may.small))
        where
          fit : (v : PureValue) → Some h.value ≡ Some v → In (carrier net) h.value → AtMost (greatest_at 0) h.value → In (carrier net) v × AtMost (greatest_at 0) v
          fit v f i b =
              let same : h.value ≡ v = same_Some _ _ f in
              (subst (In (carrier net)) same i, subst (AtMost (greatest_at 0)) same b)

  all_begun_fit : (i k : ℕ) → AllByRecursion (λ (p : ℕ × PureVector). fits_in net p.1 ≡ true) (begun_messages distance (nodes_from net i k))
  all_begun_fit i zero = tt
  all_begun_fit i (suc k) = all_join (λ (p : ℕ × PureVector). fits_in net p.1 ≡ true) (all_begun net i all_dests) (begun_messages distance (nodes_from net (i + 1) k)) (begun_fits i all_dests) (all_begun_fit (i + 1) k)

  -- the machine at the start is coherent
  pub start_is_coherent : IsCoherent net (Start distance (new_nodes net))
  start_is_coherent = record {
    running = running;
    fit = λ a. on_arc_all (λ m. fits_in net m ≡ true) a (begun_messages distance (new_nodes net)) (all_begun_fit 0 (length net.nodes));
    known = λ i a dest s v e h. absurd (let z : None ≡ Some v = ap (λ (q : DvState). q.heard a dest) (sym (begun_is net i s e)) ∙ h in cc);
    chosen = λ i dest s e. subst (λ (q : DvState). q.rows dest ≡ choice net dest i (λ a. q.heard a dest)) (sym (begun_is net i s e)) (sym (silent_choice net n dest i));
    reported = λ a i j dest s t li sp es et.
        subst (λ (q : DvState). last_reported dest (q.heard a dest) (on_arc a (begun_messages distance (new_nodes net))) ≡ value_of (t.rows dest)) (sym (begun_is net i s es))
        (subst (λ (q : DvState). last_reported dest None (on_arc a (begun_messages distance (new_nodes net))) ≡ value_of (q.rows dest)) (sym (begun_is net j t et)) (said a j dest t sp et));
  }
    where
      running : IsRunning distance net (Start distance (new_nodes net))
      running = start_runs distance distance_is_lawful net n (new_nodes net) (new_unbegun net)

      said : (a j dest : ℕ) (t : DvState) → speaker net a ≡ Some j → (Start distance (new_nodes net)).node j ≡ Some t → last_reported dest None (on_arc a (begun_messages distance (new_nodes net))) ≡ value_of (own_hop net dest j)
      said a j dest t sp et =
          let within : j < length net.nodes = inside_of net (Start distance (new_nodes net)) running j t et in
          ap (last_reported dest None) (speaker_puts a j sp 0 (length net.nodes) (omega arith) (omega (arith, within))) ∙ said_row a j dest (here a j sp)
