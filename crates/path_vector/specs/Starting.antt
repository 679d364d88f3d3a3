-- Nodes that may begin make a coherent machine. Lemmas, so that proofs of other crates may cite them.
use Rattle.std.proofs.Common.{◌≡◌, ℕ, zero, suc, ◌+◌, ◌<◌, ◌≤◌, List, [], ◌∷◌, ◌++◌, Bool, true, false, not, ◌||◌, ◌==◌, length, cond, slice_get, Option, Some, None, subst, refl, sym, ap, ◌∙◌, arith}
use Rattle.std.specs.Prelude.{option_map, is_some}
use Rattle.std.specs.List.{AllByRecursion, list_any, range_with_len}
use Rattle.std.proofs.lemmas.Bool.{eqb-true}
use Rattle.std.proofs.lemmas.Bool.Decides.{nat_tests}
use Rattle.std.proofs.lemmas.Option.{slice_get_within}
use Rattle.std.proofs.lemmas.List.{append-nil}
use Rattle.net_graph.specs.Nets.{PureArc, PureNet, IsNet}
use Rattle.net_graph.specs.NetLaws.{all_weaker}
use Rattle.net_graph.specs.Routes.{PureRoute}
use Rattle.net_graph.specs.Tables.{carrier, IsChoice}
use Rattle.node_core.specs.Kinds.{on_arc}
use Rattle.node_core.specs.Machine.{begun_messages, Start}
use Rattle.node_core.specs.MachineLaws.{all_join, on_arc_join}
use Rattle.path_vector.specs.Node.{PvState, PureUpdate, same_row, offers_to, best_of, choice, may_be_of, fits, spoke_on, is_news, begun_updates, all_begun_updates, Begin, path_vector}
use Rattle.path_vector.specs.Coherent.{heard_of, last_said, IsNode, IsCoherent, MayBegin}
use Rattle.path_vector.specs.Reporting.{reported_once}
use Rattle.path_vector.specs.Items.{IsItem, item_at, item_there}
use Rattle.path_vector.specs.Choosing.{reported_by, arc_is_in, arc_stands, may_be_parts, choice_is, choice_may_be}
use Rattle.path_vector.specs.Words.{same_row_is, fits_on, fits_is, fits_from, heard_of_is, choice_moves}

-- ---- what stands on an arc at the start

-- what a node says on an arc of the destinations, in order, when it begins
abbrev pub news_on : PvState → PureArc → List ℕ → List PureUpdate
news_on s a [] = []
news_on s a (dest ∷ dests) = cond (is_news s (choice s.net dest s.number s.heard) dest a) (record { dest = dest; route = choice s.net dest s.number s.heard; stamp = 0 } ∷ []) [] ++ news_on s a dests

begun_on : (s : PvState) (a : PureArc) (dests : List ℕ) → IsNet s.net → slice_get s.net.arcs a.id ≡ Some a → (a.head == s.number) ≡ true → on_arc a.id (all_begun_updates s dests) ≡ news_on s a dests
begun_on s a [] n stands head = refl
begun_on s a (dest ∷ dests) n stands head =
    let row = choice s.net dest s.number s.heard in
    let u : PureUpdate = record { dest = dest; route = row; stamp = 0 } in
    let one : on_arc a.id (begun_updates s dest) ≡ cond (is_news s row dest a) (u ∷ []) [] = rw head at (reported_once s.net s.number (is_news s row dest) u a n stands) in
    on_arc_join a.id (begun_updates s dest) (all_begun_updates s dests)
    ∙ (ap (λ l. l ++ on_arc a.id (all_begun_updates s dests)) one ∙ ap (λ l. cond (is_news s row dest a) (u ∷ []) [] ++ l) (begun_on s a dests n stands head))

begun_elsewhere : (s : PvState) (a : PureArc) (dests : List ℕ) → IsNet s.net → slice_get s.net.arcs a.id ≡ Some a → (a.head == s.number) ≡ false → on_arc a.id (all_begun_updates s dests) ≡ []
begun_elsewhere s a [] n stands head = refl
begun_elsewhere s a (dest ∷ dests) n stands head =
    let row = choice s.net dest s.number s.heard in
    let u : PureUpdate = record { dest = dest; route = row; stamp = 0 } in
    let one : on_arc a.id (begun_updates s dest) ≡ [] = rw head at (reported_once s.net s.number (is_news s row dest) u a n stands) in
    on_arc_join a.id (begun_updates s dest) (all_begun_updates s dests)
    ∙ (ap (λ l. l ++ on_arc a.id (all_begun_updates s dests)) one ∙ begun_elsewhere s a dests n stands head)

-- the nodes are those of the network from number i on
abbrev pub AreFrom : PureNet → ℕ → List PvState → Type 0
AreFrom net i nodes = (k : ℕ) (s : PvState) → slice_get nodes k ≡ Some s → (s.net ≡ net) × (s.number ≡ i + k)

are_more : (net : PureNet) (i : ℕ) (s : PvState) (nodes : List PvState) → AreFrom net i (s ∷ nodes) → AreFrom net (i + 1) nodes
are_more net i s nodes are k t e =
    let h = are (suc k) t e in
    let place : i + suc k ≡ i + 1 + k = omega arith in
    (h.0, h.1 ∙ place)

silent : (net : PureNet) → IsNet net → (a : PureArc) → slice_get net.arcs a.id ≡ Some a → (s : PvState) → s.net ≡ net → (a.head == s.number) ≡ false → on_arc a.id (Begin s).1 ≡ []
silent net n a stands s e head =
    begun_elsewhere s a (range_with_len 0 (length s.net.dests)) (subst IsNet (sym e) n) (subst (λ z. slice_get z.arcs a.id ≡ Some a) (sym e) stands) head

-- nodes after the speaker say nothing on its arc
after_silent : (net : PureNet) → IsNet net → (a : PureArc) → slice_get net.arcs a.id ≡ Some a → (i : ℕ) (nodes : List PvState) → AreFrom net i nodes → a.head < i → on_arc a.id (begun_messages path_vector nodes) ≡ []
after_silent net n a stands i [] are l = refl
after_silent net n a stands i (s ∷ nodes) are l =
    let h = are 0 s refl in
    let number : s.number ≡ i + 0 = h.1 in
    let head : (a.head == s.number) ≡ false = grind (arith, nat_tests) in
    on_arc_join a.id (Begin s).1 (begun_messages path_vector nodes)
    ∙ (ap (λ m. m ++ on_arc a.id (begun_messages path_vector nodes)) (silent net n a stands s h.0 head) ∙ after_silent net n a stands (i + 1) nodes (are_more net i s nodes are) (omega arith))

-- what stands on an arc is what its speaker says there
speaker_says : (net : PureNet) → IsNet net → (a : PureArc) → slice_get net.arcs a.id ≡ Some a → (i k : ℕ) (nodes : List PvState) (t : PvState) → AreFrom net i nodes → slice_get nodes k ≡ Some t → a.head ≡ i + k
    → on_arc a.id (begun_messages path_vector nodes) ≡ on_arc a.id (Begin t).1
speaker_says net n a stands i k [] t are e h = absurd (cc)
speaker_says net n a stands i zero (s ∷ nodes) t are e h =
    let same : s ≡ t = cc in
    on_arc_join a.id (Begin s).1 (begun_messages path_vector nodes)
    ∙ (ap (λ m. on_arc a.id (Begin s).1 ++ m) (after_silent net n a stands (i + 1) nodes (are_more net i s nodes are) (omega arith))
    ∙ (append-nil (on_arc a.id (Begin s).1) ∙ ap (λ (z : PvState). on_arc a.id (Begin z).1) same))
speaker_says net n a stands i (suc k) (s ∷ nodes) t are e h =
    let here = are 0 s refl in
    let number : s.number ≡ i + 0 = here.1 in
    let head : (a.head == s.number) ≡ false = grind (arith, nat_tests) in
    on_arc_join a.id (Begin s).1 (begun_messages path_vector nodes)
    ∙ (ap (λ m. m ++ on_arc a.id (begun_messages path_vector nodes)) (silent net n a stands s here.0 head)
    ∙ speaker_says net n a stands (i + 1) k nodes t (are_more net i s nodes are) e (omega arith))

-- what the news say of a destination
news_said : (s : PvState) (a : PureArc) (dest : ℕ) (dests : List ℕ) (h : Option PureRoute) → last_said dest h (news_on s a dests)
    ≡ cond (list_any (λ d. d == dest) dests) (cond (is_news s (choice s.net dest s.number s.heard) dest a) (choice s.net dest s.number s.heard) h) h
news_said s a dest [] h = refl
news_said s a dest (d ∷ dests) h = by (d == dest) refl (is_news s (choice s.net d s.number s.heard) d a) refl (news_said s a dest dests)
  where
    kept : (b c : Bool) (r x : Option PureRoute) → cond b (cond c r (cond c r x)) (cond c r x) ≡ cond c r x
    kept true true r x = refl
    kept true false r x = refl
    kept false c r x = refl

    by : (b : Bool) → (d == dest) ≡ b → (c : Bool) → is_news s (choice s.net d s.number s.heard) d a ≡ c
        → ((x : Option PureRoute) → last_said dest x (news_on s a dests) ≡ cond (list_any (λ d. d == dest) dests) (cond (is_news s (choice s.net dest s.number s.heard) dest a) (choice s.net dest s.number s.heard) x) x)
        → last_said dest h (cond (is_news s (choice s.net d s.number s.heard) d a) (record { dest = d; route = choice s.net d s.number s.heard; stamp = 0 } ∷ []) [] ++ news_on s a dests)
        ≡ cond (b || list_any (λ d. d == dest) dests) (cond (is_news s (choice s.net dest s.number s.heard) dest a) (choice s.net dest s.number s.heard) h) h
    by true e true f rest =
        let same : d ≡ dest = eqb-true d dest e in
        let news : is_news s (choice s.net dest s.number s.heard) dest a ≡ true = subst (λ z. is_news s (choice s.net z s.number s.heard) z a ≡ true) same f in
        let last = rest (choice s.net dest s.number s.heard) in
        let all = kept (list_any (λ d. d == dest) dests) true (choice s.net dest s.number s.heard) h in
        rw (f, news) (ap (λ t. last_said dest (cond t (choice s.net d s.number s.heard) h) (news_on s a dests)) e
        ∙ (ap (λ z. last_said dest (choice s.net z s.number s.heard) (news_on s a dests)) same ∙ ((rw news at last) ∙ all)))
    by true e false f rest =
        let same : d ≡ dest = eqb-true d dest e in
        let news : is_news s (choice s.net dest s.number s.heard) dest a ≡ false = subst (λ z. is_news s (choice s.net z s.number s.heard) z a ≡ false) same f in
        let last = rest h in
        let all = kept (list_any (λ d. d == dest) dests) false (choice s.net dest s.number s.heard) h in
        rw (f, news) ((rw news at last) ∙ all)
    by false e true f rest = rw f (ap (λ t. last_said dest (cond t (choice s.net d s.number s.heard) h) (news_on s a dests)) e ∙ rest h)
    by false e false f rest = rw f (rest h)

in_range : (a n dest : ℕ) → a ≤ dest → dest < a + n → list_any (λ d. d == dest) (range_with_len a n) ≡ true
in_range a zero dest l m = absurd (omega arith)
in_range a (suc n) dest l m = by (a == dest) refl (λ k. in_range (a + 1) n dest k (omega arith))
  where
    by : (b : Bool) → (a == dest) ≡ b → (a + 1 ≤ dest → list_any (λ d. d == dest) (range_with_len (a + 1) n) ≡ true) → (b || list_any (λ d. d == dest) (range_with_len (a + 1) n)) ≡ true
    by true e rest = refl
    by false e rest = rest (let k : a + 1 ≤ dest = grind (arith, nat_tests) in k)

-- what a listener knows once it heard the news is the row
news_end : (spoke : Bool) (row old h : Option PureRoute) → h ≡ cond spoke old None → cond (cond spoke (not (same_row row old)) (is_some row)) row h ≡ row
news_end true row old h e = by (same_row row old) refl
  where
    by : (b : Bool) → same_row row old ≡ b → cond (not b) row h ≡ row
    by true f = e ∙ sym (same_row_is row old f)
    by false f = refl
news_end false (Some r) old h e = refl
news_end false None old h e = e

either_end : (b : Bool) (x h row : Option PureRoute) → x ≡ row → (b ≡ false → h ≡ row) → cond b x h ≡ row
either_end true x h row e f = e
either_end false x h row e f = f refl

news_fit : (net : PureNet) (s : PvState) (a : PureArc) (dests : List ℕ) → ((dest : ℕ) (r : PureRoute) → choice s.net dest s.number s.heard ≡ Some r → may_be_of net a.head r ≡ true)
    → AllByRecursion (λ dest. dest < length net.dests) dests → AllByRecursion (λ v. fits_on net a v ≡ true) (news_on s a dests)
news_fit net s a [] f all = tt
news_fit net s a (dest ∷ dests) f all =
    all_join (λ v. fits_on net a v ≡ true) (cond (is_news s (choice s.net dest s.number s.heard) dest a) (record { dest = dest; route = choice s.net dest s.number s.heard; stamp = 0 } ∷ []) []) (news_on s a dests)
    (by (is_news s (choice s.net dest s.number s.heard) dest a)) (news_fit net s a dests f all.1)
  where
    by : (b : Bool) → AllByRecursion (λ v. fits_on net a v ≡ true) (cond b (record { dest = dest; route = choice s.net dest s.number s.heard; stamp = 0 } ∷ []) [])
    by true = (fits_from net a (record { dest = dest; route = choice s.net dest s.number s.heard; stamp = 0 }) all.0 (f dest), tt)
    by false = tt

range_below : (a n m : ℕ) → a + n ≤ m → AllByRecursion (λ d. d < m) (range_with_len a n)
range_below a zero m l = tt
range_below a (suc n) m l = (omega arith, range_below (a + 1) n m (omega arith))

-- ---- the machine

module _ (net : PureNet) (n : IsNet net) (nodes : List PvState) (m : MayBegin net nodes) where
  -- what holds of each node once it has begun
  at_start : (P : PvState → Type 0) (i : ℕ) → ((s : PvState) → slice_get nodes i ≡ Some s → P (Begin s).0) → (q : PvState) → option_map (λ s. (Begin s).0) (slice_get nodes i) ≡ Some q → P q
  at_start P i h q e = by (slice_get nodes i) refl e
    where
      by : (o : Option PvState) → slice_get nodes i ≡ o → option_map (λ s. (Begin s).0) o ≡ Some q → P q
      by None f g = absurd (cc)
      by (Some s) f g = let same : (Begin s).0 ≡ q = cc in subst P same (h s f)

  node_there : (i : ℕ) → i < length net.nodes → (s : PvState) × (slice_get nodes i ≡ Some s)
  node_there i below = let count = m.count in item_there nodes i (omega arith)

  node_inside : (i : ℕ) (s : PvState) → slice_get nodes i ≡ Some s → i < length net.nodes
  node_inside i s e =
      let count = m.count in
      let l = slice_get_within nodes i s e in
      omega arith

  are_nodes : AreFrom net 0 nodes
  are_nodes k s e =
      let f = m.fresh k s e in
      let place : k ≡ 0 + k = omega arith in
      (f.0, f.1 ∙ place)

  heard_known : (a : PureArc) (s : PvState) (dest : ℕ) (r : PureRoute) → slice_get net.arcs a.id ≡ Some a → slice_get nodes a.tail ≡ Some s → s.heard a.id dest ≡ Some r
      → (dest < length net.dests) × (may_be_of net a.head r ≡ true)
  heard_known a s dest r stands e h = by (node_there a.head (arc_is_in net a n (item_at net.arcs a.id a stands)).head_in)
    where
      by : (t : PvState) × (slice_get nodes a.head ≡ Some t) → (dest < length net.dests) × (may_be_of net a.head r ≡ true)
      by (t, f) = spoke (spoke_on t a) (sym (m.heard a s t dest stands e f) ∙ h)
        where
          spoke : (b : Bool) → cond b (t.rows dest) None ≡ Some r → (dest < length net.dests) × (may_be_of net a.head r ≡ true)
          spoke true g = m.routes a.head dest t r f g
          spoke false g = absurd (cc)

  item_known : (i dest : ℕ) (s : PvState) → slice_get nodes i ≡ Some s → (a : PureArc) (r : PureRoute) → IsItem a net.arcs → a.tail ≡ i → s.heard a.id dest ≡ Some r
      → (dest < length net.dests) × (may_be_of net a.head r ≡ true)
  item_known i dest s e a r item tail h = heard_known a s dest r (arc_stands net a n item) (rw tail e) h

  choice_of : (i dest : ℕ) (s : PvState) → slice_get nodes i ≡ Some s → choice s.net dest s.number s.heard ≡ best_of (carrier net) (offers_to net dest i (λ b. s.heard b dest))
  choice_of i dest s e = let f = m.fresh i s e in rw (f.0, f.1) refl

  row_may_be : (i dest : ℕ) (s : PvState) (r : PureRoute) → slice_get nodes i ≡ Some s → choice s.net dest s.number s.heard ≡ Some r → (dest < length net.dests) × (may_be_of net i r ≡ true)
  row_may_be i dest s r e f = choice_may_be net n dest i (λ b. s.heard b dest) (item_known i dest s e) r (sym (choice_of i dest s e) ∙ f)

  row_chosen : (i dest : ℕ) (s : PvState) → slice_get nodes i ≡ Some s → IsChoice net dest (heard_of s dest) i (choice s.net dest s.number s.heard)
  row_chosen i dest s e =
      let f = m.fresh i s e in
      subst (λ o. IsChoice net dest (heard_of s dest) i o) (sym (choice_of i dest s e))
      (choice_moves net dest i (reported_by net i (λ b. s.heard b dest)) (heard_of s dest) (λ j a g. sym (heard_of_is net s i dest j f.0 f.1)) (best_of (carrier net) (offers_to net dest i (λ b. s.heard b dest)))
      (choice_is net n dest i (λ b. s.heard b dest) (λ a r item tail h. (may_be_parts net a.head r (item_known i dest s e a r item tail h).1).value_in)))

  -- what stands on an arc is its speaker's news
  pub link_is : (a : PureArc) (t : PvState) → slice_get net.arcs a.id ≡ Some a → slice_get nodes a.head ≡ Some t → on_arc a.id (begun_messages path_vector nodes) ≡ news_on t a (range_with_len 0 (length net.dests))
  link_is a t stands e =
      let f = m.fresh a.head t e in
      let number : t.number ≡ a.head = f.1 in
      let head : (a.head == t.number) ≡ true = grind (arith, nat_tests) in
      speaker_says net n a stands 0 a.head nodes t are_nodes e (omega arith)
      ∙ (begun_on t a (range_with_len 0 (length t.net.dests)) (subst IsNet (sym f.0) n) (subst (λ z. slice_get z.arcs a.id ≡ Some a) (sym f.0) stands) head
      ∙ ap (λ (z : PureNet). news_on t a (range_with_len 0 (length z.dests))) f.0)

  fit_start : (a : PureArc) (q : PvState) → slice_get net.arcs a.id ≡ Some a → (Start path_vector nodes).node a.tail ≡ Some q → AllByRecursion (λ v. fits q a.id v ≡ true) (on_arc a.id (begun_messages path_vector nodes))
  fit_start a q stands e =
      let q_net : q.net ≡ net = at_start (λ z. z.net ≡ net) a.tail (λ s f. (m.fresh a.tail s f).0) q e in
      let t = node_there a.head (arc_is_in net a n (item_at net.arcs a.id a stands)).head_in in
      let all = news_fit net t.0 a (range_with_len 0 (length net.dests)) (λ dest r f. (row_may_be a.head dest t.0 r t.1 f).1) (range_below 0 (length net.dests) (length net.dests) (omega arith)) in
      all_weaker (λ v. fits_on net a v ≡ true) (λ v. fits q a.id v ≡ true) (on_arc a.id (begun_messages path_vector nodes)) (λ v f. fits_is net q a v q_net stands ∙ f)
      (subst (AllByRecursion (λ v. fits_on net a v ≡ true)) (sym (link_is a t.0 stands t.1)) all)

  said_start : (a : PureArc) (s t : PvState) (dest : ℕ) → slice_get net.arcs a.id ≡ Some a → slice_get nodes a.tail ≡ Some s → slice_get nodes a.head ≡ Some t
      → last_said dest (s.heard a.id dest) (on_arc a.id (begun_messages path_vector nodes)) ≡ choice t.net dest t.number t.heard
  said_start a s t dest stands e f =
      ap (last_said dest (s.heard a.id dest)) (link_is a t stands f)
      ∙ (news_said t a dest (range_with_len 0 (length net.dests)) (s.heard a.id dest)
      ∙ either_end (list_any (λ d. d == dest) (range_with_len 0 (length net.dests)))
      (cond (is_news t (choice t.net dest t.number t.heard) dest a) (choice t.net dest t.number t.heard) (s.heard a.id dest)) (s.heard a.id dest) (choice t.net dest t.number t.heard)
      (news_end (spoke_on t a) (choice t.net dest t.number t.heard) (t.rows dest) (s.heard a.id dest) (m.heard a s t dest stands e f)) unknown)
    where
      -- of no destination of the network nothing was heard, and there is no row
      unknown : list_any (λ d. d == dest) (range_with_len 0 (length net.dests)) ≡ false → s.heard a.id dest ≡ choice t.net dest t.number t.heard
      unknown g = by (s.heard a.id dest) (choice t.net dest t.number t.heard) refl refl
        where
          past : dest < length net.dests → ⊥
          past l = let h = in_range 0 (length net.dests) dest (omega arith) (omega arith) in cc

          by : (o p : Option PureRoute) → s.heard a.id dest ≡ o → choice t.net dest t.number t.heard ≡ p → o ≡ p
          by None None h j = refl
          by (Some r) p h j = absurd (past (heard_known a s dest r stands e h).0)
          by None (Some r) h j = absurd (past (row_may_be a.head dest t r f j).0)

  nodes_start : (i : ℕ) → i < length net.nodes → (q : PvState) × IsNode net (Start path_vector nodes) i q
  nodes_start i below =
      let s = node_there i below in
      let f = m.fresh i s.0 s.1 in
      ((Begin s.0).0, (rw s.1 refl, f.0, f.1, refl))

  -- the machine at the start is coherent
  pub start_is_coherent : IsCoherent net (Start path_vector nodes)
  start_is_coherent = record {
    nodes = nodes_start;
    inside = λ i. at_start (λ q. i < length net.nodes) i (node_inside i);
    fit = fit_start;
    known = λ a q dest r stands e h. at_start (λ z. z.heard a.id dest ≡ Some r → (dest < length net.dests) × (may_be_of net a.head r ≡ true)) a.tail (λ s f g. heard_known a s dest r stands f g) q e h;
    routes = λ i dest q r e h. at_start (λ z. z.rows dest ≡ Some r → (dest < length net.dests) × (may_be_of net i r ≡ true)) i (λ s f g. row_may_be i dest s r f g) q e h;
    chosen = λ i dest q e below. at_start (λ z. IsChoice net dest (heard_of z dest) i (z.rows dest)) i (λ s f. row_chosen i dest s f) q e;
    reported = λ a p q dest stands e f.
        at_start (λ z. last_said dest (z.heard a.id dest) (on_arc a.id (begun_messages path_vector nodes)) ≡ q.rows dest) a.tail
        (λ s g. at_start (λ z. last_said dest (s.heard a.id dest) (on_arc a.id (begun_messages path_vector nodes)) ≡ z.rows dest) a.head (λ t h. said_start a s t dest stands g h) q f) p e;
  }
