-- What a delivery makes of the block's machine.
use Rattle.std.proofs.Common.{◌≡◌, ℕ, ◌+◌, ◌^◌, ◌<◌, ◌≤◌, ◌==◌, ◌&&◌, zero, suc, Bool, true, false, max, List, [], ◌∷◌, ◌++◌, Option, Some, None, Ok, length, drop, map, cond, get_or, slice_get, refl, sym, ap, ◌∙◌, subst, arith}
use Rattle.std.specs.Prelude.{filter, option_map, option_and_then}
use Rattle.std.specs.Option.{option_map_or}
use Rattle.std.specs.List.{AllByRecursion}
use Rattle.std.proofs.Math.ListN.{set}
use Rattle.std.proofs.lemmas.Bool.{eqb-true, eqb-false}
use Rattle.std.proofs.lemmas.Bool.Decides.{nat_tests}
use Rattle.std.proofs.lemmas.List.{get_or-set_same, get_or-set_other, length-map}
use Rattle.std.proofs.lemmas.Option.{slice_get_within, slice_get-get_or}
use mathlib.Core.Path.{fun_ext}
use Rattle.net_graph.specs.Nets.{PureArc, PureNet, IsArcOf, IsNet, arcs_to}
use Rattle.net_graph.specs.Routes.{PureRoute}
use Rattle.node_core.specs.Kinds.{listener, on_arc}
use Rattle.node_core.specs.Machine.{Machine, Deliver, changed_at, front_clock, stepped}
use Rattle.node_core.specs.MachineLaws.{on_arc_join}
use Rattle.node_core.specs.declared.node.TheConstants.{MAX_CLOCK}
use Rattle.path_vector.specs.Choosing.{arc_is_in, arc_stands, may_be_parts}
use Rattle.path_vector.specs.Coherent.{IsCoherent}
use Rattle.path_vector.specs.Delivering.{delivery_keeps}
use Rattle.path_vector.specs.Items.{IsItem, item_at, item_passed}
use Rattle.path_vector.specs.Node.{PureUpdate, PvState, begins_with, choice, fits, heard_with, may_be_of, path_vector, reported_on, same_row, taken}
use Rattle.path_vector.specs.Settling.{Settles}
use Rattle.path_vector.specs.Words.{fits_is, fits_parts}
use Rattle.path_vector.proofs.Nodes.{changed_to_itself, chosen_after, same_row_self}
use Rattle.path_vector.proofs.Settling.{MayBeHeard, choice_settles}
use Rattle.alg_model.specs.Expressions.{Expression, PureLabel, PureValue}
use Rattle.arc_labels.specs.declared.neighbours.Neighbour.{Neighbour}
use Rattle.vector_block.specs.Blocks.{IsBlock, block_machine, for_all, state_in, waiting}
use Rattle.vector_block.specs.declared.store.Store.{Store}
use Rattle.vector_block.specs.Hearings.{HasRechosen, IsHearing, heard_at, listens}
use Rattle.vector_block.specs.declared.report.Report.{Report}
use Rattle.vector_block.specs.declared.report.ReportId.{ReportId}
use Rattle.vector_block.specs.Nexts.{IsNext}
use Rattle.vector_block.specs.Stores.{PureStore, pure_store, route_of, said_by, update_of, with_heard, with_report}
use Rattle.vector_block.specs.declared.look.Hearing.{Hearing}
use Rattle.woven_laws.specs.Delivered.{HasDelivered}
use Rattle.meta_base.specs.declared.ids.Delivery.{Delivery}
use Rattle.vector_block.proofs.Nexts.{drop_at}

-- machines are one where they are so node by node and arc by arc
pub same_machine : {S M : Type 0} (c d : Machine S M) → ((i : ℕ) → d.node i ≡ c.node i) → ((i : ℕ) → d.clock i ≡ c.clock i) → ((a : ℕ) → d.link a ≡ c.link a) → d ≡ c
same_machine c d node clock link =
    let node_is : d.node ≡ c.node = fun_ext node in
    let clock_is : d.clock ≡ c.clock = fun_ext clock in
    let link_is : d.link ≡ c.link = fun_ext link in
    λ x. record { node = node_is x; clock = clock_is x; link = link_is x }

-- the machine is the same where the same waits
pub same_waits : (net : PureNet) (s : PureStore) (clocks : List ℕ) (front passed later more : ℕ) → waiting net more (drop later s.reports) ≡ waiting net passed (drop front s.reports)
    → block_machine net s clocks later more ≡ block_machine net s clocks front passed
same_waits net s clocks front passed later more e = same_machine (block_machine net s clocks front passed) (block_machine net s clocks later more) (λ i. refl) (λ i. refl) (λ a. ap (on_arc a) e)

-- one more report waits for all who listen to it
pub one_more_waits : (net : PureNet) (passed front : ℕ) (reports : List (ℕ × PureUpdate)) (p : ℕ × PureUpdate) → front < length reports
    → waiting net passed (drop front (reports ++ p ∷ [])) ≡ waiting net passed (drop front reports) ++ reported_on (arcs_to net p.0) p.1
one_more_waits net passed front reports p l = by front reports l
  where
    append_nothing : {X : Type 0} (xs : List X) → xs ++ [] ≡ xs
    append_nothing [] = refl
    append_nothing (x ∷ xs) = ap (λ z. x ∷ z) (append_nothing xs)

    join : {X : Type 0} (xs ys zs : List X) → (xs ++ ys) ++ zs ≡ xs ++ (ys ++ zs)
    join [] ys zs = refl
    join (x ∷ xs) ys zs = ap (λ z. x ∷ z) (join xs ys zs)

    all : (ps : List (ℕ × PureUpdate)) → for_all net (ps ++ p ∷ []) ≡ for_all net ps ++ reported_on (arcs_to net p.0) p.1
    all [] = append_nothing (reported_on (arcs_to net p.0) p.1)
    all (q ∷ ps) = ap (λ z. reported_on (arcs_to net q.0) q.1 ++ z) (all ps) ∙ sym (join (reported_on (arcs_to net q.0) q.1) (for_all net ps) (reported_on (arcs_to net p.0) p.1))

    by : (k : ℕ) (ps : List (ℕ × PureUpdate)) → k < length ps → waiting net passed (drop k (ps ++ p ∷ [])) ≡ waiting net passed (drop k ps) ++ reported_on (arcs_to net p.0) p.1
    by k [] l = absurd (omega arith)
    by zero (q ∷ ps) l = ap (λ z. reported_on (drop passed (arcs_to net q.0)) q.1 ++ z) (all ps) ∙ sym (join (reported_on (drop passed (arcs_to net q.0)) q.1) (for_all net ps) (reported_on (arcs_to net p.0) p.1))
    by (suc k) (q ∷ ps) l = by k ps (omega arith)

self_equal : (k : ℕ) → (k == k) ≡ true
self_equal k = grind (arith, nat_tests)

pub set_at : {X : Type 0} (xs : List X) (k j : ℕ) (x : X) → k < length xs → slice_get (set xs k x) j ≡ cond (j == k) (Some x) (slice_get xs j)
set_at [] k j x l = absurd (omega arith)
set_at (y ∷ xs) zero zero x l = refl
set_at (y ∷ xs) zero (suc j) x l =
    let other : (suc j == zero) ≡ false = grind (arith, nat_tests) in
    ap (λ b. cond b (Some x) (slice_get xs j)) (sym other)
set_at (y ∷ xs) (suc k) zero x l =
    let other : (zero == suc k) ≡ false = grind (arith, nat_tests) in
    ap (λ b. cond b (Some x) (Some y)) (sym other)
set_at (y ∷ xs) (suc k) (suc j) x l =
    let same : (suc j == suc k) ≡ (j == k) = grind (arith, nat_tests) in
    set_at xs k j x (omega arith) ∙ ap (λ b. cond b (Some x) (slice_get xs j)) (sym same)

set_get_or : (xs : List ℕ) (k j x : ℕ) → k < length xs → get_or (set xs k x) j 0 ≡ cond (j == k) x (get_or xs j 0)
set_get_or xs k j x l = by (j == k) refl
  where
    by : (b : Bool) → (j == k) ≡ b → get_or (set xs k x) j 0 ≡ cond b x (get_or xs j 0)
    by true e = ap (λ z. get_or (set xs k x) z 0) (eqb-true j k e) ∙ get_or-set_same xs k x 0 l
    by false e = get_or-set_other xs k j x 0 (eqb-false j k e)

-- ---- what was heard, node by node

module _ (net : PureNet) (s : PureStore) (a : PureArc) (stands : slice_get net.arcs a.id ≡ Some a) (dest : ℕ) (route : Option PureRoute) where
  listener_hears : (j : ℕ) → listens net j a.id ≡ (a.tail == j)
  listener_hears j = ap (λ o. option_map_or (λ (arc : PureArc). arc.tail == j) o false) stands

  -- the listener hears the report
  pub heard_there : (u : PureUpdate) → u.dest ≡ dest → u.route ≡ route → heard_at net (with_heard s a.id dest route) a.tail ≡ heard_with (heard_at net s a.tail) a.id u
  heard_there u e f = fun_ext (λ b. fun_ext (λ d. by b d (b == a.id) refl))
    where
      by : (b d : ℕ) (t : Bool) → (b == a.id) ≡ t → cond (listens net a.tail b) (cond (b == a.id && d == dest) route (s.heard b d)) None ≡ cond (b == a.id && d == u.dest) u.route (cond (listens net a.tail b) (s.heard b d) None)
      by b d true g =
          let same : b ≡ a.id = eqb-true b a.id g in
          let hears : listens net a.tail b ≡ true = ap (listens net a.tail) same ∙ (listener_hears a.tail ∙ self_equal a.tail) in
          rw (g, hears, e, f) refl
      by b d false g = rw g refl

  -- no other node does
  pub heard_elsewhere : (j : ℕ) → (j == a.tail) ≡ false → heard_at net (with_heard s a.id dest route) j ≡ heard_at net s j
  heard_elsewhere j apart = fun_ext (λ b. fun_ext (λ d. by b d (b == a.id) refl))
    where
      by : (b d : ℕ) (t : Bool) → (b == a.id) ≡ t → cond (listens net j b) (cond (b == a.id && d == dest) route (s.heard b d)) None ≡ cond (listens net j b) (s.heard b d) None
      by b d true g =
          let same : b ≡ a.id = eqb-true b a.id g in
          let other : (a.tail == j) ≡ false = grind (arith, nat_tests) in
          let deaf : listens net j b ≡ false = ap (listens net j) same ∙ (listener_hears j ∙ other) in
          rw deaf refl
      by b d false g = rw g refl

-- ---- the delivery

-- the delivery that is made next, from a machine that is coherent and whose rows are the choices
pub record CanDeliver (net : PureNet) (s : PureStore) (clocks : List ℕ) (front passed : ℕ) (a : PureArc) (h : Hearing) : Type 0 where
  pub is_net : IsNet net
  pub is_next : IsNext net s.reports clocks front passed a h
  pub clock_count : length clocks ≡ length net.nodes
  pub are_chosen : (i dest : ℕ) → i < length net.nodes → s.rows i dest ≡ choice net dest i (heard_at net s i)
  pub is_coherent : IsCoherent net (block_machine net s clocks front passed)

module _ {L S : Type 0} {stands_for : L → PureLabel → Type 0} {is_sig : S → Type 0} {value : S → PureValue} {expression : Expression} {net : PureNet} {listeners speakers : List (List (Neighbour L))} {store : Store S}
    {clocks : List ℕ} {log : List (ℕ × Delivery)} {front passed : ℕ} (b : IsBlock stands_for is_sig value expression net listeners speakers store clocks log front passed) where
  pub can_deliver : (later more : ℕ) → waiting net more (drop later (pure_store value store).reports) ≡ waiting net passed (drop front (pure_store value store).reports)
      → (read : List ℕ) → read ≡ clocks → (a : PureArc) (h : Hearing) → IsNext net (pure_store value store).reports read later more a h → CanDeliver net (pure_store value store) clocks later more a h
  can_deliver later more same read is a h next = record {
    is_net = b.is_net;
    is_next = subst (λ cs. IsNext net (pure_store value store).reports cs later more a h) is next;
    clock_count = b.clock_count;
    are_chosen = b.chosen;
    is_coherent = subst (IsCoherent net) (sym (same_waits net (pure_store value store) clocks front passed later more same)) b.coherent;
  }

module _ {net : PureNet} {s : PureStore} {clocks : List ℕ} {front passed : ℕ} {a : PureArc} {h : Hearing} (d : CanDeliver net s clocks front passed a h) where
  abbrev n : IsNet net
  n = d.is_net

  abbrev next : IsNext net s.reports clocks front passed a h
  next = d.is_next

  abbrev count : length clocks ≡ length net.nodes
  count = d.clock_count

  abbrev chosen : (i dest : ℕ) → i < length net.nodes → s.rows i dest ≡ choice net dest i (heard_at net s i)
  chosen = d.are_chosen

  abbrev coherent : IsCoherent net (block_machine net s clocks front passed)
  coherent = d.is_coherent

  abbrev pub i : ℕ
  i = a.tail

  abbrev pub u : PureUpdate
  u = next.update

  abbrev pub now : Machine PvState PureUpdate
  now = block_machine net s clocks front passed

  abbrev pub last : ℕ
  last = get_or clocks i 0

  abbrev pub state : PvState
  state = state_in net s i last

  item : IsItem a net.arcs × ((a.head == next.speaker) ≡ true)
  item = item_passed (λ (b : PureArc). b.head == next.speaker) net.arcs a (item_at (arcs_to net next.speaker) passed a next.turn)

  pub is_arc : IsArcOf net.alg (length net.nodes) a
  is_arc = arc_is_in net a n item.0

  pub stands : slice_get net.arcs a.id ≡ Some a
  stands = arc_stands net a n item.0

  pub within : a.id < length net.arcs
  within = slice_get_within net.arcs a.id a stands

  passed_few : passed < length net.arcs
  passed_few =
      let turn = slice_get_within (arcs_to net next.speaker) passed a next.turn in
      let few = filtered_few (λ (b : PureArc). b.head == next.speaker) net.arcs in
      omega (arith, turn, few)
    where
      filtered_few : {X : Type 0} (p : X → Bool) (xs : List X) → length (filter p xs) ≤ length xs
      filtered_few p [] = omega arith
      filtered_few p (x ∷ xs) = by (p x) refl (filtered_few p xs)
        where
          by : (t : Bool) → p x ≡ t → length (filter p xs) ≤ length xs → length (filter p (x ∷ xs)) ≤ suc (length xs)
          by true e l = rw e (omega (arith, l))
          by false e l = rw e (omega (arith, l))

  pub passed_fits : passed + 1 < 2 ^ 64
  passed_fits = let room = n.arc_room in omega (arith, passed_few, room)

  pub head : a.head ≡ next.speaker
  head = eqb-true a.head next.speaker item.1

  pub below : i < length clocks
  below = omega (arith, is_arc.tail_in, count)

  node_there : slice_get clocks i ≡ Some last
  node_there = slice_get-get_or clocks i 0 below

  pub is_node : now.node i ≡ Some state
  is_node = ap (option_map (state_in net s i)) node_there

  pub listens_there : listener net a.id ≡ Some i
  listens_there = ap (option_map (λ (b : PureArc). b.tail)) stands

  abbrev pub rest : List (ℕ × PureUpdate)
  rest = waiting net (passed + 1) (drop front s.reports)

  waits : waiting net passed (drop front s.reports) ≡ (a.id, u) ∷ rest
  waits =
      let ps = drop (front + 1) s.reports in
      let opens = drop_at s.reports front (next.speaker, u) next.there in
      ap (waiting net passed) opens
      ∙ (ap (λ arcs. reported_on arcs u ++ for_all net ps) (drop_at (arcs_to net next.speaker) passed a next.turn)
      ∙ ap (λ l. (a.id, u) ∷ waiting net (passed + 1) l) (sym opens))

  pub link_is : now.link a.id ≡ u ∷ on_arc a.id rest
  link_is = ap (on_arc a.id) waits ∙ ap (λ b. cond b (u ∷ on_arc a.id rest) (on_arc a.id rest)) (self_equal a.id)

  link_elsewhere : (b : ℕ) → (b == a.id) ≡ false → now.link b ≡ on_arc b rest
  link_elsewhere b apart =
      let other : (a.id == b) ≡ false = grind (arith, nat_tests) in
      ap (on_arc b) waits ∙ ap (λ t. cond t (u ∷ on_arc b rest) (on_arc b rest)) other

  pub does_fit : fits state a.id u ≡ true
  does_fit = (subst (AllByRecursion (λ v. fits state a.id v ≡ true)) link_is (coherent.fit a state stands is_node)).0

  parts : (u.dest < length net.dests) × ((r : PureRoute) → u.route ≡ Some r → may_be_of net a.head r ≡ true)
  parts = fits_parts net a u (sym (fits_is net state a u refl stands) ∙ does_fit)

  pub dest_in : u.dest < length net.dests
  dest_in = parts.0

  pub may_be : (r : PureRoute) → u.route ≡ Some r → may_be_of net a.head r ≡ true
  may_be = parts.1

  pub clock_is : front_clock path_vector net now a.id ≡ Some (max last u.stamp + 1)
  clock_is = rw (listens_there, link_is) refl

  -- ---- what the node heard

  abbrev pub heard_next : PureStore
  heard_next = with_heard s a.id u.dest u.route

  pub is_heard : heard_at net heard_next i ≡ heard_with (heard_at net s i) a.id u
  is_heard = heard_there net s a stands u.dest u.route u refl refl

  -- what was heard may be the speaker's, before and after
  pub known : (b : PureArc) (r : PureRoute) (dest : ℕ) → slice_get net.arcs b.id ≡ Some b → b.tail ≡ i → s.heard b.id dest ≡ Some r → may_be_of net b.head r ≡ true
  known b r dest b_stands tail e =
      let hears : listens net i b.id ≡ true = ap (λ o. option_map_or (λ (arc : PureArc). arc.tail == i) o false) b_stands ∙ (ap (λ z. z == i) tail ∙ self_equal i) in
      let node : now.node b.tail ≡ Some state = ap now.node tail ∙ is_node in
      (coherent.known b state dest r b_stands node (ap (λ t. cond t (s.heard b.id dest) None) hears ∙ e)).1

  pub known_next : (b : PureArc) (r : PureRoute) → slice_get net.arcs b.id ≡ Some b → b.tail ≡ i → heard_next.heard b.id u.dest ≡ Some r → may_be_of net b.head r ≡ true
  known_next b r b_stands tail e = by (b.id == a.id) refl e
    where
      by : (t : Bool) → (b.id == a.id) ≡ t → cond (t && u.dest == u.dest) u.route (s.heard b.id u.dest) ≡ Some r → may_be_of net b.head r ≡ true
      by true f g =
          let same : Some b ≡ Some a = sym b_stands ∙ (ap (slice_get net.arcs) (eqb-true b.id a.id f) ∙ stands) in
          let one : b ≡ a = cc in
          subst (λ (z : PureArc). may_be_of net z.head r ≡ true) (sym one) (may_be r (sym (ap (λ t. cond t u.route (s.heard b.id u.dest)) (self_equal u.dest)) ∙ g))
      by false f g = known b r u.dest b_stands tail g

  heard_known : (t : PureStore) (dest : ℕ) → ((b : PureArc) (r : PureRoute) → slice_get net.arcs b.id ≡ Some b → b.tail ≡ i → t.heard b.id dest ≡ Some r → may_be_of net b.head r ≡ true) → MayBeHeard net dest i (heard_at net t i)
  heard_known t dest may b r there tail e =
      let b_stands = arc_stands net b n there in
      let hears : listens net i b.id ≡ true = ap (λ o. option_map_or (λ (arc : PureArc). arc.tail == i) o false) b_stands ∙ (ap (λ z. z == i) tail ∙ self_equal i) in
      may b r b_stands tail (sym (ap (λ t2. cond t2 (t.heard b.id dest) None) hears) ∙ e)

  pub settles : Settles net u.dest i (heard_at net heard_next i) a (s.rows i u.dest)
  settles =
      subst (Settles net u.dest i (heard_at net heard_next i) a) (sym (chosen i u.dest is_arc.tail_in))
      (choice_settles net n u.dest i (heard_at net s i) (heard_at net heard_next i) a stands refl others
      (heard_known s u.dest (λ b r st tail e. known b r u.dest st tail e)) (heard_known heard_next u.dest known_next))
    where
      others : (b : ℕ) → (b == a.id) ≡ false → heard_at net s i b u.dest ≡ heard_at net heard_next i b u.dest
      others b apart = sym (ap (λ f. f b u.dest) is_heard ∙ ap (λ t. cond (t && u.dest == u.dest) u.route (heard_at net s i b u.dest)) apart)

  pub row_begins : (r : PureRoute) → s.rows i u.dest ≡ Some r → begins_with i r.path ≡ true
  row_begins r e = (may_be_parts net i r (coherent.routes i u.dest state r is_node e).1).begins

  -- ---- what the node makes of it

  abbrev pub row : Option PureRoute
  row = choice net u.dest i (heard_at net heard_next i)

  abbrev pub reported : PureUpdate
  reported = record { dest = u.dest; route = row; stamp = h.clock }

  abbrev pub out : List (ℕ × PureUpdate)
  out = cond (same_row row (s.rows i u.dest)) [] (reported_on (arcs_to net i) reported)

  -- what the store is once the node chose its row, whether it is another or not
  pub record IsRechosen (t : PureStore) : Type 0 where
    pub heard : t.heard ≡ heard_next.heard
    pub row_is : t.rows i ≡ changed_at (s.rows i) u.dest row
    pub others : (j : ℕ) → (j == i) ≡ false → t.rows j ≡ s.rows j
    pub waits : waiting net (passed + 1) (drop front t.reports) ≡ rest ++ out

  front_there : front < length s.reports
  front_there = slice_get_within s.reports front (next.speaker, u) next.there

  abbrev pub IsChanged : PureStore → ℕ → ℕ → Type 0
  IsChanged t d k =
      let chosen_row = choice net d k (heard_at net heard_next k) in
      (same_row chosen_row (heard_next.rows k d) ≡ false) × (t ≡ with_report heard_next k (record { dest = d; route = chosen_row; stamp = h.clock }))

  pub changed_there : (t : PureStore) → IsChanged t h.dest.0 h.node.0 → IsChanged t u.dest i
  changed_there t r = subst (λ d. IsChanged t d i) next.dest (subst (λ k. IsChanged t h.dest.0 k) next.node r)

  pub rechosen : (E : Type 0) (t : PureStore) (is_changed : Bool) → HasRechosen {E = E} net h heard_next t (Ok is_changed) → IsRechosen t
  rechosen E t true r =
      let told = changed_there t r in
      let apart : same_row row (s.rows i u.dest) ≡ false = told.0 in
      let is : t ≡ with_report heard_next i reported = told.1 in
      subst IsRechosen (sym is) record {
        heard = refl;
        row_is = fun_ext (λ d. ap (λ b. cond (b && d == u.dest) row (s.rows i d)) (self_equal i));
        others = λ j e. fun_ext (λ d. ap (λ b. cond (b && d == u.dest) row (s.rows j d)) e);
        waits = one_more_waits net (passed + 1) front s.reports (i, reported) front_there ∙ ap (λ b. rest ++ cond b [] (reported_on (arcs_to net i) reported)) (sym apart);
      }
  rechosen E t false r =
      let stays : row ≡ s.rows i u.dest = subst (λ d. choice net d i (heard_at net heard_next i) ≡ s.rows i d) next.dest (subst (λ k. choice net h.dest.0 k (heard_at net heard_next k) ≡ s.rows k h.dest.0) next.node r.0) in
      let same : same_row row (s.rows i u.dest) ≡ true = ap (λ o. same_row o (s.rows i u.dest)) stays ∙ same_row_self (s.rows i u.dest) in
      subst IsRechosen (sym r.1) record {
        heard = refl;
        row_is = sym (ap (changed_at (s.rows i) u.dest) stays ∙ changed_to_itself (s.rows i) u.dest);
        others = λ j e. refl;
        waits = sym (ap (λ b. rest ++ cond b [] (reported_on (arcs_to net i) reported)) same ∙ append_nothing rest);
      }
    where
      append_nothing : {X : Type 0} (xs : List X) → xs ++ [] ≡ xs
      append_nothing [] = refl
      append_nothing (x ∷ xs) = ap (λ z. x ∷ z) (append_nothing xs)

  module _ (early : max last u.stamp + 1 ≤ MAX_CLOCK) (t : PureStore) (is : IsRechosen t) where
    abbrev pub later : Machine PvState PureUpdate
    later = block_machine net t (set clocks i h.clock) front (passed + 1)

    pub clock_now : h.clock ≡ max last u.stamp + 1
    clock_now = next.clock early

    heard_now : heard_at net t i ≡ heard_with (heard_at net s i) a.id u
    heard_now = ap (λ f. heard_at net (record heard_next { heard = f }) i) is.heard ∙ is_heard

    step_is : path_vector.step state a.id u h.clock ≡ taken state a.id u h.clock
    step_is = ap (λ b. cond b (taken state a.id u h.clock) (record state { last = h.clock }, [])) does_fit

    row_now : choice net u.dest i (heard_with (heard_at net s i) a.id u) ≡ row
    row_now = ap (choice net u.dest i) (sym is_heard)

    state_now : state_in net t i h.clock ≡ (path_vector.step state a.id u h.clock).0
    state_now =
        ap (λ f. with f (t.rows i)) heard_now
        ∙ (ap (with (heard_with (heard_at net s i) a.id u)) (is.row_is ∙ ap (changed_at (s.rows i) u.dest) (sym row_now))
        ∙ ap (λ p. p.0) (sym step_is))
      where
        with : (ℕ → ℕ → Option PureRoute) → (ℕ → Option PureRoute) → PvState
        with heard rows = record { net = net; before = None; number = i; is_begun = true; heard = heard; rows = rows; last = h.clock }

    out_now : out ≡ (path_vector.step state a.id u h.clock).1
    out_now =
        ap (λ o. cond (same_row o (s.rows i u.dest)) [] (reported_on (arcs_to net i) (record { dest = u.dest; route = o; stamp = h.clock }))) (sym row_now)
        ∙ ap (λ p. p.1) (sym step_is)

    node_now : (j : ℕ) → later.node j ≡ changed_at now.node i (Some (path_vector.step state a.id u h.clock).0) j
    node_now j = ap (option_map (state_in net t j)) (set_at clocks i j h.clock below) ∙ by (j == i) refl
      where
        by : (b : Bool) → (j == i) ≡ b → option_map (state_in net t j) (cond b (Some h.clock) (slice_get clocks j)) ≡ cond b (Some (path_vector.step state a.id u h.clock).0) (option_map (state_in net s j) (slice_get clocks j))
        by true e = ap (λ z. Some (state_in net t z h.clock)) (eqb-true j i e) ∙ ap (λ z. Some z) state_now
        by false e =
            let heard : heard_at net t j ≡ heard_at net s j = ap (λ f. heard_at net (record heard_next { heard = f }) j) is.heard ∙ heard_elsewhere net s a stands u.dest u.route j e in
            ap (λ f. option_map (λ c. with f (t.rows j) c) (slice_get clocks j)) heard ∙ ap (λ r. option_map (λ c. with (heard_at net s j) r c) (slice_get clocks j)) (is.others j e)
          where
            with : (ℕ → ℕ → Option PureRoute) → (ℕ → Option PureRoute) → ℕ → PvState
            with heard rows c = record { net = net; before = None; number = j; is_begun = true; heard = heard; rows = rows; last = c }

    clocks_now : (j : ℕ) → later.clock j ≡ changed_at now.clock i h.clock j
    clocks_now j = set_get_or clocks i j h.clock below

    link_now : (b : ℕ) → later.link b ≡ on_arc b rest ++ on_arc b out
    link_now b = ap (on_arc b) is.waits ∙ on_arc_join b rest out

    pub delivered : Deliver path_vector net now a.id ≡ Some later
    delivered =
        let made : Deliver path_vector net now a.id ≡ Some (stepped path_vector now a.id i state u (on_arc a.id rest)) = rw (listens_there, link_is, is_node) refl in
        made ∙ ap (λ m. Some m) (sym (same_machine (stepped path_vector now a.id i state u (on_arc a.id rest)) later node clock link))
      where
        node : (j : ℕ) → later.node j ≡ changed_at now.node i (Some (path_vector.step state a.id u (max last u.stamp + 1)).0) j
        node j = node_now j ∙ ap (λ c. changed_at now.node i (Some (path_vector.step state a.id u c).0) j) clock_now

        clock : (j : ℕ) → later.clock j ≡ changed_at now.clock i (max last u.stamp + 1) j
        clock j = clocks_now j ∙ ap (λ c. changed_at now.clock i c j) clock_now

        link : (b : ℕ) → later.link b ≡ changed_at now.link a.id (on_arc a.id rest) b ++ on_arc b (path_vector.step state a.id u (max last u.stamp + 1)).1
        link b = link_now b ∙ (ap (λ l. l ++ on_arc b out) (by (b == a.id) refl) ∙ ap (λ o. changed_at now.link a.id (on_arc a.id rest) b ++ on_arc b o) (out_now ∙ ap (λ c. (path_vector.step state a.id u c).1) clock_now))
          where
            by : (x : Bool) → (b == a.id) ≡ x → on_arc b rest ≡ cond x (on_arc a.id rest) (now.link b)
            by true e = ap (λ z. on_arc z rest) (eqb-true b a.id e)
            by false e = sym (link_elsewhere b e)

    pub stays_coherent : IsCoherent net later
    stays_coherent = delivery_keeps net now later a.id n coherent delivered

    pub stays_chosen : (j dest : ℕ) → j < length net.nodes → t.rows j dest ≡ choice net dest j (heard_at net t j)
    stays_chosen j dest l = by (j == i) refl
      where
        by : (b : Bool) → (j == i) ≡ b → t.rows j dest ≡ choice net dest j (heard_at net t j)
        by true e =
            let same : j ≡ i = eqb-true j i e in
            subst (λ z. t.rows z dest ≡ choice net dest z (heard_at net t z)) (sym same)
            (ap (λ r. r dest) is.row_is ∙ chosen_after net i a.id u (heard_at net s i) (heard_at net t i) (s.rows i) row heard_now (λ d. chosen i d is_arc.tail_in)
            (ap (λ f. choice net u.dest i (heard_at net (record heard_next { heard = f }) i)) (sym is.heard)) dest)
        by false e =
            let heard : heard_at net t j ≡ heard_at net s j = ap (λ f. heard_at net (record heard_next { heard = f }) j) is.heard ∙ heard_elsewhere net s a stands u.dest u.route j e in
            ap (λ r. r dest) (is.others j e) ∙ (chosen j dest l ∙ ap (choice net dest j) (sym heard))

    pub has_delivered : (before after : ℕ → List Delivery) (sent : ℕ) → length out ≡ sent → ((j : ℕ) → after j ≡ changed_at before i (before i ++ record { clock = h.clock; arc = h.arc } ∷ []) j)
        → HasDelivered path_vector net now before sent later after
    has_delivered before after sent many logged = record {
      made = record { clock = h.clock; arc = h.arc };
      number = i;
      node = state;
      message = u;
      out = out;
      listens = ap (listener net) next.arc ∙ listens_there;
      was = is_node;
      timed = clock_now;
      out_is = out_now ∙ ap (λ z. (path_vector.step state z u h.clock).1) (sym next.arc);
      count = many;
      node_is = λ j. node_now j ∙ ap (λ z. changed_at now.node i (Some (path_vector.step state z u h.clock).0) j) (sym next.arc);
      clock_is = clocks_now;
      log_is = logged;
      link_is = λ b. subst (λ z. now.link b ++ on_arc b out ≡ cond (z == b) (u ∷ []) [] ++ later.link b) (sym next.arc) (both b (a.id == b) refl);
    }
      where
        both : (b : ℕ) (x : Bool) → (a.id == b) ≡ x → now.link b ++ on_arc b out ≡ cond x (u ∷ []) [] ++ later.link b
        both b true e =
            let same : b ≡ a.id = sym (eqb-true a.id b e) in
            subst (λ z. now.link z ++ on_arc z out ≡ u ∷ later.link z) (sym same) (ap (λ l. l ++ on_arc a.id out) link_is ∙ ap (λ l. u ∷ l) (sym (link_now a.id)))
        both b false e =
            let other : (b == a.id) ≡ false = grind (arith, nat_tests) in
            ap (λ l. l ++ on_arc b out) (link_elsewhere b other) ∙ sym (link_now b)

-- ---- the store, once the report was heard

-- what the report of that number says, by what all reports say
abbrev pub said_in : List (ℕ × PureUpdate) → Option ReportId → Option PureRoute
said_in reports id = option_and_then (λ (p : ℕ × PureUpdate). p.1.route) (option_and_then (λ (r : ReportId). slice_get reports r.0) id)

pub said_is : {S : Type 0} (value : S → PureValue) (store : Store S) (id : Option ReportId) → said_by value store.paths store.reports.items id ≡ said_in (pure_store value store).reports id
said_is value store None = refl
said_is value store (Some id) = by store.reports.items id.0
  where
    by : (reports : List (Report _)) (k : ℕ) → option_and_then (λ (r : Report _). option_map (route_of value store.paths) r.route) (slice_get reports k)
        ≡ option_and_then (λ (p : ℕ × PureUpdate). p.1.route) (slice_get (map {B = ℕ × PureUpdate} (λ (r : Report _). (r.node.0, update_of value store.paths r)) reports) k)
    by [] k = refl
    by (r ∷ reports) zero = refl
    by (r ∷ reports) (suc k) = by reports k

-- what was heard is put back
pub put_back : (s : PureStore) (arc dest : ℕ) (x y : Option PureRoute) → s.heard arc dest ≡ y → with_heard (with_heard s arc dest x) arc dest y ≡ s
put_back s arc dest x y was = ap (λ f. record s { heard = f }) (fun_ext (λ b. fun_ext (λ d. by b d (b == arc) refl (d == dest) refl)))
  where
    by : (b d : ℕ) (t : Bool) → (b == arc) ≡ t → (v : Bool) → (d == dest) ≡ v → cond (t && v) y (cond (t && v) x (s.heard b d)) ≡ s.heard b d
    by b d true e true f = sym was ∙ (ap (λ z. s.heard z dest) (sym (eqb-true b arc e)) ∙ ap (s.heard b) (sym (eqb-true d dest f)))
    by b d true e false f = refl
    by b d false e v f = refl

module _ {S : Type 0} (value : S → PureValue) (old new : Store S) {net : PureNet} {clocks : List ℕ} {front passed : ℕ} {a : PureArc} {h : Hearing} (d : CanDeliver net (pure_store value old) clocks front passed a h)
    (hears : pure_store value new ≡ with_heard (pure_store value old) h.arc.0 h.dest.0 (said_by value old.paths old.reports.items (Some h.report))) where
  said_old : said_by value old.paths old.reports.items (Some h.report) ≡ (u d).route
  said_old =
      let place : h.report ≡ record { 0 = front } = ap (λ k. record { 0 = k }) d.is_next.report in
      said_is value old (Some h.report) ∙ (ap (λ r. said_in (pure_store value old).reports (Some r)) place ∙ ap (option_and_then (λ (p : ℕ × PureUpdate). p.1.route)) d.is_next.there)

  pub store_is : pure_store value new ≡ heard_next d
  store_is =
      hears ∙ (ap (with_heard (pure_store value old) h.arc.0 h.dest.0) said_old
      ∙ (ap (λ k. with_heard (pure_store value old) k h.dest.0 (u d).route) d.is_next.arc ∙ ap (λ k. with_heard (pure_store value old) a.id k (u d).route) d.is_next.dest))

  pub said_new : said_by value new.paths new.reports.items (Some h.report) ≡ (u d).route
  said_new = said_is value new (Some h.report) ∙ (ap (λ (s : PureStore). said_in s.reports (Some h.report)) hears ∙ (sym (said_is value old (Some h.report)) ∙ said_old))

  pub is_hearing : IsHearing value net new a h
  is_hearing = record {
    stands = ap (slice_get net.arcs) d.is_next.arc ∙ stands d;
    tail = sym d.is_next.node;
    head = head d ∙ sym d.is_next.by_speaker;
    apart = apart;
    dest = omega (arith, d.is_next.dest, dest_in d);
    report = omega (arith, d.is_next.report, within, many);
    may = λ r e. may_be d r (sym said_new ∙ e);
  }
    where
      within : front < length (pure_store value old).reports
      within = slice_get_within (pure_store value old).reports front (d.is_next.speaker, d.is_next.update) d.is_next.there

      many : length new.reports.items ≡ length (pure_store value old).reports
      many =
          let entry : Report S → ℕ × PureUpdate = λ r. (r.node.0, update_of value new.paths r) in
          sym (length-map new.reports.items entry) ∙ ap (λ (s : PureStore). length s.reports) hears

      apart : (a.head == a.tail) ≡ false
      apart = let other = (is_arc d).apart in grind (arith, nat_tests)

  pub settles_new : Settles net h.dest.0 h.node.0 (heard_at net (pure_store value new) h.node.0) a ((pure_store value new).rows h.node.0 h.dest.0)
  settles_new =
      subst (λ s. Settles net h.dest.0 h.node.0 (heard_at net s h.node.0) a (s.rows h.node.0 h.dest.0)) (sym store_is)
      (subst (λ k. Settles net k h.node.0 (heard_at net (heard_next d) h.node.0) a ((heard_next d).rows h.node.0 k)) (sym d.is_next.dest)
      (subst (λ k. Settles net (u d).dest k (heard_at net (heard_next d) k) a ((heard_next d).rows k (u d).dest)) (sym d.is_next.node) (settles d)))

  pub heard_new : (pure_store value new).heard h.arc.0 h.dest.0 ≡ said_by value new.paths new.reports.items (Some h.report)
  heard_new =
      ap (λ (s : PureStore). s.heard h.arc.0 h.dest.0) hears
      ∙ (ap (λ t. cond (t && h.dest.0 == h.dest.0) (said_by value old.paths old.reports.items (Some h.report)) ((pure_store value old).heard h.arc.0 h.dest.0)) (self_equal h.arc.0)
      ∙ (ap (λ t. cond t (said_by value old.paths old.reports.items (Some h.report)) ((pure_store value old).heard h.arc.0 h.dest.0)) (self_equal h.dest.0) ∙ (said_old ∙ sym said_new)))

  pub known_new : (b : PureArc) (r : PureRoute) → slice_get net.arcs b.id ≡ Some b → b.tail ≡ h.node.0 → (pure_store value new).heard b.id h.dest.0 ≡ Some r → may_be_of net b.head r ≡ true
  known_new b r b_stands tail e =
      known_next d b r b_stands (tail ∙ d.is_next.node) (ap ((heard_next d).heard b.id) (sym d.is_next.dest) ∙ (ap (λ (s : PureStore). s.heard b.id h.dest.0) (sym store_is) ∙ e))

  pub begins_new : (r : PureRoute) → (pure_store value new).rows h.node.0 h.dest.0 ≡ Some r → begins_with h.node.0 r.path ≡ true
  begins_new r e =
      subst (λ k. begins_with k r.path ≡ true) (sym d.is_next.node)
      (row_begins d r (ap (λ k. (pure_store value old).rows k (u d).dest) (sym d.is_next.node) ∙ (ap (λ k. (pure_store value old).rows h.node.0 k) (sym d.is_next.dest) ∙ (ap (λ (s : PureStore). s.rows h.node.0 h.dest.0) (sym hears) ∙ e))))

  pub rechosen_new : (E : Type 0) (t : PureStore) (is_changed : Bool) → HasRechosen {E = E} net h (pure_store value new) t (Ok is_changed) → IsRechosen d t
  rechosen_new E t is_changed r = rechosen d E t is_changed (subst (λ s. HasRechosen {E = E} net h s t (Ok is_changed)) store_is r)

-- how many messages are sent
pub sent_count : {net : PureNet} {s : PureStore} {clocks : List ℕ} {front passed : ℕ} {a : PureArc} {h : Hearing} (d : CanDeliver net s clocks front passed a h) (E : Type 0) (t : PureStore) (is_changed : Bool)
    → HasRechosen {E = E} net h (heard_next d) t (Ok is_changed) → length (out d) ≡ cond is_changed (length (arcs_to net a.tail)) 0
sent_count {net} {s} {a} {h} d E t true r =
    let apart = (changed_there d t r).0 in
    ap (λ b. length (cond b [] (reported_on (arcs_to net a.tail) (reported d)))) apart ∙ (let put : PureArc → ℕ × PureUpdate = λ b. (b.id, reported d) in length-map (arcs_to net a.tail) put)
sent_count {net} {s} {a} {h} d E t false r =
    let stays : row d ≡ s.rows a.tail (u d).dest = subst (λ k. choice net k a.tail (heard_at net (heard_next d) a.tail) ≡ s.rows a.tail k) d.is_next.dest (subst (λ k. choice net h.dest.0 k (heard_at net (heard_next d) k) ≡ s.rows k h.dest.0) d.is_next.node r.0) in
    ap (λ o. length (cond (same_row o (s.rows a.tail (u d).dest)) [] (reported_on (arcs_to net a.tail) (record { dest = (u d).dest; route = o; stamp = h.clock })))) stays
    ∙ ap (λ b. length (cond b [] (reported_on (arcs_to net a.tail) (record { dest = (u d).dest; route = s.rows a.tail (u d).dest; stamp = h.clock })))) (same_row_self (s.rows a.tail (u d).dest))

-- after a refusal what was heard is as it was
pub heard_back : {S : Type 0} (value : S → PureValue) (old new refused end : Store S) (arc dest : ℕ) (x : Option PureRoute) (earlier : Option ReportId) → pure_store value new ≡ with_heard (pure_store value old) arc dest x
    → pure_store value refused ≡ pure_store value new → pure_store value end ≡ with_heard (pure_store value refused) arc dest (said_by value refused.paths refused.reports.items earlier)
    → said_by value old.paths old.reports.items earlier ≡ (pure_store value old).heard arc dest → pure_store value end ≡ pure_store value old
heard_back value old new refused end arc dest x earlier heard same put was =
    let all : pure_store value refused ≡ with_heard (pure_store value old) arc dest x = same ∙ heard in
    let said : said_by value refused.paths refused.reports.items earlier ≡ (pure_store value old).heard arc dest =
    said_is value refused earlier ∙ (ap (λ (s : PureStore). said_in s.reports earlier) all ∙ (sym (said_is value old earlier) ∙ was)) in
    put ∙ (ap (λ s. with_heard s arc dest (said_by value refused.paths refused.reports.items earlier)) all
    ∙ (ap (with_heard (with_heard (pure_store value old) arc dest x) arc dest) said ∙ put_back (pure_store value old) arc dest x ((pure_store value old).heard arc dest) refl))
