-- The state of a node by its fields.
use Rattle.std.proofs.Common.{◌≡◌, ℕ, ◌<◌, ◌==◌, List, [], ◌∷◌, Bool, true, false, ◌&&◌, ◌||◌, cond, length, map, Option, Some, None, refl, sym, ap, subst, ◌∙◌}
use Rattle.std.specs.Prelude.{option_map, option_and_then, slice_get, IfSome, OnErr, Result, Ok, Err}
use Rattle.std.proofs.Math.ListN.{set}
use Rattle.std.proofs.Math.Path.{fun_ext}
use Rattle.std.proofs.lemmas.Bool.{eqb-true}
use Rattle.std.proofs.lemmas.Option.{slice_get-map}
use Rattle.std.proofs.lemmas.Slice.Eq.{bytes_eq-Decides}
use Rattle.alg_model.specs.Tests.{same_value-Decides}
use Rattle.alg_model.specs.Expressions.{PureLabel, PureValue}
use Rattle.net_graph.specs.declared.route.Route.{Route}
use Rattle.net_graph.specs.Nets.{PureNet, arcs_from, arcs_to, origin_value}
use Rattle.net_graph.specs.Tables.{PureRow, carrier}
use Rattle.net_graph.specs.Views.{pure_route}
use Rattle.net_graph.specs.Routes.{PureRoute}
use Rattle.node_core.specs.Machine.{changed_at}
use Rattle.path_vector.specs.declared.known.Known.{Known}
use Rattle.path_vector.specs.Known.{AreNeighbours, entry_of, heard_by, known_route, Listened}
use Rattle.path_vector.specs.Node.{Begin, PureUpdate, PvState, best_of, carried, choice, heard_before, heard_with, new_node, offers_to, same_row, taken, reported_on}
use Rattle.path_vector.specs.Nodes.{PureNode, heard_in, heard_lists, row_list, state_of}
use Rattle.path_vector.specs.State.{IsKept, row_routes}
use Rattle.path_vector.proofs.Hearings.{entry_set, set_length}

joined : {X Y : Type 0} (f : X → Y) (o : Option (Option X)) → option_and_then (λ x. x) (option_map (option_map f) o) ≡ option_map f (option_and_then (λ x. x) o)
joined f None = refl
joined f (Some o) = refl

-- the entry of images is the image of the entry
pub entry_mapped : {X Y : Type 0} (f : X → Y) (xs : List (Option X)) (dest : ℕ) → entry_of (map (option_map f) xs) dest ≡ option_map f (entry_of xs dest)
entry_mapped f xs dest = ap (option_and_then (λ x. x)) (slice_get-map (option_map f) xs dest) ∙ joined f (slice_get xs dest)

module _ {S : Type 0} (value : S → PureValue) where
  pub rows_are : (rows : List (Option (Known S))) → entry_of (row_list value rows) ≡ row_routes value rows
  rows_are rows = fun_ext (λ dest. entry_mapped (known_route value) rows dest)

  -- the rows of which one was replaced
  pub rows_set : (rows : List (Option (Known S))) (dest : ℕ) (row : Option (Known S)) → dest < length rows
      → row_routes value (set rows dest row) ≡ changed_at (row_routes value rows) dest (option_map (known_route value) row)
  rows_set rows dest row l = fun_ext (λ d. ap (option_map (known_route value)) (entry_set rows dest row d l) ∙ by d (d == dest))
    where
      by : (d : ℕ) (b : Bool) → option_map (known_route value) (cond b row (entry_of rows d)) ≡ cond b (option_map (known_route value) row) (row_routes value rows d)
      by d true = refl
      by d false = refl

module _ {L S : Type 0} (value : S → PureValue) where
  heard_entry : (ns : List (Listened L S)) (a dest : ℕ) → heard_in (heard_lists value ns) a dest ≡ heard_by value ns a dest
  heard_entry [] a dest = refl
  heard_entry (n ∷ ns) a dest = by (n.arc.0 == a) refl (heard_entry ns a dest)
    where
      by : (b : Bool) → (n.arc.0 == a) ≡ b → heard_in (heard_lists value ns) a dest ≡ heard_by value ns a dest → heard_in (heard_lists value (n ∷ ns)) a dest ≡ heard_by value (n ∷ ns) a dest
      by true e more = rw e (entry_mapped (known_route value) n.heard dest)
      by false e more = rw e more

  pub heard_is : (ns : List (Listened L S)) → heard_in (heard_lists value ns) ≡ heard_by value ns
  heard_is ns = fun_ext (λ a. fun_ext (λ dest. heard_entry ns a dest))

  pub kept_with_row : (stands_for : L → PureLabel → Type 0) (is_sig : S → Type 0) (net : PureNet) (number : ℕ) (own : List (Option S)) (ns : List (Listened L S)) (rows : List (Option (Known S)))
      (dest : ℕ) (row : Option (Known S)) → IsKept stands_for is_sig value net number own ns rows → dest < length rows → IfSome row (λ k. is_sig k.sig) → IsKept stands_for is_sig value net number own ns (set rows dest row)
  kept_with_row stands_for is_sig net number own ns rows dest row kept l sig =
      record {
        inside = kept.inside;
        own_count = kept.own_count;
        own_values = kept.own_values;
        own_sigs = kept.own_sigs;
        neighbours = kept.neighbours;
        row_count = set_length rows dest row ∙ kept.row_count;
        row_sigs = λ d k e. by d k (d == dest) row sig (sym (entry_set rows dest row d l) ∙ e);
      }
    where
      by : (d : ℕ) (k : Known S) (b : Bool) (r : Option (Known S)) → IfSome r (λ k. is_sig k.sig) → cond b r (entry_of rows d) ≡ Some k → is_sig k.sig
      by d k true None s e = absurd (cc)
      by d k true (Some x) s e = let same : x ≡ k = cc in subst (λ (z : Known S). is_sig z.sig) same s
      by d k false r s e = kept.row_sigs d k e

-- what a node keeps, on a network that differs in its arcs alone
pub kept_on : {L S : Type 0} (stands_for : L → PureLabel → Type 0) (is_sig : S → Type 0) (value : S → PureValue) (old net : PureNet) → net ≡ record old { arcs = net.arcs } → (number : ℕ)
    (own : List (Option S)) (ns new : List (Listened L S)) (rows : List (Option (Known S))) → IsKept stands_for is_sig value old number own ns rows
    → AreNeighbours stands_for is_sig value net (arcs_from net number) new → IsKept stands_for is_sig value net number own new rows
kept_on stands_for is_sig value old net same number own ns new rows kept are = record {
  inside = subst (λ (z : PureNet). number < length z.nodes) (sym same) kept.inside;
  own_count = kept.own_count ∙ ap (λ (z : PureNet). length z.dests) (sym same);
  own_values = λ dest. kept.own_values dest ∙ ap (λ z. origin_value z dest number) (sym same);
  own_sigs = kept.own_sigs;
  neighbours = are;
  row_count = kept.row_count ∙ ap (λ (z : PureNet). length z.dests) (sym same);
  row_sigs = kept.row_sigs;
}

pub some_route : {S : Type 0} (value : S → PureValue) (route : Option Route) (entry : Option (Known S)) (r : Route) (k : Known S) → route ≡ Some r → entry ≡ Some k → pure_route r ≡ known_route value k
    → option_map pure_route route ≡ option_map (known_route value) entry
some_route value route entry r k e f same = rw (e, f) (ap (λ z. Some z) same)

pub no_route : {S : Type 0} (value : S → PureValue) (route : Option Route) (entry : Option (Known S)) → route ≡ None → entry ≡ None → option_map pure_route route ≡ option_map (known_route value) entry
no_route value route entry e f = rw (e, f) refl

abbrev pub row_at : ℕ → ℕ → Option PureRoute → PureRow
row_at number dest route = record { node = number; dest = dest; route = route }

-- the row of a destination
pub row_is : {S : Type 0} (value : S → PureValue) (number dest : ℕ) (rows : List (Option (Known S))) (entry : Option (Known S)) (route : Option Route) → entry_of rows dest ≡ entry
    → option_map pure_route route ≡ option_map (known_route value) entry
    → row_at number dest (option_map pure_route route) ≡ row_at number dest (entry_of (row_list value rows) dest)
row_is value number dest rows entry route e f =
    let same : option_map pure_route route ≡ entry_of (row_list value rows) dest = f ∙ ap (option_map (known_route value)) (sym e) ∙ sym (entry_mapped (known_route value) rows dest) in
    ap (λ r. row_at number dest r) same

-- ---- rows that are choices

-- what is changed to what it was is as it was
pub changed_to_itself : {X : Type 0} (f : ℕ → X) (i : ℕ) → changed_at f i (f i) ≡ f
changed_to_itself f i = fun_ext (λ j. by j (j == i) refl)
  where
    by : (j : ℕ) (b : Bool) → (j == i) ≡ b → cond b (f i) (f j) ≡ f j
    by j true e = ap f (sym (eqb-true j i e))
    by j false e = refl

pub same_row_self : (row : Option PureRoute) → same_row row row ≡ true
same_row_self None = refl
same_row_self (Some r) =
    let value = (same_value-Decides r.value r.value).1 refl in
    let path = (bytes_eq-Decides r.path r.path).1 refl in
    rw (value, path) refl

-- what was heard of one destination makes no other choice
other_choice : (net : PureNet) (i a : ℕ) (u : PureUpdate) (heard : ℕ → ℕ → Option PureRoute) (dest : ℕ) → (dest == u.dest) ≡ false → choice net dest i (heard_with heard a u) ≡ choice net dest i heard
other_choice net i a u heard dest e = ap (λ h. best_of (carrier net) (offers_to net dest i h)) (fun_ext (λ b. by b (b == a)))
  where
    by : (b : ℕ) (t : Bool) → cond (t && dest == u.dest) u.route (heard b dest) ≡ heard b dest
    by b true = rw e refl
    by b false = refl

-- rows that are choices are so after an update, once that of its destination is
pub chosen_after : (net : PureNet) (i a : ℕ) (u : PureUpdate) (heard new : ℕ → ℕ → Option PureRoute) (rows : ℕ → Option PureRoute) (row : Option PureRoute) → new ≡ heard_with heard a u
    → ((dest : ℕ) → rows dest ≡ choice net dest i heard) → row ≡ choice net u.dest i new → (dest : ℕ) → changed_at rows u.dest row dest ≡ choice net dest i new
chosen_after net i a u heard new rows row e chosen is dest = by (dest == u.dest) refl
  where
    by : (b : Bool) → (dest == u.dest) ≡ b → cond b row (rows dest) ≡ choice net dest i new
    by true f = is ∙ ap (λ d. choice net d i new) (sym (eqb-true dest u.dest f))
    by false f = chosen dest ∙ (sym (other_choice net i a u heard dest f) ∙ ap (choice net dest i) (sym e))

-- and so they are where that row stays the choice
pub still_chosen : (net : PureNet) (i a : ℕ) (u : PureUpdate) (heard new : ℕ → ℕ → Option PureRoute) (rows : ℕ → Option PureRoute) → new ≡ heard_with heard a u
    → ((dest : ℕ) → rows dest ≡ choice net dest i heard) → choice net u.dest i new ≡ rows u.dest → (dest : ℕ) → rows dest ≡ choice net dest i new
still_chosen net i a u heard new rows e chosen stays dest =
    sym (ap (λ f. f dest) (changed_to_itself rows u.dest)) ∙ chosen_after net i a u heard new rows (rows u.dest) e chosen (sym stays) dest

-- a node that is begun or settled has chosen
pub either_first : (b c : Bool) → b ≡ true → (b || c) ≡ true
either_first true c e = refl
either_first false c e = absurd (cc)

pub either_second : (b c : Bool) → c ≡ true → (b || c) ≡ true
either_second true c e = refl
either_second false c e = e

-- ---- states by fields

abbrev pub state_with : PureNet → Option PureNet → ℕ → Bool → (ℕ → ℕ → Option PureRoute) → (ℕ → Option PureRoute) → ℕ → PvState
state_with net before number begun heard rows last =
    record {
      net = net;
      before = before;
      number = number;
      is_begun = begun;
      heard = heard;
      rows = rows;
      last = last;
    }

module _ {L S : Type 0} (value : S → PureValue) where
  abbrev pub node_with : PureNet → Option PureNet → ℕ → Bool → List (Listened L S) → List (Option (Known S)) → ℕ → PureNode
  node_with net before number begun ns rows last =
      record {
        net = net;
        before = before;
        number = number;
        is_begun = begun;
        heard = heard_lists value ns;
        rows = row_list value rows;
        last = last;
      }

  pub state_is : (net : PureNet) (before : Option PureNet) (number : ℕ) (begun : Bool) (ns : List (Listened L S)) (rows : List (Option (Known S))) (last : ℕ)
      → state_of (node_with net before number begun ns rows last) ≡ state_with net before number begun (heard_by value ns) (row_routes value rows) last
  state_is net before number begun ns rows last =
      ap (λ h. state_with net before number begun h (entry_of (row_list value rows)) last) (heard_is value ns)
      ∙ ap (λ r. state_with net before number begun (heard_by value ns) r last) (rows_are value rows)

  -- a node that has heard as much is in the same state
  pub same_heard : (net : PureNet) (before : Option PureNet) (number : ℕ) (begun : Bool) (ns new : List (Listened L S)) (rows : List (Option (Known S))) (last : ℕ) → heard_by value new ≡ heard_by value ns
      → state_of (node_with net before number begun new rows last) ≡ state_of (node_with net before number begun ns rows last)
  same_heard net before number begun ns new rows last e =
      state_is net before number begun new rows last ∙ ap (λ h. state_with net before number begun h (row_routes value rows) last) e ∙ sym (state_is net before number begun ns rows last)

  -- a node that heard nothing and has no rows is new
  pub new_is : (net : PureNet) (number : ℕ) (ns : List (Listened L S)) (rows : List (Option (Known S))) → ((a dest : ℕ) → heard_by value ns a dest ≡ None) → ((dest : ℕ) → entry_of rows dest ≡ None)
      → state_of (node_with net None number false ns rows 0) ≡ new_node net number
  new_is net number ns rows silent none =
      state_is net None number false ns rows 0
      ∙ ap (λ h. state_with net None number false h (row_routes value rows) 0) (fun_ext (λ a. fun_ext (λ dest. silent a dest)))
      ∙ ap (λ r. state_with net None number false (λ a dest. None) r 0) (fun_ext (λ dest. ap (option_map (known_route value)) (none dest)))

  -- a node with its rows that heard what it heard before is carried
  pub carried_is : (old net : PureNet) (before : Option PureNet) (number : ℕ) (begun : Bool) (ns new : List (Listened L S)) (rows : List (Option (Known S))) (last : ℕ)
      → heard_by value new ≡ heard_before old net (heard_by value ns)
      → state_of (node_with net (Some old) number false new rows 0) ≡ carried net (state_of (node_with old before number begun ns rows last))
  carried_is old net before number begun ns new rows last e =
      state_is net (Some old) number false new rows 0 ∙ ap (λ h. state_with net (Some old) number false h (row_routes value rows) 0) e
      ∙ ap (carried net) (sym (state_is old before number begun ns rows last))

  -- a node with the rows that it chooses has begun
  pub begun_is : (net : PureNet) (before : Option PureNet) (number : ℕ) (begun : Bool) (ns : List (Listened L S)) (rows new : List (Option (Known S))) (last : ℕ)
      → row_routes value new ≡ (λ dest. choice net dest number (heard_by value ns))
      → state_of (node_with net before number true ns new 0) ≡ (Begin (state_of (node_with net before number begun ns rows last))).0
  begun_is net before number begun ns rows new last e =
      state_is net before number true ns new 0 ∙ ap (λ r. state_with net before number true (heard_by value ns) r 0) e
      ∙ ap (λ s. (Begin s).0) (sym (state_is net before number begun ns rows last))

  -- rows are choices in the lists of a node where they are as routes, and the other way round
  pub chosen_in_lists : (net : PureNet) (number : ℕ) (ns : List (Listened L S)) (rows : List (Option (Known S))) → ((dest : ℕ) → row_routes value rows dest ≡ choice net dest number (heard_by value ns))
      → (dest : ℕ) → entry_of (row_list value rows) dest ≡ choice net dest number (heard_in (heard_lists value ns))
  chosen_in_lists net number ns rows chosen dest = ap (λ f. f dest) (rows_are value rows) ∙ (chosen dest ∙ ap (choice net dest number) (sym (heard_is value ns)))

  pub chosen_as_routes : (net : PureNet) (number : ℕ) (ns : List (Listened L S)) (rows : List (Option (Known S))) → ((dest : ℕ) → entry_of (row_list value rows) dest ≡ choice net dest number (heard_in (heard_lists value ns)))
      → (dest : ℕ) → row_routes value rows dest ≡ choice net dest number (heard_by value ns)
  chosen_as_routes net number ns rows chosen dest = ap (λ f. f dest) (sym (rows_are value rows)) ∙ (chosen dest ∙ ap (choice net dest number) (heard_is value ns))

  module _ (net : PureNet) (before : Option PureNet) (number : ℕ) (begun : Bool) (ns new : List (Listened L S)) (rows : List (Option (Known S))) (last : ℕ) (a : ℕ) (u : PureUpdate) (clock : ℕ)
      (heard : heard_by value new ≡ heard_with (heard_by value ns) a u)
    where
      -- a node that heard an update, and has the row that it then chooses, has taken it
      pub taken_is : (row : Option (Known S)) → u.dest < length rows → option_map (known_route value) row ≡ choice net u.dest number (heard_by value new)
          → state_of (node_with net before number begun new (set rows u.dest row) clock) ≡ (taken (state_of (node_with net before number begun ns rows last)) a u clock).0
      taken_is row l e =
          state_is net before number begun new (set rows u.dest row) clock
          ∙ ap (λ h. state_with net before number begun h (row_routes value (set rows u.dest row)) clock) heard
          ∙ ap (λ r. state_with net before number begun (heard_with (heard_by value ns) a u) r clock)
          (rows_set value rows u.dest row l ∙ ap (changed_at (row_routes value rows) u.dest) (e ∙ ap (choice net u.dest number) heard))
          ∙ ap (λ s. (taken s a u clock).0) (sym (state_is net before number begun ns rows last))

      -- and so has one that heard an update and keeps its row, which is its choice
      pub kept_is : choice net u.dest number (heard_by value new) ≡ row_routes value rows u.dest
          → state_of (node_with net before number begun new rows clock) ≡ (taken (state_of (node_with net before number begun ns rows last)) a u clock).0
      kept_is e =
          state_is net before number begun new rows clock
          ∙ ap (λ h. state_with net before number begun h (row_routes value rows) clock) heard
          ∙ ap (λ r. state_with net before number begun (heard_with (heard_by value ns) a u) r clock)
          (sym (ap (changed_at (row_routes value rows) u.dest) (ap (choice net u.dest number) (sym heard) ∙ e) ∙ changed_to_itself (row_routes value rows) u.dest))
          ∙ ap (λ s. (taken s a u clock).0) (sym (state_is net before number begun ns rows last))

      -- and tells what it tells then
      pub reported_is : (reported : List (ℕ × PureUpdate))
          → reported ≡ cond (same_row (choice net u.dest number (heard_by value new)) (row_routes value rows u.dest)) []
          (reported_on (arcs_to net number) (record { dest = u.dest; route = choice net u.dest number (heard_by value new); stamp = clock }))
          → reported ≡ (taken (state_of (node_with net before number begun ns rows last)) a u clock).1
      reported_is reported e =
          subst (λ h. reported ≡ cond (same_row (choice net u.dest number h) (row_routes value rows u.dest)) []
          (reported_on (arcs_to net number) (record { dest = u.dest; route = choice net u.dest number h; stamp = clock }))) heard e
          ∙ ap (λ s. (taken s a u clock).1) (sym (state_is net before number begun ns rows last))

-- what holds, holds after a refusal
pub on_refusal : {T E : Type 0} (P : Type 0) (r : Result T E) → P → OnErr r P
on_refusal P (Ok x) p = tt
on_refusal P (Err e) p = p

-- of a row that stayed nothing is reported
pub nothing_reported : (row before : Option PureRoute) (all : List (ℕ × PureUpdate)) → row ≡ before → [] ≡ cond (same_row row before) [] all
nothing_reported row before all e = rw (e, same_row_self before) refl

-- and of another one all is
pub all_reported : (row before : Option PureRoute) (reported all : List (ℕ × PureUpdate)) → same_row row before ≡ false → reported ≡ all → reported ≡ cond (same_row row before) [] all
all_reported row before reported all e f = rw e f
