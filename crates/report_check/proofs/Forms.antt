-- Labels and values in an algebra's own form, in lists that grow by one at the end.
use Rattle.std.proofs.Common.{◌≡◌, ℕ, ◌<◌, ◌≤◌, List, Option, Some, None, IfSome, option_map, option_and_then, length, map, get_or, inl, inr, refl, sym, ap, ◌∙◌, lit≤, slice_get, arith}
use Rattle.std.proofs.lemmas.List.{length-map}
use Rattle.std.proofs.lemmas.Option.{slice_get-map, slice_get_cases, slice_get_past, slice_get_read, slice_get_within}
use Rattle.alg_model.specs.Application.{App}
use Rattle.alg_model.specs.Bounds.{AtMost}
use Rattle.alg_model.specs.Expressions.{PureLabel, PureValue}
use Rattle.alg_model.specs.Laws.{at_most_more}
use Rattle.alg_model.specs.declared.alg.TheConstants.{MAX_VALUE_NUMBER}
use Rattle.net_graph.specs.Nets.{PureArc, PureNet, IsNet, arcs_from, label_between}
use Rattle.net_graph.specs.Routes.{PureRoute}
use Rattle.net_graph.specs.RouteLaws.{table_route_in}
use Rattle.net_graph.specs.Tables.{PureRow, TableOf, route_at, value_at}
use Rattle.net_graph.specs.Views.{pure_row}
use Rattle.net_graph.specs.Walks.{along}
use Rattle.net_graph.specs.declared.route.RouteRow.{RouteRow}
use Rattle.net_graph.specs.declared.route.TheConstants.{MAX_ROW_NUMBER}
use Rattle.stable_check.specs.ArcSearch.{out_arc}
use Rattle.stable_check.specs.Checks.{own_at}
use Rattle.arc_labels.specs.declared.neighbours.Neighbour.{Neighbour}
use Rattle.arc_labels.specs.Neighbours.{AreNeighbours, head_of}
use Rattle.report_check.specs.Compiled.{AreSigs, IsHopFrom}

-- a hop of a node, by its place
pub record IsHopAt {L : Type 0} (stands_for : L → PureLabel → Type 0) (net : PureNet) (i m : ℕ) (hop : Neighbour L) : Type 0 where
  pub arc : PureArc
  pub there : slice_get (arcs_from net i) m ≡ Some arc
  pub tail : arc.tail ≡ i
  pub head : hop.node.0 ≡ arc.head
  pub from : IsHopFrom stands_for net i hop

pub hop_at : {L : Type 0} (stands_for : L → PureLabel → Type 0) (net : PureNet) → IsNet net → (i m : ℕ) (hops : List (Neighbour L)) (hop : Neighbour L) → AreNeighbours stands_for head_of (arcs_from net i) hops → slice_get hops m ≡ Some hop → IsHopAt stands_for net i m hop
hop_at {L} stands_for net n i m hops hop are at = elim (slice_get_cases (arcs_from net i) m).1 [
  | inl f ↦ found f.0 f.2
  | inr f ↦ absurd (omega (arith, within, f.0))
]
  where
    within : m < length (arcs_from net i)
    within = omega (arith, slice_get_within hops m hop at, are.count)

    found : (a : PureArc) → slice_get (arcs_from net i) m ≡ Some a → IsHopAt stands_for net i m hop
    found a e =
        let is = are.each m hop at a e in
        let out = out_arc net n i m a e in
        let between : label_between net i hop.node.0 ≡ Some a.label = rw (is.node, ← out.tail) out.label in
        record { arc = a; there = e; tail = out.tail; head = is.node; from = record { arc_label = a.label; between = between; stands = is.label } }

-- past its end a list has nothing, and only there
slice_get_beyond : {X : Type 0} (xs : List X) (k : ℕ) → slice_get xs k ≡ None → length xs ≤ k
slice_get_beyond xs k e = elim (slice_get_cases xs k).1 [
  | inl f ↦ absurd (let some = f.2 in cc)
  | inr f ↦ f.0
]

-- the value of the row in a place, and past all rows
pub value_there : (rows : List RouteRow) (k : ℕ) (row : RouteRow) → k < length rows → row ≡ get_or rows k row → value_at (map pure_row rows) k ≡ option_map (λ (r : PureRoute). r.value) (pure_row row).route
value_there rows k row within at =
    let there = slice_get-map pure_row rows k ∙ ap (option_map pure_row) (slice_get_read rows (length rows) k row refl within at) in
    rw there refl

pub value_past : (rows : List RouteRow) (k : ℕ) → length rows ≤ k → value_at (map pure_row rows) k ≡ None
value_past rows k past =
    let none = slice_get_past (map pure_row rows) k (omega (arith, past, length-map rows pure_row)) in
    rw none refl

-- what stands in a place for a node, and past all places
pub own_there : {X : Type 0} (values : List (Option X)) (k : ℕ) (o : Option X) → k < length values → o ≡ get_or values k o → own_at values k ≡ o
own_there values k o within at = rw (slice_get_read values (length values) k o refl within at) refl

pub own_past : {X : Type 0} (values : List (Option X)) (k : ℕ) → length values ≤ k → own_at values k ≡ None
own_past values k past = rw (slice_get_past values k past) refl

-- what stands in the places of a list for values
pub are_sigs : {S : Type 0} (is_sig : S → Type 0) (sig_value : S → PureValue) (value : ℕ → Option PureValue) (sigs : List (Option S)) → ((k : ℕ) (o : Option S) → slice_get sigs k ≡ Some o → IfSome o is_sig × (option_map sig_value o ≡ value k))
    → ((k : ℕ) → length sigs ≤ k → value k ≡ None) → AreSigs is_sig sig_value value sigs
are_sigs {S} is_sig sig_value value sigs each past = record {
  all_stand = λ k. sig k (slice_get sigs k) (each k);
  values = λ k. val k (slice_get sigs k) (each k) (λ e. past k (slice_get_beyond sigs k e));
}
  where
    sig : (k : ℕ) (o : Option (Option S)) → ((x : Option S) → o ≡ Some x → IfSome x is_sig × (option_map sig_value x ≡ value k)) → IfSome (option_and_then (λ (x : Option S). x) o) is_sig
    sig k None f = tt
    sig k (Some x) f = (f x refl).0

    val : (k : ℕ) (o : Option (Option S)) → ((x : Option S) → o ≡ Some x → IfSome x is_sig × (option_map sig_value x ≡ value k)) → (o ≡ None → value k ≡ None) → option_map sig_value (option_and_then (λ (x : Option S). x) o) ≡ value k
    val k None f g = sym (g refl)
    val k (Some x) f g = (f x refl).1

-- what the arc makes, by its label
pub along_label : (net : PureNet) (i j : ℕ) (l : PureLabel) (v : Option PureValue) → label_between net i j ≡ Some l → along net i j v ≡ option_and_then (App net.alg.expression l) v
along_label net i j l v e = rw e refl

-- a row's value is no greater than one to which labels may be applied
pub sig_small : {S : Type 0} (is_sig : S → Type 0) (sig_value : S → PureValue) (net : PureNet) (dest : ℕ) (rows : List PureRow) (sigs : List (Option S)) → TableOf net dest rows → AreSigs is_sig sig_value (value_at rows) sigs
    → (k : ℕ) (s : S) → own_at sigs k ≡ Some s → AtMost MAX_VALUE_NUMBER (sig_value s)
sig_small is_sig sig_value net dest rows sigs t h k s e = by (route_at rows k) refl (rw e at (h.values k))
  where
    by : (o : Option PureRoute) → route_at rows k ≡ o → Some (sig_value s) ≡ option_map (λ (r : PureRoute). r.value) o → AtMost MAX_VALUE_NUMBER (sig_value s)
    by None f g = absurd (cc)
    by (Some r) f g =
        let same : sig_value s ≡ r.value = cc in
        rw same (at_most_more MAX_ROW_NUMBER MAX_VALUE_NUMBER r.value (lit≤ tt) (table_route_in net dest rows t k r f).bound)
