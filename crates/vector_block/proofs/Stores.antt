-- What a store says, read entry by entry, and once a path or a report was added.
use Rattle.std.proofs.Common.{◌≡◌, ℕ, ◌+◌, ◌<◌, ◌≤◌, ◌==◌, ◌&&◌, zero, suc, Bool, true, false, List, [], ◌∷◌, ◌++◌, Option, Some, None, Result, Ok, Err, OnErr, IfSome, get_or, length, map, cond, slice_get, refl, sym, ap, ◌∙◌, subst, arith}
use Rattle.std.specs.Prelude.{option_map, option_and_then}
use Rattle.std.specs.Borrow.{Bor}
use Rattle.std.specs.Vec.{with_item}
use Rattle.std.specs.Option.{option_copied}
use Rattle.std.proofs.Math.ListN.{set}
use Rattle.std.proofs.lemmas.Bool.{eqb-true}
use Rattle.std.proofs.lemmas.Bool.Decides.{nat_tests}
use Rattle.std.proofs.lemmas.List.{get_or_append_left}
use Rattle.std.proofs.lemmas.Option.{slice_get_read, slice_get_within}
use mathlib.Core.Path.{fun_ext}
use Rattle.meta_base.specs.NodePaths.{numbers}
use Rattle.meta_base.specs.declared.ids.NodeId.{NodeId}
use Rattle.alg_model.specs.Expressions.{PureValue}
use Rattle.net_graph.specs.Nets.{PureNet}
use Rattle.net_graph.specs.Routes.{PureRoute}
use Rattle.path_store.specs.declared.trails.PathId.{PathId}
use Rattle.path_store.specs.PathOf.{path_of}
use Rattle.path_vector.specs.Known.{entry_of}
use Rattle.path_vector.specs.Node.{PureUpdate}
use Rattle.path_vector.specs.Settling.{is_next}
use Rattle.path_vector.proofs.Choices.{entry_is}
use Rattle.path_vector.proofs.Hearings.{entry_set, set_length}
use Rattle.vector_block.specs.declared.report.ReportId.{ReportId}
use Rattle.vector_block.specs.declared.report.Reported.{Reported}
use Rattle.vector_block.specs.declared.report.Report.{Report}
use Rattle.vector_block.specs.declared.report.Choice.{Choice}
use Rattle.vector_block.specs.declared.report.Column.{Column}
use Rattle.vector_block.specs.declared.store.Store.{Store}
use Rattle.vector_block.specs.Stores.{PureStore, IsColumn, IsReport, IsReported, IsRowOf, IsStored, chosen_route, pure_store, route_of, said_by, update_of, with_heard, with_report}

-- ---- lists

get_left : {X : Type 0} (xs ys : List X) (k : ℕ) → k < length xs → slice_get (xs ++ ys) k ≡ slice_get xs k
get_left [] ys k l = absurd (omega arith)
get_left (x ∷ xs) ys zero l = refl
get_left (x ∷ xs) ys (suc k) l = get_left xs ys k (omega arith)

get_last : {X : Type 0} (xs : List X) (y : X) → slice_get (xs ++ y ∷ []) (length xs) ≡ Some y
get_last [] y = refl
get_last (x ∷ xs) y = get_last xs y

-- an item of a list with one more at its end is of the list, or is that one
get_either : {X : Type 0} (P : X → Type 0) (xs : List X) (y : X) (k : ℕ) (x : X) → slice_get (xs ++ y ∷ []) k ≡ Some x → (slice_get xs k ≡ Some x → P x) → P y → P x
get_either P [] y zero x e f p =
    let same : y ≡ x = cc in
    subst P same p
get_either P [] y (suc k) x e f p = absurd (cc)
get_either P (z ∷ xs) y zero x e f p = f e
get_either P (z ∷ xs) y (suc k) x e f p = get_either P xs y k x e f p

map_last : {X Y : Type 0} (f : X → Y) (xs : List X) (y : X) → map f (xs ++ y ∷ []) ≡ map f xs ++ f y ∷ []
map_last f [] y = refl
map_last f (x ∷ xs) y = ap (λ z. f x ∷ z) (map_last f xs y)

map_alike : {X Y : Type 0} (f h : X → Y) (xs : List X) → ((k : ℕ) (x : X) → slice_get xs k ≡ Some x → f x ≡ h x) → map f xs ≡ map h xs
map_alike f h [] same = refl
map_alike f h (x ∷ xs) same = ap (λ y. y ∷ map f xs) (same zero x refl) ∙ ap (λ ys. h x ∷ ys) (map_alike f h xs (λ k y e. same (suc k) y e))

length_last : {X : Type 0} (xs : List X) (y : X) → length (xs ++ y ∷ []) ≡ length xs + 1
length_last [] y = refl
length_last (x ∷ xs) y =
    let more = length_last xs y in
    omega (arith, more)

set_at : {X : Type 0} (xs : List X) (k j : ℕ) (x : X) → k < length xs → slice_get (set xs k x) j ≡ cond (j == k) (Some x) (slice_get xs j)
set_at [] k j x l = absurd (omega arith)
set_at (y ∷ xs) zero zero x l = refl
set_at (y ∷ xs) zero (suc j) x l =
    let other : (suc j == zero) ≡ false = grind (arith, nat_tests) in
    ap (λ b. cond b (Some x) (slice_get xs j)) (sym other)
set_at (y ∷ xs) (suc k) zero x l =
    let other : (zero == suc k) ≡ false = grind (arith, nat_tests) in
    ap (λ b. cond b (Some x) (Some y)) (sym other)
set_at (y ∷ xs) (suc k) (suc j) x l =
    let same : (suc j == suc k) ≡ (j == k) = grind (arith, nat_tests) in
    set_at xs k j x (omega arith) ∙ ap (λ b. cond b (Some x) (slice_get xs j)) (sym same)

-- ---- reading

-- the column of a destination, and what stands in it
pub column_read : (columns : List Column) (dest : ℕ) (c : Column) → dest < length columns → c ≡ get_or columns dest c → slice_get columns dest ≡ Some c
column_read columns dest c l e = slice_get_read columns (length columns) dest c refl l e

module _ {S : Type 0} (value : S → PureValue) (s : Store S) (dest : ℕ) (c : Column) (at : slice_get s.columns.items dest ≡ Some c) where
  pub heard_read : (arc : ℕ) (id : Option ReportId) → arc < length c.heard.items → id ≡ get_or c.heard.items arc id → (pure_store value s).heard arc dest ≡ said_by value s.paths s.reports.items id
  heard_read arc id l e =
      ap (option_and_then (λ (d : Column). said_by value s.paths s.reports.items (entry_of d.heard.items arc))) at ∙ ap (said_by value s.paths s.reports.items) (entry_is c.heard.items arc id l e)

  pub row_read : (node : ℕ) (id : Option ReportId) → node < length c.rows.items → id ≡ get_or c.rows.items node id → (pure_store value s).rows node dest ≡ said_by value s.paths s.reports.items id
  row_read node id l e =
      ap (option_and_then (λ (d : Column). said_by value s.paths s.reports.items (entry_of d.rows.items node))) at ∙ ap (said_by value s.paths s.reports.items) (entry_is c.rows.items node id l e)

-- a report that was heard is there
pub heard_there : {S : Type 0} (is_sig : S → Type 0) (net : PureNet) (reports : List (Report S)) (c : Column) → IsColumn is_sig net reports c → (arc : ℕ) (id : Option ReportId) → arc < length c.heard.items → id ≡ get_or c.heard.items arc id
    → IfSome id (λ (i : ReportId). i.0 < length reports)
heard_there is_sig net reports c is arc id l e = by id (entry_is c.heard.items arc id l e)
  where
    by : (o : Option ReportId) → entry_of c.heard.items arc ≡ o → IfSome o (λ (i : ReportId). i.0 < length reports)
    by None f = tt
    by (Some i) f = is.heard arc i f

-- and a row is the node's
pub row_there : {S : Type 0} (is_sig : S → Type 0) (net : PureNet) (reports : List (Report S)) (c : Column) → IsColumn is_sig net reports c → (node : ℕ) (id : Option ReportId) → node < length c.rows.items → id ≡ get_or c.rows.items node id
    → (i : ReportId) → id ≡ Some i → IsRowOf is_sig net reports node i
row_there is_sig net reports c is node id l e i f = is.rows node i (entry_is c.rows.items node id l e ∙ f)

-- a report that is read
pub report_read : {S : Type 0} (reports : List (Report S)) (id : ReportId) (r : Report S) → id.0 < length reports → r ≡ get_or reports id.0 r → slice_get reports id.0 ≡ Some r
report_read reports id r l e = slice_get_read reports (length reports) id.0 r refl l e

pub row_report : {S : Type 0} (is_sig : S → Type 0) (net : PureNet) (reports : List (Report S)) (node : ℕ) (id : ReportId) (r : Report S) → IsRowOf is_sig net reports node id → slice_get reports id.0 ≡ Some r → r.node.0 ≡ node
row_report is_sig net reports node id r row e =
    let same : row.report ≡ r = (let f = sym row.there ∙ e in cc) in
    ap (λ (x : Report _). x.node.0) (sym same) ∙ row.by_node

-- its route, where it is lent
module _ {S : Type 0} (value : S → PureValue) (paths : List (List NodeId)) where
  lent_route : (o : Option (Bor (Reported S))) → option_map {T = Bor (Reported S)} {U = PureRoute} (λ r. route_of value paths r.now) o ≡ option_map (route_of value paths) (option_copied o)
  lent_route None = refl
  lent_route (Some b) = refl

  pub said_lent : (reports : List (Report S)) (id : ReportId) (r : Report S) (o : Option (Bor (Reported S))) → slice_get reports id.0 ≡ Some r → option_copied o ≡ r.route
      → option_map {T = Bor (Reported S)} {U = PureRoute} (λ b. route_of value paths b.now) o ≡ said_by value paths reports (Some id)
  said_lent reports id r o e f =
      lent_route o ∙ (ap (option_map (route_of value paths)) f ∙ sym (ap (option_and_then (λ (x : Report S). option_map (route_of value paths) x.route)) e))

pub lent_kept : {X : Type 0} (P : X → Type 0) (o : Option (Bor X)) (x : Option X) → option_copied o ≡ x → ((y : X) → x ≡ Some y → P y) → IfSome o (λ (b : Bor X). P b.now)
lent_kept P None x e f = tt
lent_kept P (Some b) x e f = f b.now (sym e)

-- ---- what a store says, by its reports, what they say, and its columns

abbrev view : List (ℕ × PureUpdate) → (Option ReportId → Option PureRoute) → List Column → PureStore
view reports said columns = record {
  reports = reports;
  heard = λ arc dest. option_and_then (λ (c : Column). said (entry_of c.heard.items arc)) (slice_get columns dest);
  rows = λ node dest. option_and_then (λ (c : Column). said (entry_of c.rows.items node)) (slice_get columns dest);
}

module _ (said : Option ReportId → Option PureRoute) (columns : List Column) (dest : ℕ) (c new : Column) (at : slice_get columns dest ≡ Some c) where
  below : dest < length columns
  below = slice_get_within columns dest c at

  module _ (entries : Column → List (Option ReportId)) (k : ℕ) where
    -- what stands at a place that wasn't changed
    place_kept : entries new ≡ entries c → (d : ℕ) → option_and_then (λ (x : Column). said (entry_of (entries x) k)) (slice_get (set columns dest new) d) ≡ option_and_then (λ (x : Column). said (entry_of (entries x) k)) (slice_get columns d)
    place_kept same d = ap (option_and_then (λ (x : Column). said (entry_of (entries x) k))) (set_at columns dest d new below) ∙ by (d == dest) refl
      where
        by : (t : Bool) → (d == dest) ≡ t → option_and_then (λ (x : Column). said (entry_of (entries x) k)) (cond t (Some new) (slice_get columns d)) ≡ option_and_then (λ (x : Column). said (entry_of (entries x) k)) (slice_get columns d)
        by false e = refl
        by true e =
            ap (λ xs. said (entry_of xs k)) same
            ∙ sym (ap (λ z. option_and_then (λ (x : Column). said (entry_of (entries x) k)) (slice_get columns z)) (eqb-true d dest e) ∙ ap (option_and_then (λ (x : Column). said (entry_of (entries x) k))) at)

    -- and where an entry of one column was replaced
    place_set : (place : ℕ) (id : Option ReportId) → place < length (entries c) → entries new ≡ set (entries c) place id → (d : ℕ)
        → option_and_then (λ (x : Column). said (entry_of (entries x) k)) (slice_get (set columns dest new) d) ≡ cond (k == place && d == dest) (said id) (option_and_then (λ (x : Column). said (entry_of (entries x) k)) (slice_get columns d))
    place_set place id l is d = ap (option_and_then (λ (x : Column). said (entry_of (entries x) k))) (set_at columns dest d new below) ∙ by (k == place) (d == dest) refl refl
      where
        entry : entry_of (entries new) k ≡ cond (k == place) id (entry_of (entries c) k)
        entry = ap (λ xs. entry_of xs k) is ∙ entry_set (entries c) place id k l

        by : (b t : Bool) → (k == place) ≡ b → (d == dest) ≡ t
            → option_and_then (λ (x : Column). said (entry_of (entries x) k)) (cond t (Some new) (slice_get columns d)) ≡ cond (b && t) (said id) (option_and_then (λ (x : Column). said (entry_of (entries x) k)) (slice_get columns d))
        by true true e f = ap said (entry ∙ ap (λ b. cond b id (entry_of (entries c) k)) e)
        by false true e f =
            ap said (entry ∙ ap (λ b. cond b id (entry_of (entries c) k)) e)
            ∙ sym (ap (λ z. option_and_then (λ (x : Column). said (entry_of (entries x) k)) (slice_get columns z)) (eqb-true d dest f) ∙ ap (option_and_then (λ (x : Column). said (entry_of (entries x) k))) at)
        by true false e f = refl
        by false false e f = refl

  -- a report is heard
  view_heard : (reports : List (ℕ × PureUpdate)) (arc : ℕ) (id : Option ReportId) → arc < length c.heard.items → new.heard.items ≡ set c.heard.items arc id → new.rows.items ≡ c.rows.items
      → view reports said (set columns dest new) ≡ with_heard (view reports said columns) arc dest (said id)
  view_heard reports arc id l is same =
      let heard : (view reports said (set columns dest new)).heard ≡ (with_heard (view reports said columns) arc dest (said id)).heard = fun_ext (λ a. fun_ext (λ d. place_set (λ x. x.heard.items) a arc id l is d)) in
      let rows : (view reports said (set columns dest new)).rows ≡ (view reports said columns).rows = fun_ext (λ i. fun_ext (λ d. place_kept (λ x. x.rows.items) i same d)) in
      λ x. record { reports = reports; heard = heard x; rows = rows x }

  -- a row is replaced
  view_row : (reports : List (ℕ × PureUpdate)) (node : ℕ) (id : Option ReportId) → node < length c.rows.items → new.rows.items ≡ set c.rows.items node id → new.heard.items ≡ c.heard.items
      → view reports said (set columns dest new) ≡ record { reports = reports; heard = (view reports said columns).heard; rows = λ i d. cond (i == node && d == dest) (said id) ((view reports said columns).rows i d) }
  view_row reports node id l is same =
      let rows : (view reports said (set columns dest new)).rows ≡ (λ i d. cond (i == node && d == dest) (said id) ((view reports said columns).rows i d)) = fun_ext (λ i. fun_ext (λ d. place_set (λ x. x.rows.items) i node id l is d)) in
      let heard : (view reports said (set columns dest new)).heard ≡ (view reports said columns).heard = fun_ext (λ a. fun_ext (λ d. place_kept (λ x. x.heard.items) a same d)) in
      λ x. record { reports = reports; heard = heard x; rows = rows x }

-- a store that heard a report
pub store_heard : {S : Type 0} (value : S → PureValue) (s : Store S) (dest : ℕ) (c : Column) (arc : ℕ) (id x : Option ReportId) → slice_get s.columns.items dest ≡ Some c → arc < length c.heard.items → x ≡ id
    → pure_store value (record { reports = s.reports; paths = s.paths; columns = with_item s.columns dest (record { heard = with_item c.heard arc x; rows = c.rows }) }) ≡ with_heard (pure_store value s) arc dest (said_by value s.paths s.reports.items id)
store_heard value s dest c arc id x at l e =
    view_heard (said_by value s.paths s.reports.items) s.columns.items dest c (record { heard = with_item c.heard arc x; rows = c.rows }) at (pure_store value s).reports arc x l refl refl
    ∙ ap (λ y. with_heard (pure_store value s) arc dest (said_by value s.paths s.reports.items y)) e

-- ---- more paths

-- the paths that were there stay
pub record IsLonger (paths later : List (List NodeId)) : Type 0 where
  pub many : length paths ≤ length later
  pub still : (id : PathId) → id.0 < length paths → path_of later id ≡ path_of paths id

pub one_longer : (paths later : List (List NodeId)) (p : List NodeId) → later ≡ paths ++ p ∷ [] → IsLonger paths later
one_longer paths later p e = record {
  many = (let n = ap length e ∙ length_last paths p in omega (arith, n));
  still = λ id l. ap (λ ps. path_of ps id) e ∙ get_or_append_left paths (p ∷ []) [] id.0 l;
}

pub same_paths : (paths later : List (List NodeId)) → later ≡ paths → IsLonger paths later
same_paths paths later e = record {
  many = (let n = ap length e in omega (arith, n));
  still = λ id l. ap (λ ps. path_of ps id) e;
}

module _ {S : Type 0} (is_sig : S → Type 0) (net : PureNet) {paths later : List (List NodeId)} (more : IsLonger paths later) where
  reported_still : (node : ℕ) (r : Reported S) → IsReported is_sig net paths node r → IsReported is_sig net later node r
  reported_still node r is = record {
    sig = is.sig;
    path = omega (arith, is.path, more.many);
    next = λ j apart. ap (λ p. is_next j (numbers p)) (more.still r.path is.path) ∙ is.next j apart;
  }

  report_still : (r : Report S) → IsReport is_sig net paths r → IsReport is_sig net later r
  report_still r is = record { node = is.node; dest = is.dest; route = λ x e. reported_still r.node.0 x (is.route x e) }

  module _ (value : S → PureValue) where
    route_still : (r : Report S) → IsReport is_sig net paths r → option_map (route_of value later) r.route ≡ option_map (route_of value paths) r.route
    route_still r is = by r.route refl
      where
        by : (o : Option (Reported S)) → r.route ≡ o → option_map (route_of value later) o ≡ option_map (route_of value paths) o
        by None e = refl
        by (Some x) e = ap (λ p. Some (record { value = value x.sig; path = numbers p })) (more.still x.path (is.route x e).path)

    module _ (reports : List (Report S)) (are : (k : ℕ) (r : Report S) → slice_get reports k ≡ Some r → IsReport is_sig net paths r) where
      updates_still : map {B = ℕ × PureUpdate} (λ (r : Report S). (r.node.0, update_of value later r)) reports ≡ map (λ (r : Report S). (r.node.0, update_of value paths r)) reports
      updates_still = map_alike (λ (r : Report S). (r.node.0, update_of value later r)) (λ (r : Report S). (r.node.0, update_of value paths r)) reports
          (λ k r e. ap (λ o. (r.node.0, record { dest = r.dest.0; route = o; stamp = r.stamp })) (route_still r (are k r e)))

      said_still : said_by value later reports ≡ said_by value paths reports
      said_still = fun_ext (λ id. of id)
        where
          by : (k : ℕ) (o : Option (Report S)) → slice_get reports k ≡ o
              → option_and_then (λ (r : Report S). option_map (route_of value later) r.route) o ≡ option_and_then (λ (r : Report S). option_map (route_of value paths) r.route) o
          by k None e = refl
          by k (Some r) e = route_still r (are k r e)

          of : (id : Option ReportId) → said_by value later reports id ≡ said_by value paths reports id
          of None = refl
          of (Some id) = by id.0 (slice_get reports id.0) refl

      view_still : (columns : List Column) → view (map (λ (r : Report S). (r.node.0, update_of value later r)) reports) (said_by value later reports) columns
          ≡ view (map (λ (r : Report S). (r.node.0, update_of value paths r)) reports) (said_by value paths reports) columns
      view_still columns = ap (λ us. view us (said_by value later reports) columns) updates_still ∙ ap (λ said. view (map (λ (r : Report S). (r.node.0, update_of value paths r)) reports) said columns) said_still

-- a store with more paths says what it said, and keeps its rules
module _ {S : Type 0} (is_sig : S → Type 0) (net : PureNet) (old new : Store S) (stored : IsStored is_sig net old) (more : IsLonger old.paths new.paths) (reports : new.reports.items ≡ old.reports.items) (columns : new.columns ≡ old.columns) where
  pub stored_still : IsStored is_sig net new
  stored_still = record {
    count = ap (λ cs. length cs.items) columns ∙ stored.count;
    reports = λ k r e. report_still is_sig net more r (stored.reports k r (ap (λ rs. slice_get rs k) (sym reports) ∙ e));
    columns = λ dest c e. subst (λ rs. IsColumn is_sig net rs c) (sym reports) (stored.columns dest c (ap (λ cs. slice_get cs.items dest) (sym columns) ∙ e));
  }

  pub store_still : (value : S → PureValue) → pure_store value new ≡ pure_store value old
  store_still value =
      let entries : List (List NodeId) → List (Report S) → List (ℕ × PureUpdate) = λ ps rs. map (λ (r : Report S). (r.node.0, update_of value ps r)) rs in
      ap (λ cs. view (entries new.paths new.reports.items) (said_by value new.paths new.reports.items) cs.items) columns
      ∙ (ap (λ rs. view (entries new.paths rs) (said_by value new.paths rs) old.columns.items) reports
      ∙ view_still is_sig net more value old.reports.items stored.reports old.columns.items)

-- ---- one more report

-- what is reported before is said as it was
module _ {S : Type 0} (value : S → PureValue) (paths : List (List NodeId)) (reports : List (Report S)) (r : Report S) where
  said_left : (id : ReportId) → id.0 < length reports → said_by value paths (reports ++ r ∷ []) (Some id) ≡ said_by value paths reports (Some id)
  said_left id l = ap (option_and_then (λ (x : Report S). option_map (route_of value paths) x.route)) (get_left reports (r ∷ []) id.0 l)

  said_last : (id : ReportId) → id.0 ≡ length reports → said_by value paths (reports ++ r ∷ []) (Some id) ≡ option_map (route_of value paths) r.route
  said_last id e = ap (option_and_then (λ (x : Report S). option_map (route_of value paths) x.route)) (ap (slice_get (reports ++ r ∷ [])) e ∙ get_last reports r)

  -- so is what stands in columns
  module _ (columns : List Column) (entries : Column → List (Option ReportId))
      (are : (d : ℕ) (x : Column) → slice_get columns d ≡ Some x → (k : ℕ) (i : ReportId) → entry_of (entries x) k ≡ Some i → i.0 < length reports) (k d : ℕ)
    where
      entry_left : (x : Column) → slice_get columns d ≡ Some x → (o : Option ReportId) → entry_of (entries x) k ≡ o → said_by value paths (reports ++ r ∷ []) o ≡ said_by value paths reports o
      entry_left x e None f = refl
      entry_left x e (Some i) f = said_left i (are d x e k i f)

      column_left : (o : Option Column) → slice_get columns d ≡ o
          → option_and_then (λ (x : Column). said_by value paths (reports ++ r ∷ []) (entry_of (entries x) k)) o ≡ option_and_then (λ (x : Column). said_by value paths reports (entry_of (entries x) k)) o
      column_left None e = refl
      column_left (Some x) e = entry_left x e (entry_of (entries x) k) refl

      place_left : option_and_then (λ (x : Column). said_by value paths (reports ++ r ∷ []) (entry_of (entries x) k)) (slice_get columns d)
          ≡ option_and_then (λ (x : Column). said_by value paths reports (entry_of (entries x) k)) (slice_get columns d)
      place_left = column_left (slice_get columns d) refl

-- a store with the report of a node, which is its row now
module _ {S : Type 0} (is_sig : S → Type 0) (net : PureNet) (s new : Store S) (stored : IsStored is_sig net s) (r : Report S) (is_report : IsReport is_sig net s.paths r) (id : ReportId) (c : Column)
    (number : id.0 ≡ length s.reports.items) (at : slice_get s.columns.items r.dest.0 ≡ Some c) (paths : new.paths ≡ s.paths) (reports : new.reports.items ≡ s.reports.items ++ r ∷ [])
    (columns : new.columns ≡ with_item s.columns r.dest.0 (record { heard = c.heard; rows = with_item c.rows r.node.0 (Some id) }))
  where
    abbrev later : Column
    later = record { heard = c.heard; rows = with_item c.rows r.node.0 (Some id) }

    was : IsColumn is_sig net s.reports.items c
    was = stored.columns r.dest.0 c at

    inside : r.node.0 < length c.rows.items
    inside = omega (arith, was.row_count, is_report.node)

    row_left : (node : ℕ) (i : ReportId) → IsRowOf is_sig net s.reports.items node i → IsRowOf is_sig net (s.reports.items ++ r ∷ []) node i
    row_left node i row = record {
      report = row.report;
      there = get_left s.reports.items (r ∷ []) i.0 (slice_get_within s.reports.items i.0 row.report row.there) ∙ row.there;
      by_node = row.by_node;
    }

    still_there : (i : ReportId) → i.0 < length s.reports.items → i.0 < length (s.reports.items ++ r ∷ [])
    still_there i l =
        let n = length_last s.reports.items r in
        omega (arith, l, n)

    column_more : (x : Column) → IsColumn is_sig net s.reports.items x → IsColumn is_sig net (s.reports.items ++ r ∷ []) x
    column_more x is = record {
      heard_count = is.heard_count;
      row_count = is.row_count;
      heard = λ arc i e. still_there i (is.heard arc i e);
      rows = λ node i e. row_left node i (is.rows node i e);
    }

    row_now : (node : ℕ) (i : ReportId) → (b : Bool) → (node == r.node.0) ≡ b → cond b (Some id) (entry_of c.rows.items node) ≡ Some i → IsRowOf is_sig net (s.reports.items ++ r ∷ []) node i
    row_now node i true e f =
        let same : id ≡ i = cc in
        record {
          report = r;
          there = ap (λ (j : ReportId). slice_get (s.reports.items ++ r ∷ []) j.0) (sym same) ∙ (ap (slice_get (s.reports.items ++ r ∷ [])) number ∙ get_last s.reports.items r);
          by_node = sym (eqb-true node r.node.0 e);
        }
    row_now node i false e f = row_left node i (was.rows node i f)

    column_now : IsColumn is_sig net (s.reports.items ++ r ∷ []) later
    column_now = record {
      heard_count = was.heard_count;
      row_count = set_length c.rows.items r.node.0 (Some id) ∙ was.row_count;
      heard = λ arc i e. still_there i (was.heard arc i e);
      rows = λ node i e. row_now node i (node == r.node.0) refl (sym (entry_set c.rows.items r.node.0 (Some id) node inside) ∙ e);
    }

    column_of : (d : ℕ) (x : Column) → (b : Bool) → (d == r.dest.0) ≡ b → cond b (Some later) (slice_get s.columns.items d) ≡ Some x → IsColumn is_sig net (s.reports.items ++ r ∷ []) x
    column_of d x true e f =
        let same : later ≡ x = cc in
        subst (IsColumn is_sig net (s.reports.items ++ r ∷ [])) same column_now
    column_of d x false e f = column_more x (stored.columns d x f)

    there : r.dest.0 < length s.columns.items
    there = slice_get_within s.columns.items r.dest.0 c at

    pub stored_more : IsStored is_sig net new
    stored_more = record {
      count = ap (λ cs. length cs.items) columns ∙ (set_length s.columns.items r.dest.0 later ∙ stored.count);
      reports = λ k x e. subst (λ ps. IsReport is_sig net ps x) (sym paths)
          (get_either (IsReport is_sig net s.paths) s.reports.items r k x (ap (λ rs. slice_get rs k) (sym reports) ∙ e) (stored.reports k x) is_report);
      columns = λ d x e. subst (λ rs. IsColumn is_sig net rs x) (sym reports)
          (column_of d x (d == r.dest.0) refl (sym (set_at s.columns.items r.dest.0 d later there) ∙ (ap (λ cs. slice_get cs.items d) (sym columns) ∙ e)));
    }

    module _ (value : S → PureValue) where
      abbrev entries : List (List NodeId) → List (Report S) → List (ℕ × PureUpdate)
      entries ps rs = map (λ (x : Report S). (x.node.0, update_of value ps x)) rs

      view_more : view (map (λ (x : Report S). (x.node.0, update_of value s.paths x)) (s.reports.items ++ r ∷ [])) (said_by value s.paths (s.reports.items ++ r ∷ [])) (set s.columns.items r.dest.0 later)
          ≡ with_report (pure_store value s) r.node.0 (update_of value s.paths r)
      view_more =
          let said = said_by value s.paths (s.reports.items ++ r ∷ []) in
          let reported : map {B = ℕ × PureUpdate} (λ (x : Report S). (x.node.0, update_of value s.paths x)) (s.reports.items ++ r ∷ []) ≡ (pure_store value s).reports ++ (r.node.0, update_of value s.paths r) ∷ [] =
          map_last (λ (x : Report S). (x.node.0, update_of value s.paths x)) s.reports.items r in
          let heard : (view (pure_store value s).reports said (set s.columns.items r.dest.0 later)).heard ≡ (pure_store value s).heard = fun_ext (λ a. fun_ext (λ d.
          place_kept said s.columns.items r.dest.0 c later at (λ x. x.heard.items) a refl d
          ∙ place_left value s.paths s.reports.items r s.columns.items (λ x. x.heard.items) (λ e x f. (stored.columns e x f).heard) a d)) in
          let rows : (view (pure_store value s).reports said (set s.columns.items r.dest.0 later)).rows ≡ (with_report (pure_store value s) r.node.0 (update_of value s.paths r)).rows = fun_ext (λ i. fun_ext (λ d.
          place_set said s.columns.items r.dest.0 c later at (λ x. x.rows.items) i r.node.0 (Some id) inside refl d
          ∙ (ap (λ o. cond (i == r.node.0 && d == r.dest.0) o (option_and_then (λ (x : Column). said (entry_of x.rows.items i)) (slice_get s.columns.items d))) (said_last value s.paths s.reports.items r id number)
          ∙ ap (cond (i == r.node.0 && d == r.dest.0) (option_map (route_of value s.paths) r.route))
          (place_left value s.paths s.reports.items r s.columns.items (λ x. x.rows.items)
          (λ e x f k j g. let row = (stored.columns e x f).rows k j g in slice_get_within s.reports.items j.0 row.report row.there) i d)))) in
          λ x. record { reports = reported x; heard = heard x; rows = rows x }

      pub store_more : pure_store value new ≡ with_report (pure_store value s) r.node.0 (update_of value s.paths r)
      store_more =
          ap (λ cs. view (entries new.paths new.reports.items) (said_by value new.paths new.reports.items) cs.items) columns
          ∙ (ap (λ rs. view (entries new.paths rs) (said_by value new.paths rs) (set s.columns.items r.dest.0 later)) reports
          ∙ (ap (λ ps. view (entries ps (s.reports.items ++ r ∷ [])) (said_by value ps (s.reports.items ++ r ∷ [])) (set s.columns.items r.dest.0 later)) paths
          ∙ view_more))

-- what holds anyhow holds after a refusal
pub after_refusal : {T E P : Type 0} (r : Result T E) → P → OnErr r P
after_refusal (Ok x) p = tt
after_refusal (Err e) p = p

-- ---- the choice that is reported

-- the path of the choice is kept, and the route is what was chosen
pub record HasKept {S : Type 0} (is_sig : S → Type 0) (net : PureNet) (value : S → PureValue) (old new : Store S) (node : ℕ) (choice : Option (Choice S)) (route : Option (Reported S)) : Type 0 where
  pub stored : IsStored is_sig net new
  pub same : pure_store value new ≡ pure_store value old
  pub reports : new.reports ≡ old.reports
  pub kept : (x : Reported S) → route ≡ Some x → IsReported is_sig net new.paths node x
  pub route_is : option_map (route_of value new.paths) route ≡ option_map (chosen_route value old.paths node) choice

module _ {S : Type 0} (is_sig : S → Type 0) (net : PureNet) (value : S → PureValue) (old new : Store S) (node : ℕ) (choice : Option (Choice S)) (route : Option (Reported S)) where
  pub kept_none : choice ≡ None → route ≡ None → new ≡ old → IsStored is_sig net old → HasKept is_sig net value old new node choice route
  kept_none e f same stored = record {
    stored = subst (IsStored is_sig net) (sym same) stored;
    same = ap (pure_store value) same;
    reports = ap (λ (s : Store S). s.reports) same;
    kept = λ x h. absurd (let none : None ≡ Some x = sym f ∙ h in cc);
    route_is = ap (option_map (route_of value new.paths)) f ∙ ap (option_map (chosen_route value old.paths node)) (sym e);
  }

  pub kept_some : (now : Store S) (x : Choice S) (r : Reported S) → choice ≡ Some x → route ≡ Some r → new ≡ now → IsStored is_sig net now → pure_store value now ≡ pure_store value old → now.reports ≡ old.reports
      → IsReported is_sig net now.paths node r → route_of value now.paths r ≡ chosen_route value old.paths node x → HasKept is_sig net value old new node choice route
  kept_some now x r e f is stored same reports kept chosen = subst (λ s. HasKept is_sig net value old s node choice route) (sym is) (record {
    stored = stored;
    same = same;
    reports = reports;
    kept = λ y h. let one : r ≡ y = (let g = sym f ∙ h in cc) in subst (IsReported is_sig net now.paths node) one kept;
    route_is = ap (option_map (route_of value now.paths)) f ∙ (ap (λ z. Some z) chosen ∙ ap (option_map (chosen_route value old.paths node)) (sym e));
  })
