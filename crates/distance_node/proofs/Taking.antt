-- A message that a node takes.
use Rattle.std.proofs.Common.{◌≡◌, ℕ, zero, suc, ◌+◌, ◌*◌, ◌^◌, ◌<◌, List, [], ◌∷◌, Bool, true, false, ◌&&◌, length, slice_get, Option, Some, None, IfSome, subst, refl, sym, ap, ◌∙◌, arith}
use Rattle.std.specs.Prelude.{nat_lt, option_map}
use Rattle.std.specs.Option.{option_map_or}
use Rattle.std.proofs.Math.ListN.{set}
use Rattle.std.proofs.lemmas.Option.{slice_get_within}
use Rattle.alg_model.specs.Bounds.{AtMost}
use Rattle.alg_model.specs.Carriers.{In}
use Rattle.alg_model.specs.Expressions.{PureValue}
use Rattle.alg_model.specs.Laws.{at_most_more}
use Rattle.net_graph.specs.Nets.{PureArc, PureNet, IsNet, AreNumbered, arcs_from}
use Rattle.net_graph.specs.Tables.{carrier}
use Rattle.node_core.specs.Kinds.{listener}
use Rattle.node_core.specs.MachineLaws.{option_from}
use Rattle.distance_node.specs.Fitting.{later_room, reported_from}
use Rattle.distance_node.specs.Node.{PureVector, fits_in, greatest_at, heard_with, may_be_reported}
use Rattle.distance_node.specs.Places.{heard_by, width}
use Rattle.distance_node.specs.Vectors.{IsReported}
use Rattle.distance_node.proofs.Beginnings.{dests_few}
use Rattle.distance_node.proofs.Near.{store_fits}
use Rattle.distance_node.proofs.Places.{heard_set, within}

id_at : (n : ℕ) (arcs : List PureArc) (k : ℕ) (a : PureArc) → AreNumbered n arcs → slice_get arcs k ≡ Some a → a.id ≡ n + k
id_at n [] k a h e = absurd (cc)
id_at n (b ∷ arcs) zero a h e =
    let same : b ≡ a = cc in
    let id = rw same at h.0 in
    omega (arith, id)
id_at n (b ∷ arcs) (suc k) a h e =
    let id = id_at (n + 1) arcs k a h.1 e in
    omega (arith, id)

-- the arc on which a message came, at its place among the node's arcs
pub came_on : (net : PureNet) → IsNet net → (i arc place : ℕ) → listener net arc ≡ Some i → IfSome (slice_get net.arcs arc) (λ (a : PureArc). slice_get (arcs_from net a.tail) place ≡ Some a)
    → (a : PureArc) × (slice_get (arcs_from net i) place ≡ Some a) × (a.id ≡ arc)
came_on net n i arc place listens at =
    let from = option_from (λ (a : PureArc). a.tail) (slice_get net.arcs arc) i listens in
    let there : slice_get (arcs_from net from.0.tail) place ≡ Some from.0 = subst (λ o. IfSome o (λ (a : PureArc). slice_get (arcs_from net a.tail) place ≡ Some a)) from.1 at in
    let id = id_at 0 net.arcs arc from.0 n.arc_ids from.1 in
    (from.0, subst (λ z. slice_get (arcs_from net z) place ≡ Some from.0) from.2 there, omega (arith, id))

-- what was sent before a clock
pub reported_may : {S : Type 0} (is_sig : S → Type 0) (value : S → PureValue) (stamp clock : ℕ) (reported : Option S) → stamp < clock → IsReported is_sig value stamp reported → IfSome reported (λ s. is_sig s × AtMost (clock * 2 ^ 64) (value s))
reported_may is_sig value stamp clock None l is = tt
reported_may is_sig value stamp clock (Some t) l is = (is.0, at_most_more (greatest_at stamp) (clock * 2 ^ 64) (value t) (later_room stamp clock l) is.1)

-- and the same once more
pub reported_before : {S : Type 0} (is_sig : S → Type 0) (value : S → PureValue) (stamp clock : ℕ) (reported copied : Option S) → stamp < clock → IsReported is_sig value stamp reported → IfSome copied is_sig → option_map value copied ≡ option_map value reported
    → IfSome copied (λ s. is_sig s × AtMost (clock * 2 ^ 64) (value s))
reported_before is_sig value stamp clock reported None l is sig e = tt
reported_before is_sig value stamp clock None (Some s) l is sig e = absurd (cc)
reported_before is_sig value stamp clock (Some t) (Some s) l is sig e =
    let same : value t ≡ value s = sym (cc) in
    (sig, subst (AtMost (clock * 2 ^ 64)) same (at_most_more (greatest_at stamp) (clock * 2 ^ 64) (value t) (later_room stamp clock l) is.1))

-- what holds of the entry holds of what stands there
pub some_holds : {X : Type 0} (P : X → Type 0) (o : Option X) → ((x : X) → o ≡ Some x → P x) → IfSome o P
some_holds P None h = tt
some_holds P (Some x) h = h x refl

-- a message of the mark's algebra fits where its destination is the network's
pub fits_is : {S : Type 0} (is_sig : S → Type 0) (value : S → PureValue) (net : PureNet) → ((s : S) → is_sig s → In (carrier net) (value s)) → (m : PureVector) (reported : Option S) (dest count : ℕ) → IsReported is_sig value m.stamp reported
    → option_map value reported ≡ m.value → dest ≡ m.dest → count ≡ length net.dests → nat_lt dest count ≡ fits_in net m
fits_is {S} is_sig value net sig_in m reported dest count is e d c = rw (d, c) (both (nat_lt m.dest (length net.dests)) (subst (λ o. option_map_or (may_be_reported net m.stamp) o true ≡ true) e (by reported is)))
  where
    by : (o : Option S) → IsReported is_sig value m.stamp o → option_map_or (may_be_reported net m.stamp) (option_map value o) true ≡ true
    by None h = refl
    by (Some s) h = reported_from net m.stamp (value s) (sig_in s h.0) h.1

    both : (b : Bool) → option_map_or (may_be_reported net m.stamp) m.value true ≡ true → b ≡ (b && option_map_or (may_be_reported net m.stamp) m.value true)
    both true f = sym f
    both false f = refl

-- what a node heard, once it heard this at the arc's place
pub heard_put : {S : Type 0} (value : S → PureValue) (net : PureNet) → IsNet net → (i k w arc dest : ℕ) (a : PureArc) (entries : List (Option S)) (reported : Option S) → slice_get (arcs_from net i) k ≡ Some a → a.id ≡ arc → w ≡ width net i
    → length entries ≡ length net.dests * width net i → dest < length net.dests
    → heard_by value net i (set entries (dest * w + k) reported) ≡ heard_with (heard_by value net i entries) arc dest (option_map value reported)
heard_put value net n i k w arc dest a entries reported e id same count below =
    ap (λ z. heard_by value net i (set entries (dest * z + k) reported)) same
    ∙ (heard_set value net n i k a entries (length net.dests) dest reported e count below ∙ ap (λ z. heard_with (heard_by value net i entries) z dest (option_map value reported)) id)

-- an entry's place is in the list
pub record IsEntry (len row place : ℕ) : Type 0 where
  pub row_fits : row < 2 ^ 64
  pub fits : row + place < 2 ^ 64
  pub inside : row + place < len

pub entry_there : {X : Type 0} (net : PureNet) → IsNet net → (i k w dest : ℕ) (a : PureArc) (entries : List X) → slice_get (arcs_from net i) k ≡ Some a → w ≡ width net i → length entries ≡ length net.dests * width net i → dest < length net.dests
    → IsEntry (length entries) (dest * w) k
entry_there net n i k w dest a entries e same count below =
    let place = slice_get_within (arcs_from net i) k a e in
    let here : k < w = omega (arith, place, same) in
    let inside = within (length net.dests) w dest k below here in
    let total : length entries ≡ length net.dests * w = count ∙ ap (λ z. length net.dests * z) (sym same) in
    let fits = store_fits net n i (length net.dests) w (dests_few net n) same in
    record { row_fits = omega (arith, inside, fits); fits = omega (arith, inside, fits); inside = omega (arith, inside, total) }
