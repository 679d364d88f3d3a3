-- Rows of a node as they are handed out.
use Rattle.std.proofs.Common.{◌≡◌, ℕ, suc, ◌<◌, ◌≤◌, List, Bool, true, false, length, slice_get, Option, Some, None, subst, refl, sym, ap, ◌∙◌, arith}
use Rattle.std.specs.Prelude.{option_map, option_and_then}
use Rattle.std.proofs.lemmas.List.{length-map}
use Rattle.std.proofs.lemmas.Option.{slice_get_within}
use Rattle.alg_model.specs.declared.tree.Value.{Value}
use Rattle.alg_model.specs.Expressions.{Expression, PureLabel, PureValue}
use Rattle.alg_model.specs.Views.{pure_value}
use Rattle.arc_labels.specs.declared.neighbours.Neighbour.{Neighbour}
use Rattle.meta_base.specs.declared.ids.NodeId.{NodeId}
use Rattle.net_graph.specs.Nets.{PureArc, PureNet, arcs_from}
use Rattle.distance_node.specs.declared.chosen.Chosen.{Chosen}
use Rattle.distance_node.specs.Chosen.{IsBest, entry_of, hop_at, next_at}
use Rattle.distance_node.specs.Node.{hop_by, offers}
use Rattle.distance_node.specs.Nodes.{IsNodeOf, row_list}
use Rattle.distance_node.specs.Places.{heard_by, width}
use Rattle.distance_node.specs.Rows.{hop_row}
use Rattle.distance_node.proofs.Pushing.{entry_mapped}

entry_inside : {X : Type 0} (xs : List (Option X)) (k : ℕ) (x : X) → entry_of xs k ≡ Some x → k < length xs
entry_inside {X} xs k x e = by (slice_get xs k) refl e
  where
    by : (o : Option (Option X)) → slice_get xs k ≡ o → option_and_then (λ z. z) o ≡ Some x → k < length xs
    by None f g = absurd (cc)
    by (Some z) f g = slice_get_within xs k z f

module _ {L S : Type 0} (stands_for : L → PureLabel → Type 0) (is_sig : S → Type 0) (value : S → PureValue) (net : PureNet) (number : ℕ) (expression : Expression) (last : ℕ) (own : List (Option S)) (speakers : List (Neighbour L))
    (heard : List (Option S)) (rows : List (Option (Chosen S)))
  where
    -- a row's value is one of the algebra, and its offer one of the node's
    pub row_facts : (begun : Bool) → IsNodeOf stands_for is_sig value net number expression begun last own speakers heard rows → (dest : ℕ) (r : Chosen S) → entry_of rows dest ≡ Some r
        → is_sig r.sig × (r.offer ≤ length speakers)
    row_facts false kept dest r e = absurd (let z : None ≡ Some r = sym (kept.rowless refl dest) ∙ e in cc)
    row_facts true kept dest r e =
        let has = kept.has_rows refl in
        let first = subst (IsBest value net number (offers net dest number (λ a. heard_by value net number heard a dest))) e (has.best dest) in
        let inside = entry_inside (offers net dest number (λ a. heard_by value net number heard a dest)) r.offer (hop_at value net number r) first.there in
        let count : length (offers net dest number (λ a. heard_by value net number heard a dest)) ≡ suc (width net number) =
        ap suc (length-map (arcs_from net number) (λ (b : PureArc). hop_by net b (heard_by value net number heard b.id dest))) in
        let near = kept.placed.near.count in
        (has.sigs dest r e, omega (arith, inside, count, near))

-- a row with a value, and one without
pub some_row : {S : Type 0} (value : S → PureValue) (net : PureNet) (number dest : ℕ) (rows : List (Option (Chosen S))) (entry : Option (Chosen S)) (r : Chosen S) (v : Value) (next : Option NodeId) → entry_of rows dest ≡ entry → entry ≡ Some r
    → pure_value v ≡ value r.sig → option_map (λ (n : NodeId). n.0) next ≡ next_at net number r.offer
    → record { node = number; dest = dest; value = option_map pure_value (Some v); next = option_map (λ (n : NodeId). n.0) next } ≡ hop_row number dest (entry_of (row_list value net number rows) dest)
some_row value net number dest rows entry r v next e f g h = rw (entry_mapped (hop_at value net number) rows dest, e, f, g, h) refl

pub no_row : {S : Type 0} (value : S → PureValue) (net : PureNet) (number dest : ℕ) (rows : List (Option (Chosen S))) (entry : Option (Chosen S)) → entry_of rows dest ≡ entry → entry ≡ None
    → record { node = number; dest = dest; value = None; next = None } ≡ hop_row number dest (entry_of (row_list value net number rows) dest)
no_row value net number dest rows entry e f = rw (entry_mapped (hop_at value net number) rows dest, e, f) refl
