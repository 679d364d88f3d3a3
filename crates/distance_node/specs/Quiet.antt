-- The rows of a coherent machine in which nothing is on its way are choices from the neighbours' values. Lemmas, so that
-- proofs of other crates may cite them.
use Rattle.std.proofs.Common.{◌≡◌, ℕ, ◌<◌, List, length, slice_get, Some, refl, sym, ap, ◌∙◌}
use Rattle.std.specs.Prelude.{option_and_then}
use Rattle.meta_base.specs.declared.ids.Delivery.{Delivery}
use Rattle.alg_model.specs.Carriers.{In}
use Rattle.net_graph.specs.Nets.{PureArc, PureNet, IsNet, arcs_from}
use Rattle.net_graph.specs.Tables.{carrier}
use Rattle.node_core.specs.Machine.{Machine, Replay, Drained}
use Rattle.node_core.specs.MachineLaws.{option_then}
use Rattle.distance_node.specs.Coherent.{IsCoherent, last_reported}
use Rattle.distance_node.specs.Delivering.{runs_are_coherent}
use Rattle.distance_node.specs.Node.{Hop, DvState, PureVector, choice, distance, new_nodes}
use Rattle.distance_node.specs.Offers.{arc_from, listens_on, speaks_on, choice_alike, choice_may}
use Rattle.distance_node.specs.Tables.{table_of, values_on, IsChosen}

module _ (net : PureNet) (n : IsNet net) (c : Machine DvState PureVector) (k : IsCoherent net c) (dest : ℕ) where
  -- a row of a coherent machine is of the carrier
  value_in : (i : ℕ) (h : Hop) → table_of c dest i ≡ Some h → In (carrier net) h.value
  value_in i h e =
      let from = option_then (λ (s : DvState). s.rows dest) (c.node i) h e in
      let row : choice net dest i (λ a. from.0.heard a dest) ≡ Some h = sym (k.chosen i dest from.0 from.1) ∙ from.2 in
      (choice_may net n dest i (c.clock i) (λ a. from.0.heard a dest) (λ q x v at f. k.known i x.id dest from.0 v from.1 f) h row).value_in

  module _ (drained : Drained c) where
    -- what was heard on an arc is the value of the speaker's row
    heard_is : (i q : ℕ) (s : DvState) (a : PureArc) → c.node i ≡ Some s → slice_get (arcs_from net i) q ≡ Some a → s.heard a.id dest ≡ values_on net (table_of c dest) a.id
    heard_is i q s a e at =
        let from = arc_from net n i q a at in
        let t = k.running.there a.head from.is_arc.head_in in
        ap (last_reported dest (s.heard a.id dest)) (sym (drained a.id))
        ∙ (k.reported a.id i a.head dest s t.0 (listens_on net i a from) (speaks_on net i a from) e t.1
        ∙ rw (speaks_on net i a from, t.1) refl)

    pub quiet_rows_are_chosen : IsChosen net dest (table_of c dest)
    quiet_rows_are_chosen = record { choices = choices; values_in = value_in }
      where
        choices : (i : ℕ) → i < length net.nodes → table_of c dest i ≡ choice net dest i (values_on net (table_of c dest))
        choices i within =
            let s = k.running.there i within in
            ap (option_and_then (λ (q : DvState). q.rows dest)) s.1
            ∙ (k.chosen i dest s.0 s.1 ∙ choice_alike net dest i (λ a. s.0.heard a dest) (values_on net (table_of c dest)) (λ q a. heard_is i q s.0 a s.1))

-- so the rows of a drained replay are
pub drained_rows_are_chosen : (net : PureNet) (journal : List Delivery) (c : Machine DvState PureVector) (dest : ℕ) → IsNet net → Replay distance net (new_nodes net) journal ≡ Some c → Drained c → IsChosen net dest (table_of c dest)
drained_rows_are_chosen net journal c dest n e drained = quiet_rows_are_chosen net n c (runs_are_coherent net journal c n e) dest drained
