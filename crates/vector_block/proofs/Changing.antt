-- How a node's row changes when it hears a report.
use Rattle.std.proofs.Common.{◌≡◌, ◌==◌, Bool, true, false, Option, Some, None, Result, Ok, Err, IfOk, OnErr, OnOk, cond, sym, ap, ◌∙◌, arith}
use Rattle.std.specs.Prelude.{option_and_then}
use Rattle.std.specs.Option.{option_map_or}
use Rattle.std.proofs.lemmas.Bool.Decides.{nat_tests}
use Rattle.alg_model.specs.Expressions.{PureValue}
use Rattle.net_graph.specs.Nets.{PureArc, PureNet, IsNet}
use Rattle.net_graph.specs.Routes.{PureRoute}
use Rattle.net_graph.specs.Tables.{carrier}
use Rattle.path_vector.specs.Node.{choice, offer_by, same_row}
use Rattle.path_vector.specs.Reporting.{id_is_place}
use Rattle.path_vector.specs.Settling.{Settles, settled}
use Rattle.vector_block.specs.Hearings.{HasRechosen, IsHearing, heard_at, listens}
use Rattle.vector_block.specs.Stores.{PureStore, pure_store, said_by, with_report}
use Rattle.vector_block.specs.declared.look.Hearing.{Hearing}
use Rattle.vector_block.specs.declared.store.Store.{Store}

-- what the row and the report settle is the node's choice
pub settled_is : {S : Type 0} (value : S → PureValue) (net : PureNet) → IsNet net → (store : Store S) (a : PureArc) (h : Hearing) → IsHearing value net store a h
    → (pure_store value store).heard h.arc.0 h.dest.0 ≡ said_by value store.paths store.reports.items (Some h.report) → (row : Option PureRoute) → Settles net h.dest.0 h.node.0 (heard_at net (pure_store value store) h.node.0) a row
    → (o : Option PureRoute) → settled (carrier net) h.speaker.0 row (option_and_then (offer_by net a) (said_by value store.paths store.reports.items (Some h.report))) ≡ Some o
    → choice net h.dest.0 h.node.0 (heard_at net (pure_store value store) h.node.0) ≡ o
settled_is value net n store a h is heard row settles o e =
    settles o (ap (λ k. settled (carrier net) k row (option_and_then (offer_by net a) (heard_at net (pure_store value store) h.node.0 a.id h.dest.0))) is.head
    ∙ (ap (λ r. settled (carrier net) h.speaker.0 row (option_and_then (offer_by net a) r)) said ∙ e))
  where
    number : a.id ≡ h.arc.0
    number = let place = id_is_place 0 h.arc.0 net.arcs a n.arc_ids is.stands in omega (arith, place)

    hears : listens net h.node.0 h.arc.0 ≡ true
    hears =
        let same : (a.tail == h.node.0) ≡ true = let tail = is.tail in grind (arith, nat_tests) in
        ap (λ x. option_map_or (λ (arc : PureArc). arc.tail == h.node.0) x false) is.stands ∙ same

    said : heard_at net (pure_store value store) h.node.0 a.id h.dest.0 ≡ said_by value store.paths store.reports.items (Some h.report)
    said = ap (λ k. heard_at net (pure_store value store) h.node.0 k h.dest.0) number ∙ (ap (λ t. cond t ((pure_store value store).heard h.arc.0 h.dest.0) None) hears ∙ heard)

-- a row that was reported is the node's choice
pub reported_rechosen : {E : Type 0} (net : PureNet) (h : Hearing) (before after : PureStore) (result : Result Bool E) (row : Option PureRoute) → choice net h.dest.0 h.node.0 (heard_at net before h.node.0) ≡ row
    → same_row row (before.rows h.node.0 h.dest.0) ≡ false → IfOk result (λ changed. changed ≡ true) → OnOk result (after ≡ with_report before h.node.0 (record { dest = h.dest.0; route = row; stamp = h.clock })) → OnErr result (after ≡ before)
    → HasRechosen net h before after result
reported_rechosen net h before after (Ok true) row chosen apart ok reported err =
    (ap (λ r. same_row r (before.rows h.node.0 h.dest.0)) chosen ∙ apart, reported ∙ ap (λ r. with_report before h.node.0 (record { dest = h.dest.0; route = r; stamp = h.clock })) (sym chosen))
reported_rechosen net h before after (Ok false) row chosen apart ok reported err = absurd (cc)
reported_rechosen net h before after (Err refusal) row chosen apart ok reported err = err
