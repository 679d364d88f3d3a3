use Rattle.std.proofs.Common.{◌≡◌, ◌<◌, Some, None, length, slice_get, ap, ◌∙◌, arith}
use Rattle.std.specs.Prelude.{is_some, option_and_then}
use Rattle.std.proofs.lemmas.Option.{slice_get-get_or}
use Rattle.net_graph.specs.ArcLaws.{of_some}
use Rattle.net_graph.specs.Lines.{arcs_with}
use Rattle.net_graph.specs.Nets.{PureArc, PureNet, has_arc}
use Rattle.net_graph.specs.Views.{pure_arc}
use Rattle.flood_node.specs.Rows.{is_placed, placed_at}
use Rattle.flood_node.proofs.ReportedNets.{arc_absent, arc_draft_next, arc_draft_same, fewer_reported}
use Rattle.flood_node.proofs.reported.add_arcs.Goals as goal
use Rattle.flood_node.proofs.reported.add_arcs.Goals.{in-Some+in_ok-add_arc, in_default}

pub add_arc-requires-clause-room : goal.add_arc-requires-clause-room
add_arc-requires-clause-room c =
    let net = c.args.net.now in
    let fewer = fewer_reported (is_placed c.args.cards.now) net.arcs c.loop-number.number (pure_arc c.arc.result) c.arc.ensures.arc in
    let so = ap (λ (d : PureNet). length d.arcs) c.loop-number.invariant in
    omega (arith, fewer, so)

pub add_arc-requires-clause-arc : goal.add_arc-requires-clause-arc
add_arc-requires-clause-arc c =
    let net = c.args.net.now in
    let cards = c.args.cards.now in
    let k = c.loop-number.number in
    let a = pure_arc c.arc.result in
    let tail_in = c.arc.ensures.within.tail_in in
    let count = c.requires.count in
    let within : a.tail < length cards = omega (arith, tail_in, count) in
    let placed : placed_at cards a.tail ≡ Some c.in-Some.card = ap (option_and_then (λ o. o)) (slice_get-get_or cards a.tail _ within) ∙ c.in-Some.is in (
      a,
      c.arc.ensures.arc,
      c.requires.cards a.tail c.in-Some.card placed,
      ap (λ (d : PureNet). has_arc d a.tail a.head) c.loop-number.invariant ∙ arc_absent (is_placed cards) net.arcs k a c.arc_count-number-end.ensures.net.arc_apart c.arc.ensures.arc,
    )

pub loop-number-preserved : goal.loop-number-preserved
loop-number-preserved c =
    let net = c.args.net.now in
    let cards = c.args.cards.now in
    let k = c.loop-number.number in
    let a = pure_arc c.arc.result in
    let tail_in = c.arc.ensures.within.tail_in in
    let count = c.requires.count in
    let within : a.tail < length cards = omega (arith, tail_in, count) in
    elim c.match-cards-tail.branch [
      | in-Some+in_ok-add_arc w ↦
          let placed : placed_at cards a.tail ≡ Some w.in-Some.card = ap (option_and_then (λ o. o)) (slice_get-get_or cards a.tail _ within) ∙ w.in-Some.is in
          let made = of_some (λ (x : PureArc). w.add_arc.new.draft ≡ record c.loop-number.draft { arcs = arcs_with x.tail x.head x.label c.loop-number.draft.arcs }) (slice_get net.arcs k) a w.in_ok-add_arc.ensures c.arc.ensures.arc in
          w.draft-is ∙ arc_draft_next net (is_placed cards) c.loop-number.draft w.add_arc.new.draft k a c.loop-number.invariant c.arc.ensures.arc (ap is_some placed) made
      | in_default w ↦
          let nothing : placed_at cards a.tail ≡ None = ap (option_and_then (λ o. o)) (slice_get-get_or cards a.tail _ within) ∙ w.in_default.is in
          arc_draft_same net (is_placed cards) c.loop-number.draft c.match-cards-tail.draft k a c.loop-number.invariant c.arc.ensures.arc (ap is_some nothing) w.draft-is
    ]
