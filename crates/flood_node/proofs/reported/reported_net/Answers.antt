use Rattle.std.proofs.Common.{map}
use Rattle.std.specs.Arc.{arc_value}
use Rattle.std.proofs.lemmas.Result.{IfOk-weaker}
use Rattle.flood_node.specs.Node.{has_card}
use Rattle.flood_node.specs.Rows.{is_placed}
use Rattle.flood_node.specs.Views.{pure_card}
use Rattle.flood_node.proofs.ReportedValues.{made_as_reported}
use Rattle.flood_node.proofs.reported.reported_net.Goals as goal

pub returns : goal.returns
returns c =
    let net = c.args.net.now in
    let placed = is_placed c.in_ok-placed.placed.items in
    let made = rw c.deref.ensures.value at c.in_ok-add_reported.ensures in
    IfOk-weaker c.finish.result _ _ (λ reported e. made_as_reported net c.cards_by_node.ensures.net placed (has_card (map (λ x. pure_card (arc_value x)) c.args.cards.now))
    c.add_reported.new.draft reported c.in_ok-placed.ensures.placed made e) c.finish.ensures
