use Rattle.net_graph.specs.Groups.{items_at}
use Rattle.net_graph.proofs.LabelLemmas.{numbers_below}
use Rattle.net_graph.proofs.label_numbers.LabelNumbers.count.Goals as goal

pub returns : goal.returns
returns c =
    let inside = c.self.inside in
    rw (← c.self.view_is) (numbers_below inside.count (items_at inside.out.now inside.spots.now) c.self.invariant.labelled)
