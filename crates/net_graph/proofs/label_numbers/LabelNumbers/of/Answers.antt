use Rattle.std.proofs.Common.{arith, refl}
use Rattle.net_graph.proofs.LabelLemmas.{number_read, numbers_counted, spot_read}
use Rattle.net_graph.proofs.label_numbers.LabelNumbers.of.Goals as goal

pub bounds-self-inside-arc : goal.bounds-self-inside-arc
bounds-self-inside-arc c =
    let inside = c.self.inside in
    let within = rw (← c.self.view_is) at c.requires in
    omega (arith, within, numbers_counted inside.out.now inside.spots.now c.self.invariant.stand)

pub item-requires : goal.item-requires
item-requires c =
    let inside = c.self.inside in
    let within = rw (← c.self.view_is) at c.requires in
    let read = spot_read inside.out.now inside.spots.now c.args.arc.0 record { group = 0; place = 0 } c.self.invariant.stand
    (omega (arith, within, numbers_counted inside.out.now inside.spots.now c.self.invariant.stand)) in
    rw read.1 refl

pub returns : goal.returns
returns c =
    let inside = c.self.inside in
    let within = rw (← c.self.view_is) at c.requires in
    rw (← c.self.view_is) (number_read inside.out.now inside.spots.now c.args.arc.0 record { group = 0; place = 0 } c.item.result.now c.self.invariant.stand
    (omega (arith, within, numbers_counted inside.out.now inside.spots.now c.self.invariant.stand)) c.item.ensures)
