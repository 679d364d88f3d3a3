use Rattle.std.proofs.Common.{refl, sym}
use Rattle.net_graph.specs.Nets.{is_arc_between}
use Rattle.net_graph.specs.NetLaws.{found_at_place, nothing_at_place}
use Rattle.stable_check.proofs.lookup.label_between.Goals as goal

pub returns-in_err-arc : goal.returns-in_err-arc
returns-in_err-arc c =
    let net = c.args.net.now in
    let none = nothing_at_place (is_arc_between c.args.tail.0 c.args.head.0) net.arcs (sym c.in_err-arc.ensures) in
    rw (c.from_residual.ensures, none) refl

pub arc-requires : goal.arc-requires
arc-requires c = (found_at_place (is_arc_between c.args.tail.0 c.args.head.0) c.args.net.now.arcs c.in_ok-arc.arc.0 (sym c.in_ok-arc.ensures)).1

pub returns : goal.returns
returns c =
    let found = (found_at_place (is_arc_between c.args.tail.0 c.args.head.0) c.args.net.now.arcs c.in_ok-arc.arc.0 (sym c.in_ok-arc.ensures)).0 in
    rw (found, c.arc.ensures.arc) refl
