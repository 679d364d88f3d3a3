use Rattle.std.proofs.Common.{◌≤◌, ℕ, length, refl, subst, arith}
use Rattle.std.specs.Bool.{Decides}
use Rattle.net_graph.specs.Tables.{route_at}
use Rattle.net_graph.specs.Nets.{arcs_from}
use Rattle.net_graph.specs.Views.{pure_arc, rows_of}
use Rattle.stable_check.specs.Checks.{OutdoneBy}
use Rattle.stable_check.specs.ArcSearch.{out_arc, none_more, none_at_all}
use Rattle.stable_check.specs.Offering.{outdone_has}
use Rattle.stable_check.proofs.stable.is_outdone_by_arc.Goals as goal

pub arc_outdoes-requires-clause-arc : goal.arc_outdoes-requires-clause-arc
arc_outdoes-requires-clause-arc c =
    let net = c.args.net.now in
    let a = pure_arc c.get.result in
    let there = rw c.out_arcs-arcs.ensures.arcs at c.get.ensures in
    (out_arc net c.requires.net c.args.node.0 c.loop-place.place a there).label

pub returns-then-branch : goal.returns-then-branch
returns-then-branch c =
    let net = c.args.net.now in
    let a = pure_arc c.get.result in
    let there = rw c.out_arcs-arcs.ensures.arcs at c.get.ensures in
    let tail = (out_arc net c.requires.net c.args.node.0 c.loop-place.place a there).tail in
    let reported = route_at (rows_of c.args.table.now) in
    let decides = subst (λ (k : ℕ). Decides c.in_ok-arc_outdoes.field-0 (OutdoneBy net reported k a.head)) tail c.in_ok-arc_outdoes.ensures in
    (λ e. (a.head, decides.0 c.if-branch.true), λ h. refl)

pub loop-place-preserved : goal.loop-place-preserved
loop-place-preserved c =
    let net = c.args.net.now in
    let a = pure_arc c.get.result in
    let there = rw c.out_arcs-arcs.ensures.arcs at c.get.ensures in
    let tail = (out_arc net c.requires.net c.args.node.0 c.loop-place.place a there).tail in
    let reported = route_at (rows_of c.args.table.now) in
    let decides = subst (λ (k : ℕ). Decides c.in_ok-arc_outdoes.field-0 (OutdoneBy net reported k a.head)) tail c.in_ok-arc_outdoes.ensures in
    none_more net c.args.node.0 (OutdoneBy net reported c.args.node.0) c.loop-place.place a c.loop-place.invariant there
    (λ h. absurd (let e = decides.1 h in let f = c.if-branch.false in cc))

pub returns : goal.returns
returns c =
    let net = c.args.net.now in
    let reported = route_at (rows_of c.args.table.now) in
    let past : length c.out_arcs-arcs.result ≤ c.loop-place.place = omega (arith, c.loop-place-test.false, c.count-place-end.ensures) in
    let all : length (arcs_from net c.args.node.0) ≤ c.loop-place.place = rw c.out_arcs-arcs.ensures.arcs at past in (
      λ e. absurd (cc),
      λ h. absurd (none_at_all net c.args.node.0 (OutdoneBy net reported c.args.node.0) c.loop-place.place (outdone_has net c.requires.net reported c.args.node.0) all c.loop-place.invariant h.0 h.1),
    )
