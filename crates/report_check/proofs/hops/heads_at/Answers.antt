use Rattle.std.proofs.Common.{◌≡◌, ◌++◌, ◌∷◌, [], length, true, false, refl, sym, ap, ◌∙◌, arith, rules}
use Rattle.std.proofs.lemmas.List.{map-append}
use Rattle.std.proofs.lemmas.Option.{slice_get_read}
use Rattle.meta_base.specs.declared.ids.NodeId.{NodeId}
use Rattle.meta_base.specs.NodePaths.{numbers}
use Rattle.net_graph.specs.Nets.{arcs_from}
use Rattle.net_graph.specs.Views.{rows_of}
use Rattle.report_check.specs.Hops.{is_hop}
use Rattle.report_check.proofs.Forms.{hop_at}
use Rattle.report_check.proofs.Hopping.{heads_more, heads_same, heads_all, heads_none, hop_test}
use Rattle.report_check.proofs.hops.heads_at.Goals as goal
use Rattle.report_check.proofs.hops.heads_at.Goals.{then-branch+in_ok-push, else-branch}

pub loop-hop-init : goal.loop-hop-init
loop-hop-init g c =
    let net = c.args.form.now.net.now in
    rw c.in_ok-heads.ensures.items (heads_none (is_hop net (rows_of c.args.form.now.table.now)) (arcs_from net c.args.node.0))

pub is_hop-requires-clause-hop : goal.is_hop-requires-clause-hop
is_hop-requires-clause-hop g c =
    let form = c.args.form.now in
    let hops = c.of-hops.result.now in
    let m = c.loop-hop.hop-index in
    let read = slice_get_read hops (length hops) m c.hop-item.result refl c.loop-hop-test.true c.hop-item.is in
    (hop_at (g.A.Algebra.stands_for form.algebra.now) form.net.now c.requires.compiled.is_net c.args.node.0 m hops c.hop-item.result (c.requires.compiled.of_arcs.each c.args.node.0 hops c.of-hops.ensures) read).from

pub loop-hop-preserved : goal.loop-hop-preserved
loop-hop-preserved g c =
    let form = c.args.form.now in
    let net = form.net.now in
    let i = c.args.node.0 in
    let rows = rows_of form.table.now in
    let hops = c.of-hops.result.now in
    let m = c.loop-hop.hop-index in
    let read = slice_get_read hops (length hops) m c.hop-item.result refl c.loop-hop-test.true c.hop-item.is in
    let at = hop_at (g.A.Algebra.stands_for form.algebra.now) net c.requires.compiled.is_net i m hops c.hop-item.result (c.requires.compiled.of_arcs.each i hops c.of-hops.ensures) read in
    let p = is_hop net rows in
    let test : c.in_ok-is_hop.field-0 ≡ p at.arc = hop_test net rows i c.hop-item.result.node.0 at.arc c.in_ok-is_hop.field-0 at.tail at.head c.in_ok-is_hop.ensures in
    elim c.if-branch.branch [
      | then-branch+in_ok-push w ↦
          let passes : p at.arc ≡ true = sym test ∙ w.if-branch.true in
          let new : c.if-branch.heads.items ≡ c.loop-hop.heads.items ++ c.hop-item.result.node ∷ [] = search rules in
          let more = heads_more p (arcs_from net i) m at.arc (numbers c.loop-hop.heads.items) at.there passes c.loop-hop.invariant in
          ap numbers new ∙ (map-append (λ (n : NodeId). n.0) c.loop-hop.heads.items (c.hop-item.result.node ∷ []) ∙ rw (← at.head) at more)
      | else-branch w ↦
          let fails : p at.arc ≡ false = sym test ∙ w.if-branch.false in
          let same : c.if-branch.heads.items ≡ c.loop-hop.heads.items = search rules in
          ap numbers same ∙ heads_same p (arcs_from net i) m at.arc (numbers c.loop-hop.heads.items) at.there fails c.loop-hop.invariant
    ]

pub returns : goal.returns
returns g c =
    let form = c.args.form.now in
    let net = form.net.now in
    let hops = c.of-hops.result.now in
    let are = c.requires.compiled.of_arcs.each c.args.node.0 hops c.of-hops.ensures in
    let all : c.loop-hop.hop-index ≡ length (arcs_from net c.args.node.0) = omega (arith, are.count, c.loop-hop-test.false, c.loop-hop.auto.hop-index-end) in
    rw c.from_vec.ensures (heads_all (is_hop net (rows_of form.table.now)) (arcs_from net c.args.node.0) c.loop-hop.hop-index (numbers c.loop-hop.heads.items) all c.loop-hop.invariant)
