use Rattle.std.proofs.Common.{◌≤◌, ℕ, length, refl, subst, sym, ◌∙◌, inl, inr, arith}
use Rattle.std.proofs.lemmas.Option.{slice_get_read}
use Rattle.net_graph.specs.Nets.{arcs_from}
use Rattle.net_graph.specs.Tables.{route_at}
use Rattle.net_graph.specs.Views.{rows_of}
use Rattle.stable_check.specs.Checks.{ImprovedBy, OutdoneBy}
use Rattle.report_check.proofs.Forms.{hop_at}
use Rattle.report_check.proofs.Looking.{either_false, either_true}
use Rattle.report_check.proofs.RowSearch.{alone_made, arc_made, not_beaten_all, not_beaten_first, not_beaten_more, not_outdone_all, not_outdone_first, not_outdone_more}
use Rattle.report_check.proofs.look.row_shows.Goals as goal

pub loop-hop-init : goal.loop-hop-init
loop-hop-init g c =
    let net = c.args.form.now.net.now in
    let dest = c.args.form.now.table.now.dest.0 in
    let rows = rows_of c.args.form.now.table.now in
    let i = c.args.node.0 in
    record {
      improves = λ e. not_beaten_first net dest rows i (c.in_ok-shown.ensures.improves e);
      makes = λ e. alone_made net dest i (route_at rows) (c.in_ok-shown.ensures.makes e);
      outdoes = λ e. not_outdone_first net dest rows i (c.in_ok-shown.ensures.outdoes e);
    }

pub hop_shows-requires-clause-hop : goal.hop_shows-requires-clause-hop
hop_shows-requires-clause-hop g c =
    let form = c.args.form.now in
    let hops = c.of-hop-items.result.now in
    let m = c.loop-hop.hop-index in
    let read = slice_get_read hops (length hops) m c.hop-item.result refl c.loop-hop-test.true c.hop-item.is in
    (hop_at (g.A.Algebra.stands_for form.algebra.now) form.net.now c.requires.compiled.is_net c.args.node.0 m hops c.hop-item.result (c.requires.compiled.of_arcs.each c.args.node.0 hops c.of-hop-items.ensures) read).from

pub loop-hop-preserved : goal.loop-hop-preserved
loop-hop-preserved g c =
    let form = c.args.form.now in
    let net = form.net.now in
    let dest = form.table.now.dest.0 in
    let rows = rows_of form.table.now in
    let i = c.args.node.0 in
    let hops = c.of-hop-items.result.now in
    let m = c.loop-hop.hop-index in
    let read = slice_get_read hops (length hops) m c.hop-item.result refl c.loop-hop-test.true c.hop-item.is in
    let at = hop_at (g.A.Algebra.stands_for form.algebra.now) net c.requires.compiled.is_net i m hops c.hop-item.result (c.requires.compiled.of_arcs.each i hops c.of-hop-items.ensures) read in
    let old = c.loop-hop.shown in
    let more = c.in_ok-of_hop.of_hop in
    record {
      improves = λ e.
          let f = either_false old.improves more.improves (sym c.or-shown.ensures.improves ∙ e) in
          not_beaten_more net dest rows i m at.arc at.there (c.loop-hop.invariant.improves f.0) (subst (λ (j : ℕ). ¬ ImprovedBy net rows i j) at.head (c.in_ok-of_hop.ensures.improves f.1));
      makes = λ e. elim (either_true old.makes more.makes (sym c.or-shown.ensures.makes ∙ e)) [
        | inl f ↦ c.loop-hop.invariant.makes f
        | inr f ↦ arc_made net dest i c.hop-item.result.node.0 (route_at rows) (c.in_ok-of_hop.ensures.makes f)
      ];
      outdoes = λ e.
          let f = either_false old.outdoes more.outdoes (sym c.or-shown.ensures.outdoes ∙ e) in
          not_outdone_more net dest rows i m at.arc at.there (c.loop-hop.invariant.outdoes f.0) (subst (λ (j : ℕ). ¬ OutdoneBy net (route_at rows) i j) at.head (c.in_ok-of_hop.ensures.outdoes f.1));
    }

pub returns-clause-improves : goal.returns-clause-improves
returns-clause-improves g c = λ e.
    let form = c.args.form.now in
    let net = form.net.now in
    let i = c.args.node.0 in
    let hops = c.of-hop-items.result.now in
    let are = c.requires.compiled.of_arcs.each i hops c.of-hop-items.ensures in
    let all : length (arcs_from net i) ≤ c.loop-hop.hop-index = omega (arith, are.count, c.loop-hop-test.false) in
    not_beaten_all net c.requires.compiled.is_net form.table.now.dest.0 (rows_of form.table.now) i c.loop-hop.hop-index all (c.loop-hop.invariant.improves e)

pub returns-clause-outdoes : goal.returns-clause-outdoes
returns-clause-outdoes g c = λ e.
    let form = c.args.form.now in
    let net = form.net.now in
    let i = c.args.node.0 in
    let hops = c.of-hop-items.result.now in
    let are = c.requires.compiled.of_arcs.each i hops c.of-hop-items.ensures in
    let all : length (arcs_from net i) ≤ c.loop-hop.hop-index = omega (arith, are.count, c.loop-hop-test.false) in
    not_outdone_all net c.requires.compiled.is_net form.table.now.dest.0 (rows_of form.table.now) i c.loop-hop.hop-index all (c.loop-hop.invariant.outdoes e)
