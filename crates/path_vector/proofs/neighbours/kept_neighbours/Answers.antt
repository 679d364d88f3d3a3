use Rattle.std.proofs.Common.{sym, ◌∙◌}
use Rattle.net_graph.specs.Nets.{arcs_from}
use Rattle.path_vector.proofs.Alike.{renewed_are, renewed_heard}
use Rattle.path_vector.proofs.Choices.{as_many}
use Rattle.path_vector.proofs.neighbours.kept_neighbours.Goals as goal

pub renewed-requires-clause-count : goal.renewed-requires-clause-count
renewed-requires-clause-count g c =
    let A = g.A.Algebra in
    let s = c.args.algebra.now in
    let before = c.args.before.now in
    sym (as_many (A.stands_for s) (A.is_sig s) (A.sig_value s) before (arcs_from before c.args.node.0) c.args.old c.requires.old) ∙ (c.requires.alike c.if-are_alike.true).count

pub returns-then-are_alike-clause-neighbours : goal.returns-then-are_alike-clause-neighbours
returns-then-are_alike-clause-neighbours g c =
    let A = g.A.Algebra in
    let s = c.args.algebra.now in
    renewed_are c.args.before.now c.args.net.now c.requires.before c.renewed.ensures.net c.requires.net c.args.node.0 (c.requires.alike c.if-are_alike.true)
    (A.stands_for s) (A.is_sig s) (A.sig_value s) c.args.old c.renewed.result c.requires.old c.renewed.ensures.renewed

pub returns-then-are_alike-clause-heard : goal.returns-then-are_alike-clause-heard
returns-then-are_alike-clause-heard g c =
    let A = g.A.Algebra in
    let s = c.args.algebra.now in
    renewed_heard c.args.before.now c.args.net.now c.requires.before c.renewed.ensures.net c.requires.net c.args.node.0 (c.requires.alike c.if-are_alike.true)
    (A.stands_for s) (A.is_sig s) (A.sig_value s) c.args.old c.renewed.result c.requires.old c.renewed.ensures.renewed
