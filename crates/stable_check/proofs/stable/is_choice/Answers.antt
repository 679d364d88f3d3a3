use Rattle.net_graph.specs.Tables.{route_at}
use Rattle.net_graph.specs.Views.{rows_of}
use Rattle.stable_check.specs.WalkWeights.{if_ok}
use Rattle.stable_check.specs.Offering.{outdone_no_choice, choice_by}
use Rattle.stable_check.proofs.stable.is_choice.Goals as goal

pub returns-then-branch : goal.returns-then-branch
returns-then-branch c =
    let reported = route_at (rows_of c.args.table.now) in
    (λ e. absurd (cc), λ h. absurd (outdone_no_choice c.args.net.now c.args.table.now.dest.0 reported c.args.node.0 (c.in_ok-is_outdone.ensures.0 c.if-branch.true) h))

pub returns : goal.returns
returns c =
    let reported = route_at (rows_of c.args.table.now) in
    if_ok c.is_made.result c.is_made.ensures
    (λ b. choice_by c.args.net.now c.args.table.now.dest.0 reported c.args.node.0 b (λ h. let e = c.in_ok-is_outdone.ensures.1 h in let f = c.if-branch.false in absurd (cc)))
