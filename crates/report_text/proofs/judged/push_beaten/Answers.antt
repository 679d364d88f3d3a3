use Rattle.std.proofs.Common.{◌++◌}
use Rattle.std.specs.Prelude.{codes}
use Rattle.meta_base.specs.NodePaths.{numbers}
use Rattle.net_graph.specs.RowTexts.{path_text}
use Rattle.report_text.specs.JudgedTexts.{row_names}
use Rattle.report_text.proofs.Appended.{appended_after}
use Rattle.report_text.proofs.judged.push_beaten.Goals as goal

pub returns : goal.returns
returns c =
    let net = c.args.net.now in
    appended_after _ _ _ (codes "optimal no: " ++ row_names net c.args.node.0 c.args.dest.0 ++ codes " is beaten by") (path_text net (numbers c.args.walk.now)) (codes "\n")
    c.in_ok-push_about.ensures c.in_ok-push_path_end.ensures
