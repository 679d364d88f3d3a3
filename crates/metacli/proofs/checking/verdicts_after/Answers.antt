use Rattle.std.proofs.Common.{◌≡◌, map, ap, subst, ◌∙◌}
use Rattle.std.proofs.lemmas.Result.{IfOk-weaker}
use Rattle.alg_model.specs.Expressions.{PureAlg}
use Rattle.net_graph.specs.Nets.{PureNet}
use Rattle.net_graph.specs.Changes.{after_all}
use Rattle.net_graph.specs.Views.{pure_change}
use Rattle.topology_file.specs.NetText.{changed_net}
use Rattle.topology_file.specs.Views.{pure_file}
use Rattle.property_infer.specs.Views.{pure_verdicts}
use Rattle.metacli.specs.Outcome.{AreVerdictsOn, IsOnArc}
use Rattle.metacli.proofs.RowsAfter.{same_algebra}
use Rattle.metacli.proofs.checking.verdicts_after.Goals as goal

pub returns : goal.returns
returns c =
    let file = c.args.file.now in
    let is : c.last_of.result.now ≡ changed_net (pure_file file) =
    c.last_of.ensures ∙ c.in_ok-after.ensures ∙ ap (λ cs. after_all file.net (map pure_change cs)) c.as_slice.ensures in
    IfOk-weaker c.arc_verdicts-verdicts.result _ _
    (λ v h.
    subst (λ (a : PureAlg). AreVerdictsOn a (IsOnArc (changed_net (pure_file file))) (pure_verdicts v)) (same_algebra file.net (map pure_change file.changes))
    (subst (λ (net : PureNet). AreVerdictsOn net.alg (IsOnArc net) (pure_verdicts v)) is h))
    c.arc_verdicts-verdicts.ensures
