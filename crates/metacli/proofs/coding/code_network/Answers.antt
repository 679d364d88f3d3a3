use Rattle.std.proofs.Common.{map, length, ap, ◌∙◌}
use Rattle.std.proofs.lemmas.List.{length-map}
use Rattle.code_gen.specs.Compilation.{CompileLabel}
use Rattle.net_graph.specs.Nets.{PureArc}
use Rattle.net_graph.specs.Views.{pure_change}
use Rattle.topology_file.specs.NetText.{changed_net}
use Rattle.topology_file.specs.Views.{pure_file}
use Rattle.metacli.specs.Outcome.{labels_on}
use Rattle.metacli.proofs.RowsAfter.{same_algebra}
use Rattle.metacli.proofs.coding.code_network.Goals as goal

pub returns-in-Ok-clause-printable : goal.returns-in-Ok-clause-printable
returns-in-Ok-clause-printable c =
    let file = c.args.file in
    let net = changed_net (pure_file file) in
    record {
      printable = (
        same_algebra file.net (map pure_change file.changes) ∙ c.requires.over,
        ap length c.in-Ok.ensures.listing.the_labels
            ∙ length-map (labels_on net) (CompileLabel file.net.alg.expression)
            ∙ length-map net.arcs (λ (a : PureArc). a.label),
      );
      after = c.in-Ok.ensures.after;
    }
