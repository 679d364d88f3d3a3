use Rattle.std.proofs.Common.{◌≡◌, ◌∙◌, [], ap, map, subst}
use Rattle.net_graph.specs.Nets.{PureNet}
use Rattle.vector_runs.specs.Runs.{IsRun, pure_phase}
use Rattle.demo_rest.specs.Most.{demo_turns}
use Rattle.metacli.specs.After.{nets_after}
use Rattle.metacli.specs.Runs.{IsRunThrough}
use Rattle.metacli.proofs.Demos.{alone}
use Rattle.metacli.proofs.generating.run_generated.Goals as goal

pub returns-in-Ok-clause-run : goal.returns-in-Ok-clause-run
returns-in-Ok-clause-run g c =
    let net = c.in_ok-file.file.net in
    let run = c.in-Ok.run' in
    let last = pure_phase run.last in
    let none : c.in-Ok.changed ≡ [] = c.in-Ok.ensures.changed ∙ ap (nets_after net) c.in_ok-file.ensures.changes in
    let through = subst (λ (nets : _). IsRunThrough net nets demo_turns run) none c.in-Ok.ensures.run in
    let one = alone net demo_turns (map pure_phase run.past) last run.is_quiet through.is_run through.stable through.of_networks in
    let drawn = subst (λ (drawn : PureNet). IsRun drawn [] demo_turns [] last run.is_quiet) c.in_ok-file.ensures.net one.0 in
    let quiet = c.generated_runs_are_quiet.ensures.demo c.args.seed c.args.nodes last run.is_quiet (record { least = c.requires.0; most = c.requires.1 }) drawn in
    record { is_net = through.is_net; is_run = subst (λ q. IsRun net [] demo_turns [] last q) quiet one.0; settled = one.1 quiet; of_network = one.2 }
