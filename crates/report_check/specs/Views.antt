-- What judgements and hops of the program stand for.
use Rattle.std.specs.Prelude.{◌≡◌, ℕ, ◌+◌, List, [], ◌∷◌, option_map}
use Rattle.meta_base.specs.NodePaths.{numbers}
use Rattle.alg_classes.specs.Instances.{pure_instance}
use Rattle.alg_model.specs.Views.{pure_value}
use Rattle.net_graph.specs.declared.route.DestTable.{DestTable}
use Rattle.net_graph.specs.Views.{pure_route}
use Rattle.report_check.specs.declared.judgement.OptimalFinding.{OptimalFinding}
use Rattle.report_check.specs.declared.judgement.OptimalFinding.TheVariants as optimal
use Rattle.report_check.specs.declared.judgement.StableFinding.{StableFinding}
use Rattle.report_check.specs.declared.judgement.StableFinding.TheVariants as finding
use Rattle.report_check.specs.declared.judgement.Judgement.{Judgement}
use Rattle.report_check.specs.declared.hops.ManyHops.{ManyHops}
use Rattle.report_check.specs.Judged.{PureOptimal, unbeaten, no_walk, beaten, unsettled, PureStable, stable, not_offered, better, PureJudgement}
use Rattle.report_check.specs.Hops.{PureHops}

abbrev pub pure_optimal : OptimalFinding → PureOptimal
pure_optimal optimal.Yes = unbeaten
pure_optimal (optimal.NoWalk node dest) = no_walk node.0 dest.0
pure_optimal (optimal.Beaten node dest walk) = beaten node.0 dest.0 (numbers walk)
pure_optimal (optimal.Unsettled arc instance) = unsettled arc.0 (pure_instance instance)

abbrev pub pure_stable : StableFinding → PureStable
pure_stable finding.Yes = stable
pure_stable (finding.NotOffered node dest) = not_offered node.0 dest.0
pure_stable (finding.Better node dest offer) = better node.0 dest.0 (pure_route offer)

abbrev pub pure_judgement : Judgement → PureJudgement
pure_judgement j = record { optimal = pure_optimal j.optimal; stable = pure_stable j.stable }

abbrev pub pure_hops : ManyHops → PureHops
pure_hops h = record {
  node = h.node.0;
  dest = h.dest.0;
  value = option_map pure_value h.value;
  here = h.here;
  heads = numbers h.heads;
}

-- the tables are those of the destinations from that one on
abbrev pub AreOfDests : ℕ → List DestTable → Type 0
AreOfDests dest [] = Unit {0}
AreOfDests dest (table ∷ tables) = (table.dest.0 ≡ dest) × AreOfDests (dest + 1) tables
