use Rattle.std.proofs.Common.{map}
use Rattle.alg_classes.specs.Instances.{pure_property}
use Rattle.net_facts.specs.MarkLaws.{AreHeld}
use Rattle.net_facts.specs.Misses.{AllBefore, ArcHasAll, HasAll}
use Rattle.net_facts.proofs.missing.first_missed.Given as goal

-- the labels of the arcs so far have all of the properties, and so have those that passed
abbrev pub invariant-loop-arc : goal.invariant-loop-arc
invariant-loop-arc l = record {
  before : AllBefore (ArcHasAll (map pure_property l.properties) l.net) l.net.arcs l.arc;
  passed : AreHeld (HasAll (map pure_property l.properties) l.net.alg.expression) l.net l.numbers l.passed;
}
