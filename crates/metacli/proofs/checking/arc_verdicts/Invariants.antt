use Rattle.metacli.proofs.Arcs.{AreAdded}
use Rattle.metacli.proofs.checking.arc_verdicts.Given as goal

-- the labels so far cover those of the arcs so far
abbrev pub invariant-loop-arc : goal.invariant-loop-arc
invariant-loop-arc l = AreAdded l.net l.arc l.numbers l.added l.labels
