use Rattle.weave.proofs.phase.keeps_laws.Goals as goal

pub returns : goal.returns
returns g c = g.met.N.NodeCore.lawful
