use Rattle.std.proofs.Common.{[], arith}
use Rattle.path_store.proofs.Stepping.{count_after}
use Rattle.path_store.proofs.trails.Trails.count.Goals as goal

pub returns : goal.returns
returns c = rw (← c.self.view_is) (omega (arith, c.len.ensures, count_after [] c.self.inside.steps.items))
