use Rattle.std.proofs.Common.{sym, subst, arith}
use Rattle.path_vector.specs.Coherent.{MayBegin}
use Rattle.path_vector.specs.Laws.{carried_nodes_may_begin}
use Rattle.vector_rest.specs.EndLaws.{begun_runs_end}
use Rattle.vector_rest.proofs.laws.carried_runs_end.Goals as goal

pub returns : goal.returns
returns c old net before machine nodes journal is_old is_net mono carried e =
    let may : MayBegin net nodes = subst (λ l. MayBegin net l) (sym carried.nodes_are)
    (carried_nodes_may_begin old net before carried.states is_old carried.arcs_alone carried.coherent carried.drained carried.states_are carried.count) in
    let all = begun_runs_end net nodes journal machine is_net mono may e in
    omega (arith, all)
