use Rattle.std.proofs.Common.{sym, subst, arith}
use Rattle.path_vector.specs.Coherent.{MayBegin}
use Rattle.path_vector.specs.Laws.{new_nodes_may_begin}
use Rattle.vector_rest.specs.EndLaws.{begun_runs_end}
use Rattle.vector_rest.proofs.laws.new_runs_end.Goals as goal

pub returns : goal.returns
returns c net nodes journal machine is_net mono are e =
    let may : MayBegin net nodes = subst (λ l. MayBegin net l) (sym are) (new_nodes_may_begin net) in
    let all = begun_runs_end net nodes journal machine is_net mono may e in
    omega (arith, all)
