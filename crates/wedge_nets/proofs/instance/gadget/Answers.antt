use Rattle.alg_model.specs.Properties.{monotone}
use Rattle.wedge_nets.proofs.instance.gadget.Goals as goal

pub small_verdict-requires : goal.small_verdict-requires
small_verdict-requires c = c.in_ok-verdicts.ensures.exact monotone
