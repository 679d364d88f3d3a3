use Rattle.distance_node.specs.Following.{next_hops_lead, none_weighs, unbeaten}
use Rattle.distance_node.proofs.laws.next_hops_lead_along_best_walks.Goals as goal

pub returns-clause-leads : goal.returns-clause-leads
returns-clause-leads c = λ net dest table i h n m chosen within e. next_hops_lead net n dest table chosen m i h within e

pub returns-clause-unbeaten : goal.returns-clause-unbeaten
returns-clause-unbeaten c = λ net dest table i p n m chosen walk. unbeaten net n dest table chosen m i p walk

pub returns-clause-none : goal.returns-clause-none
returns-clause-none c = λ net dest table i p n m chosen none walk. none_weighs net n dest table chosen m i p none walk
