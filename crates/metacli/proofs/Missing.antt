-- The first arc of a network whose label doesn't have what is asked can be reported.
use Rattle.std.proofs.Common.{◌≡◌, ℕ, List, Some}
use Rattle.alg_model.specs.Properties.{PureProperty}
use Rattle.alg_model.specs.Verdicts.{PureInstance}
use Rattle.net_facts.specs.Misses.{IsFirstMissing}
use Rattle.net_facts.specs.MissingLaws.{missing_is_small}
use Rattle.net_graph.specs.Nets.{PureNet}
use Rattle.report_text.specs.Refusals.{CanMiss, misses}
use Rattle.topology_file.specs.NetText.{PureNetFile, changed_net}
use Rattle.metacli.specs.Answers.{refused}
use Rattle.metacli.specs.Outcome.{PureOutcome, answer_in}

pub can_miss : (properties : List PureProperty) (net : PureNet) (k : ℕ) (x : PureInstance) → IsFirstMissing properties net k x → CanMiss k x (Some net)
can_miss properties net k x h =
    let small = missing_is_small properties net k x h in
    (small.0, record { is_of = h.violates.is_of; bound = small.1 })

-- it is refused for the first arc of the network after its changes whose label doesn't have what is asked
pub record IsUnfit (asked : List PureProperty) (f : PureNetFile) (o : PureOutcome) : Type 0 where
  pub arc : ℕ
  pub against : PureInstance
  pub is : answer_in o ≡ refused (misses arc against)
  pub first : IsFirstMissing asked (changed_net f) arc against
