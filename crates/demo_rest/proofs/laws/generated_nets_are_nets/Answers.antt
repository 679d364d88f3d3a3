use Rattle.demo_rest.proofs.Nets.{generated_is_net}
use Rattle.demo_rest.proofs.laws.generated_nets_are_nets.Goals as goal

pub returns : goal.returns
returns c = generated_is_net
