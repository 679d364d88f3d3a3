use Rattle.net_gen.proofs.Short.{generated_short}
use Rattle.net_gen.proofs.laws.generated_texts_are_short.Goals as goal

pub returns : goal.returns
returns c = generated_short
