use Rattle.net_gen.specs.Generated.{Generated}
use Rattle.net_gen.specs.Networks.{demo_alg, generated_file}
use Rattle.net_gen.proofs.Leads.{generated_means}
use Rattle.net_gen.proofs.laws.generated_texts_are_never_refused.Goals as goal

pub returns-clause-only : goal.returns-clause-only
returns-clause-only c = λ seed n f d h. (c.one_text_one_network.ensures (Generated seed n) demo_alg).one_network f (generated_file seed n) h (generated_means c.texts_have_one_spelling.ensures.is seed n d)

pub returns-clause-no_fault : goal.returns-clause-no_fault
returns-clause-no_fault c = λ seed n fault d h. (c.one_text_one_network.ensures (Generated seed n) demo_alg).not_both (generated_file seed n) fault (generated_means c.texts_have_one_spelling.ensures.is seed n d) h
