use Rattle.wedge_nets.proofs.Means.{short_gadget_means, long_gadget_means, yes_means}
use Rattle.wedge_nets.proofs.Wedges.{are_spelled}
use Rattle.wedge_nets.proofs.laws.gadget_texts_are_networks.Goals as goal

pub returns-clause-wedge : goal.returns-clause-wedge
returns-clause-wedge c = λ alg x a g short.
    short_gadget_means c.texts_have_one_spelling.ensures.is alg x a g
    (are_spelled c.labels_are_reported.ensures c.values_are_reported.ensures c.printed_labels_are_read_back.ensures c.printed_values_are_read_back.ensures alg x.label x.first a g.wedge.fits) short

pub returns-clause-long : goal.returns-clause-long
returns-clause-long c = long_gadget_means c.texts_have_one_spelling.ensures.is

pub returns-clause-yes : goal.returns-clause-yes
returns-clause-yes c = yes_means c.texts_have_one_spelling.ensures.is
