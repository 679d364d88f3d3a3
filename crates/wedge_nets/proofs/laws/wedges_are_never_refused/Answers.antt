use Rattle.alg_model.specs.Verdicts.{fails}
use Rattle.wedge_nets.specs.Gadgets.{wedge_file}
use Rattle.wedge_nets.specs.GadgetTexts.{gadget_text}
use Rattle.wedge_nets.proofs.laws.wedges_are_never_refused.Goals as goal

pub returns-clause-only : goal.returns-clause-only
returns-clause-only c = λ alg x f a g short h.
    (c.one_text_one_network.ensures (gadget_text alg (fails x)) alg).one_network f (wedge_file alg x.label x.first) h (c.gadget_texts_are_networks.ensures.wedge alg x a g short)

pub returns-clause-no_fault : goal.returns-clause-no_fault
returns-clause-no_fault c = λ alg x fault a g short h.
    (c.one_text_one_network.ensures (gadget_text alg (fails x)) alg).not_both (wedge_file alg x.label x.first) fault (c.gadget_texts_are_networks.ensures.wedge alg x a g short) h
