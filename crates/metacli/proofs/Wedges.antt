-- The printed text of a verdict on monotone shows its wedge.
use Rattle.std.proofs.Common.{◌≡◌, true}
use Rattle.alg_model.specs.Expressions.{PureAlg}
use Rattle.alg_model.specs.Formation.{IsAlg}
use Rattle.alg_model.specs.Verdicts.{PureInstance, PureVerdict, holds, fails}
use Rattle.topology_file.specs.NetText.{NetText}
use Rattle.wedge_nets.specs.Gadgets.{HasGadget, IsGadget, wedge_file}
use Rattle.wedge_nets.specs.GadgetTexts.{are_short, gadget_lines, gadget_text}
use Rattle.metacli.specs.Outcome.{ShowsWedge}

pub shows_wedge : (a : PureAlg) (v : PureVerdict)
    → ((alg : PureAlg) (x : PureInstance) → IsAlg alg → IsGadget alg x → are_short (gadget_lines alg.expression x) ≡ true → NetText (gadget_text alg (fails x)) alg (wedge_file alg x.label x.first))
    → IsAlg a → HasGadget a v → ShowsWedge a v
shows_wedge a holds law is h = tt
shows_wedge a (fails x) law is h = λ short. law a x is h short
