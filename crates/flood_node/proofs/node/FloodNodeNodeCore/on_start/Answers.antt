use Rattle.std.proofs.Common.{◌≡◌, ◌∙◌, refl}
use Rattle.flood_node.proofs.node.FloodNodeNodeCore.on_start.Goals as goal

pub returns-clause-out : goal.returns-clause-out
returns-clause-out c =
    rw c.from_vec.ensures (c.in_ok-tell.ensures ∙ rw (c.in_ok-try_clone.ensures, c.in_ok-card.ensures.ok, c.in_ok-card_of.ensures, ← c.self.view_is) refl)
