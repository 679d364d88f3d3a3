use Rattle.std.proofs.Common.{◌++◌, ◌∷◌, [], map, sym, ap, ◌∙◌, append_assoc}
use Rattle.weave.specs.Queued.{fresh_seat}
use Rattle.weave.proofs.queued.seats_of.Goals as goal

pub loop-node-preserved : goal.loop-node-preserved
loop-node-preserved g c =
    let before = c.loop-node.invariant in
    ap (λ l. l ++ map fresh_seat c.pop_front.new.self.items) (c.in_ok-push.ensures.items ∙ ap (λ l. c.loop-node.seats.items ++ record { node = c.in-Some.node; clock = 0; log = l } ∷ []) c.new.ensures) ∙ (append_assoc c.loop-node.seats.items (fresh_seat c.in-Some.node ∷ []) (map fresh_seat c.pop_front.new.self.items)
    ∙ (ap (λ l. c.loop-node.seats.items ++ map fresh_seat l) (sym c.in-Some.ensures.items) ∙ before))
