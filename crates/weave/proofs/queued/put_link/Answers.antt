use Rattle.std.proofs.Common.{◌++◌, ◌∷◌, [], map, sym, ap, ◌∙◌, append_assoc}
use Rattle.weave.specs.Queued.{on_its_arc}
use Rattle.weave.proofs.queued.put_link.Goals as goal

pub loop-message-preserved : goal.loop-message-preserved
loop-message-preserved g c =
    let before = c.loop-message.invariant in
    let put = map (on_its_arc c.args.arc.0) in
    ap (λ l. l ++ put c.pop_front.new.self.items) c.in_ok-push_back.ensures.items ∙ (append_assoc c.loop-message.queue.items (on_its_arc c.args.arc.0 c.in-Some.message ∷ []) (put c.pop_front.new.self.items)
    ∙ (ap (λ l. c.loop-message.queue.items ++ put l) (sym c.in-Some.ensures.items) ∙ before))
