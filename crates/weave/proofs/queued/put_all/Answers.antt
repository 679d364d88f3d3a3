use Rattle.std.proofs.Common.{◌++◌, ◌∷◌, [], sym, ap, ◌∙◌, append_assoc}
use Rattle.weave.proofs.queued.put_all.Goals as goal

pub loop-sent-init : goal.loop-sent-init
loop-sent-init g c = ap (λ l. c.args.queue.now.items ++ l) (c.from_vec-left.ensures.items ∙ (c.into_vec.ensures ∙ c.replace.ensures.value))

pub loop-sent-preserved : goal.loop-sent-preserved
loop-sent-preserved g c =
    let before = c.loop-sent.invariant in
    ap (λ l. l ++ c.pop_front.new.self.items) c.in_ok-push_back.ensures.items ∙ (append_assoc c.loop-sent.queue.items (c.in-Some.sent ∷ []) c.pop_front.new.self.items ∙ (ap (λ l. c.loop-sent.queue.items ++ l) (sym c.in-Some.ensures.items) ∙ before))
