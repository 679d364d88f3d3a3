use Rattle.std.proofs.Common.{◌||◌, ◌&&◌, ◌∙◌, ℕ, ap, eqb}
use Rattle.alg_model.specs.Views.{pure_label}
use Rattle.net_graph.specs.Drafts.{net_with}
use Rattle.net_graph.proofs.NetLemmas.{known_arc}
use Rattle.net_graph.proofs.draft.NetDraft.add_arc.Goals as goal

pub invariant_of-self-2 : goal.invariant_of-self-2
invariant_of-self-2 c =
    let known = c.self.inside.known in
    let tail = c.args.tail.0 in
    let head = c.args.head.0 in
    rw c.in_ok-push.ensures.ok (known_arc (net_with known c.self.inside.arcs c.self.inside.origins.items) known.joins c.note.new.self known.origin_pairs tail head (pure_label c.args.label) c.self.invariant
    (rw (← c.self.view_is) at c.requires.tail) (rw (← c.self.view_is) at c.requires.head) c.requires.apart (rw (← c.self.view_is) at c.requires.absent)
    (rw (← c.self.view_is) at c.requires.label) (rw (← c.self.view_is) at c.requires.small) (rw (← c.self.view_is) at c.requires.room)
    (λ (i k : ℕ). c.note.ensures i k ∙ ap (λ b. b || (eqb tail i && eqb head k)) (c.in_ok-make_room.ensures.same i k)))
