use Rattle.std.proofs.Common.{◌≡◌, ◌<◌, ◌||◌, ◌&&◌, ◌∙◌, ℕ, Some, ap, eqb, get_or, length, refl, rules, slice_get}
use Rattle.std.proofs.lemmas.Option.{slice_get_read}
use Rattle.alg_model.specs.Expressions.{keep}
use Rattle.net_graph.specs.Drafts.{net_with}
use Rattle.net_graph.specs.Lines.{arcs_with}
use Rattle.net_graph.specs.Nets.{PureArc, IsArcOf}
use Rattle.net_graph.proofs.CopyLemmas.{get_or_any}
use Rattle.net_graph.proofs.NetLemmas.{all_got, known_arc}
use Rattle.net_graph.proofs.draft.NetDraft.add_arc_like.Goals as goal

pub invariant_of-self-2 : goal.invariant_of-self-2
invariant_of-self-2 c =
    let known = c.self.inside.known in
    let tail = c.args.tail.0 in
    let head = c.args.head.0 in
    let arcs = c.self.inside.arcs in
    let net = net_with known arcs c.self.inside.origins.items in
    let none : PureArc = record { id = 0; tail = 0; head = 0; label = keep } in
    let arc : PureArc = get_or arcs c.args.like.0 none in
    let within : c.args.like.0 < length arcs = rw (← c.self.view_is) at c.requires.like in
    let read : slice_get arcs c.args.like.0 ≡ Some arc = slice_get_read arcs (length arcs) c.args.like.0 arc refl within (get_or_any arcs c.args.like.0 none arc within) in
    let is : IsArcOf net.alg (length net.nodes) arc = all_got (IsArcOf net.alg (length net.nodes)) arcs c.args.like.0 arc c.self.invariant.is_net.arcs_in read in
    let pushed : c.push_like.new.self ≡ arcs_with tail head arc.label arcs = search (rules, read) in
    rw pushed (known_arc net known.joins c.note.new.self known.origin_pairs tail head arc.label c.self.invariant
    (rw (← c.self.view_is) at c.requires.tail) (rw (← c.self.view_is) at c.requires.head) c.requires.apart (rw (← c.self.view_is) at c.requires.absent)
    is.label_in is.bound (rw (← c.self.view_is) at c.requires.room)
    (λ (i k : ℕ). c.note.ensures i k ∙ ap (λ b. b || (eqb tail i && eqb head k)) (c.in_ok-make_room.ensures.same i k)))
