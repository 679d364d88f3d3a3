use Rattle.std.proofs.Common.{◌≡◌, length, arith, ◌∙◌}
use Rattle.path_vector.proofs.Stores.{entry_place, entry_replaced}
use Rattle.path_vector.proofs.heard.Heard.hear.Goals as goal

pub overflow_mul-at : goal.overflow_mul-at
overflow_mul-at g c =
    let h = c.self.inside in
    let place = entry_place h.dests h.neighbours.items h.routes c.self.invariant c.args.place c.args.dest (rw (← c.self.view_is) at c.requires) c.len.result (c.len.ensures ∙ h.neighbours.ok.0) in
    omega (arith, place.row_fits)

pub overflow_add-at : goal.overflow_add-at
overflow_add-at g c =
    let h = c.self.inside in
    let place = entry_place h.dests h.neighbours.items h.routes c.self.invariant c.args.place c.args.dest (rw (← c.self.view_is) at c.requires) c.len.result (c.len.ensures ∙ h.neighbours.ok.0) in
    omega (arith, place.fits)

pub index_mut-requires : goal.index_mut-requires
index_mut-requires g c =
    let h = c.self.inside in
    let place = entry_place h.dests h.neighbours.items h.routes c.self.invariant c.args.place c.args.dest (rw (← c.self.view_is) at c.requires) c.len.result (c.len.ensures ∙ h.neighbours.ok.0) in
    place.within

pub returns : goal.returns
returns g c = λ n e.
    let h = c.self.inside in
    let width : c.len.result ≡ length h.neighbours.items = c.len.ensures ∙ h.neighbours.ok.0 in
    let was = rw (width, ← c.replace.ensures.value) at c.index_mut.ensures.value in
    rw (← c.self.view_is, width, c.replace.ensures.after) (entry_replaced h.dests h.neighbours.items h.routes c.self.invariant c.args.place c.args.dest (rw (← c.self.view_is) at c.requires) c.args.route c.replace.result was n (rw (← c.self.view_is) at e))
