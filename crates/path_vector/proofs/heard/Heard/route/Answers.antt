use Rattle.std.proofs.Common.{◌≡◌, length, arith, ◌∙◌}
use Rattle.path_vector.proofs.Stores.{entry_place, entry_heard}
use Rattle.path_vector.proofs.heard.Heard.route.Goals as goal

pub overflow_mul-dest : goal.overflow_mul-dest
overflow_mul-dest g c =
    let h = c.self.inside in
    let place = entry_place h.dests h.neighbours.items h.routes c.self.invariant c.args.place c.args.dest (rw (← c.self.view_is) at c.requires) c.len.result (c.len.ensures ∙ h.neighbours.ok.0) in
    omega (arith, place.row_fits)

pub overflow_add-dest : goal.overflow_add-dest
overflow_add-dest g c =
    let h = c.self.inside in
    let place = entry_place h.dests h.neighbours.items h.routes c.self.invariant c.args.place c.args.dest (rw (← c.self.view_is) at c.requires) c.len.result (c.len.ensures ∙ h.neighbours.ok.0) in
    omega (arith, place.fits)

pub index-requires : goal.index-requires
index-requires g c =
    let h = c.self.inside in
    let place = entry_place h.dests h.neighbours.items h.routes c.self.invariant c.args.place c.args.dest (rw (← c.self.view_is) at c.requires) c.len.result (c.len.ensures ∙ h.neighbours.ok.0) in
    place.within

pub returns : goal.returns
returns g c = λ n e.
    let h = c.self.inside in
    let width : c.len.result ≡ length h.neighbours.items = c.len.ensures ∙ h.neighbours.ok.0 in
    entry_heard h.dests h.neighbours.items h.routes c.self.invariant c.args.place c.args.dest (rw (← c.self.view_is) at c.requires) c.index.result.now (rw width at c.index.ensures) n (rw (← c.self.view_is) at e)
