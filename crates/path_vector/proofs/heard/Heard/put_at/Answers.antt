use Rattle.std.proofs.Common.{◌<◌, sym, subst, ◌∙◌}
use Rattle.path_vector.specs.Columns.{listened_to}
use Rattle.path_vector.proofs.Columns.{joined_length}
use Rattle.path_vector.proofs.Stores.{put_heard}
use Rattle.path_vector.proofs.heard.Heard.put_at.Goals as goal

pub index_mut-requires : goal.index_mut-requires
index_mut-requires g c =
    let h = c.self.inside in
    let many = joined_length listened_to h.dests h.neighbours.items h.routes.items in
    subst (λ z. c.args.place < z) (many ∙ sym h.neighbours.ok.0) (rw (← c.self.view_is) at c.requires)

pub returns : goal.returns
returns g c = λ n e.
    let h = c.self.inside in
    rw (← c.self.view_is) (put_heard h.dests h.neighbours.items h.routes.items c.args.place c.index_mut.result.now c.args.arc c.index_mut.ensures.value n (rw (← c.self.view_is) at e))
