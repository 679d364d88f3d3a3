use Rattle.std.proofs.Common.{length, sym, ap, ◌∙◌}
use Rattle.path_vector.specs.Columns.{listened_to}
use Rattle.path_vector.proofs.Columns.{joined_length}
use Rattle.path_vector.proofs.heard.Heard.count.Goals as goal

pub returns : goal.returns
returns g c =
    let h = c.self.inside in
    c.len.ensures ∙ h.neighbours.ok.0 ∙ sym (joined_length listened_to h.dests h.neighbours.items h.routes.items) ∙ ap length c.self.view_is
