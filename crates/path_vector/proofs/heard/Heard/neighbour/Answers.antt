use Rattle.std.proofs.Common.{◌≡◌, ◌<◌, sym, ap, subst, ◌∙◌}
use Rattle.std.proofs.lemmas.Option.{get_or_from_slice_get}
use Rattle.path_vector.specs.Columns.{listened_to}
use Rattle.path_vector.specs.Known.{Listened}
use Rattle.path_vector.proofs.Columns.{joined_from_at, joined_length}
use Rattle.path_vector.proofs.heard.Heard.neighbour.Goals as goal

pub index-requires : goal.index-requires
index-requires g c =
    let h = c.self.inside in
    let many = joined_length listened_to h.dests h.neighbours.items h.routes.items in
    subst (λ z. c.args.place < z) (many ∙ sym h.neighbours.ok.0) (rw (← c.self.view_is) at c.requires)

pub returns : goal.returns
returns g c = λ n e.
    let h = c.self.inside in
    let there = joined_from_at listened_to h.dests h.neighbours.items h.routes.items c.args.place n (rw (← c.self.view_is) at e) in
    let same : c.index.result.now ≡ there.0 = c.index.ensures ∙ get_or_from_slice_get h.neighbours.items c.args.place there.0 _ there.1 in (
      ap (λ z. z.arc) same ∙ ap (λ (z : Listened _ _). z.arc) (sym there.2),
      ap (λ z. z.label) same ∙ ap (λ (z : Listened _ _). z.label) (sym there.2),
    )
