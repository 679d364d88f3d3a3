use Rattle.std.proofs.Common.{◌∙◌, ap, cond, slice_get, vec_len}
use Rattle.std.specs.Prelude.{◌==◌}
use Rattle.std.proofs.lemmas.Option.{slice_get_read}
use Rattle.weave.specs.Lanes.{lane_in, lane_of}
use Rattle.weave.proofs.Changing.{found_set}
use Rattle.weave.proofs.replacing.replace_in.Goals as goal

pub returns-clause-now : goal.returns-clause-now
returns-clause-now g c a =
    let lanes = c.make_place.new.lanes in
    let arc = c.args.arc.0 in
    let before = slice_get_read lanes.items (vec_len lanes) arc c.index_mut.result.now lanes.ok.0 c.in_ok-make_place.ensures.place c.index_mut.ensures.value in
    found_set lane_in lanes.items arc c.replace.new.dest c.index_mut.result.now before a
    ∙ (ap (λ l. cond (a == arc) (lane_of l) (lane_in (slice_get lanes.items a))) c.replace.ensures.after
    ∙ ap (λ l. cond (a == arc) (lane_of c.args.lane) l) (c.in_ok-make_place.ensures.same a))
