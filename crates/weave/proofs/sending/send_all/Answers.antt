use Rattle.std.proofs.Common.{◌++◌, ◌∷◌, [], slice_get, sym, ap, ◌∙◌}
use Rattle.std.proofs.lemmas.List.{append_assoc}
use Rattle.meta_base.specs.declared.ids.ArcId.{ArcId}
use Rattle.weave.specs.Lanes.{lane_in}
use Rattle.weave.proofs.Passing.{passed_same}
use Rattle.weave.proofs.Places.{put_more}
use Rattle.weave.proofs.sending.send_all.Goals as goal

pub loop-arc-init : goal.loop-arc-init
loop-arc-init g c = ([], c.from_vec-left.ensures.items ∙ (c.into_vec.ensures ∙ c.replace.ensures.value), λ b. passed_same (lane_in (slice_get c.args.lanes.now.items b)))

pub loop-arc-preserved : goal.loop-arc-preserved
loop-arc-preserved g c =
    let before = c.loop-arc.invariant in
    let next : ArcId × g.row.M.Denot = (c.in-Some.arc, c.in-Some.message) in (
      before.0 ++ next ∷ [],
      append_assoc before.0 (next ∷ []) c.pop_front.new.self.items ∙ (ap (λ l. before.0 ++ l) (sym c.in-Some.ensures.items) ∙ before.1),
      λ b. put_more b before.0 next (lane_in (slice_get c.args.lanes.now.items b)) (lane_in (slice_get c.loop-arc.lanes.items b)) (lane_in (slice_get c.send_one.new.lanes.items b)) (before.2 b) (c.in_ok-send_one.ensures b),
    )
