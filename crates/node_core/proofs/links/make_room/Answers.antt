use Rattle.std.proofs.Common.{◌<◌, ◌∙◌, All, subst, take}
use Rattle.std.proofs.lemmas.List.{take_all}
use Rattle.std.proofs.lemmas.List.Elements.{All-more}
use Rattle.meta_base.specs.declared.ids.ArcId.{ArcId}
use Rattle.node_core.specs.Configs.{spare_on}
use Rattle.node_core.proofs.LinkLemmas.{room_stays}
use Rattle.node_core.proofs.links.make_room.Goals as goal

pub loop-arc-preserved : goal.loop-arc-preserved
loop-arc-preserved g c =
    let new = c.make_room_on.new.links.items in
    let arcs = c.args.arcs.now in
    let old : All (λ (arc : ArcId). 0 < spare_on new arc.0) (take c.loop-arc.arc-index arcs) = λ k d h. room_stays (c.loop-arc.invariant.room k d h) (c.make_room_on.ensures.spare _) in
    record {
      count = c.make_room_on.ensures.count ∙ c.loop-arc.invariant.count;
      kept = λ b. c.make_room_on.ensures.kept b ∙ c.loop-arc.invariant.kept b;
      room = All-more (λ (arc : ArcId). 0 < spare_on new arc.0) arcs c.loop-arc.arc-index _ c.loop-arc-test.true old c.in_ok-make_room_on.ensures.room;
    }

pub returns-clause-room : goal.returns-clause-room
returns-clause-room g c = subst (All (λ (arc : ArcId). 0 < spare_on c.loop-arc.links.items arc.0)) (take_all c.loop-arc.arc-index c.args.arcs.now c.loop-arc-test.false) c.loop-arc.invariant.room
