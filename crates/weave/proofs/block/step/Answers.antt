use Rattle.std.proofs.Common.{◌∙◌, map, ap, sym, length}
use Rattle.std.proofs.lemmas.List.{length-map}
use Rattle.node_core.specs.Configs.{noted}
use Rattle.weave.specs.Blocks.{view_of}
use Rattle.weave.proofs.Hearing.{all_sent}
use Rattle.weave.proofs.block.step.Goals as goal

pub returns-in_ok-send_all-clause-some : goal.returns-in_ok-send_all-clause-some
returns-in_ok-send_all-clause-some g c =
    let k = g.N.NodeCore in
    let heard = rw c.in-Some.is at c.in_ok-made.ensures.some in (
      c.in-Some.made,
      map (noted k.note) c.hear.new.out,
      length-map c.hear.new.out (noted k.note) ∙ ap length (sym c.as_slice-2.ensures),
      all_sent k.state k.note k.kind c.args.net.now c.hear.new.seats.items c.hear.new.lanes.items (view_of k.state k.note c.args.block.now) c.in-Some.made c.hear.new.out c.send_all.new.lanes.items heard c.in_ok-send_all.ensures,
    )
