use Rattle.std.proofs.Common.{◌∙◌, IfSome}
use Rattle.meta_base.specs.declared.ids.ArcId.{ArcId}
use Rattle.topology_file.specs.KnownTexts.{IsSpelledBy}
use Rattle.topology_file.proofs.KnownNames.{noted_more}
use Rattle.topology_file.proofs.SpelledLabels.{found_text}
use Rattle.topology_file.proofs.known.KnownTexts.look_up.Goals as goal

pub returns-clause-arc : goal.returns-clause-arc
returns-clause-arc c net k =
    let found = found_text net c.args.self.now.arcs.entries c.text.result.now c.copied.result k.arcs (c.copied.ensures ∙ c.get.ensures.value) in
    rw (c.in_ok-arc.was, c.text.ensures) at found

pub returns-clause-known : goal.returns-clause-known
returns-clause-known c net k =
    let found = found_text net c.args.self.now.arcs.entries c.text.result.now c.copied.result k.arcs (c.copied.ensures ∙ c.get.ensures.value) in
    let spelled : IsSpelledBy net c.args.text.now c.in_ok-arc.arc.0 = rw (c.in_ok-arc.was, c.text.ensures) at found in
    record {
      arcs = k.arcs;
      labels = noted_more (λ text (arc : ArcId). IsSpelledBy net text arc.0) c.args.self.now.labels.spots.items c.note.new.self.spots.items c.copy.result c.in_ok-arc.arc k.labels (rw c.copy.ensures spelled) c.note.ensures;
      nodes = k.nodes;
    }
