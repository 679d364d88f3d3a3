use Rattle.std.proofs.Common.{◌≡◌, map, length, vec_len, arith, ◌∙◌, sym, subst}
use Rattle.std.proofs.lemmas.List.{length-map}
use Rattle.alg_model.specs.Views.{pure_label}
use Rattle.net_graph.specs.Groups.{items_at}
use Rattle.net_graph.specs.Kept.{HaveLabels}
use Rattle.net_graph.specs.declared.arcs.KeptArc.{KeptArc}
use Rattle.net_graph.proofs.FiledLemmas.{have_at}
use Rattle.net_graph.proofs.LabelLemmas.{labels_placed}
use Rattle.net_graph.proofs.net.Net.label_numbers.Goals as goal

pub new-requires : goal.new-requires
new-requires c =
    let inside = c.self.inside in
    let filed = c.self.invariant.filed in
    let out = inside.out in
    let spots = inside.arc_spots.items in
    let have = have_at (length (map pure_label inside.labels.items)) out spots (items_at out spots) filed.arc_spots filed.labelled in
    let count : vec_len inside.labels ≡ length (map pure_label inside.labels.items) = omega (arith, inside.labels.ok.0, length-map inside.labels.items pure_label) in
    rw (c.deref.ensures.value, c.len.ensures) record {
      stand = filed.arc_spots;
      labelled = subst (λ n. HaveLabels n (items_at out spots)) (sym count) have;
    }

pub returns : goal.returns
returns c =
    let inside = c.self.inside in
    let filed = c.self.invariant.filed in
    let out = inside.out in
    let spots = inside.arc_spots.items in
    let arcs = items_at out spots in
    let labels = map pure_label inside.labels.items in
    let have = have_at (length labels) out spots arcs filed.arc_spots filed.labelled in
    rw (← c.self.view_is, c.new.ensures, c.deref.ensures.value) record {
      count = length-map arcs (λ (a : KeptArc). a.label.0) ∙ sym (length-map arcs _);
      labels = labels;
      places = labels_placed labels arcs have;
    }
