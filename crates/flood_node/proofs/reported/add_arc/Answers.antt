use Rattle.std.proofs.Common.{◌≡◌, ◌==◌, true, false, length, map, slice_get, Some, sym, ap, ◌∙◌, arith}
use Rattle.std.proofs.lemmas.Bool.Decides.{nat_tests}
use Rattle.std.proofs.lemmas.Result.{on_ok_weaker}
use Rattle.alg_model.specs.Views.{pure_label}
use Rattle.net_graph.specs.ArcLaws.{all_at, of_some}
use Rattle.net_graph.specs.Nets.{PureArc, PureNet, IsArcOf, arcs_from}
use Rattle.flood_node.specs.Cards.{PureCard, PureCardArc, card_arc}
use Rattle.flood_node.specs.Views.{pure_card_arc}
use Rattle.flood_node.proofs.OwnCards.{arc_on_card}
use Rattle.flood_node.proofs.ReportedNets.{arc_added}
use Rattle.flood_node.proofs.reported.add_arc.Goals as goal

pub add_arc-requires-clause-head : goal.add_arc-requires-clause-head
add_arc-requires-clause-head c =
    let net = c.args.net.now in
    let a = c.requires.arc.0 in
    let there = c.requires.arc.1 in
    let place = of_some (λ (x : PureArc). slice_get (arcs_from net x.tail) c.place_of.result ≡ Some x) (slice_get net.arcs c.args.id.0) a c.place_of.ensures there in
    let whole = ap (map pure_card_arc) c.as_slice.ensures ∙ ap (λ (x : PureCard). x.arcs) c.requires.arc.2 in
    let is : pure_card_arc c.index-as_slice-place_of.result ≡ card_arc a = arc_on_card pure_card_arc c.as_slice.result.now (arcs_from net a.tail) c.place_of.result a c.index-as_slice-place_of.result whole place c.index-as_slice-place_of.is in
    let of = all_at (IsArcOf net.alg (length net.nodes)) net.arcs c.args.id.0 a c.requires.net.arcs_in there in
    let head : c.index-as_slice-place_of.result.head.0 ≡ a.head = ap (λ (x : PureCardArc). x.head) is in
    let nodes = ap (λ (n : PureNet). length n.nodes) c.requires.draft in
    let within = of.head_in in
    omega (arith, head, nodes, within)

pub add_arc-requires-clause-apart : goal.add_arc-requires-clause-apart
add_arc-requires-clause-apart c = λ e.
    let net = c.args.net.now in
    let a = c.requires.arc.0 in
    let there = c.requires.arc.1 in
    let place = of_some (λ (x : PureArc). slice_get (arcs_from net x.tail) c.place_of.result ≡ Some x) (slice_get net.arcs c.args.id.0) a c.place_of.ensures there in
    let whole = ap (map pure_card_arc) c.as_slice.ensures ∙ ap (λ (x : PureCard). x.arcs) c.requires.arc.2 in
    let is : pure_card_arc c.index-as_slice-place_of.result ≡ card_arc a = arc_on_card pure_card_arc c.as_slice.result.now (arcs_from net a.tail) c.place_of.result a c.index-as_slice-place_of.result whole place c.index-as_slice-place_of.is in
    let of = all_at (IsArcOf net.alg (length net.nodes)) net.arcs c.args.id.0 a c.requires.net.arcs_in there in
    let head : c.index-as_slice-place_of.result.head.0 ≡ a.head = ap (λ (x : PureCardArc). x.head) is in
    let tail : c.args.card.now.node.0 ≡ a.tail = ap (λ (x : PureCard). x.node) c.requires.arc.2 in
    let same : a.tail ≡ a.head = sym tail ∙ (e ∙ head) in
    let apart : (a.tail == a.head) ≡ false = of.apart in
    let test : (a.tail == a.head) ≡ true = grind (arith, nat_tests) in
    let clash : true ≡ false = sym test ∙ apart in
    cc

pub add_arc-requires-clause-absent : goal.add_arc-requires-clause-absent
add_arc-requires-clause-absent c =
    let net = c.args.net.now in
    let a = c.requires.arc.0 in
    let there = c.requires.arc.1 in
    let place = of_some (λ (x : PureArc). slice_get (arcs_from net x.tail) c.place_of.result ≡ Some x) (slice_get net.arcs c.args.id.0) a c.place_of.ensures there in
    let whole = ap (map pure_card_arc) c.as_slice.ensures ∙ ap (λ (x : PureCard). x.arcs) c.requires.arc.2 in
    let is : pure_card_arc c.index-as_slice-place_of.result ≡ card_arc a = arc_on_card pure_card_arc c.as_slice.result.now (arcs_from net a.tail) c.place_of.result a c.index-as_slice-place_of.result whole place c.index-as_slice-place_of.is in
    let head : c.index-as_slice-place_of.result.head.0 ≡ a.head = ap (λ (x : PureCardArc). x.head) is in
    let tail : c.args.card.now.node.0 ≡ a.tail = ap (λ (x : PureCard). x.node) c.requires.arc.2 in
    rw (tail, head) c.requires.arc.3

pub add_arc-requires-clause-label : goal.add_arc-requires-clause-label
add_arc-requires-clause-label c =
    let net = c.args.net.now in
    let a = c.requires.arc.0 in
    let there = c.requires.arc.1 in
    let place = of_some (λ (x : PureArc). slice_get (arcs_from net x.tail) c.place_of.result ≡ Some x) (slice_get net.arcs c.args.id.0) a c.place_of.ensures there in
    let whole = ap (map pure_card_arc) c.as_slice.ensures ∙ ap (λ (x : PureCard). x.arcs) c.requires.arc.2 in
    let is : pure_card_arc c.index-as_slice-place_of.result ≡ card_arc a = arc_on_card pure_card_arc c.as_slice.result.now (arcs_from net a.tail) c.place_of.result a c.index-as_slice-place_of.result whole place c.index-as_slice-place_of.is in
    let of = all_at (IsArcOf net.alg (length net.nodes)) net.arcs c.args.id.0 a c.requires.net.arcs_in there in
    let label : pure_label c.in_ok-label.label ≡ a.label = c.in_ok-label.ensures ∙ ap (λ (x : PureCardArc). x.label) is in
    let alg = ap (λ (n : PureNet). n.alg) c.requires.draft in
    rw (alg, label) of.label_in

pub add_arc-requires-clause-small : goal.add_arc-requires-clause-small
add_arc-requires-clause-small c =
    let net = c.args.net.now in
    let a = c.requires.arc.0 in
    let there = c.requires.arc.1 in
    let place = of_some (λ (x : PureArc). slice_get (arcs_from net x.tail) c.place_of.result ≡ Some x) (slice_get net.arcs c.args.id.0) a c.place_of.ensures there in
    let whole = ap (map pure_card_arc) c.as_slice.ensures ∙ ap (λ (x : PureCard). x.arcs) c.requires.arc.2 in
    let is : pure_card_arc c.index-as_slice-place_of.result ≡ card_arc a = arc_on_card pure_card_arc c.as_slice.result.now (arcs_from net a.tail) c.place_of.result a c.index-as_slice-place_of.result whole place c.index-as_slice-place_of.is in
    let of = all_at (IsArcOf net.alg (length net.nodes)) net.arcs c.args.id.0 a c.requires.net.arcs_in there in
    let label : pure_label c.in_ok-label.label ≡ a.label = c.in_ok-label.ensures ∙ ap (λ (x : PureCardArc). x.label) is in
    let alg = ap (λ (n : PureNet). n.alg) c.requires.draft in
    rw (alg, label) of.bound

pub returns : goal.returns
returns c =
    let net = c.args.net.now in
    let a = c.requires.arc.0 in
    let there = c.requires.arc.1 in
    let place = of_some (λ (x : PureArc). slice_get (arcs_from net x.tail) c.place_of.result ≡ Some x) (slice_get net.arcs c.args.id.0) a c.place_of.ensures there in
    let whole = ap (map pure_card_arc) c.as_slice.ensures ∙ ap (λ (x : PureCard). x.arcs) c.requires.arc.2 in
    let is : pure_card_arc c.index-as_slice-place_of.result ≡ card_arc a = arc_on_card pure_card_arc c.as_slice.result.now (arcs_from net a.tail) c.place_of.result a c.index-as_slice-place_of.result whole place c.index-as_slice-place_of.is in
    let head : c.index-as_slice-place_of.result.head.0 ≡ a.head = ap (λ (x : PureCardArc). x.head) is in
    let tail : c.args.card.now.node.0 ≡ a.tail = ap (λ (x : PureCard). x.node) c.requires.arc.2 in
    let label : pure_label c.in_ok-label.label ≡ a.label = c.in_ok-label.ensures ∙ ap (λ (x : PureCardArc). x.label) is in
    on_ok_weaker c.add_arc.result (λ made. rw there (arc_added c.args.draft.now c.add_arc.new.self a c.args.card.now.node.0 c.index-as_slice-place_of.result.head.0 (pure_label c.in_ok-label.label) tail head label made)) c.add_arc.ensures.ok
