use Rattle.std.proofs.Common.{◌≡◌, Some, ap, eqb, get_or, option_map, refl, slice_get, sym, true, false, arith}
use Rattle.std.proofs.lemmas.Bool.Decides.{nat_tests}
use Rattle.std.proofs.lemmas.Option.{slice_get_read}
use Rattle.net_graph.specs.declared.arcs.KeptArc.{KeptArc}
use Rattle.net_graph.proofs.BetweenLemmas.{find_first, find_none}
use Rattle.net_graph.proofs.CopyLemmas.{get_or_any}
use Rattle.net_graph.proofs.KeptLemmas.{no_arc}
use Rattle.net_graph.proofs.arcs.id_to.Goals as goal

pub returns-then-arc-head : goal.returns-then-arc-head
returns-then-arc-head c =
    let arcs = c.args.arcs.now in
    let i = c.loop-arc.arc-index in
    let arc : KeptArc = get_or arcs i no_arc in
    let read : slice_get arcs i ≡ Some arc = slice_get_read arcs _ i arc refl c.loop-arc-test.true (get_or_any arcs i no_arc arc c.loop-arc-test.true) in
    let goes : eqb arc.head.0 c.args.head.0 ≡ true = let same = c.if-arc-head.true in grind (arith, nat_tests) in
    ap (option_map (λ (a : KeptArc). a.id)) (sym (find_first (λ (a : KeptArc). eqb a.head.0 c.args.head.0) arcs i arc c.loop-arc.invariant read goes))

pub loop-arc-preserved : goal.loop-arc-preserved
loop-arc-preserved c =
    let arcs = c.args.arcs.now in
    let i = c.loop-arc.arc-index in
    let arc : KeptArc = get_or arcs i no_arc in
    let read : slice_get arcs i ≡ Some arc = slice_get_read arcs _ i arc refl c.loop-arc-test.true (get_or_any arcs i no_arc arc c.loop-arc-test.true) in
    let apart : eqb arc.head.0 c.args.head.0 ≡ false = let differ = c.if-arc-head.false in grind (arith, nat_tests) in
    find_none (λ (a : KeptArc). eqb a.head.0 c.args.head.0) arcs i arc c.loop-arc.invariant read apart
