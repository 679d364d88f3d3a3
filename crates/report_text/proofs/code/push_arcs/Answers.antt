use Rattle.std.proofs.Common.{arith, sym}
use Rattle.std.proofs.lemmas.Option.{get_or_from_slice_get}
use Rattle.std.specs.Prelude.{string_bytes}
use Rattle.net_graph.specs.Views.{pure_arc}
use Rattle.report_text.proofs.CodeLines.{arcs_more}
use Rattle.report_text.proofs.code.push_arcs.Goals as goal

pub loop-arc-preserved : goal.loop-arc-preserved
loop-arc-preserved c =
    let net = c.args.net.now in
    let out = string_bytes c.loop-arc.out in
    let next = string_bytes c.push_arc_code.new.out in
    let labels = c.args.labels.now in
    let code = c.code.result.now in
    let is = sym (get_or_from_slice_get labels c.loop-arc.arc code code c.code.ensures) in
    arcs_more c.args.alg.now.expression net labels c.loop-arc.arc (pure_arc c.arc.result) code out next _
    c.arc.ensures.arc (omega arith) is (omega arith) c.in_ok-push_arc_code.ensures c.loop-arc.invariant
