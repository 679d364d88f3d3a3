use Rattle.std.proofs.Common.{◌≡◌, ℕ, Option, IfSome, length, option_map, sym, ◌∙◌, arith}
use Rattle.net_graph.specs.Tables.{value_at}
use Rattle.net_graph.specs.Views.{rows_of}
use Rattle.arc_labels.specs.Growing.{each_more}
use Rattle.report_check.proofs.Forms.{are_sigs, value_past, value_there}
use Rattle.report_check.proofs.compiled.sigs_of_rows.Goals as goal

pub sig_of_value-requires : goal.sig_of_value-requires
sig_of_value-requires g c =
    let rows = c.as_slice-rows.result.now in
    let k = c.loop-row.row-index in
    let there = value_there rows k c.row-item.result c.loop-row-test.true c.row-item.is in
    rw (c.value_of_row.ensures, ← there, c.as_slice-rows.ensures) (c.requires k)

pub loop-row-preserved : goal.loop-row-preserved
loop-row-preserved g c =
    let done = c.loop-row.sigs.items in
    let rows = c.as_slice-rows.result.now in
    let k = c.loop-row.row-index in
    let is_sig = g.A.Algebra.is_sig c.args.algebra.now in
    let sig_value = g.A.Algebra.sig_value c.args.algebra.now in
    let sig = c.in_ok-sig_of_value.field-0 in
    let place : k ≡ length done = let e = c.loop-row.invariant.count in omega arith in
    let there = rw c.as_slice-rows.ensures at (value_there rows k c.row-item.result c.loop-row-test.true c.row-item.is) in
    let P = λ (n : ℕ) (o : Option g.row.A-Sig.Denot). IfSome o is_sig × (option_map sig_value o ≡ value_at (rows_of c.args.table.now) n) in
    let here : P k sig = (c.in_ok-sig_of_value.ensures.sig, c.in_ok-sig_of_value.ensures.value ∙ (c.value_of_row.ensures ∙ sym there)) in
    record {
      count = omega (arith, c.in_ok-push.ensures.len, c.loop-row.invariant.count);
      each = rw c.in_ok-push.ensures.items (each_more P done sig (rw place at here) c.loop-row.invariant.each);
    }

pub returns : goal.returns
returns g c =
    let rows = c.as_slice-rows.result.now in
    are_sigs (g.A.Algebra.is_sig c.args.algebra.now) (g.A.Algebra.sig_value c.args.algebra.now) (value_at (rows_of c.args.table.now)) c.loop-row.sigs.items c.loop-row.invariant.each
    (λ k past. rw c.as_slice-rows.ensures at (value_past rows k (omega (arith, past, c.loop-row-test.false, c.loop-row.invariant.count))))
