use Rattle.std.proofs.Common.{◌<◌, ap, get_or, length, ◌∙◌}
use Rattle.std.proofs.lemmas.Result.{err_from_is_err_and}
use Rattle.meta_base.specs.declared.ids.Delivery.{Delivery}
use Rattle.trace_lines.specs.DeliveryLines.{delivery_text}
use Rattle.metacli.proofs.Written.{deliveries_at, delivery_at, lines_begin, lines_cut, lines_more}
use Rattle.metacli.proofs.phases.put_deliveries.Goals as goal

pub returns-in_err-lines : goal.returns-in_err-lines
returns-in_err-lines g c =
    let p = err_from_is_err_and c.from_residual.result c.from_residual.ensures.1 in
    rw (p.1, p.2) (_, lines_begin _ _)

pub write-requires : goal.write-requires
write-requires g c =
    rw c.loop-delivery.invariant.1 (delivery_at (λ (d : Delivery). d.arc.0 < length c.args.net.now.arcs) c.args.journal.now c.loop-delivery.delivery-index record { clock = 0; arc = record { 0 = 0 } } c.loop-delivery-test.true c.requires)

pub returns-in_err-write : goal.returns-in_err-write
returns-in_err-write g c =
    let p = err_from_is_err_and c.from_residual-in_err-write.result c.from_residual-in_err-write.ensures.1 in
    rw (p.1, p.2) (_, c.loop-delivery.invariant.0)

pub returns-in_err-put_all : goal.returns-in_err-put_all
returns-in_err-put_all g c =
    let lines = deliveries_at c.args.net.now c.args.journal.now c.loop-delivery.delivery-index record { clock = 0; arc = record { 0 = 0 } } c.loop-delivery-test.true in
    let line = c.line.ensures ∙ c.in_ok-write.ensures.line ∙ ap (λ n. delivery_text n (get_or c.args.journal.now c.loop-delivery.delivery-index record { clock = 0; arc = record { 0 = 0 } })) c.loop-delivery.invariant.1 in
    let p = err_from_is_err_and c.from_residual-in_err-put_all.result c.from_residual-in_err-put_all.ensures.1 in
    rw (p.1, p.2) (lines_cut _ _ _ _ _ _ (rw lines at c.loop-delivery.invariant.0) (rw line at c.in_err-put_all.ensures))

pub loop-delivery-preserved : goal.loop-delivery-preserved
loop-delivery-preserved g c =
    let lines = deliveries_at c.args.net.now c.args.journal.now c.loop-delivery.delivery-index record { clock = 0; arc = record { 0 = 0 } } c.loop-delivery-test.true in
    let line = c.line.ensures ∙ c.in_ok-write.ensures.line ∙ ap (λ n. delivery_text n (get_or c.args.journal.now c.loop-delivery.delivery-index record { clock = 0; arc = record { 0 = 0 } })) c.loop-delivery.invariant.1 in
    (lines_more _ _ _ _ _ _ (rw lines at c.loop-delivery.invariant.0) (rw line at c.in_ok-put_all.ensures), c.write.ensures.net ∙ c.loop-delivery.invariant.1)
