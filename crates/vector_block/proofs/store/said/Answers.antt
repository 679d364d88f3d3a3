use Rattle.std.proofs.Common.{ℕ}
use Rattle.vector_block.specs.Stores.{IsReported}
use Rattle.vector_block.proofs.Stores.{lent_kept, report_read}
use Rattle.vector_block.proofs.store.said.Goals as goal

pub returns-in-Some-clause-kept : goal.returns-in-Some-clause-kept
returns-in-Some-clause-kept g c =
    let is_sig = g.A.Algebra.is_sig c.args._site.now.algebra.now in
    let net = c.args._site.now.net.now in
    let s = c.args.store.now in
    let r = c.index.result.now in
    let within = rw c.in-Some.is at c.requires.id in
    let is = c.requires.stored.reports c.in-Some.id.0 r (report_read s.reports.items c.in-Some.id r within c.index.ensures) in
    lent_kept (λ x. (node : ℕ) × IsReported is_sig net s.paths node x) c.as_ref.result r.route c.as_ref.ensures.value (λ x e. (r.node.0, is.route x e))
