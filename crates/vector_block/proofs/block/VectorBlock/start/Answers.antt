use Rattle.std.proofs.Common.{◌≡◌, ℕ, ◌<◌, length, map, replicate, sym, ap, ◌∙◌, subst}
use Rattle.std.proofs.lemmas.List.{length-replicate}
use Rattle.std.specs.List.{AllByRecursion}
use Rattle.meta_base.specs.declared.ids.Delivery.{Delivery}
use Rattle.journal_merge.specs.Merging.{entries_of}
use Rattle.journal_merge.specs.Timing.{tagged_of}
use Rattle.path_vector.specs.Coherent.{IsCoherent}
use Rattle.path_vector.specs.Node.{choice}
use Rattle.vector_block.specs.Blocks.{block_machine}
use Rattle.vector_block.specs.Hearings.{heard_at}
use Rattle.vector_block.specs.Stores.{PureStore}
use Rattle.vector_block.proofs.Begun.{begun_chosen, begun_coherent, begun_machine}
use Rattle.vector_block.proofs.Views.{machine_view}
use Rattle.vector_block.proofs.block.VectorBlock.start.Goals as goal

pub invariant_of-result : goal.invariant_of-result
invariant_of-result g c =
    let net = c.args.net.now in
    let begun = c.in_ok-store.ensures.begun in
    let is_net = c.node_count.ensures.net in
    let zeros : c.in_ok-clocks.clocks.items ≡ replicate c.node_count.result 0 = c.in_ok-clocks.ensures.items_if_clones_equal (λ y h. h) in
    let clocks : c.in_ok-clocks.clocks.items ≡ replicate (length net.nodes) 0 = zeros ∙ ap (λ k. replicate k 0) c.node_count.ensures.count in
    record {
      algebra = c.requires.algebra;
      is_net = is_net;
      listeners_are = c.requires.listeners;
      speakers_are = c.requires.speakers;
      stored = c.in_ok-store.ensures.stored;
      clock_count = ap length clocks ∙ length-replicate (length net.nodes) 0;
      logged = subst (λ l. AllByRecursion (λ (t : ℕ × Delivery). t.0 < length net.nodes) (map tagged_of l)) (sym c.in_ok-log.ensures.items) tt;
      chosen = subst (λ (s : PureStore). (i dest : ℕ) → i < length net.nodes → s.rows i dest ≡ choice net dest i (heard_at net s i)) (sym begun) (λ i dest l. begun_chosen net is_net i dest);
      coherent = subst (λ (s : PureStore). IsCoherent net (block_machine net s c.in_ok-clocks.clocks.items 0 0)) (sym begun) (begun_coherent net is_net c.in_ok-clocks.clocks.items clocks);
    }

pub returns-clause-machine : goal.returns-clause-machine
returns-clause-machine g c =
    let net = c.args.net.now in
    let value = g.A.Algebra.sig_value c.args.algebra.now in
    let is_net = c.node_count.ensures.net in
    let zeros : c.in_ok-clocks.clocks.items ≡ replicate c.node_count.result 0 = c.in_ok-clocks.ensures.items_if_clones_equal (λ y h. h) in
    let clocks : c.in_ok-clocks.clocks.items ≡ replicate (length net.nodes) 0 = zeros ∙ ap (λ k. replicate k 0) c.node_count.ensures.count in
    machine_view value net c.in_ok-store.store c.in_ok-clocks.clocks.items (map tagged_of c.in_ok-log.log.items) 0 0
    ∙ (ap (λ s. block_machine net s c.in_ok-clocks.clocks.items 0 0) c.in_ok-store.ensures.begun ∙ begun_machine net is_net c.in_ok-clocks.clocks.items clocks)

pub returns-clause-logs : goal.returns-clause-logs
returns-clause-logs g c = λ i. ap (λ l. entries_of i (map tagged_of l)) c.in_ok-log.ensures.items
