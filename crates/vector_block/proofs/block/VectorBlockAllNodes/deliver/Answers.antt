use Rattle.std.proofs.Common.{◌≡◌, ◌<◌, ◌+◌, ℕ, ◌∷◌, ◌++◌, [], Ok, length, map, cond, sym, ap, ◌∙◌, subst, arith}
use Rattle.std.proofs.Math.ListN.{set}
use Rattle.std.proofs.Common.{length-set}
use Rattle.journal_merge.specs.Timing.{tagged_of}
use Rattle.meta_base.specs.declared.errors.NoMemory.{NoMemory}
use Rattle.net_graph.specs.Nets.{arcs_to}
use Rattle.path_vector.specs.Coherent.{IsCoherent}
use Rattle.path_vector.specs.Node.{choice, path_vector}
use Rattle.woven_laws.specs.Delivered.{HasDelivered}
use Rattle.vector_block.specs.Blocks.{PureBlock, block_machine, log_of, machine_of}
use Rattle.vector_block.specs.Hearings.{HasRechosen, heard_at}
use Rattle.vector_block.specs.Stores.{PureStore, pure_store}
use Rattle.vector_block.proofs.Delivering.{begins_new, can_deliver, dest_in, heard_back, heard_new, is_arc, is_hearing, known_new, out, passed_fits, rechosen_new, sent_count, settles_new, stays_chosen, stays_coherent, store_is, within}
use Rattle.vector_block.proofs.Views.{delivery_view, is_early, log_more, logged_one, pure_block}
use Rattle.vector_block.proofs.block.VectorBlockAllNodes.deliver.Goals as goal
use Rattle.vector_block.proofs.block.VectorBlockAllNodes.deliver.Goals.{then-is_changed, else-is_changed}

pub hear-earlier-requires-clause-dest : goal.hear-earlier-requires-clause-dest
hear-earlier-requires-clause-dest g c =
    let A = g.A.Algebra in
    let self = c.self.inside in
    let b = c.self.invariant in
    let value = A.sig_value self.site.algebra.now in
    let h = c.next_hearing.result.hearing in
    let next = c.next_hearing.ensures in
    let d = can_deliver b c.skip_heard.new.front c.skip_heard.new.passed c.skip_heard.ensures.same c.deref.result.now c.deref.ensures.value next.0 h next.2 in
    omega (arith, dest_in d, next.2.dest)

pub hear-earlier-requires-clause-arc : goal.hear-earlier-requires-clause-arc
hear-earlier-requires-clause-arc g c =
    let A = g.A.Algebra in
    let self = c.self.inside in
    let b = c.self.invariant in
    let value = A.sig_value self.site.algebra.now in
    let h = c.next_hearing.result.hearing in
    let next = c.next_hearing.ensures in
    let d = can_deliver b c.skip_heard.new.front c.skip_heard.new.passed c.skip_heard.ensures.same c.deref.result.now c.deref.ensures.value next.0 h next.2 in
    omega (arith, within d, next.2.arc)

pub rechoose-changed-requires-clause-hearing : goal.rechoose-changed-requires-clause-hearing
rechoose-changed-requires-clause-hearing g c =
    let A = g.A.Algebra in
    let self = c.self.inside in
    let b = c.self.invariant in
    let value = A.sig_value self.site.algebra.now in
    let h = c.next_hearing.result.hearing in
    let next = c.next_hearing.ensures in
    let d = can_deliver b c.skip_heard.new.front c.skip_heard.new.passed c.skip_heard.ensures.same c.deref.result.now c.deref.ensures.value next.0 h next.2 in
    let new = c.hear-earlier.new.store in
    let hears = c.hear-earlier.ensures.heard in
    (next.0, next.1, is_hearing value self.store new d hears, settles_new value self.store new d hears)

pub rechoose-changed-requires-clause-heard : goal.rechoose-changed-requires-clause-heard
rechoose-changed-requires-clause-heard g c =
    let A = g.A.Algebra in
    let self = c.self.inside in
    let b = c.self.invariant in
    let value = A.sig_value self.site.algebra.now in
    let h = c.next_hearing.result.hearing in
    let next = c.next_hearing.ensures in
    let d = can_deliver b c.skip_heard.new.front c.skip_heard.new.passed c.skip_heard.ensures.same c.deref.result.now c.deref.ensures.value next.0 h next.2 in
    let new = c.hear-earlier.new.store in
    let hears = c.hear-earlier.ensures.heard in
    heard_new value self.store new d hears

pub rechoose-changed-requires-clause-known : goal.rechoose-changed-requires-clause-known
rechoose-changed-requires-clause-known g c =
    let A = g.A.Algebra in
    let self = c.self.inside in
    let b = c.self.invariant in
    let value = A.sig_value self.site.algebra.now in
    let h = c.next_hearing.result.hearing in
    let next = c.next_hearing.ensures in
    let d = can_deliver b c.skip_heard.new.front c.skip_heard.new.passed c.skip_heard.ensures.same c.deref.result.now c.deref.ensures.value next.0 h next.2 in
    let new = c.hear-earlier.new.store in
    let hears = c.hear-earlier.ensures.heard in
    known_new value self.store new d hears

pub rechoose-changed-requires-clause-begins : goal.rechoose-changed-requires-clause-begins
rechoose-changed-requires-clause-begins g c =
    let A = g.A.Algebra in
    let self = c.self.inside in
    let b = c.self.invariant in
    let value = A.sig_value self.site.algebra.now in
    let h = c.next_hearing.result.hearing in
    let next = c.next_hearing.ensures in
    let d = can_deliver b c.skip_heard.new.front c.skip_heard.new.passed c.skip_heard.ensures.same c.deref.result.now c.deref.ensures.value next.0 h next.2 in
    let new = c.hear-earlier.new.store in
    let hears = c.hear-earlier.ensures.heard in
    begins_new value self.store new d hears

pub index_mut-requires : goal.index_mut-requires
index_mut-requires g c =
    let A = g.A.Algebra in
    let self = c.self.inside in
    let b = c.self.invariant in
    let value = A.sig_value self.site.algebra.now in
    let h = c.next_hearing.result.hearing in
    let next = c.next_hearing.ensures in
    let d = can_deliver b c.skip_heard.new.front c.skip_heard.new.passed c.skip_heard.ensures.same c.deref.result.now c.deref.ensures.value next.0 h next.2 in
    omega (arith, (is_arc d).tail_in, next.2.node, b.clock_count)

pub overflow_add-self : goal.overflow_add-self
overflow_add-self g c =
    let A = g.A.Algebra in
    let self = c.self.inside in
    let b = c.self.invariant in
    let value = A.sig_value self.site.algebra.now in
    let h = c.next_hearing.result.hearing in
    let next = c.next_hearing.ensures in
    let d = can_deliver b c.skip_heard.new.front c.skip_heard.new.passed c.skip_heard.ensures.same c.deref.result.now c.deref.ensures.value next.0 h next.2 in
    omega (arith, passed_fits d)

pub of-requires : goal.of-requires
of-requires g c =
    let A = g.A.Algebra in
    let self = c.self.inside in
    let b = c.self.invariant in
    let value = A.sig_value self.site.algebra.now in
    let h = c.next_hearing.result.hearing in
    let next = c.next_hearing.ensures in
    let d = can_deliver b c.skip_heard.new.front c.skip_heard.new.passed c.skip_heard.ensures.same c.deref.result.now c.deref.ensures.value next.0 h next.2 in
    omega (arith, (is_arc d).tail_in, next.2.node, b.listeners_are.count)

pub hear-requires-clause-dest : goal.hear-requires-clause-dest
hear-requires-clause-dest g c =
    let A = g.A.Algebra in
    let self = c.self.inside in
    let b = c.self.invariant in
    let value = A.sig_value self.site.algebra.now in
    let h = c.next_hearing.result.hearing in
    let next = c.next_hearing.ensures in
    let d = can_deliver b c.skip_heard.new.front c.skip_heard.new.passed c.skip_heard.ensures.same c.deref.result.now c.deref.ensures.value next.0 h next.2 in
    omega (arith, dest_in d, next.2.dest)

pub hear-requires-clause-arc : goal.hear-requires-clause-arc
hear-requires-clause-arc g c =
    let A = g.A.Algebra in
    let self = c.self.inside in
    let b = c.self.invariant in
    let value = A.sig_value self.site.algebra.now in
    let h = c.next_hearing.result.hearing in
    let next = c.next_hearing.ensures in
    let d = can_deliver b c.skip_heard.new.front c.skip_heard.new.passed c.skip_heard.ensures.same c.deref.result.now c.deref.ensures.value next.0 h next.2 in
    omega (arith, within d, next.2.arc)

pub invariant_of-self-in-Ok : goal.invariant_of-self-in-Ok
invariant_of-self-in-Ok g c =
    let A = g.A.Algebra in
    let self = c.self.inside in
    let b = c.self.invariant in
    let value = A.sig_value self.site.algebra.now in
    let h = c.next_hearing.result.hearing in
    let next = c.next_hearing.ensures in
    let d = can_deliver b c.skip_heard.new.front c.skip_heard.new.passed c.skip_heard.ensures.same c.deref.result.now c.deref.ensures.value next.0 h next.2 in
    let net = self.site.net.now in
    let t = pure_store value c.rechoose-changed.new.store in
    let is = rechosen_new value self.store c.hear-earlier.new.store d c.hear-earlier.ensures.heard NoMemory t c.in-Ok.is_changed c.in-Ok.ensures.rechosen in
    let early = is_early value b c.args.self.now c.self.view_is c.requires.early c.skip_heard.new.front c.skip_heard.new.passed c.skip_heard.ensures.same d in
    record {
      algebra = b.algebra;
      is_net = b.is_net;
      listeners_are = b.listeners_are;
      speakers_are = b.speakers_are;
      stored = c.in-Ok.ensures.stored;
      clock_count = length-set self.clocks.items h.node.0 h.clock ∙ b.clock_count;
      logged = logged_one self.log.items c.push.new.self.items c.new.result (length net.nodes) c.in_ok-push.ensures.items (subst (λ z. z < length net.nodes) (sym (ap (λ t. t.0) c.new.ensures)) (omega (arith, (is_arc d).tail_in, next.2.node))) b.logged;
      chosen = stays_chosen d early t is;
      coherent = subst (λ k. IsCoherent net (block_machine net t (set self.clocks.items k h.clock) c.skip_heard.new.front (c.skip_heard.new.passed + 1))) (sym next.2.node) (stays_coherent d early t is);
    }

pub invariant_of-self-in-Err : goal.invariant_of-self-in-Err
invariant_of-self-in-Err g c =
    let A = g.A.Algebra in
    let self = c.self.inside in
    let b = c.self.invariant in
    let value = A.sig_value self.site.algebra.now in
    let h = c.next_hearing.result.hearing in
    let next = c.next_hearing.ensures in
    let d = can_deliver b c.skip_heard.new.front c.skip_heard.new.passed c.skip_heard.ensures.same c.deref.result.now c.deref.ensures.value next.0 h next.2 in
    let net = self.site.net.now in
    let s = pure_store value self.store in
    let back : pure_store value c.hear.new.store ≡ s = heard_back value self.store c.hear-earlier.new.store c.rechoose-changed.new.store c.hear.new.store h.arc.0 h.dest.0 _ c.hear-earlier.result c.hear-earlier.ensures.heard c.in-Err.ensures.rechosen c.hear.ensures.heard c.hear-earlier.ensures.was in
    record {
      algebra = b.algebra;
      is_net = b.is_net;
      listeners_are = b.listeners_are;
      speakers_are = b.speakers_are;
      stored = c.hear.ensures.stored;
      clock_count = b.clock_count;
      logged = logged_one self.log.items c.push.new.self.items c.new.result (length net.nodes) c.in_ok-push.ensures.items (subst (λ z. z < length net.nodes) (sym (ap (λ t. t.0) c.new.ensures)) (omega (arith, (is_arc d).tail_in, next.2.node))) b.logged;
      chosen = subst (λ (z : PureStore). (i dest : ℕ) → i < length net.nodes → z.rows i dest ≡ choice net dest i (heard_at net z i)) (sym back) b.chosen;
      coherent = subst (λ (z : PureStore). IsCoherent net (block_machine net z self.clocks.items c.skip_heard.new.front c.skip_heard.new.passed)) (sym back) d.is_coherent;
    }

pub returns-after-is_changed-clause-delivered : goal.returns-after-is_changed-clause-delivered
returns-after-is_changed-clause-delivered g c =
    let A = g.A.Algebra in
    let self = c.self.inside in
    let b = c.self.invariant in
    let value = A.sig_value self.site.algebra.now in
    let h = c.next_hearing.result.hearing in
    let next = c.next_hearing.ensures in
    let d = can_deliver b c.skip_heard.new.front c.skip_heard.new.passed c.skip_heard.ensures.same c.deref.result.now c.deref.ensures.value next.0 h next.2 in
    let net = self.site.net.now in
    let new = c.rechoose-changed.new.store in
    let t = pure_store value new in
    let is = rechosen_new value self.store c.hear-earlier.new.store d c.hear-earlier.ensures.heard NoMemory t c.in-Ok.is_changed c.in-Ok.ensures.rechosen in
    let early = is_early value b c.args.self.now c.self.view_is c.requires.early c.skip_heard.new.front c.skip_heard.new.passed c.skip_heard.ensures.same d in
    let pushed = log_more self.log.items c.push.new.self.items c.new.result c.in_ok-push.ensures.items ∙ ap (λ t. map tagged_of self.log.items ++ t ∷ []) c.new.ensures in
    let changed = sent_count d NoMemory t c.in-Ok.is_changed (subst (λ z. HasRechosen {E = NoMemory} net h z t (Ok c.in-Ok.is_changed)) (store_is value self.store c.hear-earlier.new.store d c.hear-earlier.ensures.heard) c.in-Ok.ensures.rechosen) in
    let many : length (out d) ≡ c.if-is_changed.result = elim c.if-is_changed.branch [
      | then-is_changed w ↦ changed ∙ (ap (λ z. cond z (length (arcs_to net next.0.tail)) 0) w.if-is_changed.true ∙ (ap (λ k. length (arcs_to net k)) (sym next.2.node) ∙ (sym (b.listeners_are.each h.node.0 w.of.result.now w.of.ensures).count ∙ sym w.result-is)))
      | else-is_changed w ↦ changed ∙ (ap (λ z. cond z (length (arcs_to net next.0.tail)) 0) w.if-is_changed.false ∙ sym w.result-is)
    ] in
    let after = pure_block value net new (set self.clocks.items h.node.0 h.clock) (map tagged_of c.push.new.self.items) c.skip_heard.new.front (c.skip_heard.new.passed + 1) in
    subst (λ (z : PureBlock). HasDelivered path_vector z.net (machine_of z) (log_of z) c.if-is_changed.result (machine_of after) (log_of after)) c.self.view_is
    (delivery_view value net self.store new self.clocks.items (map tagged_of self.log.items) (map tagged_of c.push.new.self.items) self.front self.passed c.skip_heard.new.front c.skip_heard.new.passed d c.skip_heard.ensures.same early is c.if-is_changed.result many pushed)
