use Rattle.std.proofs.Common.{◌≡◌, ◌∙◌, ap, sym, subst, length, vec_len, slice_index_or}
use Rattle.std.proofs.lemmas.List.{length-map}
use Rattle.std.proofs.lemmas.Option.{slice_get-get_or}
use Rattle.weave.specs.declared.part.Part.{Part}
use Rattle.weave.specs.Gathered.{view_at, AreEnded, AreSettled}
use Rattle.weave.proofs.Returns.{each_worked, lent_ready, ran, round_done}
use Rattle.weave.proofs.Round.{round_ended}
use Rattle.weave.proofs.rounds.run_round.Goals as goal

pub run_workers-requires-clause-ready : goal.run_workers-requires-clause-ready
run_workers-requires-clause-ready g c _ _ w d lt =
    let k = g.N.NodeCore in
    let parts = c.in_ok-parts.parts.items in
    let linked = c.link_blocks.new.blocks.items in
    let lent = rw c.link_blocks.ensures.count at c.in_ok-parts.ensures.lent in
    lent_ready k.state k.note k.kind c.args.net.now (vec_len c.args.blocks) c.args.plan.turns c.block_with-extra.result parts linked (view_at k.state k.note c.args.blocks.items)
    lent c.requires.count.0 c.requires.turns c.requires.gathered c.in_ok-link_blocks.ensures.linked c.requires.running w (slice_index_or parts w d) (slice_get-get_or parts w d lt)

pub run_workers-requires-clause-fresh : goal.run_workers-requires-clause-fresh
run_workers-requires-clause-fresh g c _ _ w d lt =
    let parts = c.in_ok-parts.parts.items in
    (c.in_ok-parts.ensures.lent.fresh w (slice_index_or parts w d) (slice_get-get_or parts w d lt)).refused

pub settle_blocks-requires-clause-ended : goal.settle_blocks-requires-clause-ended
settle_blocks-requires-clause-ended g c =
    let k = g.N.NodeCore in
    let n = vec_len c.args.blocks in
    let old = c.args.blocks.items in
    let linked = c.link_blocks.new.blocks.items in
    let back = c.in_ok-blocks.blocks.items in
    let first = c.in_ok-parts.parts in
    let last = c.run_workers.new.parts in
    let kept = c.run_workers.ensures.count in
    let lent = rw c.link_blocks.ensures.count at c.in_ok-parts.ensures.lent in
    let same : length first.items ≡ length last.items = sym first.ok.0 ∙ (sym kept ∙ last.ok.0) in
    let len : length last.items ≡ n = sym last.ok.0 ∙ (kept ∙ (c.in_ok-parts.ensures.count ∙ c.link_blocks.ensures.count)) in
    let count_is : vec_len c.in_ok-blocks.blocks ≡ n = c.in_ok-blocks.blocks.ok.0 ∙ (ap length c.in_ok-blocks.ensures.blocks ∙ (length-map last.items (λ (x : Part g.row.N.Denot g.row.N-Message.Denot). x.block) ∙ len)) in
    let worked = each_worked k.state k.note k.kind c.args.net.now (vec_len first) first.items last.items (sym first.ok.0) (sym last.ok.0 ∙ kept) c.run_workers.ensures.worked c.in_ok-blocks.ensures.worked in
    let ended = round_ended k.kind c.args.net.now n (view_at k.state k.note old) (view_at k.state k.note linked) (view_at k.state k.note back) c.requires.gathered c.in_ok-link_blocks.ensures.linked
    (ran k.state k.note k.kind c.args.net.now n c.args.plan.turns c.block_with-extra.result first.items last.items linked back lent (sym c.in_ok-blocks.ensures.blocks) same worked) in
    subst (λ m. AreEnded c.args.net.now m (view_at k.state k.note back)) (sym count_is) ended

pub returns-clause-round : goal.returns-clause-round
returns-clause-round g c =
    let k = g.N.NodeCore in
    let n = vec_len c.args.blocks in
    let old = c.args.blocks.items in
    let linked = c.link_blocks.new.blocks.items in
    let back = c.in_ok-blocks.blocks.items in
    let first = c.in_ok-parts.parts in
    let last = c.run_workers.new.parts in
    let kept = c.run_workers.ensures.count in
    let lent = rw c.link_blocks.ensures.count at c.in_ok-parts.ensures.lent in
    let same : length first.items ≡ length last.items = sym first.ok.0 ∙ (sym kept ∙ last.ok.0) in
    let len : length last.items ≡ n = sym last.ok.0 ∙ (kept ∙ (c.in_ok-parts.ensures.count ∙ c.link_blocks.ensures.count)) in
    let count_is : vec_len c.in_ok-blocks.blocks ≡ n = c.in_ok-blocks.blocks.ok.0 ∙ (ap length c.in_ok-blocks.ensures.blocks ∙ (length-map last.items (λ (x : Part g.row.N.Denot g.row.N-Message.Denot). x.block) ∙ len)) in
    let worked = each_worked k.state k.note k.kind c.args.net.now (vec_len first) first.items last.items (sym first.ok.0) (sym last.ok.0 ∙ kept) c.run_workers.ensures.worked c.in_ok-blocks.ensures.worked in
    let settled = subst (λ m. AreSettled c.args.net.now m (view_at k.state k.note back) (view_at k.state k.note c.settle_blocks.new.blocks.items)) count_is c.in_ok-settle_blocks.ensures.settled in
    let base = c.in_ok-book.ensures.base in
    round_done k.state k.note k.kind c.args.net.now n c.args.plan.turns c.block_with-extra.result first.items last.items linked back lent (sym c.in_ok-blocks.ensures.blocks) same worked
    (view_at k.state k.note old) (view_at k.state k.note c.settle_blocks.new.blocks.items) c.requires.gathered c.in_ok-link_blocks.ensures.linked settled
    len c.requires.count.0 (rw c.len-count.ensures at c.block_with-extra.ensures) c.args.plan.totals c.gather-totals.result
    (rw (base, c.in_ok-blocks.ensures.shares) at c.gather-totals.ensures.sent) (rw (base, c.in_ok-blocks.ensures.shares) at c.gather-totals.ensures.taken)
