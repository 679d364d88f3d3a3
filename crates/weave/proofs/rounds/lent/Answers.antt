use Rattle.std.proofs.Common.{◌≡◌, ◌++◌, ◌∷◌, [], ◌∙◌, ap, sym, subst, map, length, length-append, arith, slice_get, Some}
use Rattle.std.proofs.lemmas.List.{map-append}
use Rattle.weave.specs.Blocks.{IsFresh}
use Rattle.weave.specs.Rounds.{share_of}
use Rattle.weave.specs.declared.part.Part.{Part}
use Rattle.weave.proofs.Places.{each_pushed}
use Rattle.weave.proofs.rounds.lent.Goals as goal

pub loop-block-preserved : goal.loop-block-preserved
loop-block-preserved g c =
    let before = c.loop-block.invariant in
    let old = c.loop-block.parts in
    let part = c.part_of.result in
    let pushed = c.in_ok-push.ensures.items in
    let block_of : Part g.row.N.Denot g.row.N-Message.Denot → _ = λ p. p.block in
    let split = c.in-Some-pop_front.ensures.items in
    let fewer = ap length split in
    let more = length-append c.loop-block.yielded (c.in-Some.block ∷ []) in
    let left = before.left in
    let count = before.count in
    let len = c.in_ok-push.ensures.len in
    let turns : part.turns ≡ share_of c.args.turns c.len-count.result c.args.extra (length old.items) =
    c.part_of.ensures.turns ∙ (c.turns_of-turns.ensures ∙ ap (share_of c.args.turns c.len-count.result c.args.extra) (c.len-in-loop-block.ensures ∙ old.ok.0)) in
    record {
      blocks = ap (map block_of) pushed ∙ (map-append block_of old.items (part ∷ []) ∙ (ap (λ l. l ++ part.block ∷ []) before.blocks ∙ ap (λ b. c.loop-block.yielded ++ b ∷ []) c.part_of.ensures.block));
      count = omega (arith, len, count, more);
      fresh = subst (λ l. (w : _) (p : _) → slice_get l w ≡ Some p → IsFresh p) (sym pushed) (each_pushed (λ w p. IsFresh p) old.items part before.fresh c.part_of.ensures.fresh);
      turns = subst (λ l. (w : _) (p : Part g.row.N.Denot g.row.N-Message.Denot) → slice_get l w ≡ Some p → p.turns ≡ share_of c.args.turns c.len-count.result c.args.extra w) (sym pushed)
          (each_pushed (λ w p. p.turns ≡ share_of c.args.turns c.len-count.result c.args.extra w) old.items part before.turns turns);
      left = omega (arith, left, fewer, more);
      zero = (rw split at before.zero).1;
    }
