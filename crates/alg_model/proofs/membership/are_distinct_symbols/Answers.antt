use Rattle.std.proofs.Common.{◌<◌, get_or, true, false, sym, refl, length, ◌∙◌, arith, length-set}
use Rattle.std.proofs.lemmas.List.{get_or-replicate}
use Rattle.alg_model.proofs.Symbols.{repeated, distinct_more, seen_more, below_at}
use Rattle.alg_model.proofs.membership.are_distinct_symbols.Goals as goal

pub loop-n-init : goal.loop-n-init
loop-n-init c = record {
  apart = refl;
  room = refl;
  seen = λ k h. get_or-replicate 1024 k false false h;
}

pub returns-then-seen-place : goal.returns-then-seen-place
returns-then-seen-place c =
    let ns = c.args.ns.now in
    let i = c.loop-n.n-index in
    let n = get_or ns i 0 in
    let here : i < length ns = omega arith in
    let below : n < 1024 = below_at 1024 ns i c.requires here in
    sym (repeated ns i here (sym (c.loop-n.invariant.seen n below) ∙ c.if-seen-place.true))

pub loop-n-preserved : goal.loop-n-preserved
loop-n-preserved c =
    let ns = c.args.ns.now in
    let i = c.loop-n.n-index in
    let n = get_or ns i 0 in
    let here : i < length ns = omega arith in
    let below : n < 1024 = below_at 1024 ns i c.requires here in
    record {
      apart = distinct_more ns i here c.loop-n.invariant.apart (sym (c.loop-n.invariant.seen n below) ∙ c.if-seen-place.false);
      room = length-set c.loop-n.seen n true ∙ c.loop-n.invariant.room;
      seen = seen_more c.loop-n.seen 1024 ns i here c.loop-n.invariant.room below c.loop-n.invariant.seen;
    }
