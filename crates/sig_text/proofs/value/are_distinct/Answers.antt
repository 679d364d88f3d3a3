use Rattle.std.proofs.Common.{◌≡◌, ◌==◌, ◌<◌, true, false, get_or, take, length, sym, arith}
use Rattle.std.specs.BTreeSet.{contains}
use Rattle.std.specs.List.{list_any}
use Rattle.std.specs.Ordering.{nat_cmp}
use Rattle.sig_text.proofs.Distinct.{distinct_more, repeated, seen_more}
use Rattle.sig_text.proofs.value.are_distinct.Goals as goal

pub returns-then-not-branch : goal.returns-then-not-branch
returns-then-not-branch c =
    let ns = c.args.numbers.now in
    let i = c.loop-n.n-index in
    let n = get_or ns i 0 in
    let here : i < length ns = omega arith in
    let before = c.loop-n.invariant.seen n in
    let added = c.in_ok-insert.ensures.added in
    let old = c.if-not-branch.true in
    let there : list_any (λ m. m == n) (take i ns) ≡ true = grind arith in
    sym (repeated ns i here there)

pub loop-n-preserved : goal.loop-n-preserved
loop-n-preserved c =
    let ns = c.args.numbers.now in
    let i = c.loop-n.n-index in
    let n = get_or ns i 0 in
    let here : i < length ns = omega arith in
    let before = c.loop-n.invariant.seen n in
    let added = c.in_ok-insert.ensures.added in
    let new = c.if-not-branch.false in
    let misses : list_any (λ m. m == n) (take i ns) ≡ false = grind arith in
    record {
      apart = distinct_more ns i here c.loop-n.invariant.apart misses;
      seen = seen_more (contains nat_cmp c.loop-n.seen) (contains nat_cmp c.insert.new.self) ns i here c.loop-n.invariant.seen c.in_ok-insert.ensures.updates.0;
    }
