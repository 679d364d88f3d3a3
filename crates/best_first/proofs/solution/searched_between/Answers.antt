use Rattle.std.proofs.Common.{◌∷◌, [], length, length-append, ap, ◌∙◌, arith}
use Rattle.std.proofs.lemmas.List.{length-replicate}
use Rattle.best_first.specs.Fixed.{IsFixedOf}
use Rattle.best_first.specs.Ranges.{from_pushed}
use Rattle.best_first.proofs.Places.{found-none}
use Rattle.best_first.proofs.solution.searched_between.Goals as goal

pub loop-dest-init : goal.loop-dest-init
loop-dest-init g c =
    let count = c.node_count.ensures.count in
    record {
      found = rw c.in_ok-found.ensures.items tt;
      count = rw c.in_ok-found.ensures.items (omega arith);
      clear = record {
        count = ap length c.in_ok-search.ensures.best ∙ (length-replicate c.node_count.result _ ∙ count);
        none = λ k. rw c.in_ok-search.ensures.best (found-none c.node_count.result k);
        slots = c.in_ok-search.ensures.count ∙ count;
      };
    }

pub loop-dest-preserved : goal.loop-dest-preserved
loop-dest-preserved g c =
    let value = g.A.Algebra.sig_value c.args.algebra.now in
    let is_sig = g.A.Algebra.is_sig c.args.algebra.now in
    let net = c.args.net.now in
    let found = c.loop-dest.found.items in
    let fixed = c.in_ok-fixed.fixed in
    let long = length-append found (fixed ∷ []) in
    let count = c.loop-dest.invariant.count in
    record {
      found = rw c.in_ok-push.ensures.items (from_pushed (IsFixedOf value is_sig net) c.args.first found fixed c.loop-dest.invariant.found (rw count c.in_ok-fixed.ensures.fixed));
      count = rw c.in_ok-push.ensures.items (omega arith);
      clear = c.in_ok-fixed.ensures.clear;
    }
