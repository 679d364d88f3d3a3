use Rattle.std.proofs.Common.{◌≡◌, length, ap, sym, ◌∙◌, arith}
use Rattle.std.specs.List.{range_with_len}
use Rattle.net_graph.specs.Nets.{origins_of}
use Rattle.vector_block.specs.Starts.{begun_store, with_origins}
use Rattle.vector_block.proofs.Starting.{begun_more}
use Rattle.vector_block.proofs.start.begun.Goals as goal

pub loop-dest-preserved : goal.loop-dest-preserved
loop-dest-preserved g c =
    let net = c.args.site.now.net.now in
    let dest = c.loop-dest.dest in
    record {
      stored = c.in_ok-begin.ensures.stored;
      begun = c.in_ok-begin.ensures.begun ∙ ap (λ s. with_origins s (origins_of net dest)) c.loop-dest.invariant.begun ∙ sym (begun_more net dest);
    }

pub returns-clause-begun : goal.returns-clause-begun
returns-clause-begun g c =
    let net = c.args.site.now.net.now in
    let all : c.loop-dest.dest ≡ length net.dests = let few = c.loop-dest-test.false in let more = c.loop-dest.auto.dest-end in let count = c.dest_count-dest-end.ensures.count in omega arith in
    c.loop-dest.invariant.begun ∙ ap (λ n. begun_store net (range_with_len 0 n)) all
