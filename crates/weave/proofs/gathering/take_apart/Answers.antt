use Rattle.std.proofs.Common.{◌≡◌, ◌∙◌, Some, vec_len, ap, sym, arith}
use Rattle.weave.specs.Gathered.{block_of, view_at}
use Rattle.weave.proofs.Linking.{stands_at}
use Rattle.weave.proofs.Parting.{above_test, logs_more, nodes_more}
use Rattle.weave.proofs.gathering.take_apart.Goals as goal

pub take_seat-seat-requires-clause-there : goal.take_seat-seat-requires-clause-there
take_seat-seat-requires-clause-there g c =
    let first = view_at g.N.NodeCore.state g.N.NodeCore.note c.args.blocks.items in
    let number = c.loop-number.number in
    let here = c.requires.there number (omega arith) in
    let block : c.block_at-block.result ≡ block_of (vec_len c.args.blocks) number = stands_at c.block_at-block.result c.len.result (vec_len c.args.blocks) number c.block_at-block.ensures.block (c.len.ensures ∙ c.loop-number.invariant.count) in
    (here.0, c.loop-number.invariant.node_is c.block_at-block.result number (omega arith) ∙ (ap (λ b. (first b).node number) block ∙ here.1))

pub loop-number-preserved : goal.loop-number-preserved
loop-number-preserved g c =
    let state = g.N.NodeCore.state in
    let before = c.loop-number.invariant in
    let taken = c.take_seat-seat.ensures.taken in
    let count = vec_len c.args.blocks in
    let first = view_at state g.N.NodeCore.note c.args.blocks.items in
    let number = c.loop-number.number in
    let block : c.block_at-block.result ≡ block_of count number = stands_at c.block_at-block.result c.len.result count number c.block_at-block.ensures.block (c.len.ensures ∙ before.count) in
    let node : (first (block_of count number)).node number ≡ Some (state c.take_seat-seat.result.node) = ap (λ b. (first b).node number) (sym block) ∙ (sym (before.node_is c.block_at-block.result number (omega arith)) ∙ taken.node_was) in
    let log : (first (block_of count number)).log number ≡ c.take_seat-seat.result.log = ap (λ b. (first b).log number) (sym block) ∙ (sym (before.log_is c.block_at-block.result number (omega arith)) ∙ taken.log_was) in
    record {
      count = c.take_seat-seat.ensures.count ∙ before.count;
      node_is = λ b i le. taken.node_is b i (above_test number i le) ∙ before.node_is b i (omega arith);
      log_is = λ b i le. taken.log_is b i (above_test number i le) ∙ before.log_is b i (omega arith);
      nodes = nodes_more state count first number c.loop-number.nodes c.push.new.self c.take_seat-seat.result.node c.in_ok-push.ensures.ok before.nodes node;
      logs = logs_more state count first number c.loop-number.logs c.push-in-loop-number.new.self c.take_seat-seat.result.log c.in_ok-push-2.ensures.ok before.logs log;
    }
