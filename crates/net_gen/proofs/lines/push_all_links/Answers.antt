use Rattle.std.proofs.Common.{arith}
use Rattle.std.specs.Prelude.{string_bytes}
use Rattle.net_gen.proofs.Written.{none_written, no_draws, links_then}
use Rattle.net_gen.proofs.lines.push_all_links.Goals as goal

pub loop-node-init : goal.loop-node-init
loop-node-init c = record {
  some = omega arith;
  text = none_written c.args.seed (string_bytes c.args.out.now);
  state_is = no_draws c.args.seed;
}

pub loop-node-preserved : goal.loop-node-preserved
loop-node-preserved c =
    let w = c.loop-node.invariant in
    let both = links_then c.args.seed c.loop-node.node _ _ _ _ _ w.some w.text w.state_is c.in_ok-push_links.ensures.lines c.in_ok-push_links.ensures.state in
    record { some = omega arith; text = both.0; state_is = both.1 }
