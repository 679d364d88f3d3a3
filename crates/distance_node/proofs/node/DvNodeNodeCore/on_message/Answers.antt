use Rattle.std.proofs.Common.{◌<◌, arith}
use Rattle.distance_node.proofs.Nodes.{heard_later}
use Rattle.distance_node.proofs.node.DvNodeNodeCore.on_message.Goals as goal

pub invariant_of-self : goal.invariant_of-self
invariant_of-self g c =
    let A = g.A.Algebra in
    let inside = c.self.inside in
    let s = inside.algebra.now in
    let net = inside.net.now in
    let node = c.self.invariant.1 in
    let last : inside.last < c.args.clock = rw (← c.self.view_is) at c.requires.last in (
      c.self.invariant.0,
      record {
        algebra = node.algebra;
        placed = node.placed;
        has_heard = heard_later (A.sig_value s) net inside.number.0 (A.is_sig s) inside.heard.items inside.last c.args.clock node.has_heard (omega (arith, last)) c.requires.early;
        silent = node.silent;
        row_count = node.row_count;
        rowless = node.rowless;
        has_rows = node.has_rows;
      },
    )
