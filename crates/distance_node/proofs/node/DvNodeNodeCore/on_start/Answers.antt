use Rattle.std.proofs.Common.{◌≡◌, None, Some, false, length, sym, ◌∙◌, arith}
use Rattle.distance_node.proofs.Nodes.{begun_is, begun_rows}
use Rattle.distance_node.proofs.node.DvNodeNodeCore.on_start.Goals as goal

pub invariant_of-self : goal.invariant_of-self
invariant_of-self g c =
    let A = g.A.Algebra in
    let inside = c.self.inside in
    let s = inside.algebra.now in
    let net = inside.net.now in
    let i = inside.number.0 in
    let node = c.self.invariant.1 in
    let unbegun : inside.is_begun ≡ false = rw (← c.self.view_is) at c.requires.unbegun in
    let silent = node.silent unbegun in
    let are = rw c.deref.ensures.value at c.in_ok-rows.ensures.rows in (
      c.self.invariant.0,
      record {
        algebra = node.algebra;
        placed = node.placed;
        has_heard = record { count = node.has_heard.count; each = λ k x e. absurd (let f : None ≡ Some x = sym (silent k) ∙ e in cc); early = omega arith };
        silent = λ e. absurd (cc);
        row_count = are.row_count ∙ node.placed.own_count;
        rowless = λ e. absurd (cc);
        has_rows = λ b. begun_rows (A.sig_value s) net i node.placed.is_net (A.is_sig s) (length inside.own.items) node.placed.own_count c.in_ok-rows.rows.items are inside.heard.items silent;
      },
    )

pub returns-clause-node : goal.returns-clause-node
returns-clause-node g c =
    let A = g.A.Algebra in
    let inside = c.self.inside in
    let s = inside.algebra.now in
    let node = c.self.invariant.1 in
    let are = rw c.deref.ensures.value at c.in_ok-rows.ensures.rows in
    rw (← c.self.view_is) (begun_is (A.sig_value s) inside.net.now inside.number.0 node.placed.is_net (A.is_sig s) (length inside.own.items) node.placed.own_count c.in_ok-rows.rows.items are inside.is_begun inside.heard.items inside.rows.items inside.last)
