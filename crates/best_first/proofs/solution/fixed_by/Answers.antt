use Rattle.std.proofs.Common.{◌≡◌, Option, None, length, ap, ◌∙◌, arith}
use Rattle.std.proofs.lemmas.List.{length-replicate}
use Rattle.best_first.specs.Numbered.{PureFixedRoute}
use Rattle.best_first.specs.Fixed.{reported_by, fixed_routes, open_routes}
use Rattle.best_first.proofs.Steps.{last_state}
use Rattle.best_first.proofs.Speaking.{nothing_found}
use Rattle.best_first.proofs.Advancing.{reported_before, fixed_before, state_before, reported_next, node_in, speaks, state_next}
use Rattle.best_first.proofs.solution.fixed_by.Goals as goal

pub loop-fixed-init : goal.loop-fixed-init
loop-fixed-init g c =
    let value = g.A.Algebra.sig_value c.args.algebra.now in
    let is_sig = g.A.Algebra.is_sig c.args.algebra.now in
    let net = c.args.net.now in
    let rows = c.in_ok-fixed.fixed.rows in
    let paths = c.in_ok-fixed.fixed.paths in
    let best = c.offer_own.new.search.best.items in
    let is_net = c.node_count.ensures.net in
    let rows_is = rw c.node_count.ensures.count at c.in_ok-fixed.ensures.rows in
    let count : length best ≡ length net.nodes = let e = c.in_ok-offer_own.ensures.count in omega arith in
    let all = ap length rows_is in
    record {
      rows_count = (let same = length-replicate {A = Option (PureFixedRoute g.row.A-Sig.Denot)} (length net.nodes) None in omega arith);
      best_count = c.in_ok-offer_own.ensures.count;
      fixed = fixed_before value is_sig net c.args.dest.0 rows paths best is_net rows_is count c.in_ok-fixed.ensures.paths;
      queue = rw (reported_before value is_sig net c.args.dest.0 rows paths best is_net rows_is count) c.in_ok-offer_own.ensures.queue;
      state = state_before value is_sig net c.args.dest.0 rows paths best is_net rows_is count c.in_ok-offer_own.ensures.offers;
    }

pub fix_next-requires-clause-queue : goal.fix_next-requires-clause-queue
fix_next-requires-clause-queue g c = rw c.requires.algebra c.loop-fixed.invariant.queue

pub relax-requires-clause-node : goal.relax-requires-clause-node
relax-requires-clause-node g c =
    let value = g.A.Algebra.sig_value c.args.algebra.now in
    let net = c.args.net.now in
    let dest = c.args.dest.0 in
    let rows = c.loop-fixed.fixed.rows in
    let paths = c.loop-fixed.fixed.paths in
    let best = c.loop-fixed.search.best.items in
    let is_net = c.node_count.ensures.net in
    let st = c.loop-fixed.invariant.state in
    let new_rows = c.fix_next.new.fixed.rows in
    let new_paths = c.fix_next.new.fixed.paths in
    let taken = c.fix_next.new.search.best.items in
    let node = c.in-Some.place.node.0 in
    let fixes = rw (c.in-Some.is, c.requires.algebra) at c.in_ok-place.ensures.next in
    node_in value net dest rows new_rows paths new_paths best taken node is_net st fixes

pub relax-requires-clause-next : goal.relax-requires-clause-next
relax-requires-clause-next g c =
    let value = g.A.Algebra.sig_value c.args.algebra.now in
    let net = c.args.net.now in
    let dest = c.args.dest.0 in
    let rows = c.loop-fixed.fixed.rows in
    let paths = c.loop-fixed.fixed.paths in
    let best = c.loop-fixed.search.best.items in
    let is_net = c.node_count.ensures.net in
    let st = c.loop-fixed.invariant.state in
    let new_rows = c.fix_next.new.fixed.rows in
    let new_paths = c.fix_next.new.fixed.paths in
    let taken = c.fix_next.new.search.best.items in
    let node = c.in-Some.place.node.0 in
    let fixes = rw (c.in-Some.is, c.requires.algebra) at c.in_ok-place.ensures.next in
    rw (reported_next value net dest rows new_rows paths new_paths best taken node is_net st fixes) (speaks value net dest rows new_rows paths new_paths best taken node is_net st fixes)

pub relax-requires-clause-size : goal.relax-requires-clause-size
relax-requires-clause-size g c = rw c.in-Some.is at c.in_ok-place.ensures.size

pub relax-requires-clause-queue : goal.relax-requires-clause-queue
relax-requires-clause-queue g c = rw (c.in-Some.is, c.requires.algebra) at c.in_ok-place.ensures.queue

pub loop-fixed-preserved : goal.loop-fixed-preserved
loop-fixed-preserved g c =
    let value = g.A.Algebra.sig_value c.args.algebra.now in
    let net = c.args.net.now in
    let dest = c.args.dest.0 in
    let rows = c.loop-fixed.fixed.rows in
    let paths = c.loop-fixed.fixed.paths in
    let best = c.loop-fixed.search.best.items in
    let is_net = c.node_count.ensures.net in
    let st = c.loop-fixed.invariant.state in
    let new_rows = c.fix_next.new.fixed.rows in
    let new_paths = c.fix_next.new.fixed.paths in
    let taken = c.fix_next.new.search.best.items in
    let node = c.in-Some.place.node.0 in
    let fixes = rw (c.in-Some.is, c.requires.algebra) at c.in_ok-place.ensures.next in
    let next_best = c.relax.new.search.best.items in
    let rows_count : length new_rows ≡ length net.nodes = let e = c.in_ok-place.ensures.rows in let f = c.loop-fixed.invariant.rows_count in omega arith in
    let best_count : length next_best ≡ length net.nodes = let e = c.in_ok-relax.ensures.count in omega arith in
    record {
      rows_count = c.in_ok-place.ensures.rows ∙ c.loop-fixed.invariant.rows_count;
      best_count = c.in_ok-relax.ensures.count;
      fixed = rw c.in-Some.is at c.in_ok-place.ensures.fixed;
      queue = c.in_ok-relax.ensures.queue;
      state = state_next value net dest rows new_rows paths new_paths best taken node is_net st fixes next_best rows_count best_count c.in_ok-relax.ensures.routes;
    }

pub returns-clause-fixed : goal.returns-clause-fixed
returns-clause-fixed g c =
    let value = g.A.Algebra.sig_value c.args.algebra.now in
    let net = c.args.net.now in
    let dest = c.args.dest.0 in
    let rows = c.loop-fixed.fixed.rows in
    let paths = c.loop-fixed.fixed.paths in
    let best = c.loop-fixed.search.best.items in
    let done = rw c.in_default.is at c.in_ok-place.ensures.none in
    rw (done.rows_same, done.paths_same) record {
      best_first = last_state net dest (fixed_routes value paths rows) (open_routes value paths rows best) c.node_count.ensures.net c.loop-fixed.invariant.state (nothing_found value (reported_by value paths rows) best done.none);
      fixed = c.loop-fixed.invariant.fixed;
      count = c.loop-fixed.invariant.rows_count;
      few = omega (arith, c.node_count.ensures.few, c.node_count.ensures.count);
    }

pub returns-clause-clear : goal.returns-clause-clear
returns-clause-clear g c = rw (c.in_default.is, c.loop-fixed.invariant.best_count) at c.in_ok-place.ensures.clear
