use Rattle.std.proofs.Common.{length, arith, refl}
use Rattle.std.proofs.lemmas.Iterator.Adapters.{YieldsList-from_vec}
use Rattle.std.proofs.lemmas.Iterator.Consumers.{YieldsList-turn}
use Rattle.std.proofs.lemmas.List.{length_push}
use Rattle.link_state.proofs.Made.{fixed_in, tables_more}
use Rattle.link_state.proofs.tables.tables_of.Goals as goal

pub table_of_fixed-requires-clause-fixed : goal.table_of_fixed-requires-clause-fixed
table_of_fixed-requires-clause-fixed g c =
    let turn = YieldsList-turn (YieldsList-from_vec c.args.found c.loop-fixed.invariant.items c.loop-fixed.invariant.count) c.loop-fixed.yielded c.loop-fixed.fixed-iterator c.loop-fixed.yielded_by c.next.result c.next.new.self c.in-Some.fixed c.in-Some.is c.next.ensures.steps in
    (fixed_in (g.A.Algebra.sig_value c.args.algebra.now) (g.A.Algebra.is_sig c.args.algebra.now) c.args.net.now c.args.found (length c.loop-fixed.yielded) c.in-Some.fixed c.requires turn.0 turn.1).fixed

pub table_of_fixed-requires-clause-few : goal.table_of_fixed-requires-clause-few
table_of_fixed-requires-clause-few g c =
    let turn = YieldsList-turn (YieldsList-from_vec c.args.found c.loop-fixed.invariant.items c.loop-fixed.invariant.count) c.loop-fixed.yielded c.loop-fixed.fixed-iterator c.loop-fixed.yielded_by c.next.result c.next.new.self c.in-Some.fixed c.in-Some.is c.next.ensures.steps in
    let is = fixed_in (g.A.Algebra.sig_value c.args.algebra.now) (g.A.Algebra.is_sig c.args.algebra.now) c.args.net.now c.args.found (length c.loop-fixed.yielded) c.in-Some.fixed c.requires turn.0 turn.1 in
    rw is.count is.few

pub loop-fixed-preserved : goal.loop-fixed-preserved
loop-fixed-preserved g c =
    let value = g.A.Algebra.sig_value c.args.algebra.now in
    let is_sig = g.A.Algebra.is_sig c.args.algebra.now in
    let net = c.args.net.now in
    let dest = c.loop-fixed.dest in
    let fixed = c.in-Some.fixed in
    let table = c.in_ok-table_of_fixed.field-0 in
    let made = c.loop-fixed.invariant.made in
    let gone = c.loop-fixed.invariant.gone in
    let turn = YieldsList-turn (YieldsList-from_vec c.args.found c.loop-fixed.invariant.items c.loop-fixed.invariant.count) c.loop-fixed.yielded c.loop-fixed.fixed-iterator c.loop-fixed.yielded_by c.next.result c.next.new.self c.in-Some.fixed c.in-Some.is c.next.ensures.steps in
    let is = fixed_in value is_sig net c.args.found (length c.loop-fixed.yielded) fixed c.requires turn.0 turn.1 in
    record {
      so_far = rw c.in_ok-push.ensures.items (tables_more value is_sig net dest fixed c.loop-fixed.tables.items table (rw gone at is) (rw c.in_ok-table_of_fixed.ensures.dest refl) c.in_ok-table_of_fixed.ensures.rows made c.loop-fixed.invariant.so_far);
      made = let long = length_push c.loop-fixed.tables.items table in rw c.in_ok-push.ensures.items (omega (arith, long, made));
      gone = let long = length_push c.loop-fixed.yielded fixed in omega (arith, long, gone);
      items = c.loop-fixed.invariant.items;
      count = c.loop-fixed.invariant.count;
    }
