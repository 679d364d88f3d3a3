use Rattle.std.proofs.Common.{◌≡◌, length, vec_len, arith}
use Rattle.std.specs.Option.{option_map}
use Rattle.std.proofs.lemmas.List.{length-map}
use Rattle.alg_model.specs.Carriers.{carrier_of}
use Rattle.best_first.specs.Fixed.{reported_by}
use Rattle.best_first.specs.Keys.{key_of}
use Rattle.best_first.proofs.Fixing.{node_within, next_within, fixes, fixed_after, open_after, size_there}
use Rattle.best_first.proofs.Offering.{ranked_of, next_taken}
use Rattle.best_first.proofs.search.fix_next.Goals as goal

pub take_best-requires : goal.take_best-requires
take_best-requires g c =
    let algebra = c.args.algebra.now in
    let value = g.A.Algebra.sig_value algebra in
    record { ranked = ranked_of value (g.A.Algebra.is_sig algebra) (carrier_of (g.A.Algebra.expression algebra)) (reported_by value c.args.fixed.now.paths c.args.fixed.now.rows) c.args.search.now.best.items c.args.search.now.standing c.requires.queue }

pub fix-requires-clause-node : goal.fix-requires-clause-node
fix-requires-clause-node g c =
    let value = g.A.Algebra.sig_value c.args.algebra.now in
    let is_sig = g.A.Algebra.is_sig c.args.algebra.now in
    let carrier = carrier_of (g.A.Algebra.expression c.args.algebra.now) in
    let rows = c.args.fixed.now.rows in
    let paths = c.args.fixed.now.paths in
    let best = c.args.search.now.best.items in
    let count : length rows ≡ length best = let e = c.requires.count in omega arith in
    let route = c.in-Some.route in
    let old_t = c.args.search.now.standing in
    let t = c.take_best.new.self.standing in
    let taken = c.in-Some.ensures in
    let next = next_taken value is_sig carrier (reported_by value paths rows) best c.take_best.new.self.best.items old_t t route c.requires.queue taken.route taken.first taken.taken c.take_best.ensures.ranked.ranked in
    let l = node_within value is_sig carrier rows paths best old_t t route.place.node.0 count c.requires.fixed c.requires.queue next route taken.route in
    omega arith

pub fix-requires-clause-next : goal.fix-requires-clause-next
fix-requires-clause-next g c =
    let value = g.A.Algebra.sig_value c.args.algebra.now in
    let is_sig = g.A.Algebra.is_sig c.args.algebra.now in
    let carrier = carrier_of (g.A.Algebra.expression c.args.algebra.now) in
    let rows = c.args.fixed.now.rows in
    let paths = c.args.fixed.now.paths in
    let best = c.args.search.now.best.items in
    let count : length rows ≡ length best = let e = c.requires.count in omega arith in
    let route = c.in-Some.route in
    let old_t = c.args.search.now.standing in
    let t = c.take_best.new.self.standing in
    let taken = c.in-Some.ensures in
    let next = next_taken value is_sig carrier (reported_by value paths rows) best c.take_best.new.self.best.items old_t t route c.requires.queue taken.route taken.first taken.taken c.take_best.ensures.ranked.ranked in
    let l = next_within value is_sig carrier rows paths best old_t t route.place.node.0 count c.requires.fixed c.requires.queue next route taken.route in
    omega arith

pub returns-clause-next : goal.returns-clause-next
returns-clause-next g c =
    let value = g.A.Algebra.sig_value c.args.algebra.now in
    let is_sig = g.A.Algebra.is_sig c.args.algebra.now in
    let carrier = carrier_of (g.A.Algebra.expression c.args.algebra.now) in
    let rows = c.args.fixed.now.rows in
    let paths = c.args.fixed.now.paths in
    let best = c.args.search.now.best.items in
    let count : length rows ≡ length best = let e = c.requires.count in omega arith in
    let route = c.in-Some.route in
    let old_t = c.args.search.now.standing in
    let t = c.take_best.new.self.standing in
    let taken = c.in-Some.ensures in
    let next = next_taken value is_sig carrier (reported_by value paths rows) best c.take_best.new.self.best.items old_t t route c.requires.queue taken.route taken.first taken.taken c.take_best.ensures.ranked.ranked in
    fixes value is_sig carrier rows paths best old_t t route.place.node.0 count c.requires.fixed c.requires.queue next route taken.route c.fix.new.self.rows c.fix.new.self.paths c.take_best.new.self.best.items c.in_ok-fix.ensures.rows c.in_ok-fix.ensures.paths taken.taken

pub returns-clause-fixed : goal.returns-clause-fixed
returns-clause-fixed g c =
    let value = g.A.Algebra.sig_value c.args.algebra.now in
    let is_sig = g.A.Algebra.is_sig c.args.algebra.now in
    let carrier = carrier_of (g.A.Algebra.expression c.args.algebra.now) in
    let rows = c.args.fixed.now.rows in
    let paths = c.args.fixed.now.paths in
    let best = c.args.search.now.best.items in
    let count : length rows ≡ length best = let e = c.requires.count in omega arith in
    let route = c.in-Some.route in
    let old_t = c.args.search.now.standing in
    let t = c.take_best.new.self.standing in
    let taken = c.in-Some.ensures in
    let next = next_taken value is_sig carrier (reported_by value paths rows) best c.take_best.new.self.best.items old_t t route c.requires.queue taken.route taken.first taken.taken c.take_best.ensures.ranked.ranked in
    fixed_after value is_sig carrier rows paths best old_t t route.place.node.0 count c.requires.fixed c.requires.queue next route taken.route c.fix.new.self.rows c.fix.new.self.paths c.take_best.new.self.best.items c.in_ok-fix.ensures.rows c.in_ok-fix.ensures.paths taken.taken

pub returns-clause-size : goal.returns-clause-size
returns-clause-size g c =
    let value = g.A.Algebra.sig_value c.args.algebra.now in
    let is_sig = g.A.Algebra.is_sig c.args.algebra.now in
    let carrier = carrier_of (g.A.Algebra.expression c.args.algebra.now) in
    let rows = c.args.fixed.now.rows in
    let paths = c.args.fixed.now.paths in
    let best = c.args.search.now.best.items in
    let count : length rows ≡ length best = let e = c.requires.count in omega arith in
    let route = c.in-Some.route in
    let old_t = c.args.search.now.standing in
    let t = c.take_best.new.self.standing in
    let taken = c.in-Some.ensures in
    let next = next_taken value is_sig carrier (reported_by value paths rows) best c.take_best.new.self.best.items old_t t route c.requires.queue taken.route taken.first taken.taken c.take_best.ensures.ranked.ranked in
    size_there value is_sig carrier rows paths best old_t t route.place.node.0 count c.requires.fixed c.requires.queue next route taken.route c.fix.new.self.rows c.fix.new.self.paths c.take_best.new.self.best.items c.in_ok-fix.ensures.rows c.in_ok-fix.ensures.paths taken.taken

pub returns-clause-queue : goal.returns-clause-queue
returns-clause-queue g c =
    let value = g.A.Algebra.sig_value c.args.algebra.now in
    let is_sig = g.A.Algebra.is_sig c.args.algebra.now in
    let carrier = carrier_of (g.A.Algebra.expression c.args.algebra.now) in
    let rows = c.args.fixed.now.rows in
    let paths = c.args.fixed.now.paths in
    let best = c.args.search.now.best.items in
    let count : length rows ≡ length best = let e = c.requires.count in omega arith in
    let route = c.in-Some.route in
    let old_t = c.args.search.now.standing in
    let t = c.take_best.new.self.standing in
    let taken = c.in-Some.ensures in
    let next = next_taken value is_sig carrier (reported_by value paths rows) best c.take_best.new.self.best.items old_t t route c.requires.queue taken.route taken.first taken.taken c.take_best.ensures.ranked.ranked in
    open_after value is_sig carrier rows paths best old_t t route.place.node.0 count c.requires.fixed c.requires.queue next route taken.route c.fix.new.self.rows c.fix.new.self.paths c.take_best.new.self.best.items c.in_ok-fix.ensures.rows c.in_ok-fix.ensures.paths taken.taken

pub returns-in_default-clause-clear : goal.returns-in_default-clause-clear
returns-in_default-clause-clear g c =
    let value = g.A.Algebra.sig_value c.args.algebra.now in
    let old = c.args.search.now.best in
    let best = c.take_best.new.self.best.items in
    let count : length best ≡ vec_len old = omega (arith, c.take_best.ensures.count) in
    record {
      count = count;
      none = c.in_default.ensures.cleared;
      slots = omega (arith, count, c.take_best.ensures.ranked.ranked.count, length-map best (option_map (key_of value)));
    }
