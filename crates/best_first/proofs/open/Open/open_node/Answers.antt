use Rattle.std.proofs.Common.{◌<◌, ◌∙◌, Some, length, arith}
use Rattle.alg_model.specs.Carriers.{carrier_of}
use Rattle.best_first.proofs.Offering.{better_judged, kept_sigs, kept_places, kept_best, still_counted, first_wanted}
use Rattle.best_first.proofs.open.Open.open_node.Goals as goal

pub judge-requires-clause-judged : goal.judge-requires-clause-judged
judge-requires-clause-judged g c =
    let algebra = c.args.algebra.now in
    let place = c.args.route.place in
    let value = g.A.Algebra.sig_value algebra in
    let is_sig = g.A.Algebra.is_sig algebra in
    let carrier = carrier_of (g.A.Algebra.expression algebra) in
    let best = c.args.self.now.best.items in
    let within : place.node.0 < length best = omega (arith, c.requires.node, c.args.self.now.best.ok.0) in
    better_judged value is_sig carrier (g.met.A.Algebra.sig_in algebra) best c.requires.ranked.sigs c.args.self.now.standing c.requires.ranked.ranked place (Some c.args.route.sig) within c.requires.sig (first_wanted value is_sig carrier (g.met.A.Algebra.sig_in algebra) best c.requires.ranked.sigs c.args.self.now.standing c.requires.ranked.ranked place c.args.route.sig c.requires.none)

pub returns-clause-ranked : goal.returns-clause-ranked
returns-clause-ranked g c =
    let algebra = c.args.algebra.now in
    let place = c.args.route.place in
    let value = g.A.Algebra.sig_value algebra in
    let is_sig = g.A.Algebra.is_sig algebra in
    let carrier = carrier_of (g.A.Algebra.expression algebra) in
    let best = c.args.self.now.best.items in
    let within : place.node.0 < length best = omega (arith, c.requires.node, c.args.self.now.best.ok.0) in
    record {
      sigs = rw c.judge.ensures.best (kept_sigs value is_sig carrier (g.met.A.Algebra.sig_in algebra) best c.requires.ranked.sigs c.args.self.now.standing c.requires.ranked.ranked place (Some c.args.route.sig) within c.requires.sig);
      places = rw c.judge.ensures.best (kept_places value is_sig carrier (g.met.A.Algebra.sig_in algebra) best c.requires.ranked.sigs c.args.self.now.standing c.requires.ranked.ranked c.requires.ranked.places place (Some c.args.route.sig) within);
      ranked = record {
        count = c.judge.ensures.count ∙ rw c.judge.ensures.best (still_counted value is_sig carrier (g.met.A.Algebra.sig_in algebra) best c.requires.ranked.sigs c.args.self.now.standing c.requires.ranked.ranked _ _);
        judged = c.judge.ensures.judged;
      };
    }

pub returns-clause-best : goal.returns-clause-best
returns-clause-best g c =
    let algebra = c.args.algebra.now in
    let place = c.args.route.place in
    let value = g.A.Algebra.sig_value algebra in
    let is_sig = g.A.Algebra.is_sig algebra in
    let carrier = carrier_of (g.A.Algebra.expression algebra) in
    let best = c.args.self.now.best.items in
    rw c.judge.ensures.best (kept_best value is_sig carrier (g.met.A.Algebra.sig_in algebra) best c.requires.ranked.sigs c.args.self.now.standing c.requires.ranked.ranked place (Some c.args.route.sig))
