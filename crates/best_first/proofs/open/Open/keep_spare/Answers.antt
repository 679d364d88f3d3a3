use Rattle.std.proofs.Common.{◌<◌, ◌∙◌, length, arith}
use Rattle.std.proofs.lemmas.Bool.{false≢true}
use Rattle.alg_model.specs.Carriers.{carrier_of}
use Rattle.best_first.specs.declared.route.OpenPlace.{OpenPlace}
use Rattle.best_first.proofs.Offering.{better_judged, kept_sigs, kept_places, kept_best, still_counted}
use Rattle.best_first.proofs.Places.{found-read}
use Rattle.best_first.proofs.open.Open.keep_spare.Goals as goal

pub exchange-requires-clause-spare : goal.exchange-requires-clause-spare
exchange-requires-clause-spare g c = λ misses. false≢true (rw misses at c.requires.wanted)

pub exchange-requires-clause-best : goal.exchange-requires-clause-best
exchange-requires-clause-best g c =
    let best = c.args.self.now.best.items in
    let within : c.args.node.0 < length best = omega (arith, c.requires.node, c.args.self.now.best.ok.0) in
    λ misses. c.requires.some (found-read best c.args.node.0 c.index_mut.result.now within c.index_mut.ensures.value ∙ misses)

pub judge-requires-clause-sigs : goal.judge-requires-clause-sigs
judge-requires-clause-sigs g c =
    let algebra = c.args.algebra.now in
    let place : OpenPlace = record { size = c.args.size; node = c.args.node; next = c.args.next } in
    let value = g.A.Algebra.sig_value algebra in
    let is_sig = g.A.Algebra.is_sig algebra in
    let carrier = carrier_of (g.A.Algebra.expression algebra) in
    let best = c.args.self.now.best.items in
    let within : place.node.0 < length best = omega (arith, c.requires.node, c.args.self.now.best.ok.0) in
    rw c.exchange.ensures.best (kept_sigs value is_sig carrier (g.met.A.Algebra.sig_in algebra) best c.requires.ranked.sigs c.args.self.now.standing c.requires.ranked.ranked place c.args.self.now.spare within c.requires.sig)

pub judge-requires-clause-places : goal.judge-requires-clause-places
judge-requires-clause-places g c =
    let algebra = c.args.algebra.now in
    let place : OpenPlace = record { size = c.args.size; node = c.args.node; next = c.args.next } in
    let value = g.A.Algebra.sig_value algebra in
    let is_sig = g.A.Algebra.is_sig algebra in
    let carrier = carrier_of (g.A.Algebra.expression algebra) in
    let best = c.args.self.now.best.items in
    let within : place.node.0 < length best = omega (arith, c.requires.node, c.args.self.now.best.ok.0) in
    rw c.exchange.ensures.best (kept_places value is_sig carrier (g.met.A.Algebra.sig_in algebra) best c.requires.ranked.sigs c.args.self.now.standing c.requires.ranked.ranked c.requires.ranked.places place c.args.self.now.spare within)

pub judge-requires-clause-judged : goal.judge-requires-clause-judged
judge-requires-clause-judged g c =
    let algebra = c.args.algebra.now in
    let place : OpenPlace = record { size = c.args.size; node = c.args.node; next = c.args.next } in
    let value = g.A.Algebra.sig_value algebra in
    let is_sig = g.A.Algebra.is_sig algebra in
    let carrier = carrier_of (g.A.Algebra.expression algebra) in
    let best = c.args.self.now.best.items in
    let within : place.node.0 < length best = omega (arith, c.requires.node, c.args.self.now.best.ok.0) in
    rw c.exchange.ensures.best (better_judged value is_sig carrier (g.met.A.Algebra.sig_in algebra) best c.requires.ranked.sigs c.args.self.now.standing c.requires.ranked.ranked place c.args.self.now.spare within c.requires.sig c.requires.wanted)

pub returns-clause-ranked : goal.returns-clause-ranked
returns-clause-ranked g c =
    let algebra = c.args.algebra.now in
    let place : OpenPlace = record { size = c.args.size; node = c.args.node; next = c.args.next } in
    let value = g.A.Algebra.sig_value algebra in
    let is_sig = g.A.Algebra.is_sig algebra in
    let carrier = carrier_of (g.A.Algebra.expression algebra) in
    let best = c.args.self.now.best.items in
    let within : place.node.0 < length best = omega (arith, c.requires.node, c.args.self.now.best.ok.0) in
    record {
      sigs = rw (c.judge.ensures.best, c.exchange.ensures.best) (kept_sigs value is_sig carrier (g.met.A.Algebra.sig_in algebra) best c.requires.ranked.sigs c.args.self.now.standing c.requires.ranked.ranked place c.args.self.now.spare within c.requires.sig);
      places = rw (c.judge.ensures.best, c.exchange.ensures.best) (kept_places value is_sig carrier (g.met.A.Algebra.sig_in algebra) best c.requires.ranked.sigs c.args.self.now.standing c.requires.ranked.ranked c.requires.ranked.places place c.args.self.now.spare within);
      ranked = record {
        count = c.judge.ensures.count ∙ rw (c.judge.ensures.best, c.exchange.ensures.best) (still_counted value is_sig carrier (g.met.A.Algebra.sig_in algebra) best c.requires.ranked.sigs c.args.self.now.standing c.requires.ranked.ranked _ _);
        judged = c.judge.ensures.judged;
      };
    }

pub returns-clause-best : goal.returns-clause-best
returns-clause-best g c =
    let algebra = c.args.algebra.now in
    let place : OpenPlace = record { size = c.args.size; node = c.args.node; next = c.args.next } in
    let value = g.A.Algebra.sig_value algebra in
    let is_sig = g.A.Algebra.is_sig algebra in
    let carrier = carrier_of (g.A.Algebra.expression algebra) in
    let best = c.args.self.now.best.items in
    rw (c.judge.ensures.best, c.exchange.ensures.best) (kept_best value is_sig carrier (g.met.A.Algebra.sig_in algebra) best c.requires.ranked.sigs c.args.self.now.standing c.requires.ranked.ranked place c.args.self.now.spare)
