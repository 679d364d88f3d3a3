use Rattle.std.proofs.Common.{◌≡◌, ◌<◌, None, length, option_map, refl, sym, ap, ◌∙◌, arith}
use Rattle.std.proofs.lemmas.List.{length-map}
use Rattle.alg_model.specs.Carriers.{carrier_of}
use Rattle.best_first.specs.declared.route.OpenRoute.{OpenRoute}
use Rattle.best_first.specs.Found.{found_at}
use Rattle.best_first.specs.Keys.{key_of}
use Rattle.best_first.proofs.Offering.{taken_judged, none_when_first_misses, first_of_all, still_counted}
use Rattle.best_first.proofs.Places.{all-set, found-cleared, found-read}
use Rattle.best_first.proofs.Slots.{places-set}
use Rattle.best_first.proofs.open.Open.take_best.Goals as goal

pub returns-in_default-clause-none : goal.returns-in_default-clause-none
returns-in_default-clause-none g c =
    let algebra = c.args.algebra.now in
    let value = g.A.Algebra.sig_value algebra in
    let is_sig = g.A.Algebra.is_sig algebra in
    let carrier = carrier_of (g.A.Algebra.expression algebra) in
    let best = c.args.self.now.best.items in
    let within : c.first-first.result < length best = let w = c.first-first.ensures.within in omega (arith, c.requires.ranked.ranked.count, length-map best (option_map (key_of value))) in
    none_when_first_misses value is_sig carrier (g.met.A.Algebra.sig_in algebra) best c.requires.ranked.sigs c.args.self.now.standing c.requires.ranked.ranked c.first-first.result
    c.first-first.ensures.first (found-read best c.first-first.result c.index_mut.result.now within c.index_mut.ensures.value ∙ (sym c.take.ensures.value ∙ c.in_default.is))

pub returns-in_default-clause-cleared : goal.returns-in_default-clause-cleared
returns-in_default-clause-cleared g c = λ k.
    let algebra = c.args.algebra.now in
    let value = g.A.Algebra.sig_value algebra in
    let is_sig = g.A.Algebra.is_sig algebra in
    let carrier = carrier_of (g.A.Algebra.expression algebra) in
    let best = c.args.self.now.best.items in
    let within : c.first-first.result < length best = let w = c.first-first.ensures.within in omega (arith, c.requires.ranked.ranked.count, length-map best (option_map (key_of value))) in
    let none = none_when_first_misses value is_sig carrier (g.met.A.Algebra.sig_in algebra) best c.requires.ranked.sigs c.args.self.now.standing c.requires.ranked.ranked c.first-first.result
    c.first-first.ensures.first (found-read best c.first-first.result c.index_mut.result.now within c.index_mut.ensures.value ∙ (sym c.take.ensures.value ∙ c.in_default.is)) in
    rw c.take.ensures.after (found-cleared best c.first-first.result k within (none k))

pub replay-requires-clause-slots : goal.replay-requires-clause-slots
replay-requires-clause-slots g c =
    let algebra = c.args.algebra.now in
    let value = g.A.Algebra.sig_value algebra in
    let is_sig = g.A.Algebra.is_sig algebra in
    let carrier = carrier_of (g.A.Algebra.expression algebra) in
    let best = c.args.self.now.best.items in
    let within : c.first-first.result < length best = let w = c.first-first.ensures.within in omega (arith, c.requires.ranked.ranked.count, length-map best (option_map (key_of value))) in
    λ k below. (
      (let w = below in omega (arith, c.requires.ranked.ranked.count, length-map best (option_map (key_of value)), c.args.self.now.best.ok.0)),
      rw c.take.ensures.after (all-set (λ (o : OpenRoute g.row.A-Sig.Denot). is_sig o.sig) best c.first-first.result None within c.requires.ranked.sigs tt),
      rw c.take.ensures.after (places-set best c.first-first.result None within c.requires.ranked.places tt),
    )

pub replay-requires-clause-judged : goal.replay-requires-clause-judged
replay-requires-clause-judged g c =
    let algebra = c.args.algebra.now in
    let value = g.A.Algebra.sig_value algebra in
    let is_sig = g.A.Algebra.is_sig algebra in
    let carrier = carrier_of (g.A.Algebra.expression algebra) in
    let best = c.args.self.now.best.items in
    let within : c.first-first.result < length best = let w = c.first-first.ensures.within in omega (arith, c.requires.ranked.ranked.count, length-map best (option_map (key_of value))) in
    rw c.take.ensures.after (taken_judged value is_sig carrier (g.met.A.Algebra.sig_in algebra) best c.requires.ranked.sigs c.args.self.now.standing c.requires.ranked.ranked c.first-first.result within)

pub returns-clause-route : goal.returns-clause-route
returns-clause-route g c =
    let algebra = c.args.algebra.now in
    let value = g.A.Algebra.sig_value algebra in
    let is_sig = g.A.Algebra.is_sig algebra in
    let carrier = carrier_of (g.A.Algebra.expression algebra) in
    let best = c.args.self.now.best.items in
    let within : c.first-first.result < length best = let w = c.first-first.ensures.within in omega (arith, c.requires.ranked.ranked.count, length-map best (option_map (key_of value))) in
    let there = found-read best c.first-first.result c.index_mut.result.now within c.index_mut.ensures.value ∙ (sym c.take.ensures.value ∙ c.in-Some.is) in
    let at_node : c.in-Some.route.place.node.0 ≡ c.first-first.result = rw there at (c.requires.ranked.places c.first-first.result) in
    ap (found_at best) at_node ∙ there

pub returns-clause-first : goal.returns-clause-first
returns-clause-first g c =
    let algebra = c.args.algebra.now in
    let value = g.A.Algebra.sig_value algebra in
    let is_sig = g.A.Algebra.is_sig algebra in
    let carrier = carrier_of (g.A.Algebra.expression algebra) in
    let best = c.args.self.now.best.items in
    let within : c.first-first.result < length best = let w = c.first-first.ensures.within in omega (arith, c.requires.ranked.ranked.count, length-map best (option_map (key_of value))) in
    let there = found-read best c.first-first.result c.index_mut.result.now within c.index_mut.ensures.value ∙ (sym c.take.ensures.value ∙ c.in-Some.is) in
    let at_node : c.in-Some.route.place.node.0 ≡ c.first-first.result = rw there at (c.requires.ranked.places c.first-first.result) in
    rw at_node (first_of_all value is_sig carrier (g.met.A.Algebra.sig_in algebra) best c.requires.ranked.sigs c.args.self.now.standing c.requires.ranked.ranked c.first-first.result c.first-first.ensures.first)

pub returns-clause-taken : goal.returns-clause-taken
returns-clause-taken g c =
    let algebra = c.args.algebra.now in
    let value = g.A.Algebra.sig_value algebra in
    let is_sig = g.A.Algebra.is_sig algebra in
    let carrier = carrier_of (g.A.Algebra.expression algebra) in
    let best = c.args.self.now.best.items in
    let within : c.first-first.result < length best = let w = c.first-first.ensures.within in omega (arith, c.requires.ranked.ranked.count, length-map best (option_map (key_of value))) in
    let there = found-read best c.first-first.result c.index_mut.result.now within c.index_mut.ensures.value ∙ (sym c.take.ensures.value ∙ c.in-Some.is) in
    let at_node : c.in-Some.route.place.node.0 ≡ c.first-first.result = rw there at (c.requires.ranked.places c.first-first.result) in
    rw (c.take.ensures.after, at_node) refl

pub returns-clause-ranked : goal.returns-clause-ranked
returns-clause-ranked g c =
    let algebra = c.args.algebra.now in
    let value = g.A.Algebra.sig_value algebra in
    let is_sig = g.A.Algebra.is_sig algebra in
    let carrier = carrier_of (g.A.Algebra.expression algebra) in
    let best = c.args.self.now.best.items in
    let t = c.args.self.now.standing in
    let ranked = c.requires.ranked in
    let within : c.first-first.result < length best = let w = c.first-first.ensures.within in omega (arith, ranked.ranked.count, length-map best (option_map (key_of value))) in
    record {
      sigs = rw c.take.ensures.after (all-set (λ (o : OpenRoute g.row.A-Sig.Denot). is_sig o.sig) best c.first-first.result None within ranked.sigs tt);
      places = rw c.take.ensures.after (places-set best c.first-first.result None within ranked.places tt);
      ranked = record {
        count = c.replay.ensures.count ∙ rw c.take.ensures.after (still_counted value is_sig carrier (g.met.A.Algebra.sig_in algebra) best ranked.sigs t ranked.ranked _ _);
        judged = c.replay.ensures.judged;
      };
    }
