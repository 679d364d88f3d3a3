use Rattle.std.proofs.Common.{◌≡◌, ◌<◌, ◌++◌, ◌∷◌, [], length, ap, ◌∙◌, arith}
use Rattle.std.specs.Option.{option_and_then}
use Rattle.std.proofs.lemmas.List.{length-map}
use Rattle.path_store.specs.declared.trails.PathId.{PathId}
use Rattle.best_first.specs.Numbered.{route_by}
use Rattle.best_first.proofs.Places.{found-read}
use Rattle.best_first.proofs.Numbering.{path_at, rows_fixed}
use Rattle.best_first.proofs.fixed.Fixed.fix.Goals as goal

pub returns-clause-rows : goal.returns-clause-rows
returns-clause-rows g c =
    let sigs = c.self.inside.sigs.items in
    let ids = c.self.inside.ids.items in
    let node = c.args.route.place.node.0 in
    let id : PathId = c.in_ok-path.path in
    let is : id.0 ≡ length sigs = omega (arith, c.in_ok-path.ensures.id, c.self.invariant.count) in
    let fixed = rows_fixed sigs c.push_reserved.new.self.items c.args.route.sig ids node id c.self.invariant.within is (c.push_reserved.ensures.items ∙ ap (λ xs. xs ++ c.args.route.sig ∷ []) c.reserve.ensures.items) in
    rw (← c.self.view_is, ← c.in_ok-path.ensures.id) fixed

pub returns-clause-paths : goal.returns-clause-paths
returns-clause-paths g c =
    let sigs = c.self.inside.sigs.items in
    let ids = c.self.inside.ids.items in
    let next = c.args.route.place.next.0 in
    let fits = rw (← c.self.view_is) at c.requires.next in
    let within : next < length ids = omega (arith, fits, length-map ids (λ o. option_and_then (route_by sigs) o)) in
    let there = found-read ids next c.index-next.result.now within c.index-next.ensures in
    rw (← c.self.view_is, path_at sigs c.self.inside.paths ids next c.self.invariant.within, there) c.in_ok-path.ensures.ok
