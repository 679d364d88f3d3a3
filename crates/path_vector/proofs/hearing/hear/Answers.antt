use Rattle.std.proofs.Common.{◌<◌, ◌==◌, ◌&&◌, cond, length, subst, sym, ap, ◌∙◌}
use Rattle.std.specs.Prelude.{option_map}
use Rattle.path_vector.specs.Choosing.{may_be_parts}
use Rattle.path_vector.specs.Known.{known_route, heard_by}
use Rattle.path_vector.specs.Changes.{IsChange}
use Rattle.path_vector.specs.Node.{choice}
use Rattle.path_vector.specs.Updates.{pure_shared, pure_update}
use Rattle.path_vector.specs.Words.{fits_parts}
use Rattle.path_vector.proofs.Choices.{entry_is}
use Rattle.path_vector.proofs.Beginnings.{some_holds}
use Rattle.path_vector.proofs.Hearings.{neighbour_there, number, still_neighbours, heard_now, earlier_fits, earlier_is, put_back, known_fits}
use Rattle.path_vector.proofs.Rechoosings.{row_begins, row_settles}
use Rattle.path_vector.proofs.hearing.hear.Goals as goal

pub heard_route-requires : goal.heard_route-requires
heard_route-requires g c =
    let A = g.A.Algebra in
    let s = c.args.site.now.algebra.now in
    let value = A.sig_value s in
    let net = c.args.site.now.net.now in
    let i = c.args.site.now.node.0 in
    let kept = c.requires.kept in
    let ns = c.args.neighbours.now in
    let update = c.args.arrival.now.update.now in
    let dest = update.dest.0 in
    let a = c.requires.fits.0 in
    let parts = fits_parts net a (pure_update update) c.requires.fits.3 in
    some_holds _ update.route (λ r e. rw c.requires.algebra (may_be_parts net a.head (pure_shared r) (parts.1 (pure_shared r) (ap (option_map pure_shared) e))).value_in)

pub hear-earlier-requires : goal.hear-earlier-requires
hear-earlier-requires g c =
    let A = g.A.Algebra in
    let s = c.args.site.now.algebra.now in
    let value = A.sig_value s in
    let net = c.args.site.now.net.now in
    let i = c.args.site.now.node.0 in
    let kept = c.requires.kept in
    let ns = c.args.neighbours.now in
    let update = c.args.arrival.now.update.now in
    let dest = update.dest.0 in
    let a = c.requires.fits.0 in
    let parts = fits_parts net a (pure_update update) c.requires.fits.3 in
    neighbour_there (A.stands_for s) (A.is_sig s) value net i c.requires.net ns kept.neighbours c.args.arrival.now.arc.0 c.place_of-place.result dest a c.requires.fits.1 c.requires.fits.2 c.place_of-place.ensures parts.0

pub rechoose-requires-clause-own : goal.rechoose-requires-clause-own
rechoose-requires-clause-own g c =
    let A = g.A.Algebra in
    let s = c.args.site.now.algebra.now in
    let value = A.sig_value s in
    let net = c.args.site.now.net.now in
    let i = c.args.site.now.node.0 in
    let kept = c.requires.kept in
    let ns = c.args.neighbours.now in
    let update = c.args.arrival.now.update.now in
    let dest = update.dest.0 in
    let a = c.requires.fits.0 in
    let parts = fits_parts net a (pure_update update) c.requires.fits.3 in
    let inside_own : dest < length c.args.own.now = subst (λ z. dest < z) (sym kept.own_count) parts.0 in
    let own = entry_is c.args.own.now dest c.index-own-dest.result inside_own c.index-own-dest.is in
    some_holds _ c.index-own-dest.result (λ x e. kept.own_sigs dest x (own ∙ e))

pub rechoose-requires-clause-origin : goal.rechoose-requires-clause-origin
rechoose-requires-clause-origin g c =
    let A = g.A.Algebra in
    let s = c.args.site.now.algebra.now in
    let value = A.sig_value s in
    let net = c.args.site.now.net.now in
    let i = c.args.site.now.node.0 in
    let kept = c.requires.kept in
    let ns = c.args.neighbours.now in
    let update = c.args.arrival.now.update.now in
    let dest = update.dest.0 in
    let a = c.requires.fits.0 in
    let parts = fits_parts net a (pure_update update) c.requires.fits.3 in
    let inside_own : dest < length c.args.own.now = subst (λ z. dest < z) (sym kept.own_count) parts.0 in
    let own = entry_is c.args.own.now dest c.index-own-dest.result inside_own c.index-own-dest.is in
    ap (option_map value) (sym own) ∙ kept.own_values dest

pub rechoose-requires-clause-neighbours : goal.rechoose-requires-clause-neighbours
rechoose-requires-clause-neighbours g c =
    let A = g.A.Algebra in
    let s = c.args.site.now.algebra.now in
    let value = A.sig_value s in
    let net = c.args.site.now.net.now in
    let i = c.args.site.now.node.0 in
    let kept = c.requires.kept in
    let ns = c.args.neighbours.now in
    let update = c.args.arrival.now.update.now in
    let dest = update.dest.0 in
    let a = c.requires.fits.0 in
    let parts = fits_parts net a (pure_update update) c.requires.fits.3 in
    let there = neighbour_there (A.stands_for s) (A.is_sig s) value net i c.requires.net ns kept.neighbours c.args.arrival.now.arc.0 c.place_of-place.result dest a c.requires.fits.1 c.requires.fits.2 c.place_of-place.ensures parts.0 in
    let route = c.in_ok-route.route in
    let now = c.hear-earlier.new.self in
    let has = c.hear-earlier.ensures there.0 there.1 in
    let fit = known_fits (A.is_sig s) value net a route (option_map pure_shared update.route) c.in_ok-route.ensures.sig c.in_ok-route.ensures.route parts.1 in
    (still_neighbours (A.stands_for s) (A.is_sig s) value net i c.requires.net ns kept.neighbours c.args.arrival.now.arc.0 c.place_of-place.result dest a c.requires.fits.1 c.requires.fits.2 c.place_of-place.ensures parts.0 route c.hear-earlier.result now has fit)

pub rechoose-requires-clause-before : goal.rechoose-requires-clause-before
rechoose-requires-clause-before g c =
    let A = g.A.Algebra in
    let s = c.args.site.now.algebra.now in
    let value = A.sig_value s in
    let net = c.args.site.now.net.now in
    let i = c.args.site.now.node.0 in
    let kept = c.requires.kept in
    let ns = c.args.neighbours.now in
    let update = c.args.arrival.now.update.now in
    let dest = update.dest.0 in
    let a = c.requires.fits.0 in
    let parts = fits_parts net a (pure_update update) c.requires.fits.3 in
    let inside_rows : dest < length c.args.rows.now = subst (λ z. dest < z) (sym kept.row_count) parts.0 in
    let row = entry_is c.args.rows.now dest c.index-rows-dest.result inside_rows c.index-rows-dest.is in
    some_holds _ c.index-rows-dest.result (λ x e. kept.row_sigs dest x (row ∙ e))

pub rechoose-requires-clause-begins : goal.rechoose-requires-clause-begins
rechoose-requires-clause-begins g c =
    let A = g.A.Algebra in
    let s = c.args.site.now.algebra.now in
    let value = A.sig_value s in
    let net = c.args.site.now.net.now in
    let i = c.args.site.now.node.0 in
    let kept = c.requires.kept in
    let ns = c.args.neighbours.now in
    let update = c.args.arrival.now.update.now in
    let dest = update.dest.0 in
    let a = c.requires.fits.0 in
    let parts = fits_parts net a (pure_update update) c.requires.fits.3 in
    let inside_rows : dest < length c.args.rows.now = subst (λ z. dest < z) (sym kept.row_count) parts.0 in
    let row = entry_is c.args.rows.now dest c.index-rows-dest.result inside_rows c.index-rows-dest.is in
    some_holds _ c.index-rows-dest.result (row_begins (A.stands_for s) (A.is_sig s) value net c.requires.net i dest ns kept.neighbours c.index-rows-dest.result (ap (option_map (known_route value)) (sym row) ∙ c.requires.chosen))

pub rechoose-requires-clause-settles : goal.rechoose-requires-clause-settles
rechoose-requires-clause-settles g c =
    let A = g.A.Algebra in
    let s = c.args.site.now.algebra.now in
    let value = A.sig_value s in
    let net = c.args.site.now.net.now in
    let i = c.args.site.now.node.0 in
    let kept = c.requires.kept in
    let ns = c.args.neighbours.now in
    let update = c.args.arrival.now.update.now in
    let dest = update.dest.0 in
    let a = c.requires.fits.0 in
    let parts = fits_parts net a (pure_update update) c.requires.fits.3 in
    let there = neighbour_there (A.stands_for s) (A.is_sig s) value net i c.requires.net ns kept.neighbours c.args.arrival.now.arc.0 c.place_of-place.result dest a c.requires.fits.1 c.requires.fits.2 c.place_of-place.ensures parts.0 in
    let route = c.in_ok-route.route in
    let now = c.hear-earlier.new.self in
    let has = c.hear-earlier.ensures there.0 there.1 in
    let fit = known_fits (A.is_sig s) value net a route (option_map pure_shared update.route) c.in_ok-route.ensures.sig c.in_ok-route.ensures.route parts.1 in
    let are = still_neighbours (A.stands_for s) (A.is_sig s) value net i c.requires.net ns kept.neighbours c.args.arrival.now.arc.0 c.place_of-place.result dest a c.requires.fits.1 c.requires.fits.2 c.place_of-place.ensures parts.0 route c.hear-earlier.result now has fit in
    let heard = heard_now (A.stands_for s) (A.is_sig s) value net i c.requires.net ns kept.neighbours c.args.arrival.now.arc.0 c.place_of-place.result dest a c.requires.fits.1 c.requires.fits.2 c.place_of-place.ensures parts.0 route c.hear-earlier.result now has in
    let id = number (A.stands_for s) (A.is_sig s) value net i c.requires.net ns kept.neighbours c.args.arrival.now.arc.0 c.place_of-place.result dest a c.requires.fits.1 c.requires.fits.2 c.place_of-place.ensures parts.0 in
    let inside_rows : dest < length c.args.rows.now = subst (λ z. dest < z) (sym kept.row_count) parts.0 in
    let row = entry_is c.args.rows.now dest c.index-rows-dest.result inside_rows c.index-rows-dest.is in (
      a,
      c.requires.fits.1,
      c.requires.fits.2,
      row_settles (A.stands_for s) (A.is_sig s) value net c.requires.net i dest ns now kept.neighbours are a c.args.arrival.now.arc.0 (option_map (known_route value) route) c.requires.fits.1 id c.requires.fits.2 heard
          (option_map (known_route value) c.index-rows-dest.result) (ap (option_map (known_route value)) (sym row) ∙ c.requires.chosen),
    )

pub hear-requires : goal.hear-requires
hear-requires g c =
    let A = g.A.Algebra in
    let s = c.args.site.now.algebra.now in
    let value = A.sig_value s in
    let net = c.args.site.now.net.now in
    let i = c.args.site.now.node.0 in
    let kept = c.requires.kept in
    let ns = c.args.neighbours.now in
    let update = c.args.arrival.now.update.now in
    let dest = update.dest.0 in
    let a = c.requires.fits.0 in
    let parts = fits_parts net a (pure_update update) c.requires.fits.3 in
    let there = neighbour_there (A.stands_for s) (A.is_sig s) value net i c.requires.net ns kept.neighbours c.args.arrival.now.arc.0 c.place_of-place.result dest a c.requires.fits.1 c.requires.fits.2 c.place_of-place.ensures parts.0 in
    let route = c.in_ok-route.route in
    let now = c.hear-earlier.new.self in
    let has = c.hear-earlier.ensures there.0 there.1 in
    let fit = known_fits (A.is_sig s) value net a route (option_map pure_shared update.route) c.in_ok-route.ensures.sig c.in_ok-route.ensures.route parts.1 in
    let are = still_neighbours (A.stands_for s) (A.is_sig s) value net i c.requires.net ns kept.neighbours c.args.arrival.now.arc.0 c.place_of-place.result dest a c.requires.fits.1 c.requires.fits.2 c.place_of-place.ensures parts.0 route c.hear-earlier.result now has fit in
    let there_now = neighbour_there (A.stands_for s) (A.is_sig s) value net i c.requires.net now are c.args.arrival.now.arc.0 c.place_of-place.result dest a c.requires.fits.1 c.requires.fits.2 c.place_of-place.ensures parts.0 in
    there_now

pub returns-in-Ok-clause-kept : goal.returns-in-Ok-clause-kept
returns-in-Ok-clause-kept g c =
    let A = g.A.Algebra in
    let s = c.args.site.now.algebra.now in
    let value = A.sig_value s in
    let net = c.args.site.now.net.now in
    let i = c.args.site.now.node.0 in
    let kept = c.requires.kept in
    let ns = c.args.neighbours.now in
    let update = c.args.arrival.now.update.now in
    let dest = update.dest.0 in
    let a = c.requires.fits.0 in
    let parts = fits_parts net a (pure_update update) c.requires.fits.3 in
    let there = neighbour_there (A.stands_for s) (A.is_sig s) value net i c.requires.net ns kept.neighbours c.args.arrival.now.arc.0 c.place_of-place.result dest a c.requires.fits.1 c.requires.fits.2 c.place_of-place.ensures parts.0 in
    let route = c.in_ok-route.route in
    let now = c.hear-earlier.new.self in
    let has = c.hear-earlier.ensures there.0 there.1 in
    let fit = known_fits (A.is_sig s) value net a route (option_map pure_shared update.route) c.in_ok-route.ensures.sig c.in_ok-route.ensures.route parts.1 in
    record {
      inside = kept.inside;
      own_count = kept.own_count;
      own_values = kept.own_values;
      own_sigs = kept.own_sigs;
      neighbours = still_neighbours (A.stands_for s) (A.is_sig s) value net i c.requires.net ns kept.neighbours c.args.arrival.now.arc.0 c.place_of-place.result dest a c.requires.fits.1 c.requires.fits.2 c.place_of-place.ensures parts.0 route c.hear-earlier.result now has fit;
      row_count = kept.row_count;
      row_sigs = kept.row_sigs;
    }

pub returns-in-Ok-clause-heard : goal.returns-in-Ok-clause-heard
returns-in-Ok-clause-heard g c =
    let A = g.A.Algebra in
    let s = c.args.site.now.algebra.now in
    let value = A.sig_value s in
    let net = c.args.site.now.net.now in
    let i = c.args.site.now.node.0 in
    let kept = c.requires.kept in
    let ns = c.args.neighbours.now in
    let update = c.args.arrival.now.update.now in
    let dest = update.dest.0 in
    let a = c.requires.fits.0 in
    let parts = fits_parts net a (pure_update update) c.requires.fits.3 in
    let there = neighbour_there (A.stands_for s) (A.is_sig s) value net i c.requires.net ns kept.neighbours c.args.arrival.now.arc.0 c.place_of-place.result dest a c.requires.fits.1 c.requires.fits.2 c.place_of-place.ensures parts.0 in
    let route = c.in_ok-route.route in
    let now = c.hear-earlier.new.self in
    let has = c.hear-earlier.ensures there.0 there.1 in
    let fit = known_fits (A.is_sig s) value net a route (option_map pure_shared update.route) c.in_ok-route.ensures.sig c.in_ok-route.ensures.route parts.1 in
    heard_now (A.stands_for s) (A.is_sig s) value net i c.requires.net ns kept.neighbours c.args.arrival.now.arc.0 c.place_of-place.result dest a c.requires.fits.1 c.requires.fits.2 c.place_of-place.ensures parts.0 route c.hear-earlier.result now has
    ∙ ap (λ z. λ b d. cond (b == c.args.arrival.now.arc.0 && d == dest) z (heard_by value ns b d)) c.in_ok-route.ensures.route

pub returns-in-Ok-clause-change : goal.returns-in-Ok-clause-change
returns-in-Ok-clause-change g c =
    let value = g.A.Algebra.sig_value c.args.site.now.algebra.now in
    let net = c.args.site.now.net.now in
    let dest = c.args.arrival.now.update.now.dest.0 in
    let a = c.requires.fits.0 in
    let parts = fits_parts net a (pure_update c.args.arrival.now.update.now) c.requires.fits.3 in
    let inside_rows : dest < length c.args.rows.now = subst (λ z. dest < z) (sym c.requires.kept.row_count) parts.0 in
    let row = entry_is c.args.rows.now dest c.index-rows-dest.result inside_rows c.index-rows-dest.is in
    let chosen = choice net dest c.args.site.now.node.0 (heard_by value c.hear-earlier.new.self) in
    subst (λ z. IsChange value net c.args.site.now.node.0 dest c.args.arrival.now.clock (option_map (known_route value) z) chosen c.in-Ok.change) (sym row) (c.in-Ok.ensures.change)

pub returns-in-Err-clause-kept : goal.returns-in-Err-clause-kept
returns-in-Err-clause-kept g c =
    let A = g.A.Algebra in
    let s = c.args.site.now.algebra.now in
    let value = A.sig_value s in
    let net = c.args.site.now.net.now in
    let i = c.args.site.now.node.0 in
    let kept = c.requires.kept in
    let ns = c.args.neighbours.now in
    let update = c.args.arrival.now.update.now in
    let dest = update.dest.0 in
    let a = c.requires.fits.0 in
    let parts = fits_parts net a (pure_update update) c.requires.fits.3 in
    let there = neighbour_there (A.stands_for s) (A.is_sig s) value net i c.requires.net ns kept.neighbours c.args.arrival.now.arc.0 c.place_of-place.result dest a c.requires.fits.1 c.requires.fits.2 c.place_of-place.ensures parts.0 in
    let route = c.in_ok-route.route in
    let now = c.hear-earlier.new.self in
    let has = c.hear-earlier.ensures there.0 there.1 in
    let fit = known_fits (A.is_sig s) value net a route (option_map pure_shared update.route) c.in_ok-route.ensures.sig c.in_ok-route.ensures.route parts.1 in
    let are = still_neighbours (A.stands_for s) (A.is_sig s) value net i c.requires.net ns kept.neighbours c.args.arrival.now.arc.0 c.place_of-place.result dest a c.requires.fits.1 c.requires.fits.2 c.place_of-place.ensures parts.0 route c.hear-earlier.result now has fit in
    let there_now = neighbour_there (A.stands_for s) (A.is_sig s) value net i c.requires.net now are c.args.arrival.now.arc.0 c.place_of-place.result dest a c.requires.fits.1 c.requires.fits.2 c.place_of-place.ensures parts.0 in
    let back = c.hear.new.self in
    let has_back = c.hear.ensures there_now.0 there_now.1 in
    let was_fit = earlier_fits (A.stands_for s) (A.is_sig s) value net i c.requires.net ns kept.neighbours c.args.arrival.now.arc.0 c.place_of-place.result dest a c.requires.fits.1 c.requires.fits.2 c.place_of-place.ensures parts.0 route c.hear-earlier.result now has in
    record {
      inside = kept.inside;
      own_count = kept.own_count;
      own_values = kept.own_values;
      own_sigs = kept.own_sigs;
      neighbours = still_neighbours (A.stands_for s) (A.is_sig s) value net i c.requires.net now are c.args.arrival.now.arc.0 c.place_of-place.result dest a c.requires.fits.1 c.requires.fits.2 c.place_of-place.ensures parts.0 c.hear-earlier.result c.hear.result back has_back was_fit;
      row_count = kept.row_count;
      row_sigs = kept.row_sigs;
    }

pub returns-in-Err-clause-err : goal.returns-in-Err-clause-err
returns-in-Err-clause-err g c =
    let A = g.A.Algebra in
    let s = c.args.site.now.algebra.now in
    let value = A.sig_value s in
    let net = c.args.site.now.net.now in
    let i = c.args.site.now.node.0 in
    let kept = c.requires.kept in
    let ns = c.args.neighbours.now in
    let update = c.args.arrival.now.update.now in
    let dest = update.dest.0 in
    let a = c.requires.fits.0 in
    let parts = fits_parts net a (pure_update update) c.requires.fits.3 in
    let there = neighbour_there (A.stands_for s) (A.is_sig s) value net i c.requires.net ns kept.neighbours c.args.arrival.now.arc.0 c.place_of-place.result dest a c.requires.fits.1 c.requires.fits.2 c.place_of-place.ensures parts.0 in
    let route = c.in_ok-route.route in
    let now = c.hear-earlier.new.self in
    let has = c.hear-earlier.ensures there.0 there.1 in
    let fit = known_fits (A.is_sig s) value net a route (option_map pure_shared update.route) c.in_ok-route.ensures.sig c.in_ok-route.ensures.route parts.1 in
    let are = still_neighbours (A.stands_for s) (A.is_sig s) value net i c.requires.net ns kept.neighbours c.args.arrival.now.arc.0 c.place_of-place.result dest a c.requires.fits.1 c.requires.fits.2 c.place_of-place.ensures parts.0 route c.hear-earlier.result now has fit in
    let there_now = neighbour_there (A.stands_for s) (A.is_sig s) value net i c.requires.net now are c.args.arrival.now.arc.0 c.place_of-place.result dest a c.requires.fits.1 c.requires.fits.2 c.place_of-place.ensures parts.0 in
    let back = c.hear.new.self in
    let has_back = c.hear.ensures there_now.0 there_now.1 in
    let was_fit = earlier_fits (A.stands_for s) (A.is_sig s) value net i c.requires.net ns kept.neighbours c.args.arrival.now.arc.0 c.place_of-place.result dest a c.requires.fits.1 c.requires.fits.2 c.place_of-place.ensures parts.0 route c.hear-earlier.result now has in
    put_back (heard_by value ns) (heard_by value now) (heard_by value back) c.args.arrival.now.arc.0 dest (option_map (known_route value) route) (option_map (known_route value) c.hear-earlier.result)
    (heard_now (A.stands_for s) (A.is_sig s) value net i c.requires.net ns kept.neighbours c.args.arrival.now.arc.0 c.place_of-place.result dest a c.requires.fits.1 c.requires.fits.2 c.place_of-place.ensures parts.0 route c.hear-earlier.result now has)
    (heard_now (A.stands_for s) (A.is_sig s) value net i c.requires.net now are c.args.arrival.now.arc.0 c.place_of-place.result dest a c.requires.fits.1 c.requires.fits.2 c.place_of-place.ensures parts.0 c.hear-earlier.result c.hear.result back has_back)
    (earlier_is (A.stands_for s) (A.is_sig s) value net i c.requires.net ns kept.neighbours c.args.arrival.now.arc.0 c.place_of-place.result dest a c.requires.fits.1 c.requires.fits.2 c.place_of-place.ensures parts.0 route c.hear-earlier.result now has)
