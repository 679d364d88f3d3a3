use Rattle.std.specs.Prelude.{OnErr, OnOk}
use Rattle.std.proofs.Common.{◌≡◌, ◌*◌, ◌+◌, ◌<◌, ◌≤◌, [], Some, true, cond, length, map, option_map, sym, ap, subst, ◌∙◌, arith}
use Rattle.std.proofs.Math.ListN.{set}
use Rattle.std.proofs.lemmas.List.{set-get_or}
use Rattle.net_graph.specs.Nets.{arcs_to}
use Rattle.node_core.specs.Kinds.{listener}
use Rattle.distance_node.specs.Chosen.{IsBest, entry_of}
use Rattle.distance_node.specs.Fitting.{fits_dest, same_reported_self}
use Rattle.distance_node.specs.Node.{fits_in, heard_with, offers, same_reported, taken, reported_on}
use Rattle.distance_node.specs.Nodes.{HasRows, PureNode, state_of}
use Rattle.distance_node.specs.Places.{heard_by}
use Rattle.distance_node.specs.Tellings.{reported_of}
use Rattle.distance_node.specs.Vectors.{noted}
use Rattle.distance_node.proofs.Nodes.{heard_more, node_with, rows_more, taken_is, reported_is_taken}
use Rattle.distance_node.proofs.Pushing.{entry_is}
use Rattle.distance_node.proofs.Taking.{came_on, entry_there, heard_put, some_holds, reported_before, reported_may}
use Rattle.distance_node.proofs.node.DvNode.take.Goals as goal

pub settle_by-requires-clause-arrival : goal.settle_by-requires-clause-arrival
settle_by-requires-clause-arrival g c =
    let A = g.A.Algebra in
    let inside = c.self.inside in
    let s = inside.algebra.now in
    let value = A.sig_value s in
    let net = inside.net.now in
    let i = inside.number.0 in
    let m = c.args.message.now in
    let dest = c.dest-dest.result.0 in
    let place = c.place_of-place.result in
    let w = length inside.speakers.now in
    let node = c.self.invariant.1 in
    let n = node.placed.is_net in
    let fits : fits_in net m ≡ true = rw (← c.self.view_is) at c.requires.fits in
    let below : dest < length net.dests = subst (λ z. z < length net.dests) (sym c.dest-dest.ensures) (fits_dest net m fits) in
    let listens : listener net c.args.arc.0 ≡ Some i = rw (← c.self.view_is) at c.requires.listens in
    let came = came_on net n i c.args.arc.0 place listens c.place_of-place.ensures in
    let reported = c.reported-reported.result.now in
    let may = reported_may (A.is_sig s) value m.stamp c.args.clock reported c.requires.stamp c.reported-reported.ensures.reported in
    record {
      from = came.0;
      there = came.1;
      number = came.2;
      dest_in = below;
      reported = may;
      early = c.requires.early;
    }

pub overflow_mul-dest : goal.overflow_mul-dest
overflow_mul-dest g c =
    let A = g.A.Algebra in
    let inside = c.self.inside in
    let s = inside.algebra.now in
    let value = A.sig_value s in
    let net = inside.net.now in
    let i = inside.number.0 in
    let m = c.args.message.now in
    let dest = c.dest-dest.result.0 in
    let place = c.place_of-place.result in
    let w = length inside.speakers.now in
    let node = c.self.invariant.1 in
    let n = node.placed.is_net in
    let fits : fits_in net m ≡ true = rw (← c.self.view_is) at c.requires.fits in
    let below : dest < length net.dests = subst (λ z. z < length net.dests) (sym c.dest-dest.ensures) (fits_dest net m fits) in
    let listens : listener net c.args.arc.0 ≡ Some i = rw (← c.self.view_is) at c.requires.listens in
    let came = came_on net n i c.args.arc.0 place listens c.place_of-place.ensures in
    let is_entry = entry_there net n i place w dest came.0 inside.heard.items came.1 node.placed.near.count node.has_heard.count below in
    omega (arith, is_entry.row_fits)

pub overflow_add-dest : goal.overflow_add-dest
overflow_add-dest g c =
    let A = g.A.Algebra in
    let inside = c.self.inside in
    let s = inside.algebra.now in
    let value = A.sig_value s in
    let net = inside.net.now in
    let i = inside.number.0 in
    let m = c.args.message.now in
    let dest = c.dest-dest.result.0 in
    let place = c.place_of-place.result in
    let w = length inside.speakers.now in
    let node = c.self.invariant.1 in
    let n = node.placed.is_net in
    let fits : fits_in net m ≡ true = rw (← c.self.view_is) at c.requires.fits in
    let below : dest < length net.dests = subst (λ z. z < length net.dests) (sym c.dest-dest.ensures) (fits_dest net m fits) in
    let listens : listener net c.args.arc.0 ≡ Some i = rw (← c.self.view_is) at c.requires.listens in
    let came = came_on net n i c.args.arc.0 place listens c.place_of-place.ensures in
    let is_entry = entry_there net n i place w dest came.0 inside.heard.items came.1 node.placed.near.count node.has_heard.count below in
    omega (arith, is_entry.fits)

pub index_mut-requires : goal.index_mut-requires
index_mut-requires g c =
    let A = g.A.Algebra in
    let inside = c.self.inside in
    let s = inside.algebra.now in
    let value = A.sig_value s in
    let net = inside.net.now in
    let i = inside.number.0 in
    let m = c.args.message.now in
    let dest = c.dest-dest.result.0 in
    let place = c.place_of-place.result in
    let w = length inside.speakers.now in
    let node = c.self.invariant.1 in
    let n = node.placed.is_net in
    let fits : fits_in net m ≡ true = rw (← c.self.view_is) at c.requires.fits in
    let below : dest < length net.dests = subst (λ z. z < length net.dests) (sym c.dest-dest.ensures) (fits_dest net m fits) in
    let listens : listener net c.args.arc.0 ≡ Some i = rw (← c.self.view_is) at c.requires.listens in
    let came = came_on net n i c.args.arc.0 place listens c.place_of-place.ensures in
    let is_entry = entry_there net n i place w dest came.0 inside.heard.items came.1 node.placed.near.count node.has_heard.count below in
    let len = inside.heard.ok.0 in
    omega (arith, is_entry.inside, len)

pub settle_by-requires-clause-best : goal.settle_by-requires-clause-best
settle_by-requires-clause-best g c =
    let A = g.A.Algebra in
    let inside = c.self.inside in
    let s = inside.algebra.now in
    let value = A.sig_value s in
    let net = inside.net.now in
    let i = inside.number.0 in
    let m = c.args.message.now in
    let dest = c.dest-dest.result.0 in
    let place = c.place_of-place.result in
    let w = length inside.speakers.now in
    let node = c.self.invariant.1 in
    let n = node.placed.is_net in
    let fits : fits_in net m ≡ true = rw (← c.self.view_is) at c.requires.fits in
    let below : dest < length net.dests = subst (λ z. z < length net.dests) (sym c.dest-dest.ensures) (fits_dest net m fits) in
    let listens : listener net c.args.arc.0 ≡ Some i = rw (← c.self.view_is) at c.requires.listens in
    let came = came_on net n i c.args.arc.0 place listens c.place_of-place.ensures in
    let begun : inside.is_begun ≡ true = rw (← c.self.view_is) at c.requires.begun in
    let rows = inside.rows.items in
    let row_there : dest < length rows = subst (λ z. dest < z) (sym node.row_count) below in
    let has = node.has_rows begun in
    let entry : entry_of rows dest ≡ c.index-row.result.now = entry_is rows dest c.index-row.result.now row_there c.index-row.ensures in
    subst (λ h. IsBest value net i (offers net dest i (λ a. heard_by value net i h a dest)) c.index-row.result.now) (sym c.deref-2.ensures.value)
    (subst (IsBest value net i (offers net dest i (λ a. heard_by value net i inside.heard.items a dest))) entry (has.best dest))

pub invariant_of-self-2 : goal.invariant_of-self-2
invariant_of-self-2 g c =
    let A = g.A.Algebra in
    let inside = c.self.inside in
    let s = inside.algebra.now in
    let value = A.sig_value s in
    let net = inside.net.now in
    let i = inside.number.0 in
    let m = c.args.message.now in
    let dest = c.dest-dest.result.0 in
    let place = c.place_of-place.result in
    let w = length inside.speakers.now in
    let node = c.self.invariant.1 in
    let n = node.placed.is_net in
    let fits : fits_in net m ≡ true = rw (← c.self.view_is) at c.requires.fits in
    let below : dest < length net.dests = subst (λ z. z < length net.dests) (sym c.dest-dest.ensures) (fits_dest net m fits) in
    let listens : listener net c.args.arc.0 ≡ Some i = rw (← c.self.view_is) at c.requires.listens in
    let came = came_on net n i c.args.arc.0 place listens c.place_of-place.ensures in
    let reported = c.in_ok-kept.kept in
    let may = reported_before (A.is_sig s) value m.stamp c.args.clock c.reported-reported.result.now reported c.requires.stamp c.reported-reported.ensures.reported c.in_ok-kept.ensures.sig c.in_ok-kept.ensures.value in
    let begun : inside.is_begun ≡ true = rw (← c.self.view_is) at c.requires.begun in
    let rows = inside.rows.items in
    let row_there : dest < length rows = subst (λ z. dest < z) (sym node.row_count) below in
    let has = node.has_rows begun in
    let entry : entry_of rows dest ≡ c.index-row.result.now = entry_is rows dest c.index-row.result.now row_there c.index-row.ensures in
    let heard = inside.heard.items in
    let same : set rows dest c.index-row.result.now ≡ rows = ap (set rows dest) c.index-row.ensures ∙ set-get_or rows dest c.index-row.result.now in
    let next = c.index-row.result.now in
    let late : inside.last < c.args.clock = rw (← c.self.view_is) at c.requires.last in
    let later : inside.last ≤ c.args.clock = omega (arith, late) in
    let is_entry = entry_there net n i place w dest came.0 heard came.1 node.placed.near.count node.has_heard.count below in
    let heard_is = heard_put value net n i place w c.args.arc.0 dest came.0 heard reported came.1 came.2 node.placed.near.count node.has_heard.count below in
    let best = subst (λ v. IsBest value net i (offers net dest i (λ a. heard_with (heard_by value net i heard) c.args.arc.0 dest v a dest)) next) (sym c.in_ok-kept.ensures.value)
    (subst (λ h. IsBest value net i (offers net dest i (λ a. heard_with (heard_by value net i h) c.args.arc.0 dest (option_map value c.reported-reported.result.now) a dest)) next) c.deref-2.ensures.value (c.in_ok-settle_by.ensures.stays c.in-Stays.is)) in
    let sig = some_holds (λ r. A.is_sig s r.sig) next (λ r e. has.sigs dest r (entry ∙ e)) in (
      c.self.invariant.0,
      record {
        algebra = node.algebra;
        placed = node.placed;
        has_heard = heard_more value net i (A.is_sig s) heard inside.last c.args.clock (dest * w + place) reported node.has_heard later c.requires.early is_entry.inside may;
        silent = λ e. absurd (let z = sym begun ∙ e in cc);
        row_count = node.row_count;
        rowless = λ e. absurd (let z = sym begun ∙ e in cc);
        has_rows = λ b. subst (HasRows (A.is_sig s) value net i (set heard (dest * w + place) reported)) same (rows_more value net i (A.is_sig s) heard (set heard (dest * w + place) reported) rows c.args.arc.0 dest (option_map value reported) next has heard_is row_there sig best);
      },
    )

pub returns-in-Moves : goal.returns-in-Moves
returns-in-Moves g c =
    let m = c.args.message.now in
    record {
      node = subst (λ (z : PureNode). OnOk c.change.result (state_of c.change.new.self ≡ (taken (state_of z) c.args.arc.0 m c.args.clock).0)) c.self.view_is c.change.ensures.node;
      out = subst (λ (z : PureNode). OnOk c.change.result (map noted c.change.new.out ≡ (taken (state_of z) c.args.arc.0 m c.args.clock).1)) c.self.view_is c.change.ensures.out;
      err = subst (λ (z : PureNode). OnErr c.change.result ((state_of c.change.new.self ≡ state_of z) × (c.change.new.out ≡ []))) c.self.view_is c.change.ensures.err;
    }

pub returns-clause-node : goal.returns-clause-node
returns-clause-node g c =
    let A = g.A.Algebra in
    let inside = c.self.inside in
    let s = inside.algebra.now in
    let value = A.sig_value s in
    let net = inside.net.now in
    let i = inside.number.0 in
    let m = c.args.message.now in
    let dest = c.dest-dest.result.0 in
    let place = c.place_of-place.result in
    let w = length inside.speakers.now in
    let node = c.self.invariant.1 in
    let n = node.placed.is_net in
    let fits : fits_in net m ≡ true = rw (← c.self.view_is) at c.requires.fits in
    let below : dest < length net.dests = subst (λ z. z < length net.dests) (sym c.dest-dest.ensures) (fits_dest net m fits) in
    let listens : listener net c.args.arc.0 ≡ Some i = rw (← c.self.view_is) at c.requires.listens in
    let came = came_on net n i c.args.arc.0 place listens c.place_of-place.ensures in
    let reported = c.in_ok-kept.kept in
    let may = reported_before (A.is_sig s) value m.stamp c.args.clock c.reported-reported.result.now reported c.requires.stamp c.reported-reported.ensures.reported c.in_ok-kept.ensures.sig c.in_ok-kept.ensures.value in
    let begun : inside.is_begun ≡ true = rw (← c.self.view_is) at c.requires.begun in
    let rows = inside.rows.items in
    let row_there : dest < length rows = subst (λ z. dest < z) (sym node.row_count) below in
    let has = node.has_rows begun in
    let entry : entry_of rows dest ≡ c.index-row.result.now = entry_is rows dest c.index-row.result.now row_there c.index-row.ensures in
    let heard = inside.heard.items in
    let same : set rows dest c.index-row.result.now ≡ rows = ap (set rows dest) c.index-row.ensures ∙ set-get_or rows dest c.index-row.result.now in
    let next = c.index-row.result.now in
    let late : inside.last < c.args.clock = rw (← c.self.view_is) at c.requires.last in
    let later : inside.last ≤ c.args.clock = omega (arith, late) in
    let is_entry = entry_there net n i place w dest came.0 heard came.1 node.placed.near.count node.has_heard.count below in
    let heard_is = heard_put value net n i place w c.args.arc.0 dest came.0 heard reported came.1 came.2 node.placed.near.count node.has_heard.count below in
    let best = subst (λ v. IsBest value net i (offers net dest i (λ a. heard_with (heard_by value net i heard) c.args.arc.0 dest v a dest)) next) (sym c.in_ok-kept.ensures.value)
    (subst (λ h. IsBest value net i (offers net dest i (λ a. heard_with (heard_by value net i h) c.args.arc.0 dest (option_map value c.reported-reported.result.now) a dest)) next) c.deref-2.ensures.value (c.in_ok-settle_by.ensures.stays c.in-Stays.is)) in
    ap (λ z. state_of (node_with value net i inside.is_begun (set heard (dest * w + place) reported) z c.args.clock)) (sym same)
    ∙ (taken_is value net i heard (set heard (dest * w + place) reported) rows inside.last c.args.arc.0 dest c.args.clock reported next m c.dest-dest.ensures (c.in_ok-kept.ensures.value ∙ c.reported-reported.ensures.value) heard_is row_there best inside.is_begun
    ∙ ap (λ z. (taken (state_of z) c.args.arc.0 m c.args.clock).0) c.self.view_is)

pub returns-clause-out : goal.returns-clause-out
returns-clause-out g c =
    let A = g.A.Algebra in
    let inside = c.self.inside in
    let s = inside.algebra.now in
    let value = A.sig_value s in
    let net = inside.net.now in
    let i = inside.number.0 in
    let m = c.args.message.now in
    let dest = c.dest-dest.result.0 in
    let place = c.place_of-place.result in
    let w = length inside.speakers.now in
    let node = c.self.invariant.1 in
    let n = node.placed.is_net in
    let fits : fits_in net m ≡ true = rw (← c.self.view_is) at c.requires.fits in
    let below : dest < length net.dests = subst (λ z. z < length net.dests) (sym c.dest-dest.ensures) (fits_dest net m fits) in
    let listens : listener net c.args.arc.0 ≡ Some i = rw (← c.self.view_is) at c.requires.listens in
    let came = came_on net n i c.args.arc.0 place listens c.place_of-place.ensures in
    let reported = c.in_ok-kept.kept in
    let may = reported_before (A.is_sig s) value m.stamp c.args.clock c.reported-reported.result.now reported c.requires.stamp c.reported-reported.ensures.reported c.in_ok-kept.ensures.sig c.in_ok-kept.ensures.value in
    let begun : inside.is_begun ≡ true = rw (← c.self.view_is) at c.requires.begun in
    let rows = inside.rows.items in
    let row_there : dest < length rows = subst (λ z. dest < z) (sym node.row_count) below in
    let has = node.has_rows begun in
    let entry : entry_of rows dest ≡ c.index-row.result.now = entry_is rows dest c.index-row.result.now row_there c.index-row.ensures in
    let heard = inside.heard.items in
    let same : set rows dest c.index-row.result.now ≡ rows = ap (set rows dest) c.index-row.ensures ∙ set-get_or rows dest c.index-row.result.now in
    let next = c.index-row.result.now in
    let late : inside.last < c.args.clock = rw (← c.self.view_is) at c.requires.last in
    let later : inside.last ≤ c.args.clock = omega (arith, late) in
    let is_entry = entry_there net n i place w dest came.0 heard came.1 node.placed.near.count node.has_heard.count below in
    let heard_is = heard_put value net n i place w c.args.arc.0 dest came.0 heard reported came.1 came.2 node.placed.near.count node.has_heard.count below in
    let best = subst (λ v. IsBest value net i (offers net dest i (λ a. heard_with (heard_by value net i heard) c.args.arc.0 dest v a dest)) next) (sym c.in_ok-kept.ensures.value)
    (subst (λ h. IsBest value net i (offers net dest i (λ a. heard_with (heard_by value net i h) c.args.arc.0 dest (option_map value c.reported-reported.result.now) a dest)) next) c.deref-2.ensures.value (c.in_ok-settle_by.ensures.stays c.in-Stays.is)) in
    let same_value = ap (λ b. cond b [] (reported_on (arcs_to net i) (record { dest = dest; value = reported_of value next; stamp = c.args.clock }))) (sym (same_reported_self (reported_of value next))) in
    let sent = subst (λ r. map noted c.args.out.now ≡ cond (same_reported (reported_of value next) (reported_of value r)) []
    (reported_on (arcs_to net i) (record { dest = dest; value = reported_of value next; stamp = c.args.clock }))) (sym entry) (ap (map noted) c.requires.out ∙ same_value) in
    reported_is_taken value net i heard (set heard (dest * w + place) reported) rows inside.last c.args.arc.0 dest c.args.clock reported next m c.dest-dest.ensures (c.in_ok-kept.ensures.value ∙ c.reported-reported.ensures.value) heard_is row_there best inside.is_begun
    (map noted c.args.out.now) sent
    ∙ ap (λ z. (taken (state_of z) c.args.arc.0 m c.args.clock).1) c.self.view_is
