use Rattle.std.proofs.Common.{Some, inr, sym, ap, ◌∙◌}
use Rattle.std.specs.Prelude.{option_and_then, option_map}
use Rattle.std.proofs.lemmas.Result.{IfOk-weaker}
use Rattle.net_graph.specs.Tables.{carrier}
use Rattle.path_vector.specs.Node.{offer_by}
use Rattle.vector_block.proofs.Offers.{IsPassed, alike_found, better_taken, later_passed, none_placed, not_placed, looked_at, offered_none, other_next, row_lost, row_stays, same_next, speaker_apart}
use Rattle.vector_block.specs.Stores.{pure_store, route_of, said_by}
use Rattle.vector_block.proofs.look.look.Goals.{in-Some+in_ok-offer_into+then-branch+in-Some-spare+in-Some-row+in-Greater, in-Some+in_ok-offer_into+then-branch+in_default-spare, in-Some+in_ok-offer_into+else-branch, in_default}
use Rattle.vector_block.proofs.look.look.Goals as goal

pub offer_into-requires-clause-arc : goal.offer_into-requires-clause-arc
offer_into-requires-clause-arc g c =
    let h = c.requires.hearing in
    (h.0, h.1, h.2.may (route_of (g.A.Algebra.sig_value c.args.site.now.algebra.now) c.args.store.now.paths c.in-Some.route.now) (sym c.in-Some.ensures.route))

pub returns-in-Less : goal.returns-in-Less
returns-in-Less g c = record {
  look = λ a stands h.
      let A = g.A.Algebra in
      let s = c.args.site.now.algebra.now in
      let value = A.sig_value s in
      let net = c.args.site.now.net.now in
      let node = c.args.hearing.now.node.0 in
      let speaker = c.args.hearing.now.speaker.0 in
      let paths = c.args.store.now.paths in
      let said = said_by value paths c.args.store.now.reports.items (Some c.args.hearing.now.report) in
      let row = (pure_store value c.args.store.now).rows node c.args.hearing.now.dest.0 in
      let offer = option_and_then (offer_by net a) said in
      let r = route_of value paths c.in-Some.route.now in
      let b = route_of value paths c.in-Some-row.row.now in
      let sig = c.in-Some-spare.offer in
      let sigs_in = rw c.requires.algebra at (g.met.A.Algebra.sig_in s) in
      let row_in = sigs_in c.in-Some-row.row.now.sig c.in-Some-row.ensures.kept.sig in
      let look = looked_at (A.is_sig s) value net a speaker node row said r b c.in_ok-offer_into.field-0 c.offer_into.new.place sig sigs_in c.in-Some.ensures.route c.in-Some-row.ensures.route row_in c.in_ok-offer_into.ensures.sig (c.in_ok-offer_into.ensures.offer a h.tail stands) c.if-branch.true c.in-Some-spare.is in
      let order = rw c.requires.algebra at (sym (c.compare.ensures node (c.requires.begins b look.row_is)) ∙ c.in-Less.is) in
      better_taken (A.is_sig s) value (carrier net) speaker node row said offer sig r b look order;
}

pub returns-in-Equal : goal.returns-in-Equal
returns-in-Equal g c = record {
  look = λ a stands h.
      let A = g.A.Algebra in
      let s = c.args.site.now.algebra.now in
      let value = A.sig_value s in
      let net = c.args.site.now.net.now in
      let node = c.args.hearing.now.node.0 in
      let speaker = c.args.hearing.now.speaker.0 in
      let paths = c.args.store.now.paths in
      let said = said_by value paths c.args.store.now.reports.items (Some c.args.hearing.now.report) in
      let row = (pure_store value c.args.store.now).rows node c.args.hearing.now.dest.0 in
      let offer = option_and_then (offer_by net a) said in
      let r = route_of value paths c.in-Some.route.now in
      let b = route_of value paths c.in-Some-row.row.now in
      let sig = c.in-Some-spare.offer in
      let sigs_in = rw c.requires.algebra at (g.met.A.Algebra.sig_in s) in
      let row_in = sigs_in c.in-Some-row.row.now.sig c.in-Some-row.ensures.kept.sig in
      let look = looked_at (A.is_sig s) value net a speaker node row said r b c.in_ok-offer_into.field-0 c.offer_into.new.place sig sigs_in c.in-Some.ensures.route c.in-Some-row.ensures.route row_in c.in_ok-offer_into.ensures.sig (c.in_ok-offer_into.ensures.offer a h.tail stands) c.if-branch.true c.in-Some-spare.is in
      let order = rw c.requires.algebra at (sym (c.compare.ensures node (c.requires.begins b look.row_is)) ∙ c.in-Equal.is) in
      IfOk-weaker c.look_alike.result _ _ (alike_found (A.is_sig s) value (carrier net) speaker node row said offer sig r b look order) c.look_alike.ensures;
}

pub returns-in-Some-row-2 : goal.returns-in-Some-row-2
returns-in-Some-row-2 g c = record {
  look = λ a stands h.
      let A = g.A.Algebra in
      let s = c.args.site.now.algebra.now in
      let value = A.sig_value s in
      let net = c.args.site.now.net.now in
      let node = c.args.hearing.now.node.0 in
      let speaker = c.args.hearing.now.speaker.0 in
      let paths = c.args.store.now.paths in
      let said = said_by value paths c.args.store.now.reports.items (Some c.args.hearing.now.report) in
      let row = (pure_store value c.args.store.now).rows node c.args.hearing.now.dest.0 in
      let offer = option_and_then (offer_by net a) said in
      let passed : IsPassed (carrier net) row offer = elim c.match-said.branch [
        | in-Some+in_ok-offer_into+then-branch+in-Some-spare+in-Some-row+in-Greater w ↦
            let r = route_of value paths w.in-Some.route.now in
            let b = route_of value paths w.in-Some-row.row.now in
            let sig = w.in-Some-spare.offer in
            let sigs_in = rw c.requires.algebra at (g.met.A.Algebra.sig_in s) in
            let row_in = sigs_in w.in-Some-row.row.now.sig w.in-Some-row.ensures.kept.sig in
            let look = looked_at (A.is_sig s) value net a speaker node row said r b w.in_ok-offer_into.field-0 w.offer_into.new.place sig sigs_in w.in-Some.ensures.route w.in-Some-row.ensures.route row_in w.in_ok-offer_into.ensures.sig (w.in_ok-offer_into.ensures.offer a h.tail stands) w.if-branch.true w.in-Some-spare.is in
            let order = rw c.requires.algebra at (sym (w.compare.ensures node (c.requires.begins b look.row_is)) ∙ w.in-Greater.is) in
            later_passed (A.is_sig s) value (carrier net) speaker node row said offer sig r b look order
        | in-Some+in_ok-offer_into+then-branch+in_default-spare w ↦
            inr (offered_none value net a node said (route_of value paths w.in-Some.route.now) w.offer_into.new.place (sym w.in-Some.ensures.route) w.in_ok-offer_into.field-0 (w.in_ok-offer_into.ensures.offer a h.tail stands) (none_placed w.in_ok-offer_into.field-0 w.offer_into.new.place w.in_default-spare.is))
        | in-Some+in_ok-offer_into+else-branch w ↦
            inr (offered_none value net a node said (route_of value paths w.in-Some.route.now) w.offer_into.new.place (sym w.in-Some.ensures.route) w.in_ok-offer_into.field-0 (w.in_ok-offer_into.ensures.offer a h.tail stands) (not_placed w.in_ok-offer_into.field-0 w.offer_into.new.place w.if-branch.false))
        | in_default w ↦ inr (ap (option_and_then (offer_by net a)) (sym c.said.ensures.route ∙ ap (option_map (λ r. route_of value paths r.now)) w.in_default.is))
      ] in
      let kept = c.in-Some-row-2.ensures.kept in
      let next = kept.next speaker (speaker_apart a speaker node h.head h.tail h.apart) ∙ same_next c.in-Some-row-2.row.now.next.0 speaker c.if-row-hearing.true in
      row_lost (carrier net) speaker row offer passed (route_of value paths c.in-Some-row-2.row.now) (sym c.in-Some-row-2.ensures.route) next;
}

pub returns-in_default-row-2 : goal.returns-in_default-row-2
returns-in_default-row-2 g c = record {
  look = λ a stands h.
      let A = g.A.Algebra in
      let s = c.args.site.now.algebra.now in
      let value = A.sig_value s in
      let net = c.args.site.now.net.now in
      let node = c.args.hearing.now.node.0 in
      let speaker = c.args.hearing.now.speaker.0 in
      let paths = c.args.store.now.paths in
      let said = said_by value paths c.args.store.now.reports.items (Some c.args.hearing.now.report) in
      let row = (pure_store value c.args.store.now).rows node c.args.hearing.now.dest.0 in
      let offer = option_and_then (offer_by net a) said in
      let passed : IsPassed (carrier net) row offer = elim c.match-said.branch [
        | in-Some+in_ok-offer_into+then-branch+in-Some-spare+in-Some-row+in-Greater w ↦
            let r = route_of value paths w.in-Some.route.now in
            let b = route_of value paths w.in-Some-row.row.now in
            let sig = w.in-Some-spare.offer in
            let sigs_in = rw c.requires.algebra at (g.met.A.Algebra.sig_in s) in
            let row_in = sigs_in w.in-Some-row.row.now.sig w.in-Some-row.ensures.kept.sig in
            let look = looked_at (A.is_sig s) value net a speaker node row said r b w.in_ok-offer_into.field-0 w.offer_into.new.place sig sigs_in w.in-Some.ensures.route w.in-Some-row.ensures.route row_in w.in_ok-offer_into.ensures.sig (w.in_ok-offer_into.ensures.offer a h.tail stands) w.if-branch.true w.in-Some-spare.is in
            let order = rw c.requires.algebra at (sym (w.compare.ensures node (c.requires.begins b look.row_is)) ∙ w.in-Greater.is) in
            later_passed (A.is_sig s) value (carrier net) speaker node row said offer sig r b look order
        | in-Some+in_ok-offer_into+then-branch+in_default-spare w ↦
            inr (offered_none value net a node said (route_of value paths w.in-Some.route.now) w.offer_into.new.place (sym w.in-Some.ensures.route) w.in_ok-offer_into.field-0 (w.in_ok-offer_into.ensures.offer a h.tail stands) (none_placed w.in_ok-offer_into.field-0 w.offer_into.new.place w.in_default-spare.is))
        | in-Some+in_ok-offer_into+else-branch w ↦
            inr (offered_none value net a node said (route_of value paths w.in-Some.route.now) w.offer_into.new.place (sym w.in-Some.ensures.route) w.in_ok-offer_into.field-0 (w.in_ok-offer_into.ensures.offer a h.tail stands) (not_placed w.in_ok-offer_into.field-0 w.offer_into.new.place w.if-branch.false))
        | in_default w ↦ inr (ap (option_and_then (offer_by net a)) (sym c.said.ensures.route ∙ ap (option_map (λ r. route_of value paths r.now)) w.in_default.is))
      ] in
      let kept = c.in-Some-row-2.ensures.kept in
      let next = kept.next speaker (speaker_apart a speaker node h.head h.tail h.apart) ∙ other_next c.in-Some-row-2.row.now.next.0 speaker c.if-row-hearing.false in
      row_stays (carrier net) speaker row offer passed (route_of value paths c.in-Some-row-2.row.now) (sym c.in-Some-row-2.ensures.route) next;
}
