use Rattle.std.proofs.Common.{◌<◌, subst, sym}
use Rattle.path_vector.proofs.Moving.{all_moved, moving_begins, moving_goes_on, now_there, same_count}
use Rattle.path_vector.proofs.neighbours.hear_all_at.Goals as goal

pub loop-dest-init : goal.loop-dest-init
loop-dest-init g c = λ n m e f few many. moving_begins n m c.args.dests c.args.place c.args.at c.args.neighbours.now c.args.others.now e f few many

pub hear-route-requires : goal.hear-route-requires
hear-route-requires g c =
    let here = c.requires.here in
    let there = c.requires.there in
    let is = c.loop-dest.invariant here.0 there.0 here.1 there.1 here.2 there.2 in
    (is.left, is.there, subst (λ z. c.loop-dest.dest < z) (sym is.left_count) c.loop-dest-test.true)

pub hear-requires : goal.hear-requires
hear-requires g c =
    let here = c.requires.here in
    let there = c.requires.there in
    let is = c.loop-dest.invariant here.0 there.0 here.1 there.1 here.2 there.2 in (
      is.now,
      now_there here.0 there.0 c.args.dests c.args.place c.args.at c.args.neighbours.now c.args.others.now here.1 there.1 c.loop-dest.dest c.loop-dest.neighbours c.loop-dest.others is,
      subst (λ z. c.loop-dest.dest < z) (sym is.count) c.loop-dest-test.true,
    )

pub loop-dest-preserved : goal.loop-dest-preserved
loop-dest-preserved g c = λ n m e f few many.
    let is = c.loop-dest.invariant n m e f few many in
    moving_goes_on n m c.args.dests c.args.place c.args.at c.args.neighbours.now c.args.others.now e f c.loop-dest.dest c.loop-dest.neighbours c.loop-dest.others is c.loop-dest-test.true
    c.hear-route.result c.hear.result c.hear-route.new.self c.hear.new.self (c.hear-route.ensures is.left is.there)
    (c.hear.ensures is.now (now_there n m c.args.dests c.args.place c.args.at c.args.neighbours.now c.args.others.now e f c.loop-dest.dest c.loop-dest.neighbours c.loop-dest.others is))

pub returns-clause-heard : goal.returns-clause-heard
returns-clause-heard g c = λ n m e f.
    let here = c.requires.here in
    let there = c.requires.there in
    let few = same_count c.args.neighbours.now c.args.place here.0 n c.args.dests here.1 e here.2 in
    let many = same_count c.args.others.now c.args.at there.0 m c.args.dests there.1 f there.2 in
    all_moved n m c.args.dests c.args.place c.args.at c.args.neighbours.now c.args.others.now e f c.loop-dest.dest c.loop-dest.neighbours c.loop-dest.others (c.loop-dest.invariant n m e f few many) c.loop-dest-test.false many

pub returns-clause-after : goal.returns-clause-after
returns-clause-after g c =
    let here = c.requires.here in
    let there = c.requires.there in
    (c.loop-dest.invariant here.0 there.0 here.1 there.1 here.2 there.2).after

pub returns-clause-count : goal.returns-clause-count
returns-clause-count g c =
    let here = c.requires.here in
    let there = c.requires.there in
    (c.loop-dest.invariant here.0 there.0 here.1 there.1 here.2 there.2).many
