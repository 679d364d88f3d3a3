use Rattle.std.proofs.Common.{ℕ, ◌+◌, ◌≤◌, length, subst, arith}
use Rattle.std.specs.Bool.{Decides}
use Rattle.std.specs.Option.{MatchOption}
use Rattle.meta_base.specs.NodePaths.{numbers}
use Rattle.net_graph.specs.Nets.{arcs_from}
use Rattle.net_graph.specs.Tables.{route_at}
use Rattle.net_graph.specs.Views.{pure_arc, pure_route, rows_of}
use Rattle.stable_check.specs.Checks.{ImprovedBy, IsOutdone, MadeBy, OutdoneBy}
use Rattle.stable_check.specs.ArcSearch.{out_arc}
use Rattle.report_check.specs.Judged.{IsBeaten, IsBeatenBy, IsBetterOffer}
use Rattle.report_check.proofs.RowSearch.{NotBeatenYet, NotOutdoneYet, found_as, found_more, made_all, made_more, not_beaten_all, not_beaten_more, not_outdone_all, not_outdone_more}
use Rattle.report_check.proofs.rows.judge_row.Goals as goal

pub judge_arc-requires-clause-arc : goal.judge_arc-requires-clause-arc
judge_arc-requires-clause-arc c =
    let net = c.args.net.now in
    let a = pure_arc c.get.result in
    let there = rw c.out_arcs-arcs.ensures.arcs at c.get.ensures in
    (out_arc net c.requires.net c.args.node.0 c.loop-place.place a there).label

pub loop-place-preserved : goal.loop-place-preserved
loop-place-preserved c =
    let net = c.args.net.now in
    let dest = c.args.table.now.dest.0 in
    let rows = rows_of c.args.table.now in
    let i = c.args.node.0 in
    let n = c.loop-place.place in
    let a = pure_arc c.get.result in
    let there = rw c.out_arcs-arcs.ensures.arcs at c.get.ensures in
    let tail = (out_arc net c.requires.net i n a there).tail in
    let old = c.loop-place.found in
    let more = c.in_ok-of_arc.of_arc in
    record {
      beating = λ w.
          let beating = subst (λ (k : ℕ). MatchOption more.beating (¬ ImprovedBy net rows k a.head) (λ walk. IsBeatenBy net dest rows k (numbers walk))) tail (c.in_ok-of_arc.ensures.beating w) in
          rw c.or-found.ensures.beating
          (found_more old.beating more.beating (NotBeatenYet net dest rows i n) (¬ ImprovedBy net rows i a.head) (NotBeatenYet net dest rows i (n + 1)) (λ walk. IsBeatenBy net dest rows i (numbers walk))
          (c.loop-place.invariant.beating w) beating (not_beaten_more net dest rows i n a there));
      made = λ w.
          let made = subst (λ (k : ℕ). Decides more.offers.is_made (MadeBy net (route_at rows) k a.head)) tail (c.in_ok-of_arc.ensures.made w) in
          rw c.or-found.ensures.made (made_more net dest rows i n a old.offers.is_made more.offers.is_made there (c.loop-place.invariant.made w) made);
      better = λ w.
          let better = subst (λ (k : ℕ). MatchOption more.offers.better (¬ OutdoneBy net (route_at rows) k a.head) (λ s. IsBetterOffer net dest rows k (pure_route s))) tail (c.in_ok-of_arc.ensures.better w) in
          rw c.or-found.ensures.better
          (found_more old.offers.better more.offers.better (NotOutdoneYet net dest rows i n) (¬ OutdoneBy net (route_at rows) i a.head) (NotOutdoneYet net dest rows i (n + 1)) (λ s. IsBetterOffer net dest rows i (pure_route s))
          (c.loop-place.invariant.better w) better (not_outdone_more net dest rows i n a there));
    }

pub returns-clause-beating : goal.returns-clause-beating
returns-clause-beating c = λ w.
    let net = c.args.net.now in
    let dest = c.args.table.now.dest.0 in
    let rows = rows_of c.args.table.now in
    let i = c.args.node.0 in
    let n = c.loop-place.place in
    let past : length c.out_arcs-arcs.result ≤ n = omega (arith, c.loop-place-test.false, c.count-place-end.ensures) in
    let all : length (arcs_from net i) ≤ n = rw c.out_arcs-arcs.ensures.arcs at past in
    found_as c.loop-place.found.beating (NotBeatenYet net dest rows i n) (¬ IsBeaten net dest rows i) (λ walk. IsBeatenBy net dest rows i (numbers walk)) (λ walk. IsBeatenBy net dest rows i (numbers walk))
    (c.loop-place.invariant.beating w) (not_beaten_all net c.requires.net dest rows i n all) (λ walk h. h)

pub returns-clause-made : goal.returns-clause-made
returns-clause-made c = λ w.
    let net = c.args.net.now in
    let i = c.args.node.0 in
    let n = c.loop-place.place in
    let past : length c.out_arcs-arcs.result ≤ n = omega (arith, c.loop-place-test.false, c.count-place-end.ensures) in
    let all : length (arcs_from net i) ≤ n = rw c.out_arcs-arcs.ensures.arcs at past in
    made_all net c.requires.net c.args.table.now.dest.0 (rows_of c.args.table.now) i n c.loop-place.found.offers.is_made all (c.loop-place.invariant.made w)

pub returns-clause-better : goal.returns-clause-better
returns-clause-better c = λ w.
    let net = c.args.net.now in
    let dest = c.args.table.now.dest.0 in
    let rows = rows_of c.args.table.now in
    let i = c.args.node.0 in
    let n = c.loop-place.place in
    let past : length c.out_arcs-arcs.result ≤ n = omega (arith, c.loop-place-test.false, c.count-place-end.ensures) in
    let all : length (arcs_from net i) ≤ n = rw c.out_arcs-arcs.ensures.arcs at past in
    found_as c.loop-place.found.offers.better (NotOutdoneYet net dest rows i n) (¬ IsOutdone net dest (route_at rows) i) (λ s. IsBetterOffer net dest rows i (pure_route s)) (λ s. IsBetterOffer net dest rows i (pure_route s))
    (c.loop-place.invariant.better w) (not_outdone_all net c.requires.net dest rows i n all) (λ s h. h)
