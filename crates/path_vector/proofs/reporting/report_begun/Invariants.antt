use Rattle.std.proofs.Common.{◌≡◌, ◌++◌, map, cond, take}
use Rattle.std.specs.Prelude.{filter, is_some, option_map}
use Rattle.meta_base.specs.declared.ids.ArcId.{ArcId}
use Rattle.net_graph.specs.Nets.{PureArc, arcs_to}
use Rattle.path_vector.specs.Node.{reported_on}
use Rattle.path_vector.specs.Updates.{noted, pure_update, spoken_in}
use Rattle.path_vector.proofs.reporting.report_begun.Given as goal

-- it was reported to the listeners so far, where it is news to them
abbrev pub invariant-loop-id : goal.invariant-loop-id
invariant-loop-id l =
    let arcs = arcs_to l.fn.net l.fn.node.0 in
    record {
      ids : map (λ (id : ArcId). id.0) l.id-items ≡ map (λ (a : PureArc). a.id) arcs;
      reported : map noted l.out ≡ map noted l.fn.out ++ reported_on (filter (λ (a : PureArc). cond (spoken_in (option_map (λ n. n.now) l.fn.before) a.tail a.head) l.fn.is_other (is_some l.fn.update.route)) (take l.id-index arcs)) (pure_update l.fn.update);
    }
