use Rattle.std.proofs.Common.{◌<◌, ℕ, subst, sym, vec_len}
use Rattle.std.specs.List.{AllByRecursion}
use Rattle.meta_base.specs.declared.ids.ArcId.{ArcId}
use Rattle.node_core.specs.Configs.{waits_on}
use Rattle.node_core.proofs.Parts.{all_by, arcs_noted, begun_sent}
use Rattle.node_core.proofs.stepping.begin.Goals as goal

pub put_all-requires : goal.put_all-requires
put_all-requires g c =
    let count = vec_len c.args.links.now in
    let out = c.on_start.new.out in
    let noted_sends = subst (AllByRecursion (λ (p : ℕ × g.N.NodeCore.Note). p.0 < count)) (sym c.in_ok-on_start.ensures.out) c.requires.arcs in
    record { arcs = all_by (λ (p : ArcId × g.row.N-Message.Denot). p.0.0 < count) out (arcs_noted g.N.NodeCore.note (λ a. a < count) out noted_sends) }

pub returns-clause-sent : goal.returns-clause-sent
returns-clause-sent g c b = begun_sent g.N.NodeCore.note b (waits_on c.args.links.now.items b) (waits_on c.put_all.new.links.items b) c.on_start.new.out (g.N.NodeCore.kind.begin (g.N.NodeCore.state c.args.node)).1 (c.in_ok-put_all.ensures.put b) c.in_ok-on_start.ensures.out
