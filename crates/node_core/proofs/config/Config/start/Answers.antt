use Rattle.std.proofs.Common.{◌≡◌, ◌∙◌, List, map, sym, subst, replicate, arith}
use Rattle.node_core.specs.declared.node.TheConstants.{MAX_CLOCK}
use Rattle.node_core.specs.Kinds.{on_arc}
use Rattle.node_core.specs.Machine.{AreUnbegun, Start, begun_messages}
use Rattle.node_core.specs.Running.{AreUpTo, IsRunning}
use Rattle.node_core.specs.MachineLaws.{start_runs}
use Rattle.node_core.specs.OrderLaws.{more_up_to, start_up_to}
use Rattle.node_core.specs.Configs.{machine_over, waits_on}
use Rattle.node_core.proofs.Parts.{unbegun_nodes, unbegun_sends, unbegun_number, begun_machine, same_length, from_nothing}
use Rattle.node_core.proofs.config.Config.start.Goals as goal

pub begin_all-requires-clause-unbegun : goal.begin_all-requires-clause-unbegun
begin_all-requires-clause-unbegun g c =
    let k = g.N.NodeCore.kind in
    let state = g.N.NodeCore.state in
    unbegun_nodes state k c.args.net.now 0 c.into_vec.result.items (subst (λ (l : List g.row.N.Denot). AreUnbegun k c.args.net.now 0 (map state l)) (sym c.into_vec.ensures) c.requires)

pub begin_all-requires-clause-arcs : goal.begin_all-requires-clause-arcs
begin_all-requires-clause-arcs g c =
    let k = g.N.NodeCore.kind in
    let state = g.N.NodeCore.state in
    let count = c.in_ok-links.ensures.count ∙ c.arc_count.ensures.count in
    unbegun_sends state k g.met.N.NodeCore.lawful c.args.net.now c.keeps_rules.ensures c.in_ok-links.links.len 0 c.into_vec.result.items (omega (arith, count)) (subst (λ (l : List g.row.N.Denot). AreUnbegun k c.args.net.now 0 (map state l)) (sym c.into_vec.ensures) c.requires)

pub invariant_of-result-clause-node_count : goal.invariant_of-result-clause-node_count
invariant_of-result-clause-node_count g c =
    let k = g.N.NodeCore.kind in
    let state = g.N.NodeCore.state in
    let made = same_length state (λ n. (k.begin (state n)).0) c.in_ok-nodes.nodes.items c.into_vec.result.items c.in_ok-nodes.ensures.nodes in
    let number = unbegun_number state k c.args.net.now 0 c.into_vec.result.items (subst (λ (l : List g.row.N.Denot). AreUnbegun k c.args.net.now 0 (map state l)) (sym c.into_vec.ensures) c.requires) in
    let count = c.in_ok-nodes.nodes.ok.0 in
    omega (arith, made, number, count)

pub invariant_of-result-clause-early : goal.invariant_of-result-clause-early
invariant_of-result-clause-early g c =
    let k = g.N.NodeCore.kind in
    let state = g.N.NodeCore.state in
    let note = g.N.NodeCore.note in
    let nodes = c.into_vec.result.items in
    let zeros : c.in_ok-clocks.clocks.items ≡ replicate c.node_count.result 0 = c.in_ok-clocks.ensures.items_if_clones_equal (λ y h. h) in
    let is = begun_machine state note k nodes c.in_ok-nodes.nodes.items c.in_ok-clocks.clocks.items c.begin_all.new.links.items c.node_count.result c.in_ok-nodes.ensures.nodes zeros
    (λ b. from_nothing note (waits_on c.in_ok-links.links.items b) (on_arc b (begun_messages k (map state nodes))) (map note (waits_on c.begin_all.new.links.items b)) (c.in_ok-links.ensures.empty b) (c.in_ok-nodes.ensures.sent b)) in
    let lawful = g.met.N.NodeCore.lawful in
    subst (λ m. ∥ AreUpTo k m MAX_CLOCK ∥₁) (sym is) ∣ more_up_to k lawful (Start k (map state nodes)) 0 MAX_CLOCK (omega arith) (start_up_to k lawful (map state nodes)) ∣₁

pub returns-clause-start : goal.returns-clause-start
returns-clause-start g c =
    let k = g.N.NodeCore.kind in
    let state = g.N.NodeCore.state in
    let note = g.N.NodeCore.note in
    let zeros : c.in_ok-clocks.clocks.items ≡ replicate c.node_count.result 0 = c.in_ok-clocks.ensures.items_if_clones_equal (λ y h. h) in
    subst (λ (l : List g.row.N.Denot). machine_over state note c.in_ok-nodes.nodes.items c.in_ok-clocks.clocks.items c.begin_all.new.links.items ≡ Start k (map state l)) c.into_vec.ensures
    (begun_machine state note k c.into_vec.result.items c.in_ok-nodes.nodes.items c.in_ok-clocks.clocks.items c.begin_all.new.links.items c.node_count.result c.in_ok-nodes.ensures.nodes zeros
    (λ b. from_nothing note (waits_on c.in_ok-links.links.items b) (on_arc b (begun_messages k (map state c.into_vec.result.items))) (map note (waits_on c.begin_all.new.links.items b)) (c.in_ok-links.ensures.empty b) (c.in_ok-nodes.ensures.sent b)))

pub returns-clause-running : goal.returns-clause-running
returns-clause-running g c =
    let k = g.N.NodeCore.kind in
    let state = g.N.NodeCore.state in
    let note = g.N.NodeCore.note in
    let net = c.args.net.now in
    let zeros : c.in_ok-clocks.clocks.items ≡ replicate c.node_count.result 0 = c.in_ok-clocks.ensures.items_if_clones_equal (λ y h. h) in
    let is = begun_machine state note k c.into_vec.result.items c.in_ok-nodes.nodes.items c.in_ok-clocks.clocks.items c.begin_all.new.links.items c.node_count.result c.in_ok-nodes.ensures.nodes zeros
    (λ b. from_nothing note (waits_on c.in_ok-links.links.items b) (on_arc b (begun_messages k (map state c.into_vec.result.items))) (map note (waits_on c.begin_all.new.links.items b)) (c.in_ok-links.ensures.empty b) (c.in_ok-nodes.ensures.sent b)) in
    subst (IsRunning k net) (sym is) (start_runs k g.met.N.NodeCore.lawful net c.keeps_rules.ensures (map state c.into_vec.result.items) (subst (λ (l : List g.row.N.Denot). AreUnbegun k net 0 (map state l)) (sym c.into_vec.ensures) c.requires))
