use Rattle.std.proofs.Common.{◌≡◌, ◌+◌, ◌<◌, ◌≤◌, ◌∙◌, ap, [], ◌∷◌, ◌++◌, Some, Ok, true, map, take, length, get_or, subst}
use Rattle.std.proofs.lemmas.List.{take_more}
use Rattle.meta_base.specs.Numbers.{max_turns}
use Rattle.meta_base.specs.declared.ids.Delivery.{Delivery}
use Rattle.node_core.specs.Machine.{Start, deliver_at}
use Rattle.node_core.specs.MachineLaws.{all_join, replay_more}
use Rattle.node_core.specs.MachineOf.{machine_of}
use Rattle.node_core.specs.Running.{IsRunning}
use Rattle.node_core.proofs.config.Config.replay.Goals as goal

pub loop-place-preserved : goal.loop-place-preserved
loop-place-preserved g c =
    let k = g.N.NodeCore.kind in
    let net = c.args.net.now in
    let journal = c.args.journal.now in
    let i = c.loop-place.place in
    let entry : Delivery = get_or journal i (record { clock = 0; arc = record { 0 = 0 } }) in
    let before = c.loop-place.invariant in
    let from = machine_of g.N.NodeCore.state g.N.NodeCore.note c.loop-place.config in
    let to = machine_of g.N.NodeCore.state g.N.NodeCore.note c.follow.new.self in
    let within : i < length journal = c.loop-place-test.true in
    let went : c.follow.result ≡ Ok true = c.in_ok-follow.was ∙ ap Ok c.if-not-branch.false in
    let made = subst (λ n. deliver_at k n from entry ≡ Some to) before.net (c.follow.ensures.made went) in
    let more : take (i + 1) journal ≡ take i journal ++ entry ∷ [] = take_more journal i (record { clock = 0; arc = record { 0 = 0 } }) within in
    record {
      net = c.follow.ensures.net ∙ before.net;
      running = subst (λ n. IsRunning k n to) before.net c.follow.ensures.running;
      reached = record {
        leads = rw more (replay_more k net (Start k (map g.N.NodeCore.state c.args.nodes)) from to (take i journal) entry before.reached.leads made);
        early = rw more (all_join (λ (e : Delivery). e.clock ≤ max_turns) (take i journal) (entry ∷ []) before.reached.early (c.follow.ensures.early went, tt));
      };
    }
