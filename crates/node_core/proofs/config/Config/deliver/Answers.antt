use Rattle.std.proofs.Common.{◌≡◌, ◌<◌, ◌∙◌, All, Some, map, length, option_map, refl, sym, ap, subst, arith}
use Rattle.std.proofs.lemmas.Bool.Decides.{nat_tests}
use Rattle.meta_base.specs.declared.ids.ArcId.{ArcId}
use Rattle.net_graph.specs.Nets.{PureArc}
use Rattle.node_core.specs.declared.node.TheConstants.{MAX_CLOCK}
use Rattle.node_core.specs.Kinds.{listener}
use Rattle.node_core.specs.Machine.{Machine, Deliver}
use Rattle.node_core.specs.Running.{AreUpTo, IsRunning}
use Rattle.node_core.specs.Stepping.{CanTake}
use Rattle.node_core.specs.MachineLaws.{deliver_runs}
use Rattle.node_core.specs.Configs.{machine_over, noted, waits_on, spare_on}
use Rattle.node_core.proofs.Parts.{spoken_within, speaks_among, same_links, can_take, sends_fit, delivers, begun_sent, numbered_fit, fits_still, stays_up_to}
use Rattle.node_core.proofs.config.Config.deliver.Goals as goal

pub make_room-requires : goal.make_room-requires
make_room-requires g c =
    let net = c.args.self.now.net.now in
    let ids = c.listeners.result.now in
    record { arcs = subst (λ n. All (λ (id : ArcId). id.0 < n) ids) (sym c.args.self.now.link_count) (spoken_within net c.keeps_rules.ensures c.arc.result.tail.0 ids c.listeners.ensures) }

pub returns-in_err-make_room-clause-running : goal.returns-in_err-make_room-clause-running
returns-in_err-make_room-clause-running g c =
    let self = c.args.self.now in
    let same = same_links g.N.NodeCore.state g.N.NodeCore.note self.nodes.items self.clocks.items self.links.items c.make_room.new.links.items c.make_room.ensures.kept in
    subst (IsRunning g.N.NodeCore.kind self.net.now) (sym same) c.requires.running

pub step_on-requires-clause-able : goal.step_on-requires-clause-able
step_on-requires-clause-able g c =
    let k = g.N.NodeCore.kind in
    let self = c.args.self.now in
    let arc = c.args.arc.0 in
    let tail = c.arc.result.tail.0 in
    let now = machine_over g.N.NodeCore.state g.N.NodeCore.note self.nodes.items self.clocks.items self.links.items in
    let same = same_links g.N.NodeCore.state g.N.NodeCore.note self.nodes.items self.clocks.items self.links.items c.make_room.new.links.items c.make_room.ensures.kept in
    let listens : listener self.net.now arc ≡ Some tail = ap (option_map (λ (a : PureArc). a.tail)) c.arc.ensures.arc in
    let count = c.waiting.ensures in
    let some = c.if-waiting-eq0.false in
    let waits : 0 < length (now.link arc) = grind (arith, nat_tests) in
    subst (λ (m : Machine g.N.NodeCore.State g.N.NodeCore.Note). CanTake k m arc tail MAX_CLOCK) (sym same)
    (can_take k self.net.now now arc tail MAX_CLOCK c.requires.running listens c.arc.ensures.within.tail_in waits c.requires.early)

pub returns-in_err-step_on-clause-running : goal.returns-in_err-step_on-clause-running
returns-in_err-step_on-clause-running g c =
    let self = c.args.self.now in
    let same = same_links g.N.NodeCore.state g.N.NodeCore.note self.nodes.items self.clocks.items self.links.items c.make_room.new.links.items c.make_room.ensures.kept in
    subst (IsRunning g.N.NodeCore.kind self.net.now) (sym (c.in_err-step_on.ensures.err ∙ same)) c.requires.running

pub send_all-requires : goal.send_all-requires
send_all-requires g c =
    let k = g.N.NodeCore.kind in
    let state = g.N.NodeCore.state in
    let note = g.N.NodeCore.note in
    let self = c.args.self.now in
    let net = self.net.now in
    let tail = c.arc.result.tail.0 in
    let ids = c.listeners.result.now in
    let roomy = c.make_room.new.links.items in
    let same = same_links state note self.nodes.items self.clocks.items self.links.items roomy c.make_room.ensures.kept in
    let run = subst (IsRunning k net) (sym same) c.requires.running in
    let before = machine_over state note self.nodes.items self.clocks.items roomy in
    let later = machine_over state note c.step_on.new.nodes.items c.step_on.new.clocks.items c.step_on.new.links.items in
    record {
      room = λ b. fits_still (numbered_fit note b c.step_on.new.out (spare_on roomy b)
          (sends_fit k g.met.N.NodeCore.lawful net c.keeps_rules.ensures before later run c.args.arc.0 tail (map (noted note) c.step_on.new.out) c.in_ok-step_on.ensures.taken b (spare_on roomy b)
          (λ speaks. speaks_among net c.keeps_rules.ensures tail b ids (λ a. 0 < spare_on roomy a) c.listeners.ensures c.in_ok-make_room.ensures.room speaks))) (c.step_on.ensures.room b);
    }

pub returns-clause-taken : goal.returns-clause-taken
returns-clause-taken g c _ =
    let k = g.N.NodeCore.kind in
    let state = g.N.NodeCore.state in
    let note = g.N.NodeCore.note in
    let self = c.args.self.now in
    let net = self.net.now in
    let arc = c.args.arc.0 in
    let tail = c.arc.result.tail.0 in
    let roomy = c.make_room.new.links.items in
    let same = same_links state note self.nodes.items self.clocks.items self.links.items roomy c.make_room.ensures.kept in
    let listens : listener net arc ≡ Some tail = ap (option_map (λ (a : PureArc). a.tail)) c.arc.ensures.arc in
    let before = machine_over state note self.nodes.items self.clocks.items roomy in
    let later = machine_over state note c.step_on.new.nodes.items c.step_on.new.clocks.items c.step_on.new.links.items in
    let after = machine_over state note c.step_on.new.nodes.items c.step_on.new.clocks.items c.send_all.new.links.items in
    let sends = map (noted note) c.step_on.new.out in
    subst (λ (m : Machine g.N.NodeCore.State g.N.NodeCore.Note). Deliver k net m arc ≡ Some after) same
    (delivers k net before later after arc tail sends listens c.in_ok-step_on.ensures.taken (λ j. refl) (λ j. refl)
    (λ b. begun_sent note b (waits_on c.step_on.new.links.items b) (waits_on c.send_all.new.links.items b) c.step_on.new.out sends (c.send_all.ensures.sent b) refl))

pub returns-clause-running : goal.returns-clause-running
returns-clause-running g c =
    let k = g.N.NodeCore.kind in
    let state = g.N.NodeCore.state in
    let note = g.N.NodeCore.note in
    let self = c.args.self.now in
    let net = self.net.now in
    let arc = c.args.arc.0 in
    let tail = c.arc.result.tail.0 in
    let roomy = c.make_room.new.links.items in
    let same = same_links state note self.nodes.items self.clocks.items self.links.items roomy c.make_room.ensures.kept in
    let listens : listener net arc ≡ Some tail = ap (option_map (λ (a : PureArc). a.tail)) c.arc.ensures.arc in
    let before = machine_over state note self.nodes.items self.clocks.items roomy in
    let later = machine_over state note c.step_on.new.nodes.items c.step_on.new.clocks.items c.step_on.new.links.items in
    let after = machine_over state note c.step_on.new.nodes.items c.step_on.new.clocks.items c.send_all.new.links.items in
    let sends = map (noted note) c.step_on.new.out in
    let made = delivers k net before later after arc tail sends listens c.in_ok-step_on.ensures.taken (λ j. refl) (λ j. refl)
    (λ b. begun_sent note b (waits_on c.step_on.new.links.items b) (waits_on c.send_all.new.links.items b) c.step_on.new.out sends (c.send_all.ensures.sent b) refl) in
    deliver_runs k g.met.N.NodeCore.lawful net c.keeps_rules.ensures before after arc (subst (IsRunning k net) (sym same) c.requires.running) made

pub invariant_of-self : goal.invariant_of-self
invariant_of-self g c =
    let self = c.args.self.now in
    let same = same_links g.N.NodeCore.state g.N.NodeCore.note self.nodes.items self.clocks.items self.links.items c.make_room.new.links.items c.make_room.ensures.kept in
    record {
      node_count = self.node_count;
      clock_count = self.clock_count;
      link_count = c.make_room.ensures.count ∙ self.link_count;
      early = subst (λ m. ∥ AreUpTo g.N.NodeCore.kind m MAX_CLOCK ∥₁) (sym same) self.early;
    }

pub invariant_of-self-in-Break-branch-2 : goal.invariant_of-self-in-Break-branch-2
invariant_of-self-in-Break-branch-2 g c =
    let self = c.args.self.now in
    let same = same_links g.N.NodeCore.state g.N.NodeCore.note self.nodes.items self.clocks.items self.links.items c.make_room.new.links.items c.make_room.ensures.kept in
    record {
      node_count = c.step_on.ensures.nodes ∙ self.node_count;
      clock_count = c.step_on.ensures.clocks ∙ self.clock_count;
      link_count = c.step_on.ensures.links ∙ (c.make_room.ensures.count ∙ self.link_count);
      early = subst (λ m. ∥ AreUpTo g.N.NodeCore.kind m MAX_CLOCK ∥₁) (sym (c.in_err-step_on.ensures.err ∙ same)) self.early;
    }

pub invariant_of-self-2 : goal.invariant_of-self-2
invariant_of-self-2 g c =
    let k = g.N.NodeCore.kind in
    let state = g.N.NodeCore.state in
    let note = g.N.NodeCore.note in
    let self = c.args.self.now in
    let net = self.net.now in
    let arc = c.args.arc.0 in
    let roomy = c.make_room.new.links.items in
    let same = same_links state note self.nodes.items self.clocks.items self.links.items roomy c.make_room.ensures.kept in
    let listens : listener net arc ≡ Some c.arc.result.tail.0 = ap (option_map (λ (a : PureArc). a.tail)) c.arc.ensures.arc in
    let now = machine_over state note self.nodes.items self.clocks.items self.links.items in
    let before = machine_over state note self.nodes.items self.clocks.items roomy in
    let later = machine_over state note c.step_on.new.nodes.items c.step_on.new.clocks.items c.step_on.new.links.items in
    let after = machine_over state note c.step_on.new.nodes.items c.step_on.new.clocks.items c.send_all.new.links.items in
    let sends = map (noted note) c.step_on.new.out in
    let made = delivers k net before later after arc c.arc.result.tail.0 sends listens c.in_ok-step_on.ensures.taken (λ j. refl) (λ j. refl)
    (λ b. begun_sent note b (waits_on c.step_on.new.links.items b) (waits_on c.send_all.new.links.items b) c.step_on.new.out sends (c.send_all.ensures.sent b) refl) in
    record {
      node_count = c.step_on.ensures.nodes ∙ self.node_count;
      clock_count = c.step_on.ensures.clocks ∙ self.clock_count;
      link_count = omega (arith, c.send_all.ensures.count, c.step_on.ensures.links, c.make_room.ensures.count, self.link_count);
      early = stays_up_to k g.met.N.NodeCore.lawful net now before after arc MAX_CLOCK same self.early c.requires.early made;
    }
