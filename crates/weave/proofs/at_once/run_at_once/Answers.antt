use Rattle.std.proofs.Common.{sym, subst, vec_len}
use Rattle.weave.specs.Dealt.{IsDealt}
use Rattle.weave.specs.Gathered.{view_at}
use Rattle.weave.proofs.Ending.{all_there, come_ended, first_come}
use Rattle.weave.proofs.Starting.{made_count}
use Rattle.weave.proofs.at_once.run_at_once.Goals as goal

pub blocks_of-requires-clause-nodes : goal.blocks_of-requires-clause-nodes
blocks_of-requires-clause-nodes g c =
    let k = g.N.NodeCore in
    let is = c.requires.started.1 in
    made_count k.kind c.args.net.now k.state c.requires.started.0 is.running c.args.started.nodes is.nodes_are

pub blocks_of-requires-clause-links : goal.blocks_of-requires-clause-links
blocks_of-requires-clause-links g c = c.requires.started.1.link_count

pub run_rounds-requires-clause-begun : goal.run_rounds-requires-clause-begun
run_rounds-requires-clause-begun g c _ _ =
    let k = g.N.NodeCore in
    let net = c.args.net.now in
    let started = c.args.started in
    let machine = c.requires.started.0 in
    let is = c.requires.started.1 in
    let views = view_at k.state k.note c.in_ok-blocks.blocks.items in
    let dealt = subst (λ m. IsDealt k.note net m k.state started.nodes started.links.items views) (sym c.in_ok-blocks.ensures.count) c.in_ok-blocks.ensures.dealt in
    (machine, is.running, is.few, first_come k.kind c.keeps_laws.ensures net c.keeps_rules.ensures (vec_len c.in_ok-blocks.blocks) c.args.budget.turns k.state k.note machine started is views dealt, is.early)

pub take_apart-requires : goal.take_apart-requires
take_apart-requires g c =
    let k = g.N.NodeCore in
    let net = c.args.net.now in
    let started = c.args.started in
    let machine = c.requires.started.0 in
    let is = c.requires.started.1 in
    let n = vec_len c.in_ok-blocks.blocks in
    let views = view_at k.state k.note c.in_ok-blocks.blocks.items in
    let dealt = subst (λ m. IsDealt k.note net m k.state started.nodes started.links.items views) (sym c.in_ok-blocks.ensures.count) c.in_ok-blocks.ensures.dealt in
    let come = c.in_ok-blocks-2.ensures.come machine is.running is.few (first_come k.kind c.keeps_laws.ensures net c.keeps_rules.ensures n c.args.budget.turns k.state k.note machine started is views dealt) in
    record { there = all_there k.kind c.keeps_laws.ensures net c.keeps_rules.ensures n c.args.budget.turns (view_at k.state k.note c.in_ok-blocks-2.blocks.items) come.gone.running (vec_len c.in_ok-blocks-2.blocks) c.in_ok-blocks-2.ensures.count }

pub returns : goal.returns
returns g c machine is =
    let k = g.N.NodeCore in
    let net = c.args.net.now in
    let started = c.args.started in
    let n = vec_len c.in_ok-blocks.blocks in
    let views = view_at k.state k.note c.in_ok-blocks.blocks.items in
    let dealt = subst (λ m. IsDealt k.note net m k.state started.nodes started.links.items views) (sym c.in_ok-blocks.ensures.count) c.in_ok-blocks.ensures.dealt in
    let come = c.in_ok-blocks-2.ensures.come machine is.running is.few (first_come k.kind c.keeps_laws.ensures net c.keeps_rules.ensures n c.args.budget.turns k.state k.note machine started is views dealt) in
    come_ended k.kind c.keeps_laws.ensures net c.keeps_rules.ensures n c.args.budget.turns k.state (view_at k.state k.note c.in_ok-blocks-2.blocks.items) c.in_ok-nodes.nodes (vec_len c.in_ok-blocks-2.blocks) c.in_ok-blocks-2.ensures.count
    c.in_ok-nodes.ensures.nodes machine c.in_ok-blocks-2.totals c.in_ok-nodes.logs come c.in_ok-nodes.ensures.logs c.in_ok-blocks-2.ensures.over
