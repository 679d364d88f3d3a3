use Rattle.topology_file.proofs.KnownNames.{knows_same}
use Rattle.topology_file.proofs.lines.add_net_line.Goals as goal

pub returns-in-Nodes-clause-known : goal.returns-in-Nodes-clause-known
returns-in-Nodes-clause-known c = knows_same c.args.draft.now c.add_nodes.new.draft c.args.known.now c.add_nodes.ensures.arcs c.add_nodes.ensures.nodes c.requires.known

pub returns-in-Origin-clause-known : goal.returns-in-Origin-clause-known
returns-in-Origin-clause-known c = knows_same c.args.draft.now c.add_origin.new.draft c.args.known.now c.add_origin.ensures.arcs c.add_origin.ensures.nodes c.requires.known
