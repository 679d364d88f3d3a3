-- A generated network, and the run of its nodes.
use Rattle.std.specs.Prelude.{◌≡◌, ℕ, true, []}
use Rattle.net_gen.specs.Generated.{Generated}
use Rattle.net_gen.specs.Networks.{demo_alg, generated_net}
use Rattle.net_graph.specs.Nets.{PureNet, IsNet}
use Rattle.net_graph.specs.Tables.{AreSettledRows}
use Rattle.topology_file.specs.NetText.{PureNetFile, NetText}
use Rattle.vector_runs.specs.Runs.{IsOfNetwork, IsRun, PurePhase}
use Rattle.demo_rest.specs.Most.{demo_turns}

-- the file is what the generated text means: the network that is drawn, without changes
pub record IsGenerated (seed nodes : ℕ) (f : PureNetFile) : Type 0 where
  pub text : NetText (Generated seed nodes) demo_alg f
  pub net : f.net ≡ generated_net seed nodes
  pub alg : f.net.alg ≡ demo_alg
  pub changes : f.changes ≡ []

-- the one phase of the network's nodes, with as many turns as there are for a generated one; it is quiet
pub record IsRunAlone (net : PureNet) (last : PurePhase) : Type 0 where
  pub is_net : IsNet net
  pub is_run : IsRun net [] demo_turns [] last true
  pub settled : AreSettledRows net last.rows
  pub of_network : IsOfNetwork net last
