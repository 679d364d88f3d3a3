-- Two quiet runs through the same networks, by their last network and by the rows of their phases.
use Rattle.std.specs.Prelude.{List, [], ◌∷◌, map}
use Rattle.net_graph.specs.Nets.{PureNet}
use Rattle.net_graph.specs.Tables.{PureRow}
use Rattle.vector_runs.specs.Runs.{PurePhase}

-- the last of the networks
abbrev pub last_net : PureNet → List PureNet → PureNet
last_net net [] = net
last_net net (m ∷ nets) = last_net m nets

-- the rows of each phase
abbrev pub rows_of_each : List PurePhase → List (List PureRow)
rows_of_each past = map (λ (p : PurePhase). p.rows) past
