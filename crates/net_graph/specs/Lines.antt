-- What the lines of a network file add to a network.
use Rattle.std.specs.Prelude.{ℕ, List, [], ◌∷◌, ◌++◌, Option, Some, None, length}
use Rattle.alg_model.specs.Expressions.{PureAlg, PureLabel, PureValue}
use Rattle.net_graph.specs.Nets.{PureArc, PureNet, number_of}

-- the network of no line
abbrev pub empty_net : PureAlg → PureNet
empty_net a = record { alg = a; nodes = []; dests = []; arcs = []; origins = [] }

-- with one node more
abbrev pub with_node : PureNet → List ℕ → PureNet
with_node net name = record net { nodes = net.nodes ++ name ∷ [] }

-- the arcs with one more, which gets the next number
abbrev pub arcs_with : ℕ → ℕ → PureLabel → List PureArc → List PureArc
arcs_with tail head l arcs = arcs ++ record { id = length arcs; tail = tail; head = head; label = l } ∷ []

-- with one arc more
abbrev pub with_arc : PureNet → ℕ → ℕ → PureLabel → PureNet
with_arc net tail head l = record net { arcs = arcs_with tail head l net.arcs }

-- with one destination more, which has no origin yet
abbrev pub with_dest : PureNet → List ℕ → PureNet
with_dest net name = record net { dests = net.dests ++ name ∷ [] }

-- with one origin more, of the destination of that number
abbrev pub with_origin_at : PureNet → ℕ → ℕ → PureValue → PureNet
with_origin_at net dest node v = record net { origins = net.origins ++ record { node = node; dest = dest; value = v } ∷ [] }

-- with one origin more, of the destination of that number, or of a new one of that name
abbrev pub with_origin_of : PureNet → Option ℕ → List ℕ → ℕ → PureValue → PureNet
with_origin_of net (Some dest) name node v = with_origin_at net dest node v
with_origin_of net None name node v = with_origin_at (with_dest net name) (length net.dests) node v

-- with one origin more, of the destination of that name
abbrev pub with_origin : PureNet → List ℕ → ℕ → PureValue → PureNet
with_origin net name node v = with_origin_of net (number_of net.dests name) name node v
