-- What nodes report when they begin.
use Rattle.std.specs.Prelude.{ℕ, List, [], ◌∷◌, Some, None}
use Rattle.net_graph.specs.Nets.{PureNet, PureOrigin, origins_of}
use Rattle.path_vector.specs.Node.{PureUpdate}
use Rattle.vector_block.specs.Stores.{PureStore, with_report}

-- nothing was reported
abbrev pub empty_store : PureStore
empty_store = record { reports = []; heard = λ arc dest. None; rows = λ node dest. None }

-- what a node reports of its own origin
abbrev pub own_report : PureOrigin → PureUpdate
own_report o = record { dest = o.dest; route = Some (record { value = o.value; path = o.node ∷ [] }); stamp = 0 }

-- the store once the nodes of these origins reported them
abbrev pub with_origins : PureStore → List PureOrigin → PureStore
with_origins s [] = s
with_origins s (o ∷ os) = with_origins (with_report s o.node (own_report o)) os

-- the store once all origins of these destinations were reported
abbrev pub with_dests : PureNet → PureStore → List ℕ → PureStore
with_dests net s [] = s
with_dests net s (dest ∷ dests) = with_dests net (with_origins s (origins_of net dest)) dests

abbrev pub begun_store : PureNet → List ℕ → PureStore
begun_store net dests = with_dests net empty_store dests
