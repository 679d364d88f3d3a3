-- The networks after changes.
use Rattle.std.specs.Prelude.{List, [], ◌∷◌, Option, Some, None}
use Rattle.net_graph.specs.Changes.{PureChange, changed}
use Rattle.net_graph.specs.Nets.{PureNet}

-- the network that was made by changes, or that before them
abbrev pub last_of : Option PureNet → PureNet → PureNet
last_of (Some last) net = last
last_of None net = net

-- the networks after the first of the changes, the first two, and so on
abbrev pub nets_after : PureNet → List PureChange → List PureNet
nets_after net [] = []
nets_after net (c ∷ changes) = changed net c ∷ nets_after (changed net c) changes
