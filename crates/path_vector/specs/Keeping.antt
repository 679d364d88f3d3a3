-- What a node tells when it begins with the rows that it has.
use Rattle.std.specs.Prelude.{ℕ, false, List, [], ◌∷◌, ◌++◌, Option, cond, filter, is_some}
use Rattle.net_graph.specs.Nets.{PureArc, PureNet, arcs_to}
use Rattle.net_graph.specs.Routes.{PureRoute}
use Rattle.path_vector.specs.Node.{PureUpdate, reported_on}
use Rattle.path_vector.specs.Updates.{spoken_in}

-- a row that stays is news where the node didn't speak on the arc before, if there is a route
abbrev pub kept_news : PureNet → Option PureNet → ℕ → ℕ → Option PureRoute → List (ℕ × PureUpdate)
kept_news net before number dest row =
    reported_on (filter (λ (a : PureArc). cond (spoken_in before a.tail a.head) false (is_some row)) (arcs_to net number)) (record { dest = dest; route = row; stamp = 0 })

abbrev pub all_kept_news : PureNet → Option PureNet → ℕ → (ℕ → Option PureRoute) → List ℕ → List (ℕ × PureUpdate)
all_kept_news net before number rows [] = []
all_kept_news net before number rows (dest ∷ dests) = kept_news net before number dest (rows dest) ++ all_kept_news net before number rows dests
