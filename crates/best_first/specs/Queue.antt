-- What is open between two nodes that are fixed.
use Rattle.std.specs.Prelude.{◌≡◌, ℕ, List, Bool, false, Option, Some, None, length, IfSome, MatchBool, ◌==◌, if◌then◌else◌}
use Rattle.std.proofs.Math.ListN.{set}
use Rattle.frontier.specs.Tournaments.{PureTournament, IsJudged}
use Rattle.alg_model.specs.Expressions.{PureCarrier, PureValue}
use Rattle.alg_model.specs.Carriers.{In}
use Rattle.net_graph.specs.Routes.{PureRoute}
use Rattle.net_graph.specs.Tables.{Reported}
use Rattle.best_first.specs.declared.route.OpenRoute.{OpenRoute}
use Rattle.best_first.specs.declared.route.OpenPlace.{OpenPlace}
use Rattle.best_first.specs.Found.{found_at, AllFound, IsBestOf}
use Rattle.best_first.specs.Keys.{RouteKey, key_at, best_of, routes_of, precedes, IsShaped, beats}

-- the best of node k is a route of the node, which isn't fixed
pub record IsBestAt (c : PureCarrier) (reported : Reported) (k : ℕ) (best : RouteKey) : Type 0 where
  pub node : best.node ≡ k
  pub is_open : reported k ≡ None
  pub shaped : IsShaped reported best
  pub value_in : In c best.value

-- the tournament is one of these nodes, by their best routes
pub record IsRanked (c : PureCarrier) (best : List (Option RouteKey)) (standing : PureTournament) : Type 0 where
  pub count : standing.count ≡ length best
  pub judged : IsJudged (precedes c best) standing

pub record IsQueue (c : PureCarrier) (reported : Reported) (best : List (Option RouteKey)) (standing : PureTournament) : Type 0 where
  pub bests : (k : ℕ) (b : RouteKey) → found_at best k ≡ Some b → IsBestAt c reported k b
  pub ranked : IsRanked c best standing

-- the same of what the program keeps, whose form of values stands for these
pub record IsOpen {S : Type 0} (value : S → PureValue) (is_sig : S → Type 0) (c : PureCarrier) (reported : Reported) (best : List (Option (OpenRoute S))) (standing : PureTournament) : Type 0 where
  pub sigs : AllFound (λ o. is_sig o.sig) best
  pub queue : IsQueue c reported (best_of value best) standing

-- each best route is one of its node
abbrev pub AreAtTheirNodes : {S : Type 0} → List (Option (OpenRoute S)) → Type 0
AreAtTheirNodes best = (k : ℕ) → IfSome (found_at best k) (λ o. o.place.node.0 ≡ k)

-- the values that the program keeps are the algebra's, its routes stand at their nodes, and its tournament ranks the nodes by them
pub record AreRanked {S : Type 0} (value : S → PureValue) (is_sig : S → Type 0) (c : PureCarrier) (best : List (Option (OpenRoute S))) (standing : PureTournament) : Type 0 where
  pub sigs : AllFound (λ o. is_sig o.sig) best
  pub places : AreAtTheirNodes best
  pub ranked : IsRanked c (best_of value best) standing

-- whether there is a value, and its key there beats the best of the node
abbrev pub is_wanted : PureCarrier → OpenPlace → Option PureValue → List (Option RouteKey) → Bool
is_wanted c place None best = false
is_wanted c place (Some v) best = beats c (key_at place v) (found_at best place.node.0)

-- where the key beats the best of its node it is the new best; else nothing has changed
abbrev pub IsOffered : PureCarrier → RouteKey → List (Option RouteKey) → List (Option RouteKey) → Type 0
IsOffered c key best new_best = MatchBool (beats c key (found_at best key.node)) (new_best ≡ set best key.node (Some key)) (new_best ≡ best)

-- the same of the value that an offer has, if it has one
abbrev pub IsOfferedOf : PureCarrier → OpenPlace → Option PureValue → List (Option RouteKey) → List (Option RouteKey) → Type 0
IsOfferedOf c place None best new_best = new_best ≡ best
IsOfferedOf c place (Some v) best new_best = IsOffered c (key_at place v) best new_best

-- nothing is open at so many nodes, and the tournament is one of them
pub record IsClear {S : Type 0} (n : ℕ) (best : List (Option (OpenRoute S))) (standing : PureTournament) : Type 0 where
  pub count : length best ≡ n
  pub none : (k : ℕ) → found_at best k ≡ None
  pub slots : standing.count ≡ n

-- no node has a route
abbrev pub no_route : Reported
no_route k = None

-- the routes that are reported, with this one of node i
abbrev pub with_reported : Reported → ℕ → PureRoute → Reported
with_reported reported i r k = if k == i then Some r else reported k

-- node i isn't fixed, its best is the best of all, and with its route fixed the others are kept
pub record IsNext (c : PureCarrier) (reported : Reported) (best : List (Option RouteKey)) (standing : PureTournament) (i : ℕ) : Type 0 where
  pub is_open : reported i ≡ None
  pub best_of_all : IsBestOf c (routes_of reported best) i
  pub queue : (r : PureRoute) → IsQueue c (with_reported reported i r) (set best i None) standing
