-- The path-vector node: what it keeps, what fits it, how it begins and steps (Sobrinho 2005; Griffin and
-- Sobrinho 2005).
use Rattle.std.specs.Prelude.{ℕ, ◌+◌, ◌*◌, ◌==◌, ◌&&◌, nat_lt, Bool, true, false, not, List, [], ◌∷◌, ◌++◌, map, filter, find, length, Option, Some, None, is_some, cond, option_map, option_and_then, slice_get}
use Rattle.std.specs.Option.{option_map_or}
use Rattle.std.specs.List.{list_all, filter_map, range_with_len}
use Rattle.alg_model.specs.Expressions.{PureCarrier}
use Rattle.alg_model.specs.Carriers.{distinct}
use Rattle.alg_model.specs.Application.{App}
use Rattle.alg_model.specs.Bounds.{greatest_number}
use Rattle.alg_model.specs.Tests.{is_in, is_at_most, same_value}
use Rattle.net_graph.specs.Nets.{PureArc, PureNet, arcs_from, arcs_to, has_arc, is_arc_between, origin_value}
use Rattle.net_graph.specs.Routes.{PureRoute, is_better}
use Rattle.net_graph.specs.Tables.{PureRow, carrier, is_among}
use Rattle.std.specs.Str.{bytes_eq}
use Rattle.node_core.specs.Kinds.{Kind, speaker}
use Rattle.node_core.specs.Machine.{changed_at}

-- a node's route for a destination, or that it has none
pub record PureUpdate : Type 0 where
  pub dest : ℕ
  pub route : Option PureRoute
  pub stamp : ℕ

pub record PvState : Type 0 where
  pub net : PureNet
  -- the network that the node comes from, if it was carried over a change
  pub before : Option PureNet
  pub number : ℕ
  pub is_begun : Bool
  -- what was heard on each arc for each destination, and the row of each destination
  pub heard : ℕ → ℕ → Option PureRoute
  pub rows : ℕ → Option PureRoute
  pub last : ℕ

-- the routes are one; so are two rows
abbrev pub same_route : PureRoute → PureRoute → Bool
same_route r s = same_value r.value s.value && bytes_eq r.path s.path

abbrev pub same_row : Option PureRoute → Option PureRoute → Bool
same_row None None = true
same_row (Some r) (Some s) = same_route r s
same_row (Some r) None = false
same_row None (Some s) = false

-- what a node's own origin offers
abbrev pub own_offers : PureNet → ℕ → ℕ → List PureRoute
own_offers net dest i = option_map_or (λ v. record { value = v; path = i ∷ [] } ∷ []) (origin_value net dest i) []

-- what an arc makes of a route that was heard on it, where that is a value and the route doesn't pass the listener
abbrev pub offer_by : PureNet → PureArc → PureRoute → Option PureRoute
offer_by net a r = cond (is_among r.path a.tail) None (option_map (λ v. record { value = v; path = a.tail ∷ r.path }) (App net.alg.expression a.label r.value))

-- the offers to a node for a destination, with what it heard on each arc in place of its neighbours' rows
abbrev pub offers_to : PureNet → ℕ → ℕ → (ℕ → Option PureRoute) → List PureRoute
offers_to net dest i heard = own_offers net dest i ++ filter_map (λ (a : PureArc). option_and_then (offer_by net a) (heard a.id)) (arcs_from net i)

-- the first of the routes that no other is better than
abbrev pub best_of : PureCarrier → List PureRoute → Option PureRoute
best_of c routes = find (λ r. list_all (λ s. not (is_better c s r)) routes) routes

-- a node's choice for a destination, from what was heard
abbrev pub choice : PureNet → ℕ → ℕ → (ℕ → ℕ → Option PureRoute) → Option PureRoute
choice net dest i heard = best_of (carrier net) (offers_to net dest i (λ a. heard a dest))

-- the route may be the speaker's: a value of the algebra and a path of the network's nodes from the speaker on,
-- each once; the value's numbers are no greater than such a path can make them
abbrev pub begins_with : ℕ → List ℕ → Bool
begins_with j [] = false
begins_with j (n ∷ path) = n == j

abbrev pub greatest_on : PureNet → List ℕ → ℕ
greatest_on net path = length path * (greatest_number net.alg.edition + 1)

abbrev pub may_be_of : PureNet → ℕ → PureRoute → Bool
may_be_of net j r = is_in (carrier net) r.value && begins_with j r.path && distinct r.path
    && list_all (λ n. nat_lt n (length net.nodes)) r.path && is_at_most (greatest_on net r.path) r.value

-- the update is of a destination of the network, with no route or one that may be the speaker's
abbrev pub fits : PvState → ℕ → PureUpdate → Bool
fits s a u = nat_lt u.dest (length s.net.dests)
    && option_map_or (λ j. option_map_or (may_be_of s.net j) u.route true) (speaker s.net a) false

-- an update to each listener on these arcs
abbrev pub reported_on : List PureArc → PureUpdate → List (ℕ × PureUpdate)
reported_on arcs u = map (λ (a : PureArc). (a.id, u)) arcs

-- the node was carried, and spoke on the arc before
abbrev pub spoke_on : PvState → PureArc → Bool
spoke_on s a = option_map_or (λ net. has_arc net a.tail a.head) s.before false

-- at the start a row that a listener doesn't know is reported to it: where the node spoke on the arc before, of one
-- that changed, and else of one with a route
abbrev pub is_news : PvState → Option PureRoute → ℕ → PureArc → Bool
is_news s row dest a = cond (spoke_on s a) (not (same_row row (s.rows dest))) (is_some row)

abbrev pub begun_updates : PvState → ℕ → List (ℕ × PureUpdate)
begun_updates s dest =
    let row = choice s.net dest s.number s.heard in
    reported_on (filter (is_news s row dest) (arcs_to s.net s.number)) (record { dest = dest; route = row; stamp = 0 })

abbrev pub all_begun_updates : PvState → List ℕ → List (ℕ × PureUpdate)
all_begun_updates s [] = []
all_begun_updates s (dest ∷ dests) = begun_updates s dest ++ all_begun_updates s dests

-- each row becomes the node's choice, and it is reported to listeners, in order of the destinations
abbrev pub Begin : PvState → PvState × List (ℕ × PureUpdate)
Begin s = (
  record s { is_begun = true; rows = λ dest. choice s.net dest s.number s.heard; last = 0 },
  all_begun_updates s (range_with_len 0 (length s.net.dests)),
)

-- what was heard, with the update that came on an arc
abbrev pub heard_with : (ℕ → ℕ → Option PureRoute) → ℕ → PureUpdate → ℕ → ℕ → Option PureRoute
heard_with heard a u b dest = cond (b == a && dest == u.dest) u.route (heard b dest)

-- what a node makes of an update that fits: its row becomes its choice, and it is reported to listeners if it changed
abbrev pub taken : PvState → ℕ → PureUpdate → ℕ → PvState × List (ℕ × PureUpdate)
taken s a u clock =
    let heard = heard_with s.heard a u in
    let row = choice s.net u.dest s.number heard in (
      record s { heard = heard; rows = changed_at s.rows u.dest row; last = clock },
      cond (same_row row (s.rows u.dest)) [] (reported_on (arcs_to s.net s.number) (record { dest = u.dest; route = row; stamp = clock })),
    )

abbrev pub Step : PvState → ℕ → PureUpdate → ℕ → PvState × List (ℕ × PureUpdate)
Step s a u clock = cond (fits s a u) (taken s a u clock) (record s { last = clock }, [])

-- the path-vector kind of node
abbrev pub path_vector : Kind PvState PureUpdate
path_vector =
    record {
      net = λ s. s.net;
      number = λ s. s.number;
      is_begun = λ s. s.is_begun;
      last = λ s. s.last;
      with_last = λ s t. record s { last = t };
      fits = fits;
      stamp = λ u. u.stamp;
      begin = Begin;
      step = Step;
    }

-- a new node, which has heard nothing and has no rows
abbrev pub new_node : PureNet → ℕ → PvState
new_node net i =
    record {
      net = net;
      before = None;
      number = i;
      is_begun = false;
      heard = λ a dest. None;
      rows = λ dest. None;
      last = 0;
    }

-- the arc of the network that joins what this one joins, if there is one
abbrev pub same_arc : PureNet → PureArc → Option PureArc
same_arc net a = find (is_arc_between a.tail a.head) net.arcs

-- what was heard before on those arcs of a network that were there then
abbrev pub heard_before : PureNet → PureNet → (ℕ → ℕ → Option PureRoute) → ℕ → ℕ → Option PureRoute
heard_before before net heard a dest = option_and_then (λ (b : PureArc). heard b.id dest) (option_and_then (same_arc before) (slice_get net.arcs a))

-- a node with its rows on another network: it has heard what it heard on the arcs that were there before
abbrev pub carried : PureNet → PvState → PvState
carried net s =
    record {
      net = net;
      before = Some s.net;
      number = s.number;
      is_begun = false;
      heard = heard_before s.net net s.heard;
      rows = s.rows;
      last = 0;
    }

-- the rows of nodes for a destination, and for all of these, by destination, then node
abbrev pub dest_rows : List PvState → ℕ → List PureRow
dest_rows nodes dest = map (λ (s : PvState). record { node = s.number; dest = dest; route = s.rows dest }) nodes

abbrev pub rows_for : List PvState → List ℕ → List PureRow
rows_for nodes [] = []
rows_for nodes (dest ∷ dests) = dest_rows nodes dest ++ rows_for nodes dests

abbrev pub node_rows : PureNet → List PvState → List PureRow
node_rows net nodes = rows_for nodes (range_with_len 0 (length net.dests))
