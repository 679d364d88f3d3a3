-- The distance-vector node: what it keeps, what fits it, how it begins and steps (Bellman-Ford, as the RIP of RFC 2453
-- runs it, over any algebra).
use Rattle.std.specs.Prelude.{ℕ, ◌+◌, ◌*◌, ◌^◌, ◌==◌, ◌&&◌, nat_lt, Bool, true, false, not, List, [], ◌∷◌, ◌++◌, map, find, length, Option, Some, None, is_some, cond, option_map, option_and_then}
use Rattle.std.specs.Option.{option_map_or}
use Rattle.std.specs.List.{list_all, filter_map, range_with_len}
use Rattle.alg_model.specs.Expressions.{PureCarrier, PureValue}
use Rattle.alg_model.specs.Carriers.{Order}
use Rattle.alg_model.specs.Application.{App}
use Rattle.alg_model.specs.Tests.{is_in, is_at_most, same_value}
use Rattle.net_graph.specs.Nets.{PureArc, PureNet, arcs_from, arcs_to, origin_value}
use Rattle.net_graph.specs.Routes.{is_less}
use Rattle.net_graph.specs.Tables.{carrier}
use Rattle.node_core.specs.Kinds.{Kind}
use Rattle.node_core.specs.Machine.{changed_at}

-- what a node tells of a destination: the value of its row, or that it has none
pub record PureVector : Type 0 where
  pub dest : ℕ
  pub value : Option PureValue
  pub stamp : ℕ

-- a value, and the neighbour whose value it is made of; none where it is the node's own origin's
pub record Hop : Type 0 where
  pub value : PureValue
  pub next : Option ℕ

pub record DvState : Type 0 where
  pub net : PureNet
  pub number : ℕ
  pub is_begun : Bool
  -- what was heard last on each arc of each destination, and the row of each destination
  pub heard : ℕ → ℕ → Option PureValue
  pub rows : ℕ → Option Hop
  pub last : ℕ

-- the value of a row, or none
abbrev pub value_of : Option Hop → Option PureValue
value_of row = option_map (λ (h : Hop). h.value) row

-- ---- the choice of a row

-- what the node's own origin gives
abbrev pub own_hop : PureNet → ℕ → ℕ → Option Hop
own_hop net dest i = option_map (λ v. record { value = v; next = None }) (origin_value net dest i)

-- what the label of an arc makes of the value that was heard on it
abbrev pub hop_by : PureNet → PureArc → Option PureValue → Option Hop
hop_by net a heard = option_map (λ v. record { value = v; next = Some a.head }) (option_and_then (App net.alg.expression a.label) heard)

-- what a node may choose from: what its own origin gives, and then what each arc gives, in file order
abbrev pub offers : PureNet → ℕ → ℕ → (ℕ → Option PureValue) → List (Option Hop)
offers net dest i heard = own_hop net dest i ∷ map (λ (a : PureArc). hop_by net a (heard a.id)) (arcs_from net i)

-- those of them that there are
abbrev pub hops_of : List (Option Hop) → List Hop
hops_of os = filter_map (λ (o : Option Hop). o) os

-- the first value is preferred
abbrev pub is_preferred : PureCarrier → PureValue → PureValue → Bool
is_preferred c u v = is_less (Order c u v)

-- none of the hops has a value that is preferred
abbrev pub is_unbeaten : PureCarrier → List Hop → Hop → Bool
is_unbeaten c hops h = list_all (λ (g : Hop). not (is_preferred c g.value h.value)) hops

-- the first of the hops to which no other is preferred
abbrev pub best_of : PureCarrier → List Hop → Option Hop
best_of c hops = find (is_unbeaten c hops) hops

-- a node's choice for a destination, from what it heard on each arc
abbrev pub choice : PureNet → ℕ → ℕ → (ℕ → Option PureValue) → Option Hop
choice net dest i heard = best_of (carrier net) (hops_of (offers net dest i heard))

-- ---- what is sent

-- the greatest number of a value that is sent at a clock: a label adds less than 2 ^ 64, and the clock rises with each
-- arc that a value passes
abbrev pub greatest_at : ℕ → ℕ
greatest_at clock = (clock + 1) * 2 ^ 64

-- the value may be sent at a clock in the network
abbrev pub may_be_reported : PureNet → ℕ → PureValue → Bool
may_be_reported net clock v = is_in (carrier net) v && is_at_most (greatest_at clock) v

-- the destination is the network's, and the value, if there is one, may be sent at the message's clock
abbrev pub fits_in : PureNet → PureVector → Bool
fits_in net m = nat_lt m.dest (length net.dests) && option_map_or (may_be_reported net m.stamp) m.value true

-- what is sent of a row
abbrev pub vector_of : ℕ → Option Hop → ℕ → PureVector
vector_of dest row stamp = record { dest = dest; value = value_of row; stamp = stamp }

-- a message on each of these arcs
abbrev pub reported_on : List PureArc → PureVector → List (ℕ × PureVector)
reported_on arcs m = map (λ (a : PureArc). (a.id, m)) arcs

-- ---- begin and step

-- at the start a row with a value is sent to all that listen to the node
abbrev pub begun_of : PureNet → ℕ → ℕ → List (ℕ × PureVector)
begun_of net i dest = cond (is_some (own_hop net dest i)) (reported_on (arcs_to net i) (vector_of dest (own_hop net dest i) 0)) []

abbrev pub all_begun : PureNet → ℕ → List ℕ → List (ℕ × PureVector)
all_begun net i [] = []
all_begun net i (dest ∷ dests) = begun_of net i dest ++ all_begun net i dests

-- each row is the own origin's, and it is sent in order of the destinations
abbrev pub Begin : DvState → DvState × List (ℕ × PureVector)
Begin s = (
  record s { is_begun = true; rows = λ dest. own_hop s.net dest s.number; last = 0 },
  all_begun s.net s.number (range_with_len 0 (length s.net.dests)),
)

-- what was heard, with this of a destination on an arc in the place of what was heard there before
abbrev pub heard_with : (ℕ → ℕ → Option PureValue) → ℕ → ℕ → Option PureValue → ℕ → ℕ → Option PureValue
heard_with heard a dest value b d = cond (b == a && d == dest) value (heard b d)

-- the values are one, or there is none of both
abbrev pub same_reported : Option PureValue → Option PureValue → Bool
same_reported None None = true
same_reported (Some u) (Some v) = same_value u v
same_reported (Some u) None = false
same_reported None (Some v) = false

-- what a node makes of a message that fits: it chooses its row again, and tells its value to all that listen to it if
-- that has changed
abbrev pub taken : DvState → ℕ → PureVector → ℕ → DvState × List (ℕ × PureVector)
taken s a m clock =
    let heard = heard_with s.heard a m.dest m.value in
    let row = choice s.net m.dest s.number (λ b. heard b m.dest) in (
      record s { heard = heard; rows = changed_at s.rows m.dest row; last = clock },
      cond (same_reported (value_of row) (value_of (s.rows m.dest))) [] (reported_on (arcs_to s.net s.number) (vector_of m.dest row clock)),
    )

abbrev pub Step : DvState → ℕ → PureVector → ℕ → DvState × List (ℕ × PureVector)
Step s a m clock = cond (fits_in s.net m) (taken s a m clock) (record s { last = clock }, [])

-- the distance-vector kind of node
abbrev pub distance : Kind DvState PureVector
distance =
    record {
      net = λ s. s.net;
      number = λ s. s.number;
      is_begun = λ s. s.is_begun;
      last = λ s. s.last;
      with_last = λ s t. record s { last = t };
      fits = λ s a m. fits_in s.net m;
      stamp = λ m. m.stamp;
      begin = Begin;
      step = Step;
    }

-- a new node, which has heard nothing and has no rows; and those of a network
abbrev pub new_node : PureNet → ℕ → DvState
new_node net i =
    record {
      net = net;
      number = i;
      is_begun = false;
      heard = λ a dest. None;
      rows = λ dest. None;
      last = 0;
    }

abbrev pub new_nodes : PureNet → List DvState
new_nodes net = map (new_node net) (range_with_len 0 (length net.nodes))
