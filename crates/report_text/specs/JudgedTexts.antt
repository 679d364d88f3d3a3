-- The printed text of a judgement of tables, and of the next hops of a row.
use Rattle.std.specs.Prelude.{ℕ, ◌<◌, List, [], ◌++◌, Bool, if◌then◌else◌, Option, Some, None, IfSome, length, codes}
use Rattle.alg_model.specs.Carriers.{In}
use Rattle.alg_model.specs.Expressions.{PureValue}
use Rattle.alg_model.specs.Texts.{value_text}
use Rattle.net_graph.specs.Nets.{PureNet}
use Rattle.net_graph.specs.Routes.{PureRoute}
use Rattle.net_graph.specs.RowTexts.{AreNodesOf, IsRouteIn, dest_text, node_text, path_text, route_text}
use Rattle.net_graph.specs.Tables.{carrier}
use Rattle.report_check.specs.Hops.{PureHops}
use Rattle.report_check.specs.Judged.{PureOptimal, unbeaten, no_walk, beaten, unsettled, PureStable, stable, not_offered, better, PureJudgement}
use Rattle.report_text.specs.Refusals.{CanMiss, misses_text}

-- NODE DEST: the names of a row
abbrev pub row_names : PureNet → ℕ → ℕ → List ℕ
row_names net node dest = node_text net node ++ codes " " ++ dest_text net dest

-- the line on how good the routes are
abbrev pub optimal_text : PureNet → PureOptimal → List ℕ
optimal_text net unbeaten = codes "optimal yes\n"
optimal_text net (no_walk node dest) = codes "optimal no: " ++ row_names net node dest ++ codes " isn't a walk of that value\n"
optimal_text net (beaten node dest walk) = codes "optimal no: " ++ row_names net node dest ++ codes " is beaten by" ++ path_text net walk ++ codes "\n"
optimal_text net (unsettled arc x) = codes "optimal open: " ++ misses_text arc x (Some net)

-- the line on whether they are stable
abbrev pub stability_text : PureNet → PureStable → List ℕ
stability_text net stable = codes "stable yes\n"
stability_text net (not_offered node dest) = codes "stable no: " ++ row_names net node dest ++ codes " isn't offered\n"
stability_text net (better node dest offer) =
    codes "stable no: " ++ row_names net node dest ++ codes " has the better offer " ++ route_text net (Some offer) ++ codes "\n"

abbrev pub judgement_text : PureNet → PureJudgement → List ℕ
judgement_text net j = optimal_text net j.optimal ++ stability_text net j.stable

-- the value, the word here where the node's own origin is as good, and the names of the next hops; or the word none
abbrev pub here_text : Bool → List ℕ
here_text here = if here then codes " here" else []

abbrev pub ways_text : PureNet → PureHops → Option PureValue → List ℕ
ways_text net h None = codes "none"
ways_text net h (Some v) = value_text (carrier net) v ++ here_text h.here ++ path_text net h.heads

-- the line of a row with all its next hops
abbrev pub hops_text : PureNet → PureHops → List ℕ
hops_text net h = row_names net h.node h.dest ++ codes " " ++ ways_text net h h.value ++ codes "\n"

-- the node and the destination are the network's
pub record IsRowName (net : PureNet) (node dest : ℕ) : Type 0 where
  pub node_in : node < length net.nodes
  pub dest_in : dest < length net.dests

-- what is found can be printed: all ids, labels and values in it are the network's
abbrev pub CanPrintOptimal : PureNet → PureOptimal → Type 0
CanPrintOptimal net unbeaten = Unit {0}
CanPrintOptimal net (no_walk node dest) = IsRowName net node dest
CanPrintOptimal net (beaten node dest walk) = IsRowName net node dest × AreNodesOf net walk
CanPrintOptimal net (unsettled arc x) = CanMiss arc x (Some net)

abbrev pub CanPrintStable : PureNet → PureStable → Type 0
CanPrintStable net stable = Unit {0}
CanPrintStable net (not_offered node dest) = IsRowName net node dest
CanPrintStable net (better node dest offer) = IsRowName net node dest × IsRouteIn net offer

pub record CanPrintJudgement (net : PureNet) (j : PureJudgement) : Type 0 where
  pub optimal : CanPrintOptimal net j.optimal
  pub stable : CanPrintStable net j.stable

pub record CanPrintHops (net : PureNet) (h : PureHops) : Type 0 where
  pub row : IsRowName net h.node h.dest
  pub value_in : IfSome h.value (In (carrier net))
  pub heads_in : AreNodesOf net h.heads
