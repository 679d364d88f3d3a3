-- Labels and values of a network and a table in an algebra's own form.
use Rattle.std.specs.Prelude.{◌≡◌, ℕ, List, Option, Some, IfSome, option_map}
use Rattle.alg_model.specs.Expressions.{PureLabel, PureValue}
use Rattle.net_graph.specs.Nets.{PureNet, IsNet, label_between, origin_value}
use Rattle.net_graph.specs.Tables.{PureRow, TableOf, value_at}
use Rattle.stable_check.specs.Checks.{own_at}
use Rattle.arc_labels.specs.declared.neighbours.Neighbour.{Neighbour}
use Rattle.arc_labels.specs.Neighbours.{AreSpeakerLabels}

-- a hop of node i stands for an arc from it
pub record IsHopFrom {L : Type 0} (stands_for : L → PureLabel → Type 0) (net : PureNet) (i : ℕ) (hop : Neighbour L) : Type 0 where
  pub arc_label : PureLabel
  pub between : label_between net i hop.node.0 ≡ Some arc_label
  pub stands : stands_for hop.label.now arc_label

-- what stands in each place stands for the value there, and for none where there is none
pub record AreSigs {S : Type 0} (is_sig : S → Type 0) (sig_value : S → PureValue) (value : ℕ → Option PureValue) (sigs : List (Option S)) : Type 0 where
  pub all_stand : (k : ℕ) → IfSome (own_at sigs k) is_sig
  pub values : (k : ℕ) → option_map sig_value (own_at sigs k) ≡ value k

-- the labels are the network's, and what stands for values those of the rows, and of the nodes' own origins
pub record IsCompiled {S L : Type 0} (is_sig : S → Type 0) (sig_value : S → PureValue) (stands_for : L → PureLabel → Type 0)
    (net : PureNet) (dest : ℕ) (table : List PureRow) (labels : List (List (Neighbour L))) (rows own : List (Option S)) : Type 0 where
  pub is_net : IsNet net
  pub is_table : TableOf net dest table
  pub of_arcs : AreSpeakerLabels stands_for net labels
  pub of_rows : AreSigs is_sig sig_value (value_at table) rows
  pub of_origins : AreSigs is_sig sig_value (origin_value net dest) own
