-- Why a line gave nothing.
use Rattle.std.specs.Prelude.{◌≡◌, ◌≢◌, ◌<◌, ℕ, List, ◌∷◌, if◌then◌else◌, Result, Ok, Err, length}
use Rattle.std.specs.List.{list_all}
use Rattle.net_graph.specs.Nets.{PureNet, is_name}
use Rattle.topology_file.specs.declared.faults.NetKind.{NetKind}
use Rattle.topology_file.specs.declared.faults.NetKind.TheVariants.{BadLine, AfterThen}
use Rattle.topology_file.specs.declared.faults.NetError.{NetError}
use Rattle.topology_file.specs.declared.faults.NetError.TheVariants as text
use Rattle.topology_file.specs.declared.errors.LineError.{LineError}
use Rattle.topology_file.specs.declared.errors.LineError.TheVariants.{Bad, NoMemory}
use Rattle.topology_file.specs.declared.forms.ArcLine.{ArcLine}
use Rattle.topology_file.specs.declared.forms.Ways.{Ways}
use Rattle.topology_file.specs.declared.forms.Ways.TheVariants.{One, Both}
use Rattle.topology_file.specs.declared.forms.NetLine.{NetLine}
use Rattle.topology_file.specs.declared.forms.NetLine.TheVariants as lines
use Rattle.sig_text.specs.Spelled.{spelled}
use Rattle.topology_file.specs.Texts.{words_of, lines_of}
use Rattle.topology_file.specs.NetText.{PureNetFile, after_nodes, after_link, after_both, after_origin, after_line}

-- the error's cause, where this is what the line makes
abbrev pub IsRefusedAs : {A : Type 0} → Result A NetKind → LineError → Type 0
IsRefusedAs after (Bad kind) = after ≡ Err kind
IsRefusedAs after NoMemory = Unit {0}

-- the error of a text of which that is the first bad line
abbrev pub error_at : ℕ → LineError → NetError
error_at line (Bad kind) = text.Bad (record { line = line; kind = kind })
error_at line NoMemory = text.NoMemory

-- two nodes of the network that differ
pub record AreEnds (net : PureNet) (tail head : ℕ) : Type 0 where
  pub tail_in : tail < length net.nodes
  pub head_in : head < length net.nodes
  pub apart : tail ≢ head

-- a fault of a line with these words for names: a word that is no name comes before any other fault
abbrev pub fault_after : NetKind → List (List ℕ) → NetKind
fault_after kind words = if list_all is_name words then kind else BadLine

-- what words after `node` make of a network
abbrev pub after_names : PureNet → List (List ℕ) → Result PureNet NetKind
after_names net words = if list_all is_name words then after_nodes net words else Err BadLine

-- what the arcs of a line make of a network
abbrev pub after_arcs : PureNet → Ways → List ℕ → List ℕ → List ℕ → Result PureNet NetKind
after_arcs net One listener speaker label = after_link spelled net listener speaker label
after_arcs net Both listener speaker label = after_both spelled net listener speaker label

abbrev pub after_arc_line : PureNet → ArcLine → Result PureNet NetKind
after_arc_line net line = after_arcs net line.ways line.listener line.speaker line.label

-- what a line of the network makes of it
abbrev pub after_net_line : PureNet → NetLine → Result PureNet NetKind
after_net_line net (lines.Nodes names) = after_names net (words_of names.now)
after_net_line net (lines.Arc line) = after_arc_line net line
after_net_line net (lines.Origin dest node value) = after_origin spelled net dest.now node.now value.now

-- the fault of a line of the network after a change
abbrev pub late_fault : NetLine → NetKind
late_fault (lines.Nodes names) = fault_after AfterThen (words_of names.now)
late_fault (lines.Arc line) = AfterThen
late_fault (lines.Origin dest node value) = AfterThen

-- the first line of the text makes this of the file, and the others are those of the other text, which is shorter
pub record IsFirstAdded (old : PureNetFile) (text : List ℕ) (new : PureNetFile) (others : List ℕ) : Type 0 where
  pub line : List ℕ
  pub lines : lines_of text ≡ line ∷ lines_of others
  pub makes : after_line spelled old line ≡ Ok new
  pub shorter : length others < length text

-- the error's cause is the first line of the text
pub record IsFirstRefused (old : PureNetFile) (text : List ℕ) (error : LineError) : Type 0 where
  pub line : List ℕ
  pub others : List (List ℕ)
  pub lines : lines_of text ≡ line ∷ others
  pub cause : IsRefusedAs (after_line spelled old line) error
