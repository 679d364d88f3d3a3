-- Lines and network files of the program, without where they lie in memory.
use Rattle.std.specs.Prelude.{◌≡◌, true, ℕ, List, map, length, refl}
use Rattle.std.specs.Coded.{Coded, code_by, coded×, coded_list}
use Rattle.net_graph.specs.Nets.{PureNet, is_name}
use Rattle.net_graph.specs.Changes.{PureChange, AreChanges}
use Rattle.net_graph.specs.Codes.{coded_net, coded_change}
use Rattle.net_graph.specs.Views.{pure_change}
use Rattle.net_graph.specs.declared.change.Change.{Change}
use Rattle.topology_file.specs.Texts.{words_of}
use Rattle.topology_file.specs.Forms.{PureLine, silent, link, both, origin, then_link, then_drop, bad, named_nodes}
use Rattle.topology_file.specs.NetText.{PureNetFile, changed_net}
use Rattle.topology_file.specs.declared.forms.Line.{Line}
use Rattle.topology_file.specs.declared.forms.Line.TheVariants as lines
use Rattle.topology_file.specs.declared.forms.ArcLine.{ArcLine}
use Rattle.topology_file.specs.declared.forms.Ways.{Ways}
use Rattle.topology_file.specs.declared.forms.Ways.TheVariants.{One, Both}
use Rattle.topology_file.specs.declared.forms.NetLine.{NetLine}
use Rattle.topology_file.specs.declared.forms.NetLine.TheVariants as net_lines
use Rattle.topology_file.specs.declared.network.NetFile.{NetFile}

-- what lines of these arcs ask for
abbrev pub arc_form : Ways → List ℕ → List ℕ → List ℕ → PureLine
arc_form One listener speaker label = link listener speaker label
arc_form Both listener speaker label = both listener speaker label

abbrev pub pure_arc_line : ArcLine → PureLine
pure_arc_line line = arc_form line.ways line.listener line.speaker line.label

abbrev pub pure_net_line : NetLine → PureLine
pure_net_line (net_lines.Nodes names) = named_nodes (words_of names.now)
pure_net_line (net_lines.Arc line) = pure_arc_line line
pure_net_line (net_lines.Origin dest node value) = origin dest.now node.now value.now

abbrev pub pure_line : Line → PureLine
pure_line lines.Silent = silent
pure_line (lines.Network line) = pure_net_line line
pure_line (lines.ThenLink listener speaker label) = then_link listener.now speaker.now label.now
pure_line (lines.ThenDrop listener speaker) = then_drop listener.now speaker.now
pure_line lines.Bad = bad

-- the destination that the line may add has a name
abbrev pub NamesDest : NetLine → Type 0
NamesDest (net_lines.Nodes names) = Unit {0}
NamesDest (net_lines.Arc line) = Unit {0}
NamesDest (net_lines.Origin dest node value) = is_name dest.now ≡ true

abbrev pub HasDestName : Line → Type 0
HasDestName lines.Silent = Unit {0}
HasDestName (lines.Network line) = NamesDest line
HasDestName (lines.ThenLink listener speaker label) = Unit {0}
HasDestName (lines.ThenDrop listener speaker) = Unit {0}
HasDestName lines.Bad = Unit {0}

-- a network with its changes
abbrev pub file_with : PureNet → List Change → PureNetFile
file_with net changes = record { net = net; changes = map pure_change changes }

-- each change may be made, and so many arcs are there after all of them
pub record IsDraft (f : PureNetFile) (arc_count : ℕ) : Type 0 where
  pub may : AreChanges f.net f.changes
  pub count : arc_count ≡ length (changed_net f).arcs

-- what a network file of the program says
abbrev pub pure_file : NetFile → PureNetFile
pure_file f = file_with f.net f.changes

-- network files as values of a model: the pair of their parts
abbrev pub coded_file : Coded PureNetFile
coded_file =
    code_by (PureNet × List PureChange) (coded× coded_net (coded_list coded_change))
    (λ f. (f.net, f.changes)) (λ p. record { net = p.0; changes = p.1 }) (λ _. refl)
