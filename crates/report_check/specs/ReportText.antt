-- Which tables a report means over a network, and which fault refuses it.
use Rattle.std.specs.Prelude.{◌≡◌, ◌≢◌, ℕ, ◌+◌, List, [], ◌∷◌, ◌++◌, Bool, true, false, ◌==◌, ◌&&◌, ◌||◌, not, nat_le, if◌then◌else◌, Some, None, Result, Ok, Err, length, map, codes}
use Rattle.std.specs.Option.{ok_or}
use Rattle.std.specs.List.{list_all}
use Rattle.std.specs.Str.{bytes_eq}
use Rattle.meta_base.specs.Bytes.{is_digit}
use Rattle.alg_model.specs.Expressions.{Expression, PureValue}
use Rattle.net_graph.specs.Limits.{max_row_number}
use Rattle.net_graph.specs.Nets.{PureNet, number_of}
use Rattle.net_graph.specs.Routes.{PureRoute}
use Rattle.net_graph.specs.RowTexts.{AreNodesOf}
use Rattle.net_graph.specs.Tables.{PureRow, route_at}
use Rattle.sig_text.specs.declared.faults.LitFault.{LitFault}
use Rattle.sig_text.specs.Literals.{ValueTextTo, IsValueFaultTo}
use Rattle.topology_file.specs.Texts.{lines_of, without_return, words_of}
use Rattle.report_check.specs.Numbers.{max_count_digits}
use Rattle.report_check.specs.declared.faults.ReportKind.{ReportKind}
use Rattle.report_check.specs.declared.faults.ReportKind.TheVariants.{BadLine, UnknownName, WrongRow, BadValue, RowsMissing}
use Rattle.report_check.specs.declared.faults.ReportFault.{ReportFault}

-- What a line says, by its words alone.

pub data PureSaid : Type 0 where
  -- nothing
  silent : PureSaid
  -- the row of a node for a destination, by their names: it has no route
  no_route : List ℕ → List ℕ → PureSaid
  -- or it has the value that a text spells, along the nodes of these names
  route : List ℕ → List ℕ → List ℕ → List (List ℕ) → PureSaid
  -- how the run ended
  ending : PureSaid
  -- the line has no form of a report
  bad : PureSaid

-- a count of 1 to 20 digits
abbrev pub is_count : List ℕ → Bool
is_count word = nat_le 1 (length word) && nat_le (length word) max_count_digits && list_all is_digit word

-- `quiet N` or `spent N`
abbrev pub end_line : List ℕ → List ℕ → PureSaid
end_line word count = if (bytes_eq word (codes "quiet") || bytes_eq word (codes "spent")) && is_count count then ending else bad

-- `NODE DEST none`
abbrev pub none_line : List ℕ → List ℕ → List ℕ → PureSaid
none_line node dest word = if bytes_eq word (codes "none") then no_route node dest else bad

-- what these words say; `NODE DEST VALUE` has one or more nodes after it
abbrev pub said_by : List (List ℕ) → PureSaid
said_by [] = silent
said_by (word ∷ []) = bad
said_by (word ∷ count ∷ []) = end_line word count
said_by (node ∷ dest ∷ word ∷ []) = none_line node dest word
said_by (node ∷ dest ∷ value ∷ first ∷ path) = route node dest value (first ∷ path)

-- a line loses one carriage return at its end, and has no comment
abbrev pub said_in : List ℕ → PureSaid
said_in line = said_by (words_of (without_return line))

-- What the lines before gave, and what a line makes of that, or the first rule that it breaks.

-- the tables that are whole, the rows of the next one, and whether the end of the run was stated
pub record PureProgress : Type 0 where
  pub tables : List (List PureRow)
  pub rows : List PureRow
  pub is_over : Bool

-- before the first line: where there is no node, no row is missing, and each destination has its table
abbrev pub first_tables : PureNet → List (List PureRow)
first_tables net = if length net.nodes == 0 then map (λ _. []) net.dests else []

abbrev pub no_rows : PureNet → PureProgress
no_rows net = record { tables = first_tables net; rows = []; is_over = false }

-- there is a table for each destination
abbrev pub is_whole : PureNet → PureProgress → Bool
is_whole net p = length p.tables == length net.dests

-- with one row more, which ends its table if that then has one for each node
abbrev pub with_last : PureNet → PureProgress → List PureRow → PureProgress
with_last net p rows = if length rows == length net.nodes then record p { tables = p.tables ++ rows ∷ []; rows = [] } else record p { rows = rows }

abbrev pub with_row : PureNet → PureProgress → PureRow → PureProgress
with_row net p row = with_last net p (p.rows ++ row ∷ [])

-- what comes of the first, if it breaks no rule
abbrev pub and_then : {A B : Type 0} → Result A ReportKind → (A → Result B ReportKind) → Result B ReportKind
and_then (Ok a) next = next a
and_then (Err kind) next = Err kind

-- the node and the destination of these names, and the nodes of a path
abbrev pub node_in : PureNet → List ℕ → Result ℕ ReportKind
node_in net name = ok_or (number_of net.nodes name) UnknownName

abbrev pub dest_in : PureNet → List ℕ → Result ℕ ReportKind
dest_in net name = ok_or (number_of net.dests name) UnknownName

abbrev pub path_in : PureNet → List (List ℕ) → Result (List ℕ) ReportKind
path_in net [] = Ok []
path_in net (name ∷ names) = and_then (node_in net name) (λ i. and_then (path_in net names) (λ path. Ok (i ∷ path)))

-- the row of this node for this destination is the next one: destinations come in order, and in each the nodes
abbrev pub is_next : PureNet → PureProgress → ℕ → ℕ → Bool
is_next net p node dest = not (is_whole net p) && node == length p.rows && dest == length p.tables

abbrev pub in_turn : PureNet → PureProgress → ℕ → ℕ → Result PureRow ReportKind → Result PureProgress ReportKind
in_turn net p node dest row = if is_next net p node dest then and_then row (λ r. Ok (with_row net p r)) else Err WrongRow

-- what texts spell as values
abbrev pub RowSpelling : Type 0
RowSpelling = List ℕ → Result PureValue LitFault

abbrev pub as_value : Result PureValue LitFault → Result PureValue ReportKind
as_value (Ok v) = Ok v
as_value (Err fault) = Err (BadValue fault)

abbrev pub after_none : PureNet → PureProgress → List ℕ → List ℕ → Result PureProgress ReportKind
after_none net p node dest =
    and_then (node_in net node) (λ i. and_then (dest_in net dest) (λ d.
    in_turn net p i d (Ok (record { node = i; dest = d; route = None }))))

abbrev pub after_route : RowSpelling → PureNet → PureProgress → List ℕ → List ℕ → List ℕ → List (List ℕ) → Result PureProgress ReportKind
after_route s net p node dest value names =
    and_then (node_in net node) (λ i. and_then (dest_in net dest) (λ d. and_then (path_in net names) (λ path.
    in_turn net p i d (and_then (as_value (s value)) (λ v.
    Ok (record { node = i; dest = d; route = Some (record { value = v; path = path }) }))))))

-- the end of the run stands once, after the last row
abbrev pub after_end : PureNet → PureProgress → Result PureProgress ReportKind
after_end net p = if is_whole net p then Ok (record p { is_over = true }) else Err BadLine

-- and only lines that say nothing come after it
abbrev pub unless_over : PureProgress → Result PureProgress ReportKind → Result PureProgress ReportKind
unless_over p made = if p.is_over then Err BadLine else made

abbrev pub after_said : RowSpelling → PureNet → PureProgress → PureSaid → Result PureProgress ReportKind
after_said s net p silent = Ok p
after_said s net p (no_route node dest) = unless_over p (after_none net p node dest)
after_said s net p (route node dest value path) = unless_over p (after_route s net p node dest value path)
after_said s net p ending = unless_over p (after_end net p)
after_said s net p bad = Err BadLine

-- What a report means.

-- the text spells this as a value with no number above that of a row, or is refused so
abbrev pub SpellsRowValue : Expression → List ℕ → Result PureValue LitFault → Type 0
SpellsRowValue a text (Ok v) = ValueTextTo max_row_number a text v
SpellsRowValue a text (Err fault) = IsValueFaultTo max_row_number a text fault

abbrev pub IsRowSpelling : PureNet → RowSpelling → Type 0
IsRowSpelling net s = (text : List ℕ) → SpellsRowValue net.alg.expression text (s text)

-- the lines in turn make the last of the first
abbrev pub Lead : RowSpelling → PureNet → PureProgress → List (List ℕ) → PureProgress → Type 0
Lead s net p [] last = last ≡ p
Lead s net p (line ∷ lines) last = (next : PureProgress) × (after_said s net p (said_in line) ≡ Ok next) × Lead s net next lines last

-- the report means these tables: its lines are their rows, destination by destination and node by node
pub record ReportText (net : PureNet) (text : List ℕ) (tables : List (List PureRow)) : Type 0 where
  pub spelling : RowSpelling
  pub is_spelling : IsRowSpelling net spelling
  pub last : PureProgress
  pub lead : Lead spelling net (no_rows net) (lines_of text) last
  pub tables_are : last.tables ≡ tables
  pub whole : is_whole net last ≡ true

-- the line of that number breaks a rule, which is of that kind, and no line before it breaks one
pub record IsLineFault (net : PureNet) (text : List ℕ) (fault : ReportFault) : Type 0 where
  pub before : List (List ℕ)
  pub line : List ℕ
  pub others : List (List ℕ)
  pub cut : lines_of text ≡ before ++ line ∷ others
  pub number : fault.line ≡ length before + 1
  pub spelling : RowSpelling
  pub is_spelling : IsRowSpelling net spelling
  pub last : PureProgress
  pub good : Lead spelling net (no_rows net) before last
  pub broken : after_said spelling net last (said_in line) ≡ Err fault.kind

-- no line breaks a rule, and the last row is missing: that is said of the line after the last
pub record AreRowsMissing (net : PureNet) (text : List ℕ) (line : ℕ) : Type 0 where
  pub number : line ≡ length (lines_of text) + 1
  pub spelling : RowSpelling
  pub is_spelling : IsRowSpelling net spelling
  pub last : PureProgress
  pub good : Lead spelling net (no_rows net) (lines_of text) last
  pub missing : is_whole net last ≡ false

-- the fault that refuses the report
abbrev pub IsFaultOf : PureNet → List ℕ → ReportFault → ReportKind → Type 0
IsFaultOf net text fault RowsMissing = AreRowsMissing net text fault.line
IsFaultOf net text fault _ = IsLineFault net text fault

abbrev pub IsReportFault : PureNet → List ℕ → ReportFault → Type 0
IsReportFault net text fault = IsFaultOf net text fault fault.kind

-- a report means one list of tables over a network or has a fault there, not both, and only one of its kind
pub record HasOneMeaning (net : PureNet) (text : List ℕ) : Type 0 where
  pub one_list : (t u : List (List PureRow)) → ReportText net text t → ReportText net text u → t ≡ u
  pub one_fault : (f g : ReportFault) → IsReportFault net text f → IsReportFault net text g → f ≡ g
  pub not_both : (t : List (List PureRow)) (f : ReportFault) → ReportText net text t → ¬ IsReportFault net text f

-- each row's path, if it has one, is of one or more of the network's nodes: so are those of all rows that are printed
abbrev pub HasPaths : PureNet → List PureRow → Type 0
HasPaths net table = (i : ℕ) (r : PureRoute) → route_at table i ≡ Some r → (r.path ≢ []) × AreNodesOf net r.path
