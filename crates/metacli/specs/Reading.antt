-- What reading a file comes to: what its bytes mean, or the cause of a refusal.
use Rattle.std.specs.Prelude.{◌≡◌, ◌≢◌, ℕ, ◌<◌, ◌≤◌, ◌⊎◌, List, Some, Result, Ok, Err, true, false, IsTrue, length}
use Rattle.meta_base.specs.Count.{HasRisen, raised}
use Rattle.meta_base.specs.Shelf.{Moment, Keeps, IsAbsent}
use Rattle.meta_base.specs.declared.ids.Which.{Which}
use Rattle.meta_base.specs.declared.ids.Which.TheVariants.{Expr, Network, Report}
use Rattle.meta_base.specs.Numbers.{max_file_bytes}
use Rattle.alg_model.specs.Expressions.{PureAlg}
use Rattle.raml_syntax.specs.ExprText.{ExprText, IsExprFault}
use Rattle.topology_file.specs.NetText.{PureNetFile, NetText, IsNetFault}
use Rattle.net_graph.specs.Nets.{PureNet}
use Rattle.net_graph.specs.Tables.{PureRow}
use Rattle.report_check.specs.ReportText.{ReportText, IsReportFault}
use Rattle.report_text.specs.Refusals.{PureRefusal, expr, network, report, read, long, memory}

-- these bytes were taken, to the end of the file, and aren't too many; where the shelf tells its files,
-- they are those of the file of that name
pub record IsWhole (old : Moment) (name bytes : List ℕ) (new : Moment) : Type 0 where
  pub ended : new.ended ≡ true
  pub taken : new.taken ≡ length bytes
  pub short : length bytes ≤ max_file_bytes
  pub reported : IsTrue old.reports → old.file name ≡ Some bytes

-- such bytes were taken whole
abbrev pub Holds : Moment → List ℕ → (List ℕ → Type 0) → Moment → Type 0
Holds old name P new = (bytes : List ℕ) × P bytes × IsWhole old name bytes new

-- why a file was not taken
abbrev pub IsUntaken : Which → List ℕ → Moment → Moment → PureRefusal → Type 0
IsUntaken which name old new (read w) = (w ≡ which) × (new.ended ≡ false) × (HasRisen old.faults new.faults ⊎ IsAbsent old name)
IsUntaken which name old new (long w) = (w ≡ which) × (max_file_bytes < new.taken)
    × (IsTrue old.reports → (bytes : List ℕ) × (old.file name ≡ Some bytes) × (max_file_bytes < length bytes))
IsUntaken which name old new memory = Unit {0}
IsUntaken which name old new _ = ⊥

-- What a file of that name meant to its reader: its bytes were all taken and mean what M says, or have the
-- fault that F says, or weren't taken.
abbrev pub IsReadAs : {X : Type 0} → Which → List ℕ → (List ℕ → X → Type 0) → (List ℕ → PureRefusal → Type 0) → Moment → Result X PureRefusal → Moment → Type 0
IsReadAs which name M F old (Ok x) new = Holds old name (λ bytes. M bytes x) new
IsReadAs which name M F old (Err r) new = IsUntaken which name old new r ⊎ Holds old name (λ bytes. F bytes r) new

-- what reading does: one file is begun, and no call fails unless that is answered; what was too much is
-- always refused
pub record Reads {X : Type 0} (which : Which) (name : List ℕ) (M : List ℕ → X → Type 0) (F : List ℕ → PureRefusal → Type 0)
    (old : Moment) (result : Result X PureRefusal) (new : Moment) : Type 0 where
  pub keeps : Keeps old new
  pub too_long : max_file_bytes < new.taken → result ≡ Err (long which)
  pub begun : new.begun ≡ raised old.begun 1
  pub no_fault : result ≢ Err (read which) → new.faults ≡ old.faults
  pub as_read : IsReadAs which name M F old result new

-- the bytes are what they are, and have no fault
abbrev pub AreBytes : List ℕ → List ℕ → Type 0
AreBytes bytes b = b ≡ bytes

abbrev pub HasNoFault : List ℕ → PureRefusal → Type 0
HasNoFault bytes r = ⊥

-- the text has the fault of the refusal
abbrev pub IsExprRefusal : List ℕ → PureRefusal → Type 0
IsExprRefusal text (expr f) = IsExprFault text f
IsExprRefusal text _ = ⊥

abbrev pub IsNetRefusal : PureAlg → List ℕ → PureRefusal → Type 0
IsNetRefusal a text (network f) = IsNetFault text a f
IsNetRefusal a text _ = ⊥

abbrev pub IsReportRefusal : PureNet → List ℕ → PureRefusal → Type 0
IsReportRefusal net text (report f) = IsReportFault net text f
IsReportRefusal net text _ = ⊥

-- taking the bytes of a file
abbrev pub Takes : Which → List ℕ → Moment → Result (List ℕ) PureRefusal → Moment → Type 0
Takes which name = Reads which name AreBytes HasNoFault

-- reading the algebra of the expression file of that name
abbrev pub ReadsExpression : List ℕ → Moment → Result PureAlg PureRefusal → Moment → Type 0
ReadsExpression name = Reads Expr name ExprText IsExprRefusal

-- reading the network of the network file of that name, with its changes, over the algebra
abbrev pub ReadsNetwork : PureAlg → List ℕ → Moment → Result PureNetFile PureRefusal → Moment → Type 0
ReadsNetwork a name = Reads Network name (λ text. NetText text a) (IsNetRefusal a)

-- what the bytes of a report mean on the network, or why they are refused
abbrev pub IsReportOf : PureNet → List ℕ → Result (List (List PureRow)) PureRefusal → Type 0
IsReportOf net text (Ok tables) = ReportText net text tables
IsReportOf net text (Err r) = IsReportRefusal net text r ⊎ (r ≡ memory)

-- reading the tables of the report of that name on the network
abbrev pub ReadsReport : PureNet → List ℕ → Moment → Result (List (List PureRow)) PureRefusal → Moment → Type 0
ReadsReport net name = Reads Report name (ReportText net) (IsReportRefusal net)
