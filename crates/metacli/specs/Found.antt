-- What is found on a network: its routes, next hops, a flood or an exchange of values, or the first arc whose label isn't
-- fit for them; and the tables of a report with their judgement, or why there are none.
use Rattle.std.specs.Prelude.{ℕ, List, map, Some, Result, Ok, Err}
use Rattle.std.specs.List.{AllByRecursion}
use Rattle.alg_classes.specs.Instances.{pure_instance}
use Rattle.alg_model.specs.Expressions.{PureAlg}
use Rattle.distance_node.specs.Rows.{IsHopRowOf, pure_hop_row}
use Rattle.distance_runs.specs.declared.run.DistanceRun.{DistanceRun}
use Rattle.flood_runs.specs.declared.run.FloodRun.{FloodRun}
use Rattle.net_facts.specs.Misses.{IsFirstMissing}
use Rattle.net_facts.specs.declared.missing.Missing.{Missing}
use Rattle.net_graph.specs.Nets.{PureNet}
use Rattle.net_graph.specs.RowTexts.{IsRowOf}
use Rattle.net_graph.specs.Views.{pure_row}
use Rattle.net_graph.specs.Tables.{PureRow}
use Rattle.report_check.specs.Judged.{Judged, PureJudgement}
use Rattle.report_check.specs.ReportText.{ReportText}
use Rattle.report_check.specs.Views.{pure_hops}
use Rattle.report_check.specs.declared.hops.ManyHops.{ManyHops}
use Rattle.report_text.specs.JudgedTexts.{CanPrintHops, CanPrintJudgement}
use Rattle.report_text.specs.Refusals.{PureRefusal, CanMiss}
use Rattle.topology_file.specs.NetText.{PureNetFile, changed_net}
use Rattle.word_tables.specs.Rows.{pure_word_rows, HasWordsOn}
use Rattle.word_tables.specs.declared.rows.WordRows.{WordRows}
use Rattle.metacli.specs.Reading.{IsReportOf}
use Rattle.metacli.specs.Outcome.{PureOutcome, AreHopsOn, AreRoutesOn, GoesOnWith, IsExchange, IsFit, IsFitForExchange, IsFlood, asked_of, asked_of_exchange}
use Rattle.metacli.specs.declared.routing.Solution.{Solution}
use Rattle.metacli.specs.declared.routing.Solution.TheVariants.{Unbeaten}

-- rows that can be printed, or an instance that can
abbrev pub IsFoundOn : Solution → PureNet → Result WordRows Missing → Type 0
IsFoundOn solution net (Ok rows) = IsFit solution net × AreRoutesOn solution net (pure_word_rows rows) × AllByRecursion (IsRowOf net) (pure_word_rows rows) × HasWordsOn net rows
IsFoundOn solution net (Err missing) = IsFirstMissing (asked_of solution) net missing.arc.0 (pure_instance missing.instance) × CanMiss missing.arc.0 (pure_instance missing.instance) (Some net)

-- next hops that can be printed, or an instance that can
abbrev pub AreFoundHops : PureNet → Result (List ManyHops) Missing → Type 0
AreFoundHops net (Ok many) = IsFit Unbeaten net × AreHopsOn net (map pure_hops many) × AllByRecursion (CanPrintHops net) (map pure_hops many)
AreFoundHops net (Err missing) = IsFirstMissing (asked_of Unbeaten) net missing.arc.0 (pure_instance missing.instance) × CanMiss missing.arc.0 (pure_instance missing.instance) (Some net)

-- a flood whose rows can be printed, or an instance that can
abbrev pub IsFoundFlood : PureNet → ℕ → Result FloodRun Missing → Type 0
IsFoundFlood net turns (Ok run) = IsFit Unbeaten net × IsFlood net turns (map pure_row run.rows) run.journal run.is_quiet × AllByRecursion (IsRowOf net) (map pure_row run.rows)
IsFoundFlood net turns (Err missing) = IsFirstMissing (asked_of Unbeaten) net missing.arc.0 (pure_instance missing.instance) × CanMiss missing.arc.0 (pure_instance missing.instance) (Some net)

-- an exchange whose rows can be printed, or an instance that can
abbrev pub IsFoundExchange : PureNet → ℕ → Result DistanceRun Missing → Type 0
IsFoundExchange net turns (Ok run) = IsFitForExchange net × IsExchange net turns (map pure_hop_row run.hops) run.journal run.is_quiet × AllByRecursion (IsHopRowOf net) (map pure_hop_row run.hops)
IsFoundExchange net turns (Err missing) = IsFirstMissing asked_of_exchange net missing.arc.0 (pure_instance missing.instance) × CanMiss missing.arc.0 (pure_instance missing.instance) (Some net)

-- the tables that the report means, and a judgement of them that can be printed
pub record IsFoundOf (net : PureNet) (source : List ℕ) (tables : List (List PureRow)) (judgement : PureJudgement) : Type 0 where
  pub means : ReportText net source tables
  pub judged : Judged net tables judgement
  pub printable : CanPrintJudgement net judgement

-- what is made of the bytes of a report on the network of the file: its tables are judged, or it is refused
pub record IsJudgedBy (a : PureAlg) (f : PureNetFile) (source : List ℕ) (o : PureOutcome) : Type 0 where
  pub report : Result (List (List PureRow)) PureRefusal
  pub is_report : IsReportOf (changed_net f) source report
  pub goes_on : GoesOnWith a f o report
