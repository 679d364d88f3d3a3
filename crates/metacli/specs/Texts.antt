-- The printed text of what was decided, and what of it was written.
use Rattle.std.specs.Prelude.{◌≡◌, ◌≢◌, ◌⊎◌, ℕ, ◌+◌, Bool, true, List, [], ◌∷◌, ◌++◌, length, map, nat_eq, Option, Some, None, Result, Ok, Err, take, drop, option_map, if◌then◌else◌}
use Rattle.std.specs.List.{concat, range_with_len, AllByRecursion}
use Rattle.meta_base.specs.Sink.{Held, Appended, AppendedPart, Flushed, FlushFailed}
use Rattle.meta_base.specs.declared.ids.Delivery.{Delivery}
use Rattle.net_graph.specs.Nets.{PureNet}
use Rattle.net_graph.specs.Tables.{PureRow}
use Rattle.net_graph.specs.RowTexts.{IsRowOf, row_text}
use Rattle.topology_file.specs.NetText.{PureNetFile, changed_net}
use Rattle.distance_node.specs.Rows.{PureHopRow, IsHopRowOf}
use Rattle.report_check.specs.Hops.{PureHops}
use Rattle.report_text.specs.HopTexts.{hop_row_text}
use Rattle.report_text.specs.JudgedTexts.{CanPrintHops, CanPrintJudgement, hops_text, judgement_text}
use Rattle.report_text.specs.TableTexts.{stable_text, table_text}
use Rattle.report_text.specs.VerdictTexts.{required_text, verdicts_text, CanPrintVerdicts}
use Rattle.wedge_nets.specs.Gadgets.{HasGadget}
use Rattle.wedge_nets.specs.GadgetTexts.{gadget_text}
use Rattle.alg_model.specs.Properties.{PureProperty}
use Rattle.report_text.specs.CodeTexts.{CanList, code_text}
use Rattle.report_text.specs.Refusals.{memory, refusal_text, CanRefuse}
use Rattle.report_text.specs.RunTexts.{end_text, phase_text}
use Rattle.trace_lines.specs.DeliveryLines.{delivery_text}
use Rattle.report_text.specs.SummaryTexts.{AreSummed, summary_text}
use Rattle.vector_runs.specs.Runs.{AreOfNetworks, PurePhase}
use Rattle.metacli.specs.Answers.{PureAnswer, done, refused, spent, unmet, write_fault}
use Rattle.metacli.specs.After.{nets_after}
use Rattle.metacli.specs.declared.putting.Cut.{Cut}
use Rattle.metacli.specs.declared.putting.Cut.TheVariants.{Sink, Memory}
use Rattle.metacli.specs.Outcome.{PureOutcome, stopped, checked, coded, routed, hopped, judged, wedged, ran, flooded, exchanged, shown}
use Rattle.metacli.specs.declared.routing.Solution.{Solution}
use Rattle.metacli.specs.declared.routing.Solution.TheVariants.{Unbeaten, Settled, AllStable}

-- the lines of routes; changes leave all names as they are
abbrev pub rows_text : PureNet → List PureRow → List ℕ
rows_text net rows = concat (map (row_text net) rows)

-- the one stable table of each of these destinations: how many it has, the number of that one, and as many rows as
-- there are nodes
abbrev pub tables_text : PureNet → List ℕ → List PureRow → List ℕ
tables_text net [] rows = []
tables_text net (dest ∷ dests) rows =
    stable_text net dest 1
    ++ (table_text 1 ++ (rows_text net (take (length net.nodes) rows) ++ tables_text net dests (drop (length net.nodes) rows)))

-- of one of them
abbrev pub one_table_text : PureNet → ℕ → List PureRow → List ℕ
one_table_text net dest rows = stable_text net dest 1 ++ (table_text 1 ++ rows_text net rows)

-- routes, or stable tables
abbrev pub routes_text : Solution → PureNet → List PureRow → List ℕ
routes_text Unbeaten net rows = rows_text net rows
routes_text Settled net rows = rows_text net rows
routes_text AllStable net rows = tables_text net (range_with_len 0 (length net.dests)) rows

-- the lines of rows with all their next hops
abbrev pub many_text : PureNet → List PureHops → List ℕ
many_text net many = concat (map (hops_text net) many)

-- the line of a required property that fails, if one does
abbrev pub unmet_text : Option PureProperty → List ℕ
unmet_text None = []
unmet_text (Some p) = required_text p

-- the network of a file after its changes, if there is one: the arc of a refusal is one of its arcs
abbrev pub last_net : Option PureNetFile → Option PureNet
last_net = option_map changed_net

-- the lines of the deliveries of a journal
abbrev pub journal_text : PureNet → List Delivery → List ℕ
journal_text net journal = concat (map (delivery_text net) journal)

-- the number of a phase, where it isn't the first; its deliveries, where they are asked for
abbrev pub number_text : ℕ → List ℕ
number_text number = if nat_eq number 0 then [] else phase_text number

abbrev pub trace_text : Bool → PureNet → List Delivery → List ℕ
trace_text traced net journal = if traced then journal_text net journal else []

-- both, and then its rows and its end
abbrev pub phase_lines : Bool → PureNet → ℕ → PurePhase → Bool → List ℕ
phase_lines traced net number p quiet =
    number_text number ++ (trace_text traced net p.journal ++ (rows_text net p.rows ++ end_text quiet (length p.journal)))

-- the phases from one number on, each on its network
abbrev pub run_text : Bool → PureNet → List PureNet → ℕ → List PurePhase → PurePhase → Bool → List ℕ
run_text traced net nets number [] last quiet = phase_lines traced net number last quiet
run_text traced net [] number (p ∷ past) last quiet = []
run_text traced net (m ∷ nets) number (p ∷ past) last quiet = phase_lines traced net number p true ++ run_text traced m nets (number + 1) past last quiet

-- the rows of a flood and its end, as those of a run of one phase
abbrev pub flood_text : PureNet → List PureRow → List Delivery → Bool → List ℕ
flood_text net rows journal quiet = rows_text net rows ++ end_text quiet (length journal)

-- the lines of rows with the next hop of each, and those of an exchange and its end
abbrev pub hop_rows_text : PureNet → List PureHopRow → List ℕ
hop_rows_text net hops = concat (map (hop_row_text net) hops)

abbrev pub exchange_text : PureNet → List PureHopRow → List Delivery → Bool → List ℕ
exchange_text net hops journal quiet = hop_rows_text net hops ++ end_text quiet (length journal)

-- the text of what a command came to: verdicts, code, routes, a gadget, phases, a flood, an exchange, a summary, or the
-- one line of a refusal
abbrev pub TextOf : PureOutcome → List ℕ
TextOf (stopped a f r) = refusal_text r (last_net f)
TextOf (checked a f v u) = verdicts_text a.expression v ++ unmet_text u
TextOf (coded a f listing) = code_text a.expression (last_net f) listing
TextOf (routed s a f rows) = routes_text s f.net rows
TextOf (hopped a f many) = many_text f.net many
TextOf (judged a f tables j) = judgement_text (changed_net f) j
TextOf (wedged a v) = gadget_text a v
TextOf (ran a f traced past last quiet) = run_text traced f.net (nets_after f.net f.changes) 0 past last quiet
TextOf (flooded a f rows journal quiet) = flood_text f.net rows journal quiet
TextOf (exchanged a f hops journal quiet) = exchange_text f.net hops journal quiet
TextOf (shown a f last) = summary_text f.net last.rows

-- that text can be made
abbrev pub IsPrintable : PureOutcome → Type 0
IsPrintable (stopped a f r) = CanRefuse r (last_net f)
IsPrintable (checked a f v u) = CanPrintVerdicts a.expression v
IsPrintable (coded a f listing) = CanList a (last_net f) listing
IsPrintable (routed s a f rows) = AllByRecursion (IsRowOf f.net) rows
IsPrintable (hopped a f many) = AllByRecursion (CanPrintHops f.net) many
IsPrintable (judged a f tables j) = CanPrintJudgement (changed_net f) j
IsPrintable (wedged a v) = HasGadget a v
IsPrintable (ran a f traced past last quiet) = AreOfNetworks f.net (nets_after f.net f.changes) past last
IsPrintable (flooded a f rows journal quiet) = AllByRecursion (IsRowOf f.net) rows
IsPrintable (exchanged a f hops journal quiet) = AllByRecursion (IsHopRowOf f.net) hops
IsPrintable (shown a f last) = AreSummed last.rows

-- a front of the text was appended, and this is what comes after it
pub record HasLines (old : Held) (text rest : List ℕ) (new : Held) : Type 0 where
  pub front : List ℕ
  pub split : text ≡ front ++ rest
  pub appended : Appended old front new

-- the text was appended; a proper front of it, since the sink failed; or a front of it, for want of memory
abbrev pub PutsText : Held → List ℕ → Result (Unit {0}) Cut → Held → Type 0
PutsText old text (Ok _) new = Appended old text new
PutsText old text (Err Sink) new = AppendedPart old text new
PutsText old text (Err Memory) new = (rest : List ℕ) × HasLines old text rest new

-- What was written of the text, by the answer to that: a proper front of it after a write fault; a front of it
-- where memory was refused, and all of it where that was decided before; else all of it.
abbrev pub Written : Held → List ℕ → Held → PureAnswer → PureAnswer → Type 0
Written old text new decided write_fault = AppendedPart old text new
Written old text new decided (refused memory) = (decided ≡ refused memory → Appended old text new) × ((n : ℕ) × Appended old (take n text) new)
Written old text new decided (refused r) = (refused r ≡ decided) × Appended old text new
Written old text new decided done = (done ≡ decided) × Appended old text new
Written old text new decided spent = (spent ≡ decided) × Appended old text new
Written old text new decided (unmet p) = (unmet p ≡ decided) × Appended old text new

-- a flush that failed: want of memory stays the answer, and any other becomes a write fault
abbrev pub AfterFailedFlush : PureAnswer → PureAnswer → Type 0
AfterFailedFlush before answer = (before ≡ refused memory → answer ≡ refused memory) × (before ≢ refused memory → answer ≡ write_fault)

-- what the sink had gathered was handed on, and the answer stays; or that failed
abbrev pub HandsOn : Held → PureAnswer → Held → PureAnswer → Type 0
HandsOn old before new answer = (Flushed old new × (answer ≡ before)) ⊎ (FlushFailed old new × AfterFailedFlush before answer)

-- what was written of the text, and then handed on
pub record WrittenOut (old : Held) (text : List ℕ) (new : Held) (decided answer : PureAnswer) : Type 0 where
  pub now : Held
  pub before : PureAnswer
  pub written : Written old text now decided before
  pub handed_on : HandsOn now before new answer

-- the answer where it was cut short
abbrev pub cut_answer : Cut → PureAnswer
cut_answer Sink = write_fault
cut_answer Memory = refused memory
