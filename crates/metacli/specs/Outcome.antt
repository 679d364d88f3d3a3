-- What a run comes to, by its words, and the end that shows it.
use Rattle.std.specs.Prelude.{◌≡◌, ◌<◌, ◌≤◌, ◌↔◌, ℕ, ◌+◌, Bool, true, false, ◌&&◌, find, if◌then◌else◌, List, [], ◌∷◌, ◌++◌, length, map, Option, Some, None, option_map, Result, Ok, Err, slice_index_or}
use Rattle.std.specs.List.{Contains}
use Rattle.meta_base.specs.Shelf.{Moment}
use Rattle.meta_base.specs.declared.ids.Delivery.{Delivery}
use Rattle.alg_model.specs.Numbers.{max_instance_number}
use Rattle.alg_model.specs.Expressions.{PureAlg, PureLabel}
use Rattle.alg_model.specs.Application.{IsLabel}
use Rattle.alg_model.specs.Bounds.{greatest_number}
use Rattle.alg_model.specs.Properties.{PureProperty, monotone, strict, isotone, cancellative, total}
use Rattle.alg_model.specs.Verdicts.{PureVerdict, PureVerdicts, holds, fails, verdict_on, IsExact, ExactFor}
use Rattle.alg_model.specs.Instances.{VerdictsAtMost}
use Rattle.property_infer.specs.Views.{pure_verdict, pure_verdicts}
use Rattle.code_gen.specs.declared.listing.Listing.{Listing}
use Rattle.code_gen.specs.Listings.{IsListing}
use Rattle.net_graph.specs.Nets.{PureNet, PureArc}
use Rattle.net_graph.specs.Tables.{PureRow, BestFirst, NetHas, OnTablesFrom, Optimal, AreRowsOfTables, AreSettledRows, carrier}
use Rattle.report_check.specs.Hops.{PureHops, hops_of}
use Rattle.report_check.specs.Judged.{Judged, PureJudgement}
use Rattle.net_graph.specs.Changes.{PureChange}
use Rattle.net_graph.specs.Views.{pure_change, rows_of}
use Rattle.report_check.specs.Views.{pure_hops, pure_judgement}
use Rattle.topology_file.specs.NetText.{PureNetFile, NetText, changed_net}
use Rattle.net_gen.specs.Generated.{Generated}
use Rattle.net_gen.specs.Networks.{demo_alg}
use Rattle.vector_runs.specs.Runs.{PurePhase, IsRun, AreStable, pure_phase}
use Rattle.vector_runs.specs.Turns.{AreMonotone, deliveries_left, deliveries_made}
use Rattle.demo_rest.specs.Most.{demo_turns}
use Rattle.distance_node.specs.Rows.{PureHopRow, pure_hop_row}
use Rattle.distance_runs.specs.Runs.{AreAsGoodRows, AreBestHops, IsDistanceRun}
use Rattle.flood_node.specs.Reach.{cards_sent}
use Rattle.flood_runs.specs.Floods.{IsFloodRun}
use Rattle.report_text.specs.Refusals as refusal
use Rattle.metacli.specs.Rows.{pure_rows}
use Rattle.net_facts.specs.Misses.{IsFirstMissing, NetHasAll}
use Rattle.report_text.specs.Refusals.{PureRefusal, misses, memory}
use Rattle.metacli.specs.Answers.{PureAnswer, done, refused, spent, unmet, pure_answer}
use Rattle.metacli.specs.After.{nets_after}
use Rattle.metacli.specs.Reading.{ReadsExpression, ReadsNetwork, ReadsReport}
use Rattle.command_words.specs.Words.{Words, words_fault_number}
use Rattle.command_words.specs.declared.command.Command.{Command}
use Rattle.command_words.specs.declared.command.Required.{Required}
use Rattle.command_words.specs.declared.command.WordsFault.{WordsFault}
use Rattle.metacli.specs.declared.ended.Ended.{Ended}
use Rattle.metacli.specs.declared.routing.Solution.{Solution}
use Rattle.metacli.specs.declared.routing.Solution.TheVariants.{Unbeaten, Settled, AllStable}
use Rattle.metacli.specs.Tasks.{task_of}
use Rattle.metacli.specs.declared.task.AlgebraTask.{AlgebraTask}
use Rattle.metacli.specs.declared.task.AlgebraTask.TheVariants as alone
use Rattle.metacli.specs.declared.task.NetworkTask.{NetworkTask}
use Rattle.metacli.specs.declared.task.NetworkTask.TheVariants as joint
use Rattle.metacli.specs.declared.task.Task.{Task}
use Rattle.metacli.specs.declared.task.Task.TheVariants as task
use Rattle.settled_laws.specs.UniqueTables.{TablesAreUnique}
use Rattle.wedge_nets.specs.Gadgets.{HasGadget, wedge_file}
use Rattle.wedge_nets.specs.GadgetTexts.{are_short, gadget_lines, gadget_text}

-- What a run comes to before anything is written.
pub data PureOutcome : Type 0 where
  -- it is refused, and this was read before
  stopped : Option PureAlg → Option PureNetFile → PureRefusal → PureOutcome
  -- the verdicts on an algebra, or on the labels of a network over it, and the first required property that fails
  checked : PureAlg → Option PureNetFile → PureVerdicts → Option PureProperty → PureOutcome
  -- the code of an algebra's order, and of the labels of a network over it
  coded : PureAlg → Option PureNetFile → Listing → PureOutcome
  -- the routes of a network over an algebra that were asked for
  routed : Solution → PureAlg → PureNetFile → List PureRow → PureOutcome
  -- all equally good next hops on a network over an algebra
  hopped : PureAlg → PureNetFile → List PureHops → PureOutcome
  -- the tables that a report means on it, and what they are judged to be
  judged : PureAlg → PureNetFile → List (List PureRow) → PureJudgement → PureOutcome
  -- the verdict on monotone of an algebra, with the network that shows it
  wedged : PureAlg → PureVerdict → PureOutcome
  -- the phases before the last, the last, and whether it is quiet; deliveries are printed or not
  ran : PureAlg → PureNetFile → Bool → List PurePhase → PurePhase → Bool → PureOutcome
  -- the rows that flooding nodes compute at the end of a flood, its deliveries, and whether it is quiet
  flooded : PureAlg → PureNetFile → List PureRow → List Delivery → Bool → PureOutcome
  -- the rows of distance-vector nodes at the end of an exchange of values, its deliveries, and whether it is quiet
  exchanged : PureAlg → PureNetFile → List PureHopRow → List Delivery → Bool → PureOutcome
  -- the one phase on a generated network, which is quiet
  shown : PureAlg → PureNetFile → PurePhase → PureOutcome

abbrev pub algebra_in : PureOutcome → Option PureAlg
algebra_in (stopped a f r) = a
algebra_in (checked a f v u) = Some a
algebra_in (coded a f listing) = Some a
algebra_in (routed s a f rows) = Some a
algebra_in (hopped a f many) = Some a
algebra_in (judged a f tables j) = Some a
algebra_in (wedged a v) = Some a
algebra_in (ran a f traced past last quiet) = Some a
algebra_in (flooded a f rows journal quiet) = Some a
algebra_in (exchanged a f hops journal quiet) = Some a
algebra_in (shown a f last) = Some a

abbrev pub file_in : PureOutcome → Option PureNetFile
file_in (stopped a f r) = f
file_in (checked a f v u) = f
file_in (coded a f listing) = f
file_in (routed s a f rows) = Some f
file_in (hopped a f many) = Some f
file_in (judged a f tables j) = Some f
file_in (wedged a v) = None
file_in (ran a f traced past last quiet) = Some f
file_in (flooded a f rows journal quiet) = Some f
file_in (exchanged a f hops journal quiet) = Some f
file_in (shown a f last) = Some f

-- what else an end shows is empty where nothing of the kind was made
abbrev pub verdicts_in : PureOutcome → Option PureVerdicts
verdicts_in (checked a f v u) = Some v
verdicts_in _ = None

abbrev pub listing_in : PureOutcome → Option Listing
listing_in (coded a f listing) = Some listing
listing_in _ = None

-- the verdict that a network shows
abbrev pub gadget_in : PureOutcome → Option PureVerdict
gadget_in (wedged a v) = Some v
gadget_in _ = None

-- the tables of a report, and their judgement
abbrev pub report_in : PureOutcome → Option (List (List PureRow))
report_in (judged a f tables j) = Some tables
report_in _ = None

abbrev pub judgement_in : PureOutcome → Option PureJudgement
judgement_in (judged a f tables j) = Some j
judgement_in _ = None

abbrev pub many_in : PureOutcome → List PureHops
many_in (hopped a f many) = many
many_in _ = []

abbrev pub rows_in : PureOutcome → List PureRow
rows_in (routed s a f rows) = rows
rows_in (ran a f traced past last quiet) = last.rows
rows_in (flooded a f rows journal quiet) = rows
rows_in (shown a f last) = last.rows
rows_in _ = []

abbrev pub hops_in : PureOutcome → List PureHopRow
hops_in (exchanged a f hops journal quiet) = hops
hops_in _ = []

abbrev pub journal_in : PureOutcome → List Delivery
journal_in (ran a f traced past last quiet) = last.journal
journal_in (flooded a f rows journal quiet) = journal
journal_in (exchanged a f hops journal quiet) = journal
journal_in (shown a f last) = last.journal
journal_in _ = []

abbrev pub past_in : PureOutcome → List PurePhase
past_in (ran a f traced past last quiet) = past
past_in _ = []

-- the answer where a required property fails, if one does
abbrev pub met_or : Option PureProperty → PureAnswer
met_or None = done
met_or (Some p) = unmet p

abbrev pub answer_in : PureOutcome → PureAnswer
answer_in (stopped a f r) = refused r
answer_in (checked a f v u) = met_or u
answer_in (coded a f listing) = done
answer_in (routed s a f rows) = done
answer_in (hopped a f many) = done
answer_in (judged a f tables j) = done
answer_in (wedged a v) = done
answer_in (ran a f traced past last quiet) = if quiet then done else spent
answer_in (flooded a f rows journal quiet) = if quiet then done else spent
answer_in (exchanged a f hops journal quiet) = if quiet then done else spent
answer_in (shown a f last) = done

-- the changes of a network file, if there is one
abbrev pub changes_of : Option PureNetFile → List PureChange
changes_of None = []
changes_of (Some f) = f.changes

-- The end shows what a command came to: a field that the outcome says nothing of is empty.
pub record Shows (e : Ended) (asked : Option Command) (o : PureOutcome) : Type 0 where
  pub command : e.command ≡ asked
  pub alg : e.alg ≡ algebra_in o
  pub net : e.net ≡ option_map (λ (f : PureNetFile). f.net) (file_in o)
  pub changes : map pure_change e.changes ≡ changes_of (file_in o)
  pub verdicts : option_map pure_verdicts e.verdicts ≡ verdicts_in o
  pub listing : e.listing ≡ listing_in o
  pub gadget : option_map pure_verdict e.gadget ≡ gadget_in o
  pub report : option_map (map rows_of) e.report ≡ report_in o
  pub judgement : option_map pure_judgement e.judgement ≡ judgement_in o
  pub many : map pure_hops e.many ≡ many_in o
  pub rows : pure_rows e.rows ≡ rows_in o
  pub hops : map pure_hop_row e.hops ≡ hops_in o
  pub journal : e.journal ≡ journal_in o
  pub past : map pure_phase e.past ≡ past_in o
  pub decided : pure_answer e.decided ≡ answer_in o

-- the verdicts are exact for the labels of the set, and the numbers of instances are small
pub record AreVerdictsOn (a : PureAlg) (S : PureLabel → Type 0) (v : PureVerdicts) : Type 0 where
  pub exact : ExactFor a.expression S v
  pub bound : VerdictsAtMost (greatest_number a.edition) max_instance_number v

-- the property is required
abbrev pub asks : Required → PureProperty → Bool
asks r monotone = r.monotone
asks r strict = r.strict
asks r isotone = r.isotone
asks r cancellative = r.cancellative
asks r total = r.total

abbrev pub is_failed : PureVerdict → Bool
is_failed holds = false
is_failed (fails x) = true

-- the first of these properties that is required and fails
abbrev pub first_unmet_of : Required → PureVerdicts → List PureProperty → Option PureProperty
first_unmet_of r v = find (λ p. asks r p && is_failed (verdict_on v p))

-- the first of the five
abbrev pub first_unmet : Required → PureVerdicts → Option PureProperty
first_unmet r v = first_unmet_of r v (monotone ∷ strict ∷ isotone ∷ cancellative ∷ total ∷ [])

-- What check comes to where all was read: the verdicts, and the first required property that fails, unless memory is
-- refused.
abbrev pub IsCheckedAs : Required → PureAlg → Option PureNetFile → (PureLabel → Type 0) → PureOutcome → Type 0
IsCheckedAs r a file S (checked b f v u) = (b ≡ a) × (f ≡ file) × AreVerdictsOn a S v × (u ≡ first_unmet r v)
IsCheckedAs r a file S (stopped b f memory) = (b ≡ Some a) × (f ≡ file)
IsCheckedAs r a file S _ = ⊥

-- the first of the verdicts on an algebra decides whether, on every network over it, a destination has at most one
-- stable table
abbrev pub DecidesTables : PureAlg → PureOutcome → Type 0
DecidesTables a (checked b f v u) = (v.monotone ≡ holds) ↔ TablesAreUnique a
DecidesTables a _ = Unit {0}

-- the printed text of an instance against monotone is the network file of its wedge, where no line is too long for one
abbrev pub ShowsWedge : PureAlg → PureVerdict → Type 0
ShowsWedge a holds = Unit {0}
ShowsWedge a (fails x) = are_short (gadget_lines a.expression x) ≡ true → NetText (gadget_text a (fails x)) a (wedge_file a x.label x.first)

-- What gadget comes to where all was read: the exact verdict on monotone and, where it fails, a label and a value that a
-- network file can hold, with their wedge, unless memory is refused.
abbrev pub IsWedgedAs : PureAlg → PureOutcome → Type 0
IsWedgedAs a (wedged b v) = (b ≡ a) × IsExact monotone a.expression (IsLabel a.expression) v × HasGadget a v × ShowsWedge a v
IsWedgedAs a (stopped b None memory) = b ≡ Some a
IsWedgedAs a _ = ⊥

-- the labels on the arcs of the network, in file order
abbrev pub labels_on : PureNet → List PureLabel
labels_on net = map (λ (a : PureArc). a.label) net.arcs

abbrev pub IsOnArc : PureNet → PureLabel → Type 0
IsOnArc net = Contains (labels_on net)

-- what code comes to where all was read: the code of the algebra's order and of these labels, unless memory is refused
abbrev pub IsCodedAs : PureAlg → Option PureNetFile → List PureLabel → PureOutcome → Type 0
IsCodedAs a file labels (coded b f listing) = (b ≡ a) × (f ≡ file) × IsListing a.expression labels listing
IsCodedAs a file labels (stopped b f memory) = (b ≡ Some a) × (f ≡ file)
IsCodedAs a file labels _ = ⊥

-- what is asked of all labels, in the order in which it is looked for
abbrev pub asked_of : Solution → List PureProperty
asked_of Unbeaten = monotone ∷ isotone ∷ []
asked_of Settled = strict ∷ []
asked_of AllStable = monotone ∷ []

-- the labels on all arcs have it
abbrev pub IsFit : Solution → PureNet → Type 0
IsFit solution = NetHasAll (asked_of solution)

-- The rows are those of the tables of all destinations in order, each of which is made best first, and no other rows
-- are stable. Unbeaten ones are beaten by no walk too.
abbrev pub AreRoutesOn : Solution → PureNet → List PureRow → Type 0
AreRoutesOn Unbeaten net rows =
    AreRowsOfTables net (λ dest table. BestFirst net dest table × Optimal net dest table) rows × AreSettledRows net rows
AreRoutesOn Settled net rows = AreRowsOfTables net (BestFirst net) rows × AreSettledRows net rows
AreRoutesOn AllStable net rows = AreRowsOfTables net (BestFirst net) rows × AreSettledRows net rows

-- What route, settle and stable come to where all was read, on the network after its changes: the routes, where its
-- labels are fit for them; else the first arc whose label isn't; unless memory is refused.
abbrev pub IsRoutedAs : Solution → PureAlg → PureNetFile → PureOutcome → Type 0
IsRoutedAs solution a file (routed s b f rows) = (s ≡ solution) × (b ≡ a) × (f ≡ file) × IsFit solution (changed_net file) × AreRoutesOn solution (changed_net file) rows
IsRoutedAs solution a file (stopped b f (misses arc x)) = (b ≡ Some a) × (f ≡ Some file) × IsFirstMissing (asked_of solution) (changed_net file) arc x
IsRoutedAs solution a file (stopped b f memory) = (b ≡ Some a) × (f ≡ Some file)
IsRoutedAs solution a file _ = ⊥

-- the next hops of the tables from that destination on
abbrev pub all_hops : PureNet → ℕ → List (List PureRow) → List PureHops
all_hops net dest [] = []
all_hops net dest (table ∷ tables) = hops_of net dest table ++ all_hops net (dest + 1) tables

-- these are those of the tables of all destinations in order, each of which is made best first and is beaten by no walk
pub record AreHopsOn (net : PureNet) (many : List PureHops) : Type 0 where
  pub tables : List (List PureRow)
  pub hold : OnTablesFrom (λ dest table. BestFirst net dest table × Optimal net dest table) 0 tables
  pub count : length tables ≡ length net.dests
  pub hops : many ≡ all_hops net 0 tables

-- What hops comes to where all was read, as route does.
abbrev pub IsHoppedAs : PureAlg → PureNetFile → PureOutcome → Type 0
IsHoppedAs a file (hopped b f many) = (b ≡ a) × (f ≡ file) × IsFit Unbeaten (changed_net file) × AreHopsOn (changed_net file) many
IsHoppedAs a file (stopped b f (misses arc x)) = (b ≡ Some a) × (f ≡ Some file) × IsFirstMissing (asked_of Unbeaten) (changed_net file) arc x
IsHoppedAs a file (stopped b f memory) = (b ≡ Some a) × (f ≡ Some file)
IsHoppedAs a file _ = ⊥

-- What verify comes to where the report was read: what its tables are judged to be on the network after its changes,
-- unless memory is refused.
abbrev pub IsJudgedAs : PureAlg → PureNetFile → List (List PureRow) → PureOutcome → Type 0
IsJudgedAs a file tables (judged b f t j) = (b ≡ a) × (f ≡ file) × (t ≡ tables) × Judged (changed_net file) tables j
IsJudgedAs a file tables (stopped b f memory) = (b ≡ Some a) × (f ≡ Some file)
IsJudgedAs a file tables _ = ⊥

-- Where all labels of the networks of a run are monotone, it made no more deliveries than were left at the starts of its
-- phases, and with as many turns it is quiet.
pub record ComesToRest (net : PureNet) (nets : List PureNet) (turns : ℕ) (past : List PurePhase) (last : PurePhase) (quiet : Bool) : Type 0 where
  pub most : AreMonotone net nets → deliveries_made past last ≤ deliveries_left net nets past
  pub ends : AreMonotone net nets → deliveries_left net nets past ≤ turns → quiet ≡ true

-- What run and trace come to where all was read: a run of the network's new nodes, and then on the networks after the
-- changes, whose quiet phases have stable rows, and which comes to rest; unless memory is refused.
abbrev pub IsRunAs : Bool → ℕ → PureAlg → PureNetFile → PureOutcome → Type 0
IsRunAs traced turns a file (ran b f t past last quiet) =
    (b ≡ a) × (f ≡ file) × (t ≡ traced) × IsRun file.net (nets_after file.net file.changes) turns past last quiet
    × AreStable file.net (nets_after file.net file.changes) past last quiet
    × ComesToRest file.net (nets_after file.net file.changes) turns past last quiet
IsRunAs traced turns a file (stopped b f memory) = (b ≡ Some a) × (f ≡ Some file)
IsRunAs traced turns a file _ = ⊥

-- A flood of the network's new nodes. It is spent exactly where it has fewer turns than cards are sent on the network.
-- Where it is quiet, it made as many deliveries, and its rows are those that link state finds.
pub record IsFlood (net : PureNet) (turns : ℕ) (rows : List PureRow) (journal : List Delivery) (quiet : Bool) : Type 0 where
  pub is_run : IsFloodRun net turns rows journal quiet
  pub spent : (quiet ≡ false) ↔ (turns < cards_sent net)
  pub made : quiet ≡ true → length journal ≡ cards_sent net
  pub link_state : quiet ≡ true → (routed : List PureRow) → AreRowsOfTables net (BestFirst net) routed → rows ≡ routed

-- What flood comes to where all was read, on the network after its changes: a flood, where its labels are fit for routes
-- that no walk beats; else as route does.
abbrev pub IsFloodedAs : ℕ → PureAlg → PureNetFile → PureOutcome → Type 0
IsFloodedAs turns a file (flooded b f rows journal quiet) = (b ≡ a) × (f ≡ file) × IsFit Unbeaten (changed_net file) × IsFlood (changed_net file) turns rows journal quiet
IsFloodedAs turns a file (stopped b f (misses arc x)) = (b ≡ Some a) × (f ≡ Some file) × IsFirstMissing (asked_of Unbeaten) (changed_net file) arc x
IsFloodedAs turns a file (stopped b f memory) = (b ≡ Some a) × (f ≡ Some file)
IsFloodedAs turns a file _ = ⊥

-- what distance asks of all labels, in the order in which it is looked for; and the labels on all arcs have it
abbrev pub asked_of_exchange : List PureProperty
asked_of_exchange = strict ∷ isotone ∷ []

abbrev pub IsFitForExchange : PureNet → Type 0
IsFitForExchange = NetHasAll asked_of_exchange

-- An exchange of values of the network's new nodes. Where it is quiet, next hops lead along walks that no walk beats, and
-- its values are as good as those that link state finds.
pub record IsExchange (net : PureNet) (turns : ℕ) (hops : List PureHopRow) (journal : List Delivery) (quiet : Bool) : Type 0 where
  pub is_run : IsDistanceRun net turns hops journal quiet
  pub best : quiet ≡ true → AreBestHops net hops
  pub link_state : quiet ≡ true → (routed : List PureRow) → AreRowsOfTables net (BestFirst net) routed → AreAsGoodRows (carrier net) hops routed

-- What distance comes to where all was read, on the network after its changes: an exchange, where its labels are fit for
-- one; else the first arc whose label isn't; unless memory is refused.
abbrev pub IsExchangedAs : ℕ → PureAlg → PureNetFile → PureOutcome → Type 0
IsExchangedAs turns a file (exchanged b f hops journal quiet) = (b ≡ a) × (f ≡ file) × IsFitForExchange (changed_net file) × IsExchange (changed_net file) turns hops journal quiet
IsExchangedAs turns a file (stopped b f (misses arc x)) = (b ≡ Some a) × (f ≡ Some file) × IsFirstMissing asked_of_exchange (changed_net file) arc x
IsExchangedAs turns a file (stopped b f memory) = (b ≡ Some a) × (f ≡ Some file)
IsExchangedAs turns a file _ = ⊥

-- What demo comes to: a quiet run of the new nodes of the network that the generated text means over add(1..9), without
-- changes; all labels are strict, so that its rows are the only stable ones; unless memory is refused.
abbrev pub IsShownAs : ℕ → ℕ → PureOutcome → Type 0
IsShownAs seed nodes (shown a f last) =
    (a ≡ demo_alg) × NetText (Generated seed nodes) demo_alg f × (f.changes ≡ []) × NetHas strict f.net
    × IsRun f.net [] demo_turns [] last true × AreSettledRows f.net last.rows
IsShownAs seed nodes (stopped None None memory) = Unit {0}
IsShownAs seed nodes _ = ⊥

-- what is made of an algebra alone
abbrev pub IsMadeAlone : AlgebraTask → PureAlg → PureOutcome → Type 0
IsMadeAlone (alone.Check r) a o = IsCheckedAs r a None (IsLabel a.expression) o × DecidesTables a o
IsMadeAlone alone.Code a o = IsCodedAs a None [] o
IsMadeAlone alone.Gadget a o = IsWedgedAs a o

-- what is made of a network file over the algebra: verdicts, code and routes are of its network after all changes
abbrev pub IsMadeOn : NetworkTask → PureAlg → PureNetFile → PureOutcome → Type 0
IsMadeOn (joint.Check r) a f o = IsCheckedAs r a (Some f) (IsOnArc (changed_net f)) o
IsMadeOn joint.Code a f o = IsCodedAs a (Some f) (labels_on (changed_net f)) o
IsMadeOn joint.Hops a f o = IsHoppedAs a f o
IsMadeOn (joint.Route solution workers) a f o = IsRoutedAs solution a f o
IsMadeOn (joint.Run workers turns traced) a f o = IsRunAs traced turns a f o
IsMadeOn (joint.Flood workers turns) a f o = IsFloodedAs turns a f o
IsMadeOn (joint.Distance workers turns) a f o = IsExchangedAs turns a f o

-- What comes of an expression file: over its algebra, what Then says; or it is refused, and nothing more is
-- begun.
abbrev pub GoesOnFrom : (PureAlg → Moment → Moment → PureOutcome → Type 0) → Moment → Moment → PureOutcome → Result PureAlg PureRefusal → Type 0
GoesOnFrom Then between new o (Ok a) = Then a between new o
GoesOnFrom Then between new o (Err r) = (new ≡ between) × (o ≡ stopped None None r)

-- the expression file of that name is read, and this comes of it
pub record WithAlgebra (name : List ℕ) (Then : PureAlg → Moment → Moment → PureOutcome → Type 0) (old new : Moment) (o : PureOutcome) : Type 0 where
  pub between : Moment
  pub expression : Result PureAlg PureRefusal
  pub reads : ReadsExpression name old expression between
  pub goes_on : GoesOnFrom Then between new o expression

-- the same of a network file over the algebra
abbrev pub GoesOnOver : PureAlg → (PureNetFile → Moment → Moment → PureOutcome → Type 0) → Moment → Moment → PureOutcome → Result PureNetFile PureRefusal → Type 0
GoesOnOver a Then between new o (Ok f) = Then f between new o
GoesOnOver a Then between new o (Err r) = (new ≡ between) × (o ≡ stopped (Some a) None r)

pub record WithNetwork (a : PureAlg) (name : List ℕ) (Then : PureNetFile → Moment → Moment → PureOutcome → Type 0) (old new : Moment) (o : PureOutcome) : Type 0 where
  pub between : Moment
  pub network : Result PureNetFile PureRefusal
  pub reads : ReadsNetwork a name old network between
  pub goes_on : GoesOnOver a Then between new o network

-- the same of a report on the network
abbrev pub GoesOnWith : PureAlg → PureNetFile → PureOutcome → Result (List (List PureRow)) PureRefusal → Type 0
GoesOnWith a f o (Ok tables) = IsJudgedAs a f tables o
GoesOnWith a f o (Err r) = o ≡ stopped (Some a) (Some f) r

pub record WithReport (a : PureAlg) (f : PureNetFile) (name : List ℕ) (old new : Moment) (o : PureOutcome) : Type 0 where
  pub report : Result (List (List PureRow)) PureRefusal
  pub reads : ReadsReport (changed_net f) name old report new
  pub goes_on : GoesOnWith a f o report

-- the word at a place
abbrev pub word_at : List (List ℕ) → ℕ → List ℕ
word_at words place = slice_index_or words place []

-- what a task comes to, whose files the words name
abbrev pub ComesOf : List (List ℕ) → Task → Moment → Moment → PureOutcome → Type 0
ComesOf words (task.Demo seed nodes) old new o = (new ≡ old) × IsShownAs seed nodes o
ComesOf words (task.Alone file asked) old new o = WithAlgebra (word_at words file) (λ a old new o. (new ≡ old) × IsMadeAlone asked a o) old new o
ComesOf words (task.Judge file net report) old new o = WithAlgebra (word_at words file) (λ a. WithNetwork a (word_at words net) (λ f. WithReport a f (word_at words report))) old new o
ComesOf words (task.On file net asked) old new o = WithAlgebra (word_at words file) (λ a. WithNetwork a (word_at words net) (λ f old new o. (new ≡ old) × IsMadeOn asked a f o)) old new o

-- what the words come to: what their command asks for, or the fault that they have, where nothing is read
abbrev pub ComesBy : List (List ℕ) → Result Command WordsFault → Moment → Moment → PureOutcome → Type 0
ComesBy words (Ok c) old new o = ComesOf words (task_of c) old new o
ComesBy words (Err f) old new o = (new ≡ old) × (o ≡ stopped None None (refusal.words (words_fault_number f)))

abbrev pub ComesTo : List (List ℕ) → Moment → Moment → PureOutcome → Type 0
ComesTo words = ComesBy words (Words words)
