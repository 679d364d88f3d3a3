-- What a flood comes to, and quiet floods beside the routes of the same network.
use Rattle.std.proofs.Common.{◌≡◌, ◌↔◌, ◌⊎◌, ℕ, ◌<◌, Bool, true, false, List, ◌++◌, length, map, Ok, refl, sym, ap, ◌∙◌, subst, inl, inr, ⊎_elim}
use Rattle.std.specs.List.{AllByRecursion}
use Rattle.meta_base.specs.declared.ids.Delivery.{Delivery}
use Rattle.alg_model.specs.Expressions.{PureAlg}
use Rattle.flood_node.specs.Reach.{cards_sent}
use Rattle.flood_runs.specs.Floods.{IsFloodRun}
use Rattle.flood_runs.specs.declared.run.FloodRun.{FloodRun}
use Rattle.net_graph.specs.Nets.{PureNet}
use Rattle.net_graph.specs.RowTexts.{IsRowOf}
use Rattle.net_graph.specs.Tables.{PureRow, BestFirst, AreRowsOfTables}
use Rattle.net_graph.specs.Views.{pure_row}
use Rattle.report_check.proofs.Refuting.{on_tables_too}
use Rattle.report_text.specs.Refusals.{words, expr, network, report, misses, read, long, memory}
use Rattle.report_text.specs.RunTexts.{end_text}
use Rattle.topology_file.specs.NetText.{PureNetFile, changed_net}
use Rattle.metacli.specs.Answers.{done, refused, spent}
use Rattle.metacli.specs.Found.{IsFoundFlood}
use Rattle.metacli.specs.Outcome.{PureOutcome, stopped, checked, coded, routed, hopped, judged, wedged, ran, flooded, exchanged, shown, AreRoutesOn, IsFit, IsFlood, IsFloodedAs, IsRoutedAs, answer_in, asked_of, journal_in, rows_in}
use Rattle.metacli.specs.Texts.{TextOf, rows_text}
use Rattle.metacli.proofs.Missing.{IsUnfit}
use Rattle.metacli.specs.declared.routing.Solution.TheVariants.{Unbeaten}

-- when a flood is spent, how many deliveries a quiet one makes, that its rows are those of link state, and that the rows
-- of every flood are the network's
pub record Laws (net : PureNet) : Type 0 where
  pub spent : (turns : ℕ) (rows : List PureRow) (journal : List Delivery) (quiet : Bool) → IsFloodRun net turns rows journal quiet → (quiet ≡ false) ↔ (turns < cards_sent net)
  pub made : (turns : ℕ) (rows : List PureRow) (journal : List Delivery) → IsFloodRun net turns rows journal true → length journal ≡ cards_sent net
  pub link_state : (turns : ℕ) (rows routed : List PureRow) (journal : List Delivery) → IsFloodRun net turns rows journal true → AreRowsOfTables net (BestFirst net) routed → rows ≡ routed
  pub rows_in : (turns : ℕ) (rows : List PureRow) (journal : List Delivery) (quiet : Bool) → IsFloodRun net turns rows journal quiet → AllByRecursion (IsRowOf net) rows

is_flood : (net : PureNet) → Laws net → (turns : ℕ) (rows : List PureRow) (journal : List Delivery) (quiet : Bool) → IsFloodRun net turns rows journal quiet → IsFlood net turns rows journal quiet
is_flood net laws turns rows journal quiet run = record {
  is_run = run;
  spent = laws.spent turns rows journal quiet run;
  made = λ e. laws.made turns rows journal (subst (IsFloodRun net turns rows journal) e run);
  link_state = λ e routed are. laws.link_state turns rows routed journal (subst (IsFloodRun net turns rows journal) e run) are;
}

-- a flood on a network whose labels are fit
pub flood_found : (net : PureNet) → Laws net → IsFit Unbeaten net → (turns : ℕ) (run : FloodRun) → IsFloodRun net turns (map pure_row run.rows) run.journal run.is_quiet → IsFoundFlood net turns (Ok run)
flood_found net laws fit turns run is =
    let rows = map pure_row run.rows in
    (fit, is_flood net laws turns rows run.journal run.is_quiet is, laws.rows_in turns rows run.journal run.is_quiet is)

-- what a flood comes to where it is carried out
pub record Came (turns : ℕ) (a : PureAlg) (f : PureNetFile) (o : PureOutcome) : Type 0 where
  pub rows : List PureRow
  pub journal : List Delivery
  pub quiet : Bool
  pub is : o ≡ flooded a f rows journal quiet
  pub flood : IsFlood (changed_net f) turns rows journal quiet

-- it is carried out, or refused for a label or for want of memory
pub came : (turns : ℕ) (a : PureAlg) (f : PureNetFile) (o : PureOutcome) → IsFloodedAs turns a f o → Came turns a f o ⊎ (IsUnfit (asked_of Unbeaten) f o ⊎ (answer_in o ≡ refused memory))
came turns a f (flooded b g rows journal quiet) h = inl (record { rows = rows; journal = journal; quiet = quiet; is = rw (h.0, h.1) refl; flood = h.3 })
came turns a f (stopped b g (misses arc x)) h = inr (inl (record { arc = arc; against = x; is = refl; first = h.2 }))
came turns a f (stopped b g memory) h = inr (inr refl)
came turns a f (stopped b g (words n)) h = absurd h
came turns a f (stopped b g (expr x)) h = absurd h
came turns a f (stopped b g (network x)) h = absurd h
came turns a f (stopped b g (report x)) h = absurd h
came turns a f (stopped b g (read w)) h = absurd h
came turns a f (stopped b g (long w)) h = absurd h
came turns a f (checked b g v u) h = absurd h
came turns a f (coded b g listing) h = absurd h
came turns a f (routed s b g rows) h = absurd h
came turns a f (hopped b g many) h = absurd h
came turns a f (judged b g tables j) h = absurd h
came turns a f (wedged b v) h = absurd h
came turns a f (ran b g t past last q) h = absurd h
came turns a f (exchanged b g hops journal q) h = absurd h
came turns a f (shown b g last) h = absurd h

-- what a flood comes to that is quiet
record QuietFlood (turns : ℕ) (a : PureAlg) (f : PureNetFile) (o : PureOutcome) : Type 0 where
  rows : List PureRow
  journal : List Delivery
  is : o ≡ flooded a f rows journal true
  flood : IsFlood (changed_net f) turns rows journal true

quiet_flood : (turns : ℕ) (a : PureAlg) (f : PureNetFile) (o : PureOutcome) → IsFloodedAs turns a f o → answer_in o ≡ done → QuietFlood turns a f o
quiet_flood turns a f o h e = ⊎_elim carried (⊎_elim unfit without) (came turns a f o h)
  where
    by : (rows : List PureRow) (journal : List Delivery) (quiet : Bool) → o ≡ flooded a f rows journal quiet → IsFlood (changed_net f) turns rows journal quiet → QuietFlood turns a f o
    by rows journal true is flood = record { rows = rows; journal = journal; is = is; flood = flood }
    by rows journal false is flood = let no : spent ≡ done = sym (ap answer_in is) ∙ e in absurd cc

    carried : Came turns a f o → QuietFlood turns a f o
    carried c = by c.rows c.journal c.quiet c.is c.flood

    unfit : IsUnfit (asked_of Unbeaten) f o → QuietFlood turns a f o
    unfit u = let no : refused (misses u.arc u.against) ≡ done = sym u.is ∙ e in absurd cc

    without : answer_in o ≡ refused memory → QuietFlood turns a f o
    without m = let no : refused memory ≡ done = sym m ∙ e in absurd cc

-- what route comes to where it is carried out
pub record Routes (a : PureAlg) (f : PureNetFile) (o : PureOutcome) : Type 0 where
  pub rows : List PureRow
  pub is : o ≡ routed Unbeaten a f rows
  pub are : AreRoutesOn Unbeaten (changed_net f) rows

pub routes : (a : PureAlg) (f : PureNetFile) (o : PureOutcome) → IsRoutedAs Unbeaten a f o → answer_in o ≡ done → Routes a f o
routes a f (routed s b g rows) h e = record { rows = rows; is = rw (h.0, h.1, h.2) refl; are = h.4 }
routes a f (stopped b g (misses arc x)) h e = let no : refused (misses arc x) ≡ done = e in absurd cc
routes a f (stopped b g memory) h e = let no : refused memory ≡ done = e in absurd cc
routes a f (stopped b g (words n)) h e = absurd h
routes a f (stopped b g (expr x)) h e = absurd h
routes a f (stopped b g (network x)) h e = absurd h
routes a f (stopped b g (report x)) h e = absurd h
routes a f (stopped b g (read w)) h e = absurd h
routes a f (stopped b g (long w)) h e = absurd h
routes a f (checked b g v u) h e = absurd h
routes a f (coded b g listing) h e = absurd h
routes a f (hopped b g many) h e = absurd h
routes a f (judged b g tables j) h e = absurd h
routes a f (wedged b v) h e = absurd h
routes a f (ran b g t past last q) h e = absurd h
routes a f (flooded b g rows journal q) h e = absurd h
routes a f (exchanged b g hops journal q) h e = absurd h
routes a f (shown b g last) h e = absurd h

-- unbeaten routes are those of tables that are made best first
pub best_rows : (net : PureNet) (rows : List PureRow) → AreRoutesOn Unbeaten net rows → AreRowsOfTables net (BestFirst net) rows
best_rows net rows are =
    let of = are.0 in
    record {
      tables = of.tables;
      hold = on_tables_too _ (BestFirst net) 0 of.tables (λ dest t both. both.0) of.hold;
      count = of.count;
      joined = of.joined;
    }

-- the rows of both are the same
same_rows : (turns : ℕ) (a : PureAlg) (f : PureNetFile) (o p : PureOutcome) → (one : QuietFlood turns a f o) → (two : Routes a f p) → one.rows ≡ two.rows
same_rows turns a f o p one two = one.flood.link_state refl two.rows (best_rows (changed_net f) two.rows two.are)

pub flood_rows_alike : (turns : ℕ) (a : PureAlg) (f : PureNetFile) (o p : PureOutcome) → IsFloodedAs turns a f o → IsRoutedAs Unbeaten a f p → answer_in o ≡ done → answer_in p ≡ done → rows_in o ≡ rows_in p
flood_rows_alike turns a f o p h i d e =
    let one = quiet_flood turns a f o h d in
    let two = routes a f p i e in
    ap rows_in one.is ∙ same_rows turns a f o p one two ∙ sym (ap rows_in two.is)

-- and so are their lines
pub flood_text_alike : (turns : ℕ) (a : PureAlg) (f : PureNetFile) (o p : PureOutcome) → IsFloodedAs turns a f o → IsRoutedAs Unbeaten a f p → answer_in o ≡ done → answer_in p ≡ done
    → TextOf o ≡ TextOf p ++ end_text true (length (journal_in o))
flood_text_alike turns a f o p h i d e =
    let one = quiet_flood turns a f o h d in
    let two = routes a f p i e in
    ap TextOf one.is
    ∙ ap (λ rows. rows_text f.net rows ++ end_text true (length one.journal)) (same_rows turns a f o p one two)
    ∙ ap (λ text. text ++ end_text true (length one.journal)) (sym (ap TextOf two.is))
    ∙ ap (λ journal. TextOf p ++ end_text true (length journal)) (sym (ap journal_in one.is))
