-- What an exchange of values comes to, quiet ones beside the routes of the same network, and the lines of their rows.
use Rattle.std.proofs.Common.{◌≡◌, ◌⊎◌, ℕ, zero, suc, ◌+◌, ◌<◌, Bool, true, false, List, [], ◌∷◌, ◌++◌, map, drop, length, get_or, Ok, refl, sym, ap, ◌∙◌, subst, inl, inr, ⊎_elim, arith}
use Rattle.std.proofs.lemmas.List.{at_drop_more}
use Rattle.std.specs.List.{AllByRecursion}
use Rattle.meta_base.specs.declared.ids.Delivery.{Delivery}
use Rattle.alg_model.specs.Expressions.{PureAlg}
use Rattle.distance_node.specs.Rows.{PureHopRow, IsHopRowOf, pure_hop_row}
use Rattle.distance_node.specs.declared.rows.HopRow.{HopRow}
use Rattle.distance_runs.specs.Runs.{AreAsGoodRows, AreBestHops, IsDistanceRun}
use Rattle.distance_runs.specs.declared.run.DistanceRun.{DistanceRun}
use Rattle.net_graph.specs.Changes.{PureChange, after_all, changed}
use Rattle.net_graph.specs.Nets.{PureNet}
use Rattle.net_graph.specs.Tables.{PureRow, BestFirst, AreRowsOfTables, carrier}
use Rattle.report_text.specs.HopTexts.{hop_row_text}
use Rattle.report_text.specs.Refusals.{words, expr, network, report, misses, read, long, memory}
use Rattle.topology_file.specs.NetText.{PureNetFile, changed_net}
use Rattle.metacli.specs.Answers.{done, refused, spent}
use Rattle.metacli.specs.Found.{IsFoundExchange}
use Rattle.metacli.specs.Outcome.{PureOutcome, stopped, checked, coded, routed, hopped, judged, wedged, ran, flooded, exchanged, shown, IsExchange, IsExchangedAs, IsFitForExchange, IsRoutedAs, answer_in, asked_of_exchange, hops_in, rows_in}
use Rattle.metacli.specs.Texts.{hop_rows_text}
use Rattle.metacli.specs.declared.routing.Solution.TheVariants.{Unbeaten}
use Rattle.metacli.proofs.Floods.{Routes, best_rows, routes}
use Rattle.metacli.proofs.Missing.{IsUnfit}

-- on a network whose labels are fit: where next hops lead in a quiet exchange, how good its values are, and that the rows
-- of every exchange are the network's
pub record Laws (net : PureNet) : Type 0 where
  pub best : (turns : ℕ) (hops : List PureHopRow) (journal : List Delivery) → IsDistanceRun net turns hops journal true → AreBestHops net hops
  pub link_state : (turns : ℕ) (hops : List PureHopRow) (routed : List PureRow) (journal : List Delivery) → IsDistanceRun net turns hops journal true → AreRowsOfTables net (BestFirst net) routed → AreAsGoodRows (carrier net) hops routed
  pub rows_in : (turns : ℕ) (hops : List PureHopRow) (journal : List Delivery) (quiet : Bool) → IsDistanceRun net turns hops journal quiet → AllByRecursion (IsHopRowOf net) hops

is_exchange : (net : PureNet) → Laws net → (turns : ℕ) (hops : List PureHopRow) (journal : List Delivery) (quiet : Bool) → IsDistanceRun net turns hops journal quiet → IsExchange net turns hops journal quiet
is_exchange net laws turns hops journal quiet run = record {
  is_run = run;
  best = λ e. laws.best turns hops journal (subst (IsDistanceRun net turns hops journal) e run);
  link_state = λ e routed are. laws.link_state turns hops routed journal (subst (IsDistanceRun net turns hops journal) e run) are;
}

-- an exchange on a network whose labels are fit
pub exchange_found : (net : PureNet) → Laws net → IsFitForExchange net → (turns : ℕ) (run : DistanceRun) → IsDistanceRun net turns (map pure_hop_row run.hops) run.journal run.is_quiet → IsFoundExchange net turns (Ok run)
exchange_found net laws fit turns run is =
    let hops = map pure_hop_row run.hops in
    (fit, is_exchange net laws turns hops run.journal run.is_quiet is, laws.rows_in turns hops run.journal run.is_quiet is)

-- what an exchange comes to where it is carried out
pub record Came (turns : ℕ) (a : PureAlg) (f : PureNetFile) (o : PureOutcome) : Type 0 where
  pub hops : List PureHopRow
  pub journal : List Delivery
  pub quiet : Bool
  pub is : o ≡ exchanged a f hops journal quiet
  pub exchange : IsExchange (changed_net f) turns hops journal quiet

-- it is carried out, or refused for a label or for want of memory
pub came : (turns : ℕ) (a : PureAlg) (f : PureNetFile) (o : PureOutcome) → IsExchangedAs turns a f o → Came turns a f o ⊎ (IsUnfit asked_of_exchange f o ⊎ (answer_in o ≡ refused memory))
came turns a f (exchanged b g hops journal quiet) h = inl (record { hops = hops; journal = journal; quiet = quiet; is = rw (h.0, h.1) refl; exchange = h.3 })
came turns a f (stopped b g (misses arc x)) h = inr (inl (record { arc = arc; against = x; is = refl; first = h.2 }))
came turns a f (stopped b g memory) h = inr (inr refl)
came turns a f (stopped b g (words n)) h = absurd h
came turns a f (stopped b g (expr x)) h = absurd h
came turns a f (stopped b g (network x)) h = absurd h
came turns a f (stopped b g (report x)) h = absurd h
came turns a f (stopped b g (read w)) h = absurd h
came turns a f (stopped b g (long w)) h = absurd h
came turns a f (checked b g v u) h = absurd h
came turns a f (coded b g listing) h = absurd h
came turns a f (routed s b g rows) h = absurd h
came turns a f (hopped b g many) h = absurd h
came turns a f (judged b g tables j) h = absurd h
came turns a f (wedged b v) h = absurd h
came turns a f (ran b g t past last q) h = absurd h
came turns a f (flooded b g rows journal q) h = absurd h
came turns a f (shown b g last) h = absurd h

-- the values of a quiet exchange and those of route
pub exchanges_alike : (turns : ℕ) (a : PureAlg) (f : PureNetFile) (o p : PureOutcome) → IsExchangedAs turns a f o → IsRoutedAs Unbeaten a f p → answer_in o ≡ done → answer_in p ≡ done
    → AreAsGoodRows (carrier (changed_net f)) (hops_in o) (rows_in p)
exchanges_alike turns a f o p h i d e = ⊎_elim carried (⊎_elim unfit without) (came turns a f o h)
  where
    two : Routes a f p
    two = routes a f p i e

    by : (hops : List PureHopRow) (journal : List Delivery) (quiet : Bool) → o ≡ exchanged a f hops journal quiet → IsExchange (changed_net f) turns hops journal quiet
        → AreAsGoodRows (carrier (changed_net f)) (hops_in o) (rows_in p)
    by hops journal true is exchange = rw (is, two.is) (exchange.link_state refl two.rows (best_rows (changed_net f) two.rows two.are))
    by hops journal false is exchange = let no : spent ≡ done = sym (ap answer_in is) ∙ d in absurd cc

    carried : Came turns a f o → AreAsGoodRows (carrier (changed_net f)) (hops_in o) (rows_in p)
    carried c = by c.hops c.journal c.quiet c.is c.exchange

    unfit : IsUnfit asked_of_exchange f o → AreAsGoodRows (carrier (changed_net f)) (hops_in o) (rows_in p)
    unfit u = let no : refused (misses u.arc u.against) ≡ done = sym u.is ∙ d in absurd cc

    without : answer_in o ≡ refused memory → AreAsGoodRows (carrier (changed_net f)) (hops_in o) (rows_in p)
    without m = let no : refused memory ≡ done = sym m ∙ d in absurd cc

-- a change leaves the names and the algebra of a network as they are, so its rows are the other's
hop_rows_after : (net : PureNet) (c : PureChange) (hops : List PureHopRow) → AllByRecursion (IsHopRowOf (changed net c)) hops → AllByRecursion (IsHopRowOf net) hops
hop_rows_after net c [] h = tt
hop_rows_after net c (row ∷ hops) h =
    (record { node_in = h.0.node_in; dest_in = h.0.dest_in; value_in = h.0.value_in; next_in = h.0.next_in }, hop_rows_after net c hops h.1)

pub hop_rows_after_all : (net : PureNet) (changes : List PureChange) (hops : List PureHopRow) → AllByRecursion (IsHopRowOf (after_all net changes)) hops → AllByRecursion (IsHopRowOf net) hops
hop_rows_after_all net [] hops h = h
hop_rows_after_all net (c ∷ changes) hops h = hop_rows_after net c hops (hop_rows_after_all (changed net c) changes hops h)

-- the lines from one row on
pub hop_lines_at : (net : PureNet) (hops : List HopRow) (i : ℕ) (hop : HopRow) → i < length hops → hop ≡ get_or hops i hop
    → hop_rows_text net (map pure_hop_row (drop i hops)) ≡ hop_row_text net (pure_hop_row hop) ++ hop_rows_text net (map pure_hop_row (drop (i + 1) hops))
hop_lines_at net hops i hop l e =
    at_drop_more (λ (hs : List HopRow). hop_rows_text net (map pure_hop_row hs)) hops i hop l
    ∙ ap (λ (h : HopRow). hop_row_text net (pure_hop_row h) ++ hop_rows_text net (map pure_hop_row (drop (i + 1) hops))) (sym e)

-- what holds of all rows holds of one
pub hop_at : (net : PureNet) (hops : List HopRow) (i : ℕ) (hop : HopRow) → i < length hops → hop ≡ get_or hops i hop → AllByRecursion (IsHopRowOf net) (map pure_hop_row hops) → IsHopRowOf net (pure_hop_row hop)
hop_at net [] i hop l e all = absurd (omega arith)
hop_at net (x ∷ xs) zero hop l e all = let same : x ≡ hop = sym e in subst (λ (h : HopRow). IsHopRowOf net (pure_hop_row h)) same all.0
hop_at net (x ∷ xs) (suc i) hop l e all = hop_at net xs i hop (omega arith) e all.1
