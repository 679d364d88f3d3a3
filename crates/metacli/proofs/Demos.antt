-- Networks over add(1..9): their labels are strict, and the values of their rows can be summed.
use Rattle.std.proofs.Common.{◌≡◌, ℕ, ◌+◌, ◌*◌, ◌≤◌, ◌^◌, Bool, List, [], ◌∷◌, length, Option, Some, None, IfSome, refl, subst, sym, arith}
use Rattle.std.specs.List.{AllByRecursion}
use Rattle.std.proofs.lemmas.Bool.Decides.{nat_tests}
use Rattle.alg_model.specs.Expressions.{Expression, PureAlg, PureCarrier, PureLabel, PureValue, add, whole, number, symbols, marks, unit, name, pair, first, second, number_label}
use Rattle.alg_model.specs.Expressions as label
use Rattle.alg_model.specs.Application.{IsLabel}
use Rattle.alg_model.specs.Bounds.{AtMost, greatest_number}
use Rattle.alg_model.specs.Carriers.{In, carrier_of}
use Rattle.alg_model.specs.Properties.{Has, IsStrict, strict}
use Rattle.net_gen.specs.Networks.{demo_alg}
use Rattle.net_graph.specs.Limits.{max_nodes, max_dests}
use Rattle.net_graph.specs.Nets.{PureArc, PureNet, IsArcOf, IsNet}
use Rattle.net_graph.specs.Routes.{PureRoute}
use Rattle.net_graph.specs.RowTexts.{IsRouteIn, IsRowOf}
use Rattle.net_graph.specs.Tables.{PureRow, NetHas}
use Rattle.report_text.specs.SummaryTexts.{AreSummed, IsSummed}
use Rattle.report_text.specs.declared.summary.TheConstants.{MAX_SUMMED}
use Rattle.vector_runs.specs.Runs.{AreOfNetworks, AreStable, IsOfNetwork, IsRun, IsSmallIn, PurePhase}

-- ---- labels

longer : (low high : ℕ) → 1 ≤ low → (l : PureLabel) → IsLabel (add low high) l → IsStrict (add low high) l
longer low high some (number_label n) is (number m) i = grind (arith, nat_tests, is)
longer low high some (number_label n) is (symbols ns) i = absurd i
longer low high some (number_label n) is (marks m) i = absurd i
longer low high some (number_label n) is unit i = absurd i
longer low high some (number_label n) is (name m) i = absurd i
longer low high some (number_label n) is (pair u v) i = absurd i
longer low high some (number_label n) is (first v) i = absurd i
longer low high some (number_label n) is (second v) i = absurd i
longer low high some label.keep is v i = absurd is
longer low high some (label.symbol_label n) is v i = absurd is
longer low high some (label.mark k) is v i = absurd is
longer low high some (label.unmark k) is v i = absurd is
longer low high some (label.need k) is v i = absurd is
longer low high some (label.bar k) is v i = absurd is
longer low high some label.allow is v i = absurd is
longer low high some label.deny is v i = absurd is
longer low high some (label.row_label k) is v i = absurd is
longer low high some (label.pair_label l m) is v i = absurd is
longer low high some (label.both_label l m) is v i = absurd is
longer low high some (label.first_label l) is v i = absurd is
longer low high some (label.second_label l) is v i = absurd is
longer low high some (label.const_label u) is v i = absurd is
longer low high some (label.outer l u) is v i = absurd is
longer low high some (label.inner l) is v i = absurd is

arcs_longer : (a : PureAlg) (nodes : ℕ) (arcs : List PureArc) → a.expression ≡ demo_alg.expression → AllByRecursion (IsArcOf a nodes) arcs → AllByRecursion (λ (arc : PureArc). Has strict a.expression arc.label) arcs
arcs_longer a nodes [] e all = tt
arcs_longer a nodes (arc ∷ arcs) e all =
    let is : IsLabel demo_alg.expression arc.label = subst (λ x. IsLabel x arc.label) e all.0.label_in in
    (subst (λ x. IsStrict x arc.label) (sym e) (longer 1 9 (omega arith) arc.label is), arcs_longer a nodes arcs e all.1)

pub labels_are_strict : (net : PureNet) → IsNet net → net.alg ≡ demo_alg → NetHas strict net
labels_are_strict net n e = arcs_longer net.alg (length net.nodes) net.arcs (rw e refl) n.arcs_in

-- ---- values

number_summed : (bound : ℕ) → bound ≤ MAX_SUMMED → (v : PureValue) → In whole v → AtMost bound v → (n : ℕ) × (v ≡ number n) × (n ≤ MAX_SUMMED)
number_summed bound l (number n) i a = (n, refl, omega (arith, a))
number_summed bound l (symbols ns) i a = absurd i
number_summed bound l (marks n) i a = absurd i
number_summed bound l unit i a = absurd i
number_summed bound l (name n) i a = absurd i
number_summed bound l (pair u v) i a = absurd i
number_summed bound l (first v) i a = absurd i
number_summed bound l (second v) i a = absurd i

row_summed : (net : PureNet) → net.alg ≡ demo_alg → (bound : ℕ) → bound ≤ MAX_SUMMED → (o : Option PureRoute) → IfSome o (IsRouteIn net) → IfSome o (λ (r : PureRoute). AtMost bound r.value)
    → IfSome o (λ (r : PureRoute). (n : ℕ) × (r.value ≡ number n) × (n ≤ MAX_SUMMED))
row_summed net e bound l None i a = tt
row_summed net e bound l (Some r) i a = number_summed bound l r.value (subst (λ (x : PureAlg). In (carrier_of x.expression) r.value) e i.value_in) a

rows_summed : (net : PureNet) → net.alg ≡ demo_alg → length net.nodes * (greatest_number net.alg.edition + 1) ≤ MAX_SUMMED → (rows : List PureRow) → AllByRecursion (IsRowOf net) rows → AllByRecursion (IsSmallIn net) rows → AllByRecursion IsSummed rows
rows_summed net e l [] i a = tt
rows_summed net e l (row ∷ rows) i a = (row_summed net e _ l row.route i.0.route_in a.0, rows_summed net e l rows i.1 a.1)

pub rows_are_summed : (net : PureNet) → IsNet net → net.alg ≡ demo_alg → (p : PurePhase) → IsOfNetwork net p → AreSummed p.rows
rows_are_summed net n e p is =
    let nodes : length net.nodes ≤ 512 = subst (λ (x : PureAlg). length net.nodes ≤ max_nodes x.edition) e n.node_room in
    let dests : length net.dests ≤ 64 = subst (λ (x : PureAlg). length net.dests ≤ max_dests x.edition) e n.dest_room in
    let room : length net.nodes * (greatest_number net.alg.edition + 1) ≤ MAX_SUMMED =
    subst (λ (x : PureAlg). length net.nodes * (greatest_number x.edition + 1) ≤ MAX_SUMMED) (sym e) (few_sums (length net.nodes) nodes) in
    record { values = rows_summed net e room p.rows is.rows_in is.small; few = subst (λ k. k ≤ 2 ^ 32) (sym is.count) (few_rows (length net.dests) (length net.nodes) dests nodes) }
  where
    few_sums : (k : ℕ) → k ≤ 512 → k * (greatest_number demo_alg.edition + 1) ≤ MAX_SUMMED
    few_sums k l = omega arith

    few_rows : (d k : ℕ) → d ≤ 64 → k ≤ 512 → d * k ≤ 2 ^ 32
    few_rows d k l m = grind arith

-- ---- a run without changes has one phase

pub alone : (net : PureNet) (turns : ℕ) (past : List PurePhase) (last : PurePhase) (quiet : Bool) → IsRun net [] turns past last quiet → AreStable net [] past last quiet → AreOfNetworks net [] past last
    → IsRun net [] turns [] last quiet × AreStable net [] [] last quiet × IsOfNetwork net last
alone net turns [] last quiet run stable is = (run, stable, is)
alone net turns (p ∷ past) last quiet run stable is = absurd run
