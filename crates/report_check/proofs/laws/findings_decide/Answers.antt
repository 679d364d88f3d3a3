use Rattle.net_graph.specs.Tables.{Optimal, Relaxed}
use Rattle.report_check.specs.Judged.{table_at}
use Rattle.report_check.proofs.Refuting.{beats, beats_no_optimum, beats_walk, no_walk_no_optimum, on_tables_too}
use Rattle.report_check.proofs.laws.findings_decide.Goals as goal

pub returns-clause-unbeaten : goal.returns-clause-unbeaten
returns-clause-unbeaten c = λ net tables n h.
    on_tables_too (Relaxed net) (Optimal net) 0 tables (λ dest t r. (c.relaxed_is_optimal.ensures net dest t n h.1).0 r) h.0

pub returns-clause-no_walk : goal.returns-clause-no_walk
returns-clause-no_walk c = λ net tables i dest h. no_walk_no_optimum net dest (table_at tables dest) i h.1.holds

pub returns-clause-beaten : goal.returns-clause-beaten
returns-clause-beaten c = λ net tables i dest walk h.
    let t = table_at tables dest in
    let b = beats net dest t i walk h.1 h.3 in
    let w = beats_walk net dest t i walk b in
    (w.0, w.1, beats_no_optimum net dest t i walk b)
