-- The numbers of the specification on reports.
use Rattle.std.specs.Prelude.{ℕ}

-- the most bytes of a report
abbrev pub max_report_bytes : ℕ
max_report_bytes = 4194304

-- the most digits of the count in the line that ends a run's rows
abbrev pub max_count_digits : ℕ
max_count_digits = 20
