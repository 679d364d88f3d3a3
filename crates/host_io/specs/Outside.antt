-- What the system shows of its files and of standard output: counts alone, and whether bytes wait.
use Rattle.std.specs.Prelude.{ℕ, Bool, false, [], None}
use Rattle.meta_base.specs.Shelf.{Moment}
use Rattle.meta_base.specs.Sink.{Held}

abbrev pub silent_shelf : ℕ → Bool → ℕ → ℕ → Moment
silent_shelf taken ended begun faults = record { reports = false; file = λ _. None; rest = []; taken = taken; ended = ended; begun = begun; faults = faults }

abbrev pub silent_sink : ℕ → Bool → Held
silent_sink faults is_handed_on = record { reports = false; bytes = []; faults = faults; is_handed_on = is_handed_on }
