-- Outcomes that are alike but for what depends on the order of deliveries.
use Rattle.std.specs.Prelude.{[], false, map}
use Rattle.vector_runs.specs.Runs.{PurePhase}
use Rattle.metacli.specs.Outcome.{PureOutcome, ran, flooded, exchanged, shown}

-- the phase without its deliveries
abbrev pub still : PurePhase → PurePhase
still p = record { rows = p.rows; journal = [] }

-- the outcome without the deliveries of any phase
abbrev pub undelivered : PureOutcome → PureOutcome
undelivered (ran a f traced past last quiet) = ran a f false (map still past) (still last) quiet
undelivered (flooded a f rows journal quiet) = flooded a f rows [] quiet
undelivered (exchanged a f hops journal quiet) = exchanged a f hops [] quiet
undelivered (shown a f last) = shown a f (still last)
undelivered o = o
