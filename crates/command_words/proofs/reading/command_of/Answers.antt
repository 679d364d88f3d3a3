use Rattle.command_words.proofs.reading.command_of.Goals as goal

pub returns-in-Check : goal.returns-in-Check
returns-in-Check c = rw (c.check_of.ensures, c.in-Check.is, c.given_argument-file.ensures, c.argument-net.ensures)

pub returns-in-Run : goal.returns-in-Run
returns-in-Run c = rw (c.run_of.ensures, c.in-Run.is, c.given_argument-file.ensures, c.given_argument-in-Run.ensures)

pub returns-in-Trace : goal.returns-in-Trace
returns-in-Trace c = rw (c.trace_of.ensures, c.in-Trace.is, c.given_argument-file.ensures, c.given_argument-in-Trace.ensures)

pub returns-in-Flood : goal.returns-in-Flood
returns-in-Flood c = rw (c.flood_of.ensures, c.in-Flood.is, c.given_argument-file.ensures, c.given_argument-in-Flood.ensures)

pub returns-in-Distance : goal.returns-in-Distance
returns-in-Distance c = rw (c.distance_of.ensures, c.in-Distance.is, c.given_argument-file.ensures, c.given_argument-in-Distance.ensures)
