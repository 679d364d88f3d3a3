use Rattle.alg_model.specs.Views.{pure_carrier}
use Rattle.word_tables.proofs.rows.WordRows.of.Goals as goal

pub tables_of-requires-clause-found : goal.tables_of-requires-clause-found
tables_of-requires-clause-found g c = (pure_carrier c.args.carrier, c.requires.found)

pub returns-clause-tables : goal.returns-clause-tables
returns-clause-tables g c = c.in_ok-tables.ensures.tables (pure_carrier c.args.carrier)

pub returns-clause-words : goal.returns-clause-words
returns-clause-words g c = c.in_ok-tables.ensures.words (pure_carrier c.args.carrier) c.requires.found
