use Rattle.flood_runs.specs.FloodLaws.{rows_are_the_networks}
use Rattle.flood_runs.proofs.laws.flood_rows_are_the_networks.Goals as goal

pub returns : goal.returns
returns c net turns rows journal quiet n is =
    rows_are_the_networks net n c.best_first_rows_are_the_networks.ensures turns rows journal quiet is
