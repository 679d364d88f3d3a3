use Rattle.net_graph.specs.Tables.{carrier}
use Rattle.vector_rest.specs.Levels.{Occurs, level}
use Rattle.vector_rest.specs.LevelLaws.{levels_are}
use Rattle.vector_rest.specs.ChoiceLaws.{levels_rise}
use Rattle.vector_rest.proofs.laws.levels_rise.Goals as goal

pub returns : goal.returns
returns c net values n dest i j reported other r s mono are_in h =
    levels_rise net (Occurs values n) (level (carrier net) values n) (levels_are net mono values are_in n) dest reported other i j h.has h.has_other h.own_paths h.one
    r s h.choice h.choice_other h.is h.is_other h.changed
