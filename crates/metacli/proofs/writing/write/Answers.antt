use Rattle.std.proofs.Common.{option_map}
use Rattle.topology_file.specs.Views.{pure_file}
use Rattle.metacli.specs.Texts.{last_net}
use Rattle.metacli.proofs.writing.write.Goals as goal

pub returns-in-Stopped : goal.returns-in-Stopped
returns-in-Stopped g c = rw c.in-Stopped.is (c.write_refusal.ensures (last_net (option_map pure_file c.in-Stopped.file)))
