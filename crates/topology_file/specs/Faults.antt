-- The numbers of faults of network files.
use Rattle.std.specs.Prelude.{ℕ}
use Rattle.topology_file.specs.declared.faults.NetKind.{NetKind}
use Rattle.topology_file.specs.declared.faults.NetKind.TheVariants.{BadLine, UnknownNode, NodeTwice, ArcTwice, SelfArc, BadLabel, BadValue, OriginTwice, TooMany, AfterThen, NoArc}

-- the number that stands after the N of a printed fault
abbrev pub net_kind_number : NetKind → ℕ
net_kind_number BadLine = 1
net_kind_number UnknownNode = 2
net_kind_number NodeTwice = 3
net_kind_number ArcTwice = 4
net_kind_number SelfArc = 5
net_kind_number (BadLabel f) = 6
net_kind_number (BadValue f) = 7
net_kind_number OriginTwice = 8
net_kind_number (TooMany what) = 9
net_kind_number AfterThen = 10
net_kind_number NoArc = 11
