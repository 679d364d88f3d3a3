-- The lines of deliveries that are written one after another in the same room.
use Rattle.std.specs.Prelude.{ℕ, List, ◌++◌, codes, decimal}
use Rattle.meta_base.specs.declared.ids.Delivery.{Delivery}
use Rattle.net_graph.specs.Nets.{PureNet}
use Rattle.report_text.specs.Refusals.{arc_text}
use Rattle.trace_lines.specs.declared.delivery_lines.DeliveryLines.{DeliveryLines}

-- CLOCK LISTENER SPEAKER
abbrev pub delivery_text : PureNet → Delivery → List ℕ
delivery_text net d = decimal d.clock ++ codes " " ++ arc_text net d.arc.0 ++ codes "\n"

-- the network of the deliveries, and the line that was written last
abbrev pub net_of : DeliveryLines → PureNet
net_of lines = lines.net.now

abbrev pub line_of : DeliveryLines → List ℕ
line_of lines = lines.line
