-- What the code that compares rows finds.
use Rattle.label_code.specs.declared.orders.Found.{Found}
use Rattle.label_code.specs.declared.orders.Found.TheVariants.{Decided, Tied}
use Rattle.label_code.specs.Orders.{Finding, decides, ties}

abbrev pub finding_of : Found → Finding
finding_of (Decided o) = decides o
finding_of (Tied v w jump) = ties v.now w.now jump
