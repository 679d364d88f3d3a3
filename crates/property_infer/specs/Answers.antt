-- What an example that is asked for tells: where there is none, the fact holds; else the fact fails there, and no
-- number of it is above the bound on instances.
use Rattle.std.specs.Prelude.{Option, Some, None}
use Rattle.alg_model.specs.Numbers.{max_instance_number}
use Rattle.alg_model.specs.Expressions.{PureCarrier}
use Rattle.alg_classes.specs.declared.fact.Fact.{Fact}
use Rattle.alg_classes.specs.Facts.{Action, Holds, PureExample, Refutes}
use Rattle.alg_classes.specs.Classes.{ExampleAtMost}

abbrev pub Answers : PureCarrier → Action → Fact → Option PureExample → Type 0
Answers c f k None = Holds c f k
Answers c f k (Some e) = Refutes c f k e × ExampleAtMost max_instance_number (Some e)
