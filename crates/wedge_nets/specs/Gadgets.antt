-- What an instance must be for a wedge to stand on it, and what the wedge's network file means.
use Rattle.std.specs.Prelude.{◌≡◌, None}
use Rattle.alg_model.specs.Expressions.{PureAlg, PureLabel, PureValue}
use Rattle.alg_model.specs.Properties.{monotone}
use Rattle.alg_model.specs.Verdicts.{PureInstance, PureVerdict, holds, fails}
use Rattle.settled_laws.specs.Wedge.{wedge_net, wedge_changes, MakesWedge}
use Rattle.topology_file.specs.NetText.{PureNetFile}

-- the wedge's network, and its three changes
abbrev pub wedge_file : PureAlg → PureLabel → PureValue → PureNetFile
wedge_file alg l v = record { net = wedge_net alg l v; changes = wedge_changes l }

-- the instance shows that its label isn't monotone, and the wedge of its label and its value can be written
pub record IsGadget (alg : PureAlg) (x : PureInstance) : Type 0 where
  pub property : x.property ≡ monotone
  pub alone : x.second ≡ None
  pub wedge : MakesWedge alg x.label x.first

-- the same of the instance of a verdict, if there is one
abbrev pub HasGadget : PureAlg → PureVerdict → Type 0
HasGadget alg holds = Unit {0}
HasGadget alg (fails x) = IsGadget alg x
