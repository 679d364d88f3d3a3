-- The wedge: a network with a memory. Of its two nodes first p alone may route by q; then q may route by p too; then p
-- may no longer route by q; and then it may again. After the first change and after the third, the arcs and their labels
-- are the same. Where the label makes the value better, the nodes come to different routes all the same.
use Rattle.std.specs.Prelude.{List, [], ◌∷◌, codes}
use Rattle.alg_model.specs.Expressions.{PureAlg, PureLabel, PureValue}
use Rattle.net_graph.specs.Changes.{PureChange, link, drop}
use Rattle.net_graph.specs.Nets.{PureNet}
use Rattle.settled_laws.specs.Pair.{Fits, Improves}

-- nodes p (0) and q (1), an arc from p to q with this label, and the value at both for destination x (0)
abbrev pub wedge_net : PureAlg → PureLabel → PureValue → PureNet
wedge_net alg l v = record {
  alg = alg;
  nodes = codes "p" ∷ codes "q" ∷ [];
  dests = codes "x" ∷ [];
  arcs = record { id = 0; tail = 0; head = 1; label = l } ∷ [];
  origins = record { node = 0; dest = 0; value = v } ∷ record { node = 1; dest = 0; value = v } ∷ [];
}

-- the arc from q to p is added, that from p to q is taken out, and it is added again
abbrev pub wedge_changes : PureLabel → List PureChange
wedge_changes l = link 1 0 l ∷ drop 0 1 ∷ link 0 1 l ∷ []

-- the label and the value are those of a text of the algebra's edition, and the label makes the value better
pub record MakesWedge (alg : PureAlg) (l : PureLabel) (v : PureValue) : Type 0 where
  pub fits : Fits alg l v
  pub image : PureValue
  pub improves : Improves alg l v image
