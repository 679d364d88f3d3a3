-- Paths of a network.
use Rattle.std.specs.Prelude.{ℕ, Bool, ◌&&◌, List, nat_lt}
use Rattle.std.specs.List.{list_all}
use Rattle.alg_model.specs.Carriers.{distinct}
use Rattle.meta_base.specs.NodePaths.{numbers}
use Rattle.meta_base.specs.declared.ids.NodeId.{NodeId}

-- all nodes are of a network of so many, and none is on the path twice
abbrev pub is_simple : ℕ → List NodeId → Bool
is_simple count path = list_all (λ n. nat_lt n.0 count) path && distinct (numbers path)
