-- Paths each of which is a node in front of an earlier one.
use Rattle.std.specs.Prelude.{◌≡◌, ℕ, ◌*◌, ◌%◌, ◌^◌, ◌<◌, List, [], ◌∷◌, ◌++◌, Option, Some, None, IfSome, bit_or, length}
use Rattle.meta_base.specs.declared.ids.NodeId.{NodeId}
use Rattle.path_store.specs.declared.trails.Step.{Step}
use Rattle.path_store.specs.PathOf.{path_by}

-- the path of a step: its node, and then the path that goes on, of those before
abbrev pub path_along : List (List NodeId) → Step → List NodeId
path_along paths s = s.node ∷ path_by paths s.rest

-- the paths, and after them that of each step, which goes on along those before it
abbrev pub paths_after : List (List NodeId) → List Step → List (List NodeId)
paths_after paths [] = paths
paths_after paths (s ∷ steps) = paths_after (paths ++ path_along paths s ∷ []) steps

-- the marks of the nodes of a path: for each the bit of its number modulo 64
abbrev pub marks_of : List NodeId → ℕ
marks_of [] = 0
marks_of (n ∷ path) = bit_or (marks_of path) (1 * 2 ^ (n.0 % 64) % 18446744073709551616)

-- the step goes on along one of these paths, says how many nodes are on it, and has the marks of the step's own path
pub record IsStep (paths : List (List NodeId)) (s : Step) : Type 0 where
  pub rest : IfSome s.rest (λ id. id.0 < length paths)
  pub after : s.after ≡ length (path_by paths s.rest)
  pub marks : s.marks ≡ marks_of (path_along paths s)

-- each step goes on along a path before it, where these stand before the first
abbrev pub AreSteps : List (List NodeId) → List Step → Type 0
AreSteps paths [] = Unit {0}
AreSteps paths (s ∷ steps) = IsStep paths s × AreSteps (paths ++ path_along paths s ∷ []) steps

-- the nodes of a path, if it goes on
abbrev pub path_or_end : Option (List NodeId) → List NodeId
path_or_end None = []
path_or_end (Some path) = path
