-- What a number of a path stands for.
use Rattle.std.specs.Prelude.{ℕ, ◌<◌, ◌^◌, List, [], Option, Some, None, slice_index_or}
use Rattle.meta_base.specs.declared.ids.NodeId.{NodeId}
use Rattle.path_store.specs.declared.trails.PathId.{PathId}

-- one path more than so many has a number
abbrev pub HasNumber : ℕ → Type 0
HasNumber count = count < 2 ^ 32

-- the path of that number
abbrev pub path_of : List (List NodeId) → PathId → List NodeId
path_of paths id = slice_index_or paths id.0 []

-- the path of that number, if there is one
abbrev pub path_by : List (List NodeId) → Option PathId → List NodeId
path_by paths None = []
path_by paths (Some id) = path_of paths id
