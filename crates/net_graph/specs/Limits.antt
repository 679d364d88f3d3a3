-- How large a network may be, by the edition of its algebra, and how great its rows' numbers.
use Rattle.std.specs.Prelude.{ℕ, ◌^◌}
use Rattle.alg_model.specs.declared.edition.Edition.{Edition}
use Rattle.alg_model.specs.Numbers.{limits_of}

-- the most nodes, destinations and changes
abbrev pub max_nodes : Edition → ℕ
max_nodes e = (limits_of e).nodes

abbrev pub max_dests : Edition → ℕ
max_dests e = (limits_of e).dests

abbrev pub max_changes : Edition → ℕ
max_changes e = (limits_of e).changes

-- the most nodes and destinations in any edition
abbrev pub most_nodes : ℕ
most_nodes = 4096

abbrev pub most_dests : ℕ
most_dests = 64

-- the most arcs, as many in each edition
abbrev pub max_arcs : ℕ
max_arcs = 8192

-- the greatest number of the value of a row
abbrev pub max_row_number : ℕ
max_row_number = 2 ^ 119
