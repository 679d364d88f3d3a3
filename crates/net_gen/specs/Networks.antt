-- The network that a generated text means.
use Rattle.std.specs.Prelude.{ℕ, ◌+◌, ◌-◌, List, [], ◌∷◌, map, codes}
use Rattle.std.specs.List.{range_with_len}
use Rattle.alg_model.specs.declared.edition.Edition.TheVariants.{One}
use Rattle.alg_model.specs.Expressions.{PureAlg, add, number, number_label}
use Rattle.net_graph.specs.Nets.{PureArc, PureOrigin, PureNet}
use Rattle.topology_file.specs.NetText.{PureNetFile}
use Rattle.net_gen.specs.Numbers.{most_weight}
use Rattle.net_gen.specs.declared.links.Link.{Link}
use Rattle.net_gen.specs.Generated.{node_name, links_to}

-- the algebra `add(1..9)`, in a text of profile 1
abbrev pub demo_alg : PureAlg
demo_alg = record { expression = add 1 most_weight; edition = One }

-- the arcs of the links, with ids from that one on
abbrev pub arcs_of : ℕ → List Link → List PureArc
arcs_of id [] = []
arcs_of id (l ∷ links) =
    record { id = id; tail = l.listener; head = l.speaker; label = number_label l.weight } ∷ arcs_of (id + 1) links

-- an origin of the destination of that number at the node of that number, of value 0
abbrev pub origin_of : ℕ → PureOrigin
origin_of k = record { node = k; dest = k; value = number 0 }

-- the names of n nodes
abbrev pub node_names : ℕ → List (List ℕ)
node_names n = map node_name (range_with_len 0 n)

-- n nodes, their links, and two origins
abbrev pub generated_net : ℕ → ℕ → PureNet
generated_net seed n = record {
  alg = demo_alg;
  nodes = node_names n;
  dests = codes "x0" ∷ codes "x1" ∷ [];
  arcs = arcs_of 0 (links_to seed (n - 1)).links;
  origins = origin_of 0 ∷ origin_of 1 ∷ [];
}

-- what the text means: that network, and no changes
abbrev pub generated_file : ℕ → ℕ → PureNetFile
generated_file seed n = record { net = generated_net seed n; changes = [] }
