-- The text of the network that a seed and a count of nodes generate.
--
-- Its nodes are n0, n1 and so on. Let the group of the node k, from 1 on, be what k - 1 leaves by the number of groups.
-- A node of group 0 listens to n0, by a label that is drawn. Any other draws a node before it whose number is its group
-- and a multiple of the number of groups, a label for it, another such node and a label for that; it listens to both of
-- them, or, where they are one node, to that one by the first label. Labels are 1 to 9. The first two nodes have an
-- origin each.
use Rattle.std.specs.Prelude.{ℕ, ◌+◌, ◌*◌, ◌-◌, ◌/◌, ◌%◌, ◌≤◌, zero, suc, List, [], ◌∷◌, ◌++◌, map, ◌==◌, if◌then◌else◌, codes, decimal}
use Rattle.std.specs.List.{range_with_len}
use Rattle.topology_file.specs.LineTexts.{text_of}
use Rattle.net_gen.specs.Numbers.{group_count, most_weight}
use Rattle.net_gen.specs.declared.links.Link.{Link}
use Rattle.meta_base.specs.Numbers.{min_demo_nodes, max_demo_nodes}
use Rattle.net_gen.specs.Draws.{next, drawn}

-- a generated network may have so many nodes
pub record AreDemoNodes (n : ℕ) : Type 0 where
  pub least : min_demo_nodes ≤ n
  pub most : n ≤ max_demo_nodes

-- Links. One after the state x takes its first draw from there.

-- the group of the node k: what the numbers of its speakers leave by the number of groups
abbrev pub group : ℕ → ℕ
group k = (k - 1) % group_count

-- one draw: 1 to 9
abbrev pub weight : ℕ → ℕ
weight x = drawn most_weight x + 1

-- one draw: a node before k of its group
abbrev pub speaker : ℕ → ℕ → ℕ
speaker k x = group k + group_count * drawn ((k - 1) / group_count + 1) x

-- a link of the node k: to the first node, by one draw; to a node of its group, by two
abbrev pub hub_link : ℕ → ℕ → Link
hub_link k x = record { listener = k; speaker = 0; weight = weight x }

abbrev pub link : ℕ → ℕ → Link
link k x = record { listener = k; speaker = speaker k x; weight = weight (next x) }

-- the second of two links, unless it has the speaker of the first
abbrev pub apart_from : Link → Link → List Link
apart_from first second = if second.speaker == first.speaker then [] else second ∷ []

-- links, and the state after their draws
pub record Drawn : Type 0 where
  pub links : List Link
  pub state : ℕ

-- all links of the node k
unfoldable pub links_of : ℕ → ℕ → Drawn
links_of k x =
    let y = next (next x) in
    if group k == 0 then record { links = hub_link k x ∷ []; state = next x }
    else record { links = link k x ∷ apart_from (link k x) (link k y); state = next (next y) }

-- the links of the nodes 1 to k
unfoldable pub links_to : ℕ → ℕ → Drawn
links_to seed zero = record { links = []; state = seed }
links_to seed (suc k) =
    let before = links_to seed k in
    let more = links_of (suc k) before.state in
    record { links = before.links ++ more.links; state = more.state }

-- Lines.

abbrev pub node_name : ℕ → List ℕ
node_name k = codes "n" ++ decimal k

abbrev pub node_line : ℕ → List ℕ
node_line k = codes "node " ++ node_name k

abbrev pub link_line : Link → List ℕ
link_line l =
    codes "link " ++ node_name l.listener ++ codes " " ++ node_name l.speaker ++ codes " : " ++ decimal l.weight

abbrev pub node_lines : ℕ → List (List ℕ)
node_lines n = map node_line (range_with_len 0 n)

abbrev pub origin_lines : List (List ℕ)
origin_lines = codes "origin x0 at n0 : 0" ∷ codes "origin x1 at n1 : 0" ∷ []

-- the network of n nodes
unfoldable pub Generated : ℕ → ℕ → List ℕ
Generated seed n = text_of (node_lines n ++ map link_line (links_to seed (n - 1)).links ++ origin_lines)
