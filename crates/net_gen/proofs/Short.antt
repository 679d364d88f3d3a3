-- How long a generated text is at the most.
use Rattle.std.proofs.Common.{ℕ, zero, suc, ◌+◌, ◌-◌, ◌*◌, ◌<◌, ◌≤◌, List, [], ◌∷◌, ◌++◌, map, length, arith, length-append}
use Rattle.std.specs.List.{AllByRecursion, range_with_len}
use Rattle.std.proofs.lemmas.Fmt.{length-decimal-le}
use Rattle.std.proofs.lemmas.List.{length-map}
use Rattle.std.proofs.lemmas.List.FromFn.{length-map-range_with_len}
use Rattle.net_gen.specs.declared.links.Link.{Link}
use Rattle.topology_file.specs.LineTexts.{ended, text_of}
use Rattle.net_gen.specs.Generated.{AreDemoNodes, node_name, node_line, link_line, node_lines, origin_lines, links_to, Generated}
use Rattle.net_gen.proofs.NodeLinks.{all_links, few_links}
use Rattle.net_gen.proofs.Written.{text_append}

-- so many bytes and a line feed at the most, line by line
text_short : (b : ℕ) (lines : List (List ℕ)) → AllByRecursion (λ line. length line ≤ b) lines → length (text_of lines) ≤ (b + 1) * length lines
text_short b [] a = omega arith
text_short b (line ∷ lines) a =
    let first = a.0 in
    let more = text_short b lines a.1 in
    let whole = length-append (ended line) (text_of lines) in
    let end = length-append line (10 ∷ []) in
    grind arith

pub name_short : (k : ℕ) → k < 1000 → length (node_name k) ≤ 4
name_short k h = let d = length-decimal-le 3 k (omega arith) (omega arith) (omega arith) in omega arith

nodes_short : (a count : ℕ) → a + count ≤ 1000 → AllByRecursion (λ line. length line ≤ 9) (map node_line (range_with_len a count))
nodes_short a zero h = tt
nodes_short a (suc count) h = let name = name_short a (omega arith) in (omega arith, nodes_short (a + 1) count (omega arith))

pub link_short : (l : Link) → l.listener < 1000 → l.speaker < 1000 → l.weight ≤ 9 → length (link_line l) ≤ 18
link_short l a b w =
    let listener = length-decimal-le 3 l.listener (omega arith) (omega arith) (omega arith) in
    let speaker = length-decimal-le 3 l.speaker (omega arith) (omega arith) (omega arith) in
    let weight = length-decimal-le 1 l.weight (omega arith) (omega arith) (omega arith) in
    simp length-append (omega arith)

links_short : (links : List Link) → AllByRecursion (λ l. length (link_line l) ≤ 18) links → AllByRecursion (λ line. length line ≤ 18) (map link_line links)
links_short [] a = tt
links_short (l ∷ links) a = (a.0, links_short links a.1)

pub generated_short : (seed n : ℕ) → AreDemoNodes n → length (Generated seed n) < 65536
unfolding Generated
generated_short seed n d =
    let links = (links_to seed (n - 1)).links in
    let least = d.least in
    let most = d.most in
    let each = all_links (λ l. length (link_line l) ≤ 18) seed (n - 1) (λ j l h i. link_short l (omega arith) (omega arith) i.most) in
    let few = few_links seed (n - 1) in
    let nodes = text_short 9 (node_lines n) (nodes_short 0 n (omega arith)) in
    let arcs = text_short 18 (map link_line links) (links_short links each) in
    let count = length-map-range_with_len node_line 0 n in
    let arc_count = length-map links link_line in
    let cut = text_append (node_lines n ++ map link_line links) origin_lines in
    let cut_again = text_append (node_lines n) (map link_line links) in
    rw (cut, cut_again) (simp length-append (omega arith))
