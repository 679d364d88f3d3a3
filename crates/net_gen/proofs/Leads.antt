-- The lines of a generated text lead to its network.
use Rattle.std.proofs.Common.{◌≡◌, ℕ, zero, suc, ◌+◌, ◌-◌, ◌*◌, ◌<◌, ◌≤◌, false, eqb, List, [], ◌∷◌, ◌++◌, map, length, refl, sym, ap, ◌∙◌, subst, arith, append_assoc, length-append}
use Rattle.std.specs.List.{range_with_len, AllByRecursion}
use Rattle.std.proofs.lemmas.List.{map-append}
use Rattle.std.proofs.lemmas.List.FromFn.{map-range_with_len_more}
use Rattle.net_graph.specs.Nets.{PureArc}
use Rattle.sig_text.specs.Literals.{IsSpelling}
use Rattle.sig_text.specs.Spelled.{spelled}
use Rattle.topology_file.specs.NetText.{PureNetFile, Lead, NetText, empty_file}
use Rattle.net_gen.specs.declared.links.Link.{Link}
use Rattle.net_gen.specs.declared.network.TheConstants.{MAX_DEMO_NODES}
use Rattle.net_gen.specs.Generated.{AreDemoNodes, node_line, link_line, node_lines, origin_lines, links_of, links_to, Generated}
use Rattle.net_gen.specs.Networks.{demo_alg, arcs_of, node_names, generated_file}
use Rattle.net_gen.proofs.LineForms.{node_is_line, link_is_line, origins_are_lines}
use Rattle.net_gen.proofs.NodeLinks.{IsLinkOf, each_links, all_append, all_links, few_links}
use Rattle.net_gen.proofs.Steps.{Misses, IsNewLink, missed_by_listener, missed_by_speaker, file_with, file_once, file_twice, node_step, link_step, first_origin, second_origin}
use Rattle.topology_file.specs.LineLaws.{IsLine, lines_again}

lead_append : (f mid last : PureNetFile) (xs ys : List (List ℕ)) → Lead spelled f xs mid → Lead spelled mid ys last → Lead spelled f (xs ++ ys) last
lead_append f mid last [] ys a b = subst (λ g. Lead spelled g ys last) a b
lead_append f mid last (x ∷ xs) ys a b = (a.0, a.1, lead_append a.0 mid last xs ys a.2 b)

nodes_lead : (n : ℕ) → n ≤ MAX_DEMO_NODES → Lead spelled (empty_file demo_alg) (node_lines n) (file_with (node_names n) [])
nodes_lead zero h = refl
nodes_lead (suc n) h =
    let more : n + 1 ≡ suc n = omega arith in
    let lines : node_lines n ++ node_line n ∷ [] ≡ node_lines (suc n) = sym (map-range_with_len_more node_line 0 n n (omega arith)) ∙ ap node_lines more in
    let file : file_with (node_names (n + 1)) [] ≡ file_with (node_names (suc n)) [] = ap (λ k. file_with (node_names k) []) more in
    subst (λ ls. Lead spelled (empty_file demo_alg) ls (file_with (node_names (suc n)) [])) lines
    (subst (λ g. Lead spelled (empty_file demo_alg) (node_lines n ++ node_line n ∷ []) g) file
    (lead_append (empty_file demo_alg) (file_with (node_names n) []) (file_with (node_names (n + 1)) []) (node_lines n) (node_line n ∷ [])
    (nodes_lead n (omega arith)) (file_with (node_names (n + 1)) [], node_step n (omega arith), refl)))

-- the network of n nodes with these links
abbrev file_of : ℕ → List Link → PureNetFile
file_of n links = file_with (node_names n) (arcs_of 0 links)

Leads : ℕ → List Link → List Link → Type 0
Leads n before more = Lead spelled (file_of n before) (map link_line more) (file_of n (before ++ more))

one_leads : (n : ℕ) (before : List Link) (l : Link) → n ≤ MAX_DEMO_NODES → IsNewLink n before l → Leads n before (l ∷ [])
unfolding Leads
one_leads n before l h i = (file_of n (before ++ l ∷ []), link_step n before l h i, refl)

two_lead : (n : ℕ) (before : List Link) (l m : Link) → n ≤ MAX_DEMO_NODES → IsNewLink n before l → IsNewLink n (before ++ l ∷ []) m → Leads n before (l ∷ m ∷ [])
unfolding Leads
two_lead n before l m h i j = (
  file_of n (before ++ l ∷ []),
  link_step n before l h i,
  (
    file_of n ((before ++ l ∷ []) ++ m ∷ []),
    link_step n (before ++ l ∷ []) m h j,
    ap (file_of n) (sym (append_assoc before (l ∷ []) (m ∷ []))),
  ),
)

-- a link of the node k, after links of the nodes before it, none of which is between the same nodes
new_link : (n k : ℕ) (links : List Link) (l : Link) → n ≤ MAX_DEMO_NODES → k < n → IsLinkOf k l → length links ≤ 2 * k → AllByRecursion (Misses l.listener l.speaker) links → IsNewLink n links l
new_link n k links l h in_net i few absent =
    let is = i.listener_is in
    let before = i.before in
    record { listener_in = omega arith; before = omega arith; least = i.least; most = i.most; absent = absent; room = omega arith }

node_leads : (n seed k : ℕ) → n ≤ MAX_DEMO_NODES → suc k < n → Leads n (links_to seed k).links (links_of (suc k) (links_to seed k).state).links
node_leads n seed k h in_net =
    each_links (suc k) (links_to seed k).state (Leads n before) (omega arith)
    (λ l i. one_leads n before l h (first l i))
    (λ l m i j e. two_lead n before l m h (first l i) (second l m i j e))
  where
    before : List Link
    before = (links_to seed k).links

    missed : (l : Link) → IsLinkOf (suc k) l → AllByRecursion (Misses l.listener l.speaker) before
    missed l i = all_links (Misses l.listener l.speaker) seed k (λ j m b o. missed_by_listener l.listener l.speaker m (omega (arith, i.listener_is, o.listener_is)))

    first : (l : Link) → IsLinkOf (suc k) l → IsNewLink n before l
    first l i = new_link n (suc k) before l h in_net i (omega (arith, few_links seed k)) (missed l i)

    second : (l m : Link) → IsLinkOf (suc k) l → IsLinkOf (suc k) m → eqb m.speaker l.speaker ≡ false → IsNewLink n (before ++ l ∷ []) m
    second l m i j e =
        new_link n (suc k) (before ++ l ∷ []) m h in_net j (omega (arith, few_links seed k, length-append before (l ∷ [])))
        (all_append (Misses m.listener m.speaker) before (l ∷ []) (missed m j) (missed_by_speaker m.listener m.speaker l e, tt))

links_lead : (n seed k : ℕ) → n ≤ MAX_DEMO_NODES → k < n → Lead spelled (file_of n []) (map link_line (links_to seed k).links) (file_of n (links_to seed k).links)
unfolding links_to Leads
links_lead n seed zero h l = refl
links_lead n seed (suc k) h l =
    let before = (links_to seed k).links in
    let more = (links_of (suc k) (links_to seed k).state).links in
    subst (λ ls. Lead spelled (file_of n []) ls (file_of n (before ++ more))) (sym (map-append link_line before more))
    (lead_append (file_of n []) (file_of n before) (file_of n (before ++ more)) (map link_line before) (map link_line more)
    (links_lead n seed k h (omega arith)) (node_leads n seed k h l))

origins_lead : (n : ℕ) (arcs : List PureArc) → 2 ≤ n → n ≤ MAX_DEMO_NODES → Lead spelled (file_with (node_names n) arcs) origin_lines (file_twice (node_names n) arcs)
origins_lead n arcs l h =
    (file_once (node_names n) arcs, first_origin n arcs l h, (file_twice (node_names n) arcs, second_origin n arcs l h, refl))

-- all lines are lines

nodes_are_lines : (a count : ℕ) → a + count ≤ 1000 → AllByRecursion IsLine (map node_line (range_with_len a count))
nodes_are_lines a zero h = tt
nodes_are_lines a (suc count) h = (node_is_line a (omega arith), nodes_are_lines (a + 1) count (omega arith))

links_are_lines : (links : List Link) → AllByRecursion (λ l. IsLine (link_line l)) links → AllByRecursion IsLine (map link_line links)
links_are_lines [] a = tt
links_are_lines (l ∷ links) a = (a.0, links_are_lines links a.1)

all_lines : (seed n : ℕ) → AreDemoNodes n → AllByRecursion IsLine (node_lines n ++ map link_line (links_to seed (n - 1)).links ++ origin_lines)
all_lines seed n d =
    let least = d.least in
    let most = d.most in
    let links = (links_to seed (n - 1)).links in
    let each = all_links (λ l. IsLine (link_line l)) seed (n - 1) (λ j l b i. link_is_line l (omega (arith, i.listener_is)) (omega (arith, i.before)) i.most) in
    all_append IsLine (node_lines n ++ map link_line links) origin_lines
    (all_append IsLine (node_lines n) (map link_line links) (nodes_are_lines 0 n (omega arith)) (links_are_lines links each)) origins_are_lines

pub generated_means : IsSpelling spelled → (seed n : ℕ) → AreDemoNodes n → NetText (Generated seed n) demo_alg (generated_file seed n)
unfolding Generated
generated_means is seed n d =
    let least = d.least in
    let most = d.most in
    let links = (links_to seed (n - 1)).links in
    let lines = node_lines n ++ map link_line links ++ origin_lines in
    let start = empty_file demo_alg in
    let leads =
    lead_append start (file_of n links) (generated_file seed n) (node_lines n ++ map link_line links) origin_lines
    (lead_append start (file_of n []) (file_of n links) (node_lines n) (map link_line links)
    (nodes_lead n most) (links_lead n seed (n - 1) most (omega arith)))
    (origins_lead n (arcs_of 0 links) least most) in
    (spelled, is, subst (λ ls. Lead spelled start ls (generated_file seed n)) (sym (lines_again lines (all_lines seed n d))) leads)
