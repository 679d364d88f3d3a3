-- What each line of a generated text adds to the network.
use Rattle.std.proofs.Common.{◌≡◌, ℕ, suc, ◌+◌, ◌<◌, ◌≤◌, Bool, true, false, ◌&&◌, eqb, leb, List, [], ◌∷◌, ◌++◌, Some, Ok, length, refl, sym, ap, ◌∙◌, arith}
use Rattle.std.specs.Prelude.{codes, decimal}
use Rattle.std.specs.List.{list_any, AllByRecursion}
use Rattle.std.proofs.lemmas.Bool.Decides.{nat_tests}
use Rattle.std.proofs.lemmas.List.FromFn.{length-map-range_with_len, map-range_with_len_more}
use Rattle.alg_model.specs.Expressions.{number_label}
use Rattle.alg_model.specs.declared.edition.Edition.TheVariants.{One}
use Rattle.net_graph.specs.Limits.{max_nodes, max_arcs}
use Rattle.net_graph.specs.Nets.{PureArc, PureNet, is_arc_between, number_of}
use Rattle.sig_text.specs.Spelled.{spelled}
use Rattle.topology_file.specs.Forms.{nodes, link}
use Rattle.topology_file.specs.NetText.{PureNetFile, after_form, after_line}
use Rattle.net_gen.specs.declared.links.Link.{Link}
use Rattle.net_gen.specs.declared.network.TheConstants.{MAX_DEMO_NODES}
use Rattle.net_gen.specs.Generated.{node_name, node_line, link_line}
use Rattle.net_gen.specs.Networks.{demo_alg, arcs_of, origin_of, node_names}
use Rattle.net_gen.proofs.LineForms.{node_form, link_form, node_is_line, link_is_line, weight_spelled, zero_spelled}
use Rattle.net_gen.proofs.Names.{name_word, node_is_name, numbered, unnumbered, name_is}
use Rattle.topology_file.specs.LineLaws.{line_after}

-- the network of these nodes and links, before its origins, without changes
abbrev pub net_with : List (List ℕ) → List PureArc → PureNet
net_with names arcs = record { alg = demo_alg; nodes = names; dests = []; arcs = arcs; origins = [] }

abbrev pub file_with : List (List ℕ) → List PureArc → PureNetFile
file_with names arcs = record { net = net_with names arcs; changes = [] }

pub names_more : (k : ℕ) → node_names (k + 1) ≡ node_names k ++ node_name k ∷ []
names_more k = map-range_with_len_more node_name 0 k k (omega arith)

node_added : (k : ℕ) → k < MAX_DEMO_NODES → after_form spelled (file_with (node_names k) []) (nodes (node_name k ∷ [])) ≡ Ok (file_with (node_names k ++ node_name k ∷ []) [])
node_added k h =
    let count = length-map-range_with_len node_name 0 k in
    let room : leb (length (node_names k) + 1) (max_nodes One) ≡ true = grind (arith, nat_tests) in
    rw (unnumbered k (omega arith), room) refl

-- the line of the node k, after those of the nodes before it
pub node_step : (k : ℕ) → k < MAX_DEMO_NODES → after_line spelled (file_with (node_names k) []) (node_line k) ≡ Ok (file_with (node_names (k + 1)) [])
node_step k h =
    line_after spelled (file_with (node_names k) []) (node_line k) (node_is_line k (omega arith))
    ∙ ap (after_form spelled (file_with (node_names k) [])) (node_form (node_name k) (name_word k (omega arith)) (node_is_name k (omega arith)))
    ∙ node_added k h ∙ ap (λ names. Ok (file_with names [])) (sym (names_more k))

-- Links.

pub length_arcs : (id : ℕ) (links : List Link) → length (arcs_of id links) ≡ length links
length_arcs id [] = refl
length_arcs id (l ∷ links) = ap suc (length_arcs (id + 1) links)

abbrev arc_of : ℕ → Link → PureArc
arc_of id l = record { id = id; tail = l.listener; head = l.speaker; label = number_label l.weight }

arcs_push : (id : ℕ) (links : List Link) (l : Link) → arcs_of id (links ++ l ∷ []) ≡ arcs_of id links ++ arc_of (id + length links) l ∷ []
arcs_push id [] l = let same : id ≡ id + 0 = omega arith in ap (λ k. arc_of k l ∷ []) same
arcs_push id (m ∷ links) l =
    let same : (id + 1) + length links ≡ id + suc (length links) = omega arith in
    ap (λ arcs. arc_of id m ∷ arcs) (arcs_push (id + 1) links l ∙ ap (λ k. arcs_of (id + 1) links ++ arc_of k l ∷ []) same)

-- no such link goes from that listener to that speaker
pub Misses : ℕ → ℕ → Link → Type 0
Misses tail head l = (eqb l.listener tail && eqb l.speaker head) ≡ false

pub missed_by_listener : (tail head : ℕ) (l : Link) → l.listener < tail → Misses tail head l
unfolding Misses
missed_by_listener tail head l h =
    let other : eqb l.listener tail ≡ false = grind (arith, nat_tests) in
    rw other refl

pub missed_by_speaker : (tail head : ℕ) (l : Link) → eqb head l.speaker ≡ false → Misses tail head l
unfolding Misses
missed_by_speaker tail head l h =
    let other : eqb l.speaker head ≡ false = grind (arith, nat_tests) in
    rw other (never (eqb l.listener tail))
  where
    never : (b : Bool) → (b && false) ≡ false
    never true = refl
    never false = refl

pub none_between : (tail head id : ℕ) (links : List Link) → AllByRecursion (Misses tail head) links → list_any (is_arc_between tail head) (arcs_of id links) ≡ false
unfolding Misses
none_between tail head id [] a = refl
none_between tail head id (l ∷ links) a = rw (a.0, none_between tail head (id + 1) links a.1) refl

-- a link that may come after others in a network of n nodes
pub record IsNewLink (n : ℕ) (links : List Link) (l : Link) : Type 0 where
  pub listener_in : l.listener < n
  pub before : l.speaker < l.listener
  pub least : 1 ≤ l.weight
  pub most : l.weight ≤ 9
  pub absent : AllByRecursion (Misses l.listener l.speaker) links
  pub room : length links < max_arcs

link_added : (n : ℕ) (links : List Link) (l : Link) → n ≤ MAX_DEMO_NODES → IsNewLink n links l
    → after_form spelled (file_with (node_names n) (arcs_of 0 links)) (link (node_name l.listener) (node_name l.speaker) (32 ∷ decimal l.weight))
    ≡ Ok (file_with (node_names n) (arcs_of 0 links ++ arc_of (length (arcs_of 0 links)) l ∷ []))
link_added n links l h i =
    let listener_in = i.listener_in in
    let before = i.before in
    let taken = i.room in
    let count = length_arcs 0 links in
    let apart : eqb l.listener l.speaker ≡ false = grind (arith, nat_tests) in
    let room : leb (length (arcs_of 0 links) + 1) max_arcs ≡ true = grind (arith, nat_tests) in
    rw (numbered n l.listener listener_in (omega arith), numbered n l.speaker (omega arith) (omega arith), apart, none_between l.listener l.speaker 0 links i.absent, weight_spelled l.weight i.least i.most, room) refl

pub link_step : (n : ℕ) (links : List Link) (l : Link) → n ≤ MAX_DEMO_NODES → IsNewLink n links l
    → after_line spelled (file_with (node_names n) (arcs_of 0 links)) (link_line l) ≡ Ok (file_with (node_names n) (arcs_of 0 (links ++ l ∷ [])))
link_step n links l h i =
    let listener_in = i.listener_in in
    let before = i.before in
    let f = file_with (node_names n) (arcs_of 0 links) in
    let same : length (arcs_of 0 links) ≡ 0 + length links = omega (arith, length_arcs 0 links) in
    line_after spelled f (link_line l) (link_is_line l (omega arith) (omega arith) i.most)
    ∙ ap (after_form spelled f) (link_form (node_name l.listener) (node_name l.speaker) (decimal l.weight) (name_word l.listener (omega arith)) (name_word l.speaker (omega arith))
    (node_is_name l.listener (omega arith)) (node_is_name l.speaker (omega arith)))
    ∙ link_added n links l h i
    ∙ ap (λ k. Ok (file_with (node_names n) (arcs_of 0 links ++ arc_of k l ∷ []))) same
    ∙ ap (λ arcs. Ok (file_with (node_names n) arcs)) (sym (arcs_push 0 links l))

-- Origins.

number_is : (n k : ℕ) → k < n → n ≤ MAX_DEMO_NODES → k < 10 → number_of (node_names n) (110 ∷ (48 + k) ∷ []) ≡ Some k
number_is n k l h s = ap (number_of (node_names n)) (sym (name_is k s)) ∙ numbered n k l (omega arith)

-- with the first origin
abbrev pub file_once : List (List ℕ) → List PureArc → PureNetFile
file_once names arcs = record { net = record { alg = demo_alg; nodes = names; dests = codes "x0" ∷ []; arcs = arcs; origins = origin_of 0 ∷ [] }; changes = [] }

-- and with the second
abbrev pub file_twice : List (List ℕ) → List PureArc → PureNetFile
file_twice names arcs =
    record { net = record { alg = demo_alg; nodes = names; dests = codes "x0" ∷ codes "x1" ∷ []; arcs = arcs; origins = origin_of 0 ∷ origin_of 1 ∷ [] }; changes = [] }

pub first_origin : (n : ℕ) (arcs : List PureArc) → 2 ≤ n → n ≤ MAX_DEMO_NODES → after_line spelled (file_with (node_names n) arcs) (codes "origin x0 at n0 : 0") ≡ Ok (file_once (node_names n) arcs)
first_origin n arcs l h = rw (number_is n 0 (omega arith) h (omega arith), zero_spelled) refl

pub second_origin : (n : ℕ) (arcs : List PureArc) → 2 ≤ n → n ≤ MAX_DEMO_NODES → after_line spelled (file_once (node_names n) arcs) (codes "origin x1 at n1 : 0") ≡ Ok (file_twice (node_names n) arcs)
second_origin n arcs l h = rw (number_is n 1 (omega arith) h (omega arith), zero_spelled) refl
