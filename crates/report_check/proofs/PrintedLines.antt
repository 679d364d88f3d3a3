-- The line of a printed row means that row.
use Rattle.std.proofs.Common.{◌≡◌, ◌≢◌, ℕ, ◌-◌, ◌<◌, zero, suc, List, [], ◌∷◌, ◌++◌, Option, Some, None, IfSome, Bool, true, false, not, ◌==◌, ◌&&◌, leb, ltb, map, length, get_or, Result, Ok, append_assoc, refl, ap, ◌∙◌, arith}
use Rattle.std.specs.Prelude.{slice_index_or}
use Rattle.std.specs.List.{list_all, AllByRecursion, prefix_len}
use Rattle.std.specs.Str.{bytes_eq}
use Rattle.std.proofs.lemmas.Bool.Decides.{nat_tests}
use Rattle.std.proofs.lemmas.Slice.Eq.{bytes_eq-Decides}
use Rattle.alg_model.specs.Texts.{value_text}
use Rattle.net_graph.specs.Nets.{AreDistinct, IsNet, PureNet, is_name, is_name_byte, number_of}
use Rattle.net_graph.specs.Routes.{PureRoute}
use Rattle.net_graph.specs.RowTexts.{AreNodesOf, dest_text, node_text, path_text, route_text, row_text}
use Rattle.net_graph.specs.Tables.{PureRow, carrier}
use Rattle.topology_file.specs.LineLaws.{IsWord, all_joined, both_true, is_plain, plain_is, all_pass}
use Rattle.topology_file.specs.LineTexts.{ended}
use Rattle.topology_file.specs.Texts.{ends_word, is_not, without_return, words_of}
use Rattle.report_check.specs.declared.faults.ReportKind.{ReportKind}
use Rattle.report_check.specs.ReportText.{PureProgress, after_none, after_route, after_said, unless_over, dest_in, is_next, no_route, node_in, path_in, route, said_by, said_in, with_row}
use Rattle.report_check.specs.Said.{row_spelled}
use Rattle.report_check.proofs.Solid.{IsSolid, solid_plain, word_solid, words_first}

-- Names.

name_word : (name : List ℕ) → is_name name ≡ true → IsWord name
name_word name h =
    let a = both_true (leb 1 (length name) && leb (length name) 32) (list_all is_name_byte name) h in
    let b = (both_true (leb 1 (length name)) (leb (length name) 32) a.0).0 in
    record { bytes = a.1; some = grind (arith, nat_tests) }

-- the place of a name among names that are distinct
same_bytes : (name : List ℕ) → bytes_eq name name ≡ true
same_bytes name = (bytes_eq-Decides name name).1 refl

other_bytes : (m n : List ℕ) → bytes_eq m n ≡ false → bytes_eq n m ≡ false
other_bytes m n e = by (bytes_eq n m) refl
  where
    by : (b : Bool) → bytes_eq n m ≡ b → b ≡ false
    by true f =
        let same : n ≡ m = (bytes_eq-Decides n m).0 f in
        absurd (let g : bytes_eq m n ≡ true = rw same (same_bytes m) in cc)
    by false f = refl

differs : (x : List ℕ) (names : List (List ℕ)) (k : ℕ) → k < length names → AllByRecursion (λ y. bytes_eq x y ≡ false) names → bytes_eq x (slice_index_or names k []) ≡ false
differs x [] k l h = absurd (omega arith)
differs x (y ∷ names) zero l h = h.0
differs x (y ∷ names) (suc k) l h = differs x names k (omega arith) h.1

first_place : (names : List (List ℕ)) (k : ℕ) → k < length names → AreDistinct (λ m n. bytes_eq m n) names → prefix_len (λ n. not (bytes_eq (slice_index_or names k []) n)) names ≡ k
first_place [] k l h = absurd (omega arith)
first_place (x ∷ names) zero l h = rw (same_bytes x) refl
first_place (x ∷ names) (suc k) l h =
    let other = other_bytes x (slice_index_or names k []) (differs x names k (omega arith) h.0) in
    let rest = first_place names k (omega arith) h.1 in
    rw (other, rest) (omega arith)

numbered : (names : List (List ℕ)) (k : ℕ) → k < length names → AreDistinct (λ m n. bytes_eq m n) names → number_of names (slice_index_or names k []) ≡ Some k
numbered names k l h =
    let place = first_place names k l h in
    let within : ltb k (length names) ≡ true = grind (arith, nat_tests) in
    rw (place, within) refl

named : (names : List (List ℕ)) (k : ℕ) → k < length names → AllByRecursion (λ n. is_name n ≡ true) names → is_name (slice_index_or names k []) ≡ true
named [] k l h = absurd (omega arith)
named (x ∷ names) zero l h = h.0
named (x ∷ names) (suc k) l h = named names k (omega arith) h.1

-- what is known of a network's names
node_solid : (net : PureNet) → IsNet net → (i : ℕ) → i < length net.nodes → IsSolid (node_text net i)
node_solid net n i l = word_solid (node_text net i) (name_word (node_text net i) (named net.nodes i l n.node_names))

dest_solid : (net : PureNet) → IsNet net → (d : ℕ) → d < length net.dests → IsSolid (dest_text net d)
dest_solid net n d l = word_solid (dest_text net d) (name_word (dest_text net d) (named net.dests d l n.dest_names))

node_read : (net : PureNet) → IsNet net → (i : ℕ) → i < length net.nodes → node_in net (node_text net i) ≡ Ok i
node_read net n i l = rw (numbered net.nodes i l n.node_apart) refl

dest_read : (net : PureNet) → IsNet net → (d : ℕ) → d < length net.dests → dest_in net (dest_text net d) ≡ Ok d
dest_read net n d l = rw (numbered net.dests d l n.dest_apart) refl

path_read : (net : PureNet) → IsNet net → (path : List ℕ) → AreNodesOf net path → path_in net (map (node_text net) path) ≡ Ok path
path_read net n [] h = refl
path_read net n (i ∷ path) h = rw (node_read net n i h.0, path_read net n path h.1) refl

-- Lines.

passes_at : (p : ℕ → Bool) (line : List ℕ) (i : ℕ) → p 0 ≡ true → list_all p line ≡ true → p (get_or line i 0) ≡ true
passes_at p [] i z h = z
passes_at p (c ∷ cs) zero z h = (both_true (p c) (list_all p cs) h).0
passes_at p (c ∷ cs) (suc i) z h = passes_at p cs i z (both_true (p c) (list_all p cs) h).1

not_true : (b : Bool) → not b ≡ true → b ≡ false
not_true true h = absurd (cc)
not_true false h = refl

no_return : (line : List ℕ) → list_all is_plain line ≡ true → without_return line ≡ line
no_return line h =
    let last = passes_at (is_not 13) line (length line - 1) refl (all_pass is_plain (is_not 13) line (λ c k. (plain_is c k).1) h) in
    rw (not_true (get_or line (length line - 1) 0 == 13) last) refl

-- the line of a row
abbrev pub row_line : PureNet → PureRow → List ℕ
row_line net row = node_text net row.node ++ 32 ∷ (dest_text net row.dest ++ 32 ∷ route_text net row.route)

pub row_is_line : (net : PureNet) (row : PureRow) → row_text net row ≡ ended (row_line net row)
row_is_line net row = simp append_assoc

path_ends : (net : PureNet) (path : List ℕ) → ends_word (path_text net path) ≡ true
path_ends net [] = refl
path_ends net (i ∷ path) = refl

path_words : (net : PureNet) → IsNet net → (path : List ℕ) → AreNodesOf net path → words_of (path_text net path) ≡ map (node_text net) path
path_words net n [] h = refl
path_words net n (i ∷ path) h =
    let first = words_first (node_text net i) (path_text net path) (node_solid net n i h.0) (path_ends net path) in
    first ∙ ap (λ (ws : List (List ℕ)). node_text net i ∷ ws) (path_words net n path h.1)

path_plain : (net : PureNet) → IsNet net → (path : List ℕ) → AreNodesOf net path → list_all is_plain (path_text net path) ≡ true
unfolding is_plain
path_plain net n [] h = refl
path_plain net n (i ∷ path) h =
    all_joined is_plain (node_text net i) (path_text net path) (solid_plain (node_text net i) (node_solid net n i h.0).bytes) (path_plain net n path h.1)

-- a route whose value is printed as a word, and whose path is of one or more of the network's nodes
pub record IsPrintable (net : PureNet) (r : PureRoute) : Type 0 where
  pub word : IsSolid (value_text (carrier net) r.value)
  pub spelled : row_spelled net (value_text (carrier net) r.value) ≡ Ok r.value
  pub some : r.path ≢ []
  pub nodes : AreNodesOf net r.path

route_words : (net : PureNet) → IsNet net → (r : PureRoute) → IsPrintable net r → words_of (route_text net (Some r)) ≡ value_text (carrier net) r.value ∷ map (node_text net) r.path
route_words net n r p =
    words_first (value_text (carrier net) r.value) (path_text net r.path) p.word (path_ends net r.path)
    ∙ ap (λ (ws : List (List ℕ)). value_text (carrier net) r.value ∷ ws) (path_words net n r.path p.nodes)

row_words : (net : PureNet) → IsNet net → (row : PureRow) → row.node < length net.nodes → row.dest < length net.dests
    → words_of (row_line net row) ≡ node_text net row.node ∷ dest_text net row.dest ∷ words_of (route_text net row.route)
row_words net n row l d =
    let second = words_first (dest_text net row.dest) (32 ∷ route_text net row.route) (dest_solid net n row.dest d) refl in
    words_first (node_text net row.node) (32 ∷ (dest_text net row.dest ++ 32 ∷ route_text net row.route)) (node_solid net n row.node l) refl
    ∙ ap (λ (ws : List (List ℕ)). node_text net row.node ∷ ws) second

route_plain : (net : PureNet) → IsNet net → (o : Option PureRoute) → IfSome o (IsPrintable net) → list_all is_plain (route_text net o) ≡ true
unfolding is_plain
route_plain net n None p = refl
route_plain net n (Some r) p = all_joined is_plain (value_text (carrier net) r.value) (path_text net r.path) (solid_plain (value_text (carrier net) r.value) p.word.bytes) (path_plain net n r.path p.nodes)

pub row_plain : (net : PureNet) → IsNet net → (row : PureRow) → row.node < length net.nodes → row.dest < length net.dests → IfSome row.route (IsPrintable net) → list_all is_plain (row_line net row) ≡ true
unfolding is_plain
row_plain net n row l d p =
    all_joined is_plain (node_text net row.node) (32 ∷ (dest_text net row.dest ++ 32 ∷ route_text net row.route)) (solid_plain (node_text net row.node) (node_solid net n row.node l).bytes)
    (all_joined is_plain (dest_text net row.dest) (32 ∷ route_text net row.route) (solid_plain (dest_text net row.dest) (dest_solid net n row.dest d).bytes) (route_plain net n row.route p))

-- what the line of a row makes, where that is the next one
said_none : (net : PureNet) → IsNet net → (row : PureRow) → row.node < length net.nodes → row.dest < length net.dests → row.route ≡ None → said_in (row_line net row) ≡ no_route (node_text net row.node) (dest_text net row.dest)
said_none net n row l d e =
    let plain = no_return (row_line net row) (row_plain net n row l d (rw e tt)) in
    let words = row_words net n row l d in
    rw (plain, words, e) refl

said_route : (net : PureNet) → IsNet net → (row : PureRow) (r : PureRoute) → row.node < length net.nodes → row.dest < length net.dests → row.route ≡ Some r → IsPrintable net r
    → said_in (row_line net row) ≡ route (node_text net row.node) (dest_text net row.dest) (value_text (carrier net) r.value) (map (node_text net) r.path)
said_route net n row r l d e p =
    let plain = no_return (row_line net row) (row_plain net n row l d (rw e p)) in
    let words = row_words net n row l d in
    rw (plain, words, e, route_words net n r p) (by r.path p.some)
  where
    by : (path : List ℕ) → path ≢ [] → said_by (node_text net row.node ∷ dest_text net row.dest ∷ value_text (carrier net) r.value ∷ map (node_text net) path) ≡ route (node_text net row.node) (dest_text net row.dest) (value_text (carrier net) r.value) (map (node_text net) path)
    by [] f = absurd (f refl)
    by (i ∷ path) f = refl

still_open : (p : PureProgress) (made : Result PureProgress ReportKind) (q : PureProgress) → p.is_over ≡ false → made ≡ Ok q → unless_over p made ≡ Ok q
still_open p made q e f = rw e f

pub row_made : (net : PureNet) → IsNet net → (p : PureProgress) (row : PureRow) → p.is_over ≡ false → is_next net p row.node row.dest ≡ true → row.node < length net.nodes → row.dest < length net.dests → IfSome row.route (IsPrintable net)
    → after_said (row_spelled net) net p (said_in (row_line net row)) ≡ Ok (with_row net p row)
row_made net n p row over next l d h = by row.route refl h
  where
    node : node_in net (node_text net row.node) ≡ Ok row.node
    node = node_read net n row.node l

    dest : dest_in net (dest_text net row.dest) ≡ Ok row.dest
    dest = dest_read net n row.dest d

    whole : (o : Option PureRoute) → row.route ≡ o → record { node = row.node; dest = row.dest; route = o } ≡ row
    whole o e = rw (← e) refl

    by : (o : Option PureRoute) → row.route ≡ o → IfSome o (IsPrintable net) → after_said (row_spelled net) net p (said_in (row_line net row)) ≡ Ok (with_row net p row)
    by None e h =
        let made : after_none net p (node_text net row.node) (dest_text net row.dest) ≡ Ok (with_row net p row) = rw (node, dest, next) (ap (λ (x : PureRow). Ok (with_row net p x)) (whole None e)) in
        rw (said_none net n row l d e) (still_open p (after_none net p (node_text net row.node) (dest_text net row.dest)) (with_row net p row) over made)
    by (Some r) e h =
        let line = after_route (row_spelled net) net p (node_text net row.node) (dest_text net row.dest) (value_text (carrier net) r.value) (map (node_text net) r.path) in
        let made : line ≡ Ok (with_row net p row) = rw (node, dest, path_read net n r.path h.nodes, next, h.spelled) (ap (λ (x : PureRow). Ok (with_row net p x)) (whole (Some r) e)) in
        rw (said_route net n row r l d e h) (still_open p line (with_row net p row) over made)
