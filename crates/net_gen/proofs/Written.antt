-- What one node more, and the links of one, add to the text.
use Rattle.std.proofs.Common.{◌≡◌, ℕ, zero, suc, ◌+◌, ◌-◌, ◌≤◌, List, [], ◌∷◌, ◌++◌, map, refl, ap, ◌∙◌, sym, arith, append_assoc}
use Rattle.std.proofs.lemmas.List.{map-append, append-nil}
use Rattle.std.proofs.lemmas.List.FromFn.{map-range_with_len_more}
use Rattle.std.proofs.lemmas.List.Concat.{flat_map-append}
use Rattle.topology_file.specs.LineTexts.{ended, text_of}
use Rattle.net_gen.specs.Generated.{node_line, link_line, node_lines, origin_lines, links_of, links_to, Generated}

pub text_append : (xs ys : List (List ℕ)) → text_of (xs ++ ys) ≡ text_of xs ++ text_of ys
text_append xs ys = flat_map-append ended xs ys

pub nodes_more : (k : ℕ) → text_of (node_lines (k + 1)) ≡ text_of (node_lines k) ++ ended (node_line k)
nodes_more k =
    ap text_of (map-range_with_len_more node_line 0 k k (omega arith)) ∙ text_append (node_lines k) (node_line k ∷ [])
    ∙ ap (λ x. text_of (node_lines k) ++ x) (append-nil (ended (node_line k)))

links_suc : (seed k : ℕ) → text_of (map link_line (links_to seed (suc k)).links) ≡ text_of (map link_line (links_to seed k).links) ++ text_of (map link_line (links_of (suc k) (links_to seed k).state).links)
unfolding links_to
links_suc seed k =
    let before = (links_to seed k).links in
    let more = (links_of (suc k) (links_to seed k).state).links in
    ap text_of (map-append link_line before more) ∙ text_append (map link_line before) (map link_line more)

pub links_more : (seed k : ℕ) → 1 ≤ k → text_of (map link_line (links_to seed k).links) ≡ text_of (map link_line (links_to seed (k - 1)).links) ++ text_of (map link_line (links_of k (links_to seed (k - 1)).state).links)
links_more seed zero h = absurd (omega arith)
links_more seed (suc k) h = let e : suc k - 1 ≡ k = omega arith in rw e (links_suc seed k)

state_suc : (seed k : ℕ) → (links_to seed (suc k)).state ≡ (links_of (suc k) (links_to seed k).state).state
unfolding links_to
state_suc seed k = refl

pub state_more : (seed k : ℕ) → 1 ≤ k → (links_to seed k).state ≡ (links_of k (links_to seed (k - 1)).state).state
state_more seed zero h = absurd (omega arith)
state_more seed (suc k) h = let e : suc k - 1 ≡ k = omega arith in rw e (state_suc seed k)

-- what is after the start, and more after that
pub gains_more : (start old new a b ab : List ℕ) → new ≡ old ++ b → old ≡ start ++ a → ab ≡ a ++ b → new ≡ start ++ ab
gains_more start old new a b ab e f g = rw (e, f, g) (append_assoc start a b)

pub all_written : (seed n : ℕ) (empty nodes links all : List ℕ) → empty ≡ [] → nodes ≡ empty ++ text_of (node_lines n) → links ≡ nodes ++ text_of (map link_line (links_to seed (n - 1)).links)
    → all ≡ links ++ text_of origin_lines → all ≡ Generated seed n
unfolding Generated
all_written seed n empty nodes links all e f g h =
    let link_lines = map link_line (links_to seed (n - 1)).links in
    rw (h, g, f, e) (sym (text_append (node_lines n ++ link_lines) origin_lines
    ∙ ap (λ x. x ++ text_of origin_lines) (text_append (node_lines n) link_lines)))

pub none_written : (seed : ℕ) (start : List ℕ) → start ≡ start ++ text_of (map link_line (links_to seed 0).links)
unfolding links_to
none_written seed start = sym (append-nil start)

pub no_draws : (seed : ℕ) → seed ≡ (links_to seed 0).state
unfolding links_to
no_draws seed = refl

-- the links of one node more are written
pub links_then : (seed node before after : ℕ) (start old new : List ℕ) → 1 ≤ node → old ≡ start ++ text_of (map link_line (links_to seed (node - 1)).links) → before ≡ (links_to seed (node - 1)).state
    → new ≡ old ++ text_of (map link_line (links_of node before).links) → after ≡ (links_of node before).state
    → (new ≡ start ++ text_of (map link_line (links_to seed ((node + 1) - 1)).links)) × (after ≡ (links_to seed ((node + 1) - 1)).state)
links_then seed node before after start old new h e b f a =
    let k : (node + 1) - 1 ≡ node = omega arith in
    rw k (
      gains_more start old new _ _ _ (f ∙ ap (λ x. old ++ text_of (map link_line (links_of node x).links)) b) e (links_more seed node h),
      a ∙ ap (λ x. (links_of node x).state) b ∙ sym (state_more seed node h),
    )
