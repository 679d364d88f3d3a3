-- What a node tells of rows that stay, a destination after another.
use Rattle.std.proofs.Common.{◌≡◌, ℕ, suc, ◌+◌, ◌<◌, List, [], ◌∷◌, ◌++◌, Bool, true, false, not, cond, slice_get, Option, Some, None, subst, refl, sym, ap, ◌∙◌, arith}
use Rattle.std.specs.Prelude.{filter, is_some, ◌==◌}
use Rattle.std.specs.List.{range_with_len}
use Rattle.std.proofs.Math.Path.{fun_ext}
use Rattle.std.proofs.lemmas.Bool.{eqb-true}
use Rattle.std.proofs.lemmas.Bool.Decides.{nat_tests}
use Rattle.std.proofs.lemmas.List.{append-nil, append_assoc}
use Rattle.net_graph.specs.Nets.{PureArc, PureNet, arcs_to}
use Rattle.net_graph.specs.Routes.{PureRoute}
use Rattle.path_vector.specs.Keeping.{kept_news, all_kept_news}
use Rattle.path_vector.specs.Node.{PvState, PureUpdate, all_begun_updates, begun_updates, choice, is_news, reported_on}
use Rattle.path_vector.specs.Updates.{spoken_in}
use Rattle.path_vector.proofs.Beginnings.{range_next}
use Rattle.path_vector.proofs.Nodes.{same_row_self}

-- what holds of the arcs so far and of the next one
pub each_next : (P : PureArc → Type 0) (arcs : List PureArc) (k : ℕ) (a : PureArc) → slice_get arcs k ≡ Some a → P a → ((j : ℕ) (b : PureArc) → j < k → slice_get arcs j ≡ Some b → P b)
    → (j : ℕ) (b : PureArc) → j < k + 1 → slice_get arcs j ≡ Some b → P b
each_next P arcs k a there p done j b l e = by (j == k) refl
  where
    by : (t : Bool) → (j == k) ≡ t → P b
    by true h =
        let place : j ≡ k = eqb-true j k h in
        let same : a ≡ b = (let f = sym there ∙ (ap (slice_get arcs) (sym place) ∙ e) in cc) in
        subst P same p
    by false h = done j b (let less : j < k = grind (arith, nat_tests) in less) e

none_pass : (p : PureArc → Bool) (arcs : List PureArc) → ((k : ℕ) (a : PureArc) → slice_get arcs k ≡ Some a → p a ≡ false) → filter p arcs ≡ []
none_pass p [] none = refl
none_pass p (a ∷ arcs) none = rw (none 0 a refl) (none_pass p arcs (λ k b e. none (suc k) b e))

module _ (net : PureNet) (before : Option PureNet) (number : ℕ) where
  -- of a row that isn't there nothing is reported
  pub no_row_told : (dest : ℕ) → kept_news net before number dest None ≡ []
  no_row_told dest = ap (λ z. reported_on z (record { dest = dest; route = None; stamp = 0 }))
      (none_pass (λ (a : PureArc). cond (spoken_in before a.tail a.head) false false) (arcs_to net number) (λ k a e. either (spoken_in before a.tail a.head)))
    where
      either : (b : Bool) → cond b false false ≡ false
      either true = refl
      either false = refl

  -- nor of any row, where the node spoke on each arc before
  pub nothing_told : (rows : ℕ → Option PureRoute) (dests : List ℕ) → ((k : ℕ) (a : PureArc) → slice_get (arcs_to net number) k ≡ Some a → spoken_in before a.tail a.head ≡ true) → [] ≡ all_kept_news net before number rows dests
  nothing_told rows [] spoke = refl
  nothing_told rows (dest ∷ dests) spoke =
      let one : kept_news net before number dest (rows dest) ≡ [] = ap (λ z. reported_on z (record { dest = dest; route = rows dest; stamp = 0 }))
      (none_pass (λ (a : PureArc). cond (spoken_in before a.tail a.head) false (is_some (rows dest))) (arcs_to net number) (λ k a e. rw (spoke k a e) refl)) in
      rw one (nothing_told rows dests spoke)

  told_append : (rows : ℕ → Option PureRoute) (xs ys : List ℕ) → all_kept_news net before number rows (xs ++ ys) ≡ all_kept_news net before number rows xs ++ all_kept_news net before number rows ys
  told_append rows [] ys = refl
  told_append rows (x ∷ xs) ys =
      ap (λ z. kept_news net before number x (rows x) ++ z) (told_append rows xs ys) ∙ sym (append_assoc (kept_news net before number x (rows x)) (all_kept_news net before number rows xs) (all_kept_news net before number rows ys))

  -- one destination more
  pub told_next : (rows : ℕ → Option PureRoute) (dest : ℕ) (row : Option PureRoute) (told more : List (ℕ × PureUpdate)) → row ≡ rows dest → told ≡ all_kept_news net before number rows (range_with_len 0 dest)
      → more ≡ told ++ kept_news net before number dest row → more ≡ all_kept_news net before number rows (range_with_len 0 (dest + 1))
  told_next rows dest row told more is so next =
      let place : 0 + dest ≡ dest = omega arith in
      let last : suc dest ≡ dest + 1 = omega arith in
      next ∙ ap (λ z. z ++ kept_news net before number dest row) so
      ∙ ap (λ z. all_kept_news net before number rows (range_with_len 0 dest) ++ z) (ap (kept_news net before number dest) is ∙ sym (append-nil (kept_news net before number dest (rows dest))))
      ∙ sym (told_append rows (range_with_len 0 dest) (dest ∷ []))
      ∙ ap (λ z. all_kept_news net before number rows (range_with_len 0 dest ++ z ∷ [])) (sym place)
      ∙ ap (all_kept_news net before number rows) (sym (range_next 0 dest))
      ∙ ap (λ z. all_kept_news net before number rows (range_with_len 0 z)) last

-- a node whose rows are its choices tells this when it begins
pub kept_is_begun : (s : PvState) (dests : List ℕ) → ((dest : ℕ) → s.rows dest ≡ choice s.net dest s.number s.heard) → all_kept_news s.net s.before s.number s.rows dests ≡ all_begun_updates s dests
kept_is_begun s [] chosen = refl
kept_is_begun s (dest ∷ dests) chosen = rw (one, kept_is_begun s dests chosen) refl
  where
    each : (a : PureArc) → cond (spoken_in s.before a.tail a.head) false (is_some (s.rows dest)) ≡ is_news s (s.rows dest) dest a
    each a = ap (λ t. cond (spoken_in s.before a.tail a.head) (not t) (is_some (s.rows dest))) (sym (same_row_self (s.rows dest)))

    one : kept_news s.net s.before s.number dest (s.rows dest) ≡ begun_updates s dest
    one = ap (λ p. reported_on (filter p (arcs_to s.net s.number)) (record { dest = dest; route = s.rows dest; stamp = 0 })) (fun_ext each)
        ∙ ap (λ r. reported_on (filter (is_news s r dest) (arcs_to s.net s.number)) (record { dest = dest; route = r; stamp = 0 })) (chosen dest)

-- an option that is none
pub none_is : {X : Type 0} (o : Option X) → is_some o ≡ false → o ≡ None
none_is None e = refl
none_is (Some x) e = absurd (cc)
