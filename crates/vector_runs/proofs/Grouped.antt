-- The entries of one log of all nodes are those of the logs of each node.
use Rattle.std.proofs.Common.{◌≡◌, ℕ, zero, suc, ◌+◌, ◌<◌, ◌≤◌, Bool, true, false, List, [], ◌∷◌, ◌++◌, map, subst, refl, sym, ap, ap₂, ◌∙◌, arith}
use Rattle.std.specs.Prelude.{◌==◌, IsPermutation}
use Rattle.std.specs.List.{AllByRecursion, range_with_len}
use Rattle.std.proofs.lemmas.Bool.{eqb-true}
use Rattle.std.proofs.lemmas.Bool.Decides.{nat_tests}
use Rattle.std.proofs.lemmas.List.Sorted.{IsPermutation-append_right, IsPermutation-cons, IsPermutation-middle, IsPermutation-refl, IsPermutation-sym, IsPermutation-trans}
use Rattle.meta_base.specs.declared.ids.Delivery.{Delivery}
use Rattle.journal_merge.specs.declared.log.NodeLog.{NodeLog}
use Rattle.journal_merge.specs.Merging.{entries_of, tagged_entries, tagged_with}
use Rattle.node_core.specs.MachineLaws.{same_test}
use Rattle.weave.specs.Going.{logs_by}

-- the logs of so many nodes from node a on
abbrev logs_from : (ℕ → List Delivery) → ℕ → ℕ → List NodeLog
logs_from f a n = map (λ i. record { node = record { 0 = i }; entries = f i }) (range_with_len a n)

abbrev tagged_from : (ℕ → List Delivery) → ℕ → ℕ → List (ℕ × Delivery)
tagged_from f a n = tagged_entries (logs_from f a n)

none_tagged : (a n : ℕ) → tagged_from (λ i. []) a n ≡ []
none_tagged a zero = refl
none_tagged a (suc n) = none_tagged (a + 1) n

same_tagged : (f g : ℕ → List Delivery) (a n : ℕ) → ((i : ℕ) → a ≤ i → g i ≡ f i) → tagged_from g a n ≡ tagged_from f a n
same_tagged f g a zero same = refl
same_tagged f g a (suc n) same = ap₂ (λ es rest. tagged_with a es ++ rest) (same a (omega arith)) (same_tagged f g (a + 1) n (λ i later. same i (omega (arith, later))))

-- a node that took one delivery more, before its others
module _ (f g : ℕ → List Delivery) (k : ℕ) (e : Delivery) (own : g k ≡ e ∷ f k) (others : (i : ℕ) → (k ≡ i → ⊥) → g i ≡ f i) where
  one_more : (a n : ℕ) → a ≤ k → k < a + n → IsPermutation ((k, e) ∷ tagged_from f a n) (tagged_from g a n)
  one_more a zero from within = absurd (omega (arith, from, within))
  one_more a (suc n) from within = by (k == a) refl (λ apart. one_more (a + 1) n (omega (arith, from, apart)) (omega (arith, within)))
    where
      here : List (ℕ × Delivery)
      here = tagged_with a (f a)

      rest : List (ℕ × Delivery)
      rest = tagged_from f (a + 1) n

      by : (b : Bool) → (k == a) ≡ b → ((a ≡ k → ⊥) → IsPermutation ((k, e) ∷ rest) (tagged_from g (a + 1) n)) → IsPermutation ((k, e) ∷ here ++ rest) (tagged_with a (g a) ++ tagged_from g (a + 1) n)
      by true is later =
          let same : k ≡ a = eqb-true k a is in
          let mine : g a ≡ e ∷ f a = subst (λ i. g i ≡ e ∷ f i) same own in
          let after : tagged_from g (a + 1) n ≡ rest = same_tagged f g (a + 1) n (λ i past. others i (λ its. omega (arith, same, its, past))) in
          let whole : tagged_with a (g a) ++ tagged_from g (a + 1) n ≡ (k, e) ∷ here ++ rest = ap₂ (λ es r. tagged_with a es ++ r) mine after ∙ ap (λ i. (i, e) ∷ here ++ rest) (sym same) in
          subst (IsPermutation ((k, e) ∷ here ++ rest)) (sym whole) (IsPermutation-refl ((k, e) ∷ here ++ rest))
      by false is later =
          let apart : k ≡ a → ⊥ = λ its. let yes : (k == a) ≡ true = grind (arith, nat_tests) in absurd (cc) in
          let mine : g a ≡ f a = others a apart in
          let moved = IsPermutation-append_right here ((k, e) ∷ rest) (tagged_from g (a + 1) n) (later (λ its. apart (sym its))) in
          let front = IsPermutation-sym (here ++ (k, e) ∷ rest) ((k, e) ∷ here ++ rest) (IsPermutation-middle here (k, e) rest) in
          subst (λ es. IsPermutation ((k, e) ∷ here ++ rest) (tagged_with a es ++ tagged_from g (a + 1) n)) (sym mine)
          (IsPermutation-trans ((k, e) ∷ here ++ rest) (here ++ (k, e) ∷ rest) (here ++ tagged_from g (a + 1) n) front moved)

-- the logs of all nodes have the entries of the one log
pub grouped : (ts : List (ℕ × Delivery)) (n : ℕ) → AllByRecursion (λ (t : ℕ × Delivery). t.0 < n) ts → IsPermutation (tagged_entries (logs_by (λ i. entries_of i ts) n)) ts
grouped [] n all = subst (λ l. IsPermutation l []) (sym (none_tagged 0 n)) (IsPermutation-refl [])
grouped (t ∷ ts) n all =
    let f : ℕ → List Delivery = λ i. entries_of i ts in
    let g : ℕ → List Delivery = λ i. entries_of i (t ∷ ts) in
    let own : g t.0 ≡ t.1 ∷ f t.0 = rw (same_test t.0) refl in
    let others : (i : ℕ) → (t.0 ≡ i → ⊥) → g i ≡ f i = λ i apart. let no : (t.0 == i) ≡ false = grind (arith, nat_tests) in rw no refl in
    IsPermutation-trans (tagged_from g 0 n) (t ∷ tagged_from f 0 n) (t ∷ ts)
    (IsPermutation-sym (t ∷ tagged_from f 0 n) (tagged_from g 0 n) (one_more f g t.0 t.1 own others 0 n (omega arith) (omega (arith, all.0))))
    (IsPermutation-cons t (tagged_from f 0 n) ts (grouped ts n all.1))
