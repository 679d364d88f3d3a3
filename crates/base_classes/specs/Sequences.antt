-- The facts of labels that append a symbol.
use Rattle.std.proofs.Common.{◌≡◌, ℕ, ◌+◌, ◌<◌, ◌≤◌, ◌==◌, refl, sym, subst, List, [], ◌∷◌, ◌++◌, length, length-append, Bool, true, false, Option, Some, None, arith}
use Rattle.std.specs.Prelude.{if◌then◌else◌}
use Rattle.std.specs.List.{AllByRecursion, list_any}
use Rattle.std.specs.declared.cmp.Ordering.TheVariants.{Equal}
use Rattle.alg_model.specs.Expressions.{seqs, simseqs, PureValue, symbols, seq, simseq}
use Rattle.alg_model.specs.Expressions.{symbol_label}
use Rattle.alg_model.specs.Carriers.{In, Order, IsPreferred, AreEquivalent}
use Rattle.alg_model.specs.Application.{App}
use Rattle.alg_classes.specs.Facts.{Action}
use Rattle.alg_classes.specs.Profiles.{bit}
use Rattle.alg_classes.specs.ClassLaws.{on_all}
use Rattle.base_classes.specs.Profiles.{seq_profile, simseq_profile}
use Rattle.base_classes.specs.Witnesses.{Witness, sequence_witness, other_symbol}
use Rattle.base_classes.specs.Compare.{less, alike, when_less, when_alike, not_below, not_less_itself, same, other, positive, tests_same, tests_other}
use Rattle.base_classes.specs.Reported.{Reports, Reported, always, never}

on_seq : (k : ℕ) (P : PureValue → Type 0) → ((ns : List ℕ) → P (symbols ns)) → (v : PureValue) → In (seqs k) v → P v
on_seq k P f (symbols ns) i = f ns
on_seq k P f _ i = absurd i

on_two_seq : (k : ℕ) (P : PureValue → PureValue → Type 0) → ((ms ns : List ℕ) → P (symbols ms) (symbols ns)) → (u v : PureValue) → In (seqs k) u → In (seqs k) v → P u v
on_two_seq k P f u v i j = on_seq k (λ x. P x v) (λ ms. on_seq k (λ y. P (symbols ms) y) (f ms) v j) u i

on_simple : (k : ℕ) (P : PureValue → Type 0) → ((ns : List ℕ) → AllByRecursion (λ n. n < k) ns → P (symbols ns)) → (v : PureValue) → In (simseqs k) v → P v
on_simple k P f (symbols ns) i = f ns i.0
on_simple k P f _ i = absurd i

on_two_simple : (k : ℕ) (P : PureValue → PureValue → Type 0) → ((ms ns : List ℕ) → AllByRecursion (λ n. n < k) ms → AllByRecursion (λ n. n < k) ns → P (symbols ms) (symbols ns))
    → (u v : PureValue) → In (simseqs k) u → In (simseqs k) v → P u v
on_two_simple k P f u v i j = on_simple k (λ x. P x v) (λ ms a. on_simple k (λ y. P (symbols ms) y) (λ ns b. f ms ns a b) v j) u i

-- one symbol more
one_more : (ns : List ℕ) (n : ℕ) → length (ns ++ n ∷ []) ≡ length ns + 1
one_more ns n = length-append ns (n ∷ [])

abbrev appends : ℕ → ℕ → Action
appends k n = App (seq k) (symbol_label n)

pub seq_stated : (k n : ℕ) → n < k → Reported (seqs k) (appends k n) seq_profile (sequence_witness n n)
seq_stated k n below = on_all (λ j. Reports (seqs k) (appends k n) j (bit seq_profile j) (sequence_witness n n j))
    (always (on_seq k (λ v. (w : PureValue) × (appends k n v ≡ Some w)) (λ ns. (symbols (ns ++ n ∷ []), refl))))
    (never (tt, (symbols (n ∷ []), refl)))
    (always (on_seq k (λ v. ¬ IsPreferred (seqs k) (appends k n v) (Some v)) (λ ns e. omega (arith, one_more ns n, when_less (length (ns ++ n ∷ [])) (length ns) e))))
    (always (on_seq k (λ v. IsPreferred (seqs k) (Some v) (appends k n v)) (λ ns. less (length ns) (length (ns ++ n ∷ [])) (omega (arith, one_more ns n)))))
    (always (on_two_seq k (λ u v. ¬ IsPreferred (seqs k) (Some v) (Some u) → ¬ IsPreferred (seqs k) (appends k n v) (appends k n u))
    (λ ls ms h e. omega (arith, one_more ls n, one_more ms n, not_below (length ms) (length ls) h, when_less (length (ms ++ n ∷ [])) (length (ls ++ n ∷ [])) e))))
    (always (on_two_seq k (λ u v. AreEquivalent (seqs k) (appends k n u) (appends k n v) → AreEquivalent (seqs k) (Some u) (Some v))
    (λ ls ms h. alike (length ls) (length ms) (omega (arith, one_more ls n, one_more ms n, when_alike (length (ls ++ n ∷ [])) (length (ms ++ n ∷ [])) h)))))
    (never ((tt, (below, tt)), (symbols (n ∷ []), symbols (n ∷ n ∷ []), refl, refl, less 1 2 (omega arith))))
    (never ((tt, (below, tt)), (symbols (n ∷ []), symbols (n ∷ n ∷ []), refl, refl, less 0 1 (omega arith))))

abbrev joins : ℕ → ℕ → Action
joins k n = App (simseq k) (symbol_label n)

-- the symbol is in
abbrev has : ℕ → List ℕ → Bool
has n ns = list_any (λ m. m == n) ns

-- the longer sequence, unless the symbol was in
abbrev longer : Bool → List ℕ → ℕ → Option PureValue
longer b ns n = if b then None else Some (symbols (ns ++ n ∷ []))

longer_monotone : (k : ℕ) (b : Bool) (ns : List ℕ) (n : ℕ) → ¬ IsPreferred (simseqs k) (longer b ns n) (Some (symbols ns))
longer_monotone k true ns n e = cc
longer_monotone k false ns n e = omega (arith, one_more ns n, when_less (length (ns ++ n ∷ [])) (length ns) e)

longer_strict : (k : ℕ) (b : Bool) (ns : List ℕ) (n : ℕ) → IsPreferred (simseqs k) (Some (symbols ns)) (longer b ns n)
longer_strict k true ns n = refl
longer_strict k false ns n = less (length ns) (length (ns ++ n ∷ [])) (omega (arith, one_more ns n))

longer_cancellative : (k : ℕ) (b c : Bool) (ls ms : List ℕ) (n : ℕ) → AreEquivalent (simseqs k) (longer b ls n) (longer c ms n) → length ls ≡ length ms
longer_cancellative k false false ls ms n h = omega (arith, one_more ls n, one_more ms n, when_alike (length (ls ++ n ∷ [])) (length (ms ++ n ∷ [])) h)
longer_cancellative k true c ls ms n h = absurd h
longer_cancellative k false true ls ms n h = absurd h

was_longer : (b : Bool) (ns : List ℕ) (n : ℕ) (w : PureValue) → longer b ns n ≡ Some w → (b ≡ false) × (w ≡ symbols (ns ++ n ∷ []))
was_longer true ns n w e = absurd (cc)
was_longer false ns n w e = (refl, cc)

-- where there is one symbol, a sequence without it is empty
empty : (k n : ℕ) (ns : List ℕ) → k ≡ 1 → n < k → AllByRecursion (λ n. n < k) ns → has n ns ≡ false → ns ≡ []
empty k n [] e below a h = refl
empty k n (m ∷ ms) e below a h =
    let z : m ≡ n = omega (arith, a.0) in
    let t : (m == n) ≡ true = rw z (tests_same n) in
    absurd (let f : true ≡ false = rw t at h in cc)

-- and its image is better than none alone
alone_isotone : (k n : ℕ) (ls ms : List ℕ) (b c : Bool) → (c ≡ false → ms ≡ []) → (ls ≡ [] → b ≡ false) → length ls ≤ length ms
    → ¬ IsPreferred (simseqs k) (longer c ms n) (longer b ls n)
alone_isotone k n ls ms true true i j h e = cc
alone_isotone k n ls ms false true i j h e = cc
alone_isotone k n [] ms true false i j h e = let f = j refl in cc
alone_isotone k n (l ∷ ls) ms true false i j h e = let f : length ms ≡ 0 = rw (i refl) refl in omega (arith, f)
alone_isotone k n ls ms false false i j h e = omega (arith, one_more ls n, one_more ms n, when_less (length (ms ++ n ∷ [])) (length (ls ++ n ∷ [])) e)

below_by : (b : Bool) (k n : ℕ) → (n == 0) ≡ b → ¬ (k ≡ 1) → n < k → (if b then 1 else 0) < k
below_by true k n z e below = omega (arith, e)
below_by false k n z e below = omega arith

other_is_below : (k n : ℕ) → (k == 1) ≡ false → n < k → other_symbol n < k
other_is_below k n e below = below_by (n == 0) k n refl (other k 1 e) below

other_by : (b : Bool) (n : ℕ) → (n == 0) ≡ b → ((if b then 1 else 0) == n) ≡ false
other_by true n z = tests_other 1 n (λ e. omega (arith, e, same n 0 z))
other_by false n z = tests_other 0 n (λ e. omega (arith, e, positive n z))

is_other : (n : ℕ) → (other_symbol n == n) ≡ false
is_other n = other_by (n == 0) n refl

-- the image of the label's own symbol, and of another's
own_gone : (k n : ℕ) → joins k n (symbols (n ∷ [])) ≡ None
own_gone k n = rw (tests_same n) refl

other_kept : (k n o : ℕ) → (o == n) ≡ false → joins k n (symbols (o ∷ [])) ≡ Some (symbols (o ∷ n ∷ []))
other_kept k n o e = rw e refl

abbrev simple_witness : ℕ → Witness
simple_witness n = sequence_witness n (other_symbol n)

pub simseq_stated : (k n : ℕ) → n < k → Reported (simseqs k) (joins k n) (simseq_profile k) (simple_witness n)
simseq_stated k n below = on_all (λ j. Reports (simseqs k) (joins k n) j (bit (simseq_profile k) j) (simple_witness n j))
    (never (((below, tt), refl), own_gone k n))
    (never ((tt, refl), (symbols (n ∷ []), refl)))
    (always (on_simple k (λ v. ¬ IsPreferred (simseqs k) (joins k n v) (Some v)) (λ ns a. longer_monotone k (has n ns) ns n)))
    (always (on_simple k (λ v. IsPreferred (simseqs k) (Some v) (joins k n v)) (λ ns a. longer_strict k (has n ns) ns n))) (
      λ e. on_two_simple k (λ u v. ¬ IsPreferred (simseqs k) (Some v) (Some u) → ¬ IsPreferred (simseqs k) (joins k n v) (joins k n u))
          (λ ls ms a b h. alone_isotone k n ls ms (has n ls) (has n ms) (empty k n ms (same k 1 e) below b) (λ z. rw z refl) (not_below (length ms) (length ls) h)),
      λ e. (
        (((below, tt), refl), ((other_is_below k n e below, tt), refl)),
        (
          not_less_itself 1,
          subst (λ p. IsPreferred (simseqs k) (joins k n (symbols (other_symbol n ∷ []))) p) (sym (own_gone k n))
              (subst (λ p. IsPreferred (simseqs k) p None) (sym (other_kept k n (other_symbol n) (is_other n))) refl),
        ),
      ),
    )
    (always (on_two_simple k (λ u v. AreEquivalent (simseqs k) (joins k n u) (joins k n v) → AreEquivalent (simseqs k) (Some u) (Some v))
    (λ ls ms a b h. alike (length ls) (length ms) (longer_cancellative k (has n ls) (has n ms) ls ms n h)))) (
      λ e u v w x i j g h. on_two_simple k (λ u v. joins k n u ≡ Some w → joins k n v ≡ Some x → Order (simseqs k) w x ≡ Equal)
          (λ ls ms a b g h.
          let p = was_longer (has n ls) ls n w g in
          let q = was_longer (has n ms) ms n x h in
          let y = empty k n ls (same k 1 e) below a p.0 in
          let z = empty k n ms (same k 1 e) below b q.0 in
          subst (λ o. Order (simseqs k) o x ≡ Equal) (sym p.1) (subst (λ o. Order (simseqs k) (symbols (ls ++ n ∷ [])) o ≡ Equal) (sym q.1)
          (alike (length (ls ++ n ∷ [])) (length (ms ++ n ∷ [])) (rw (y, z) refl))))
          u v i j g h,
      λ e. (
        ((tt, refl), ((other_is_below k n e below, tt), refl)),
        (symbols (n ∷ []), symbols (other_symbol n ∷ n ∷ []), refl, other_kept k n (other_symbol n) (is_other n), less 1 2 (omega arith)),
      ),
    ) (
      λ e u v w x i j g h. on_two_simple k (λ u v. joins k n u ≡ Some w → joins k n v ≡ Some x → Order (simseqs k) u v ≡ Equal)
          (λ ls ms a b g h.
          let y = empty k n ls (same k 1 e) below a (was_longer (has n ls) ls n w g).0 in
          let z = empty k n ms (same k 1 e) below b (was_longer (has n ms) ms n x h).0 in
          alike (length ls) (length ms) (rw (y, z) refl))
          u v i j g h,
      λ e. (
        ((tt, refl), ((other_is_below k n e below, tt), refl)),
        (symbols (n ∷ []), symbols (other_symbol n ∷ n ∷ []), refl, other_kept k n (other_symbol n) (is_other n), less 0 1 (omega arith)),
      ),
    )
