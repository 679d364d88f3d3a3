-- The code of an order means the order.
use Rattle.std.proofs.Common.{◌≡◌, ℕ, ◌+◌, ◌<◌, ◌==◌, List, [], ◌∷◌, ◌++◌, length, Bool, true, false, ◌&&◌, Option, Some, refl, sym, ap, ◌∙◌, arith}
use Rattle.std.specs.Prelude.{nat_lt, slice_index}
use Rattle.std.specs.Ordering.{nat_cmp, ordering_then}
use Rattle.std.specs.declared.cmp.Ordering.{Ordering}
use Rattle.std.specs.declared.cmp.Ordering.TheVariants.{Less, Equal, Greater}
use Rattle.std.proofs.lemmas.Bool.Decides.{nat_tests}
use Rattle.std.proofs.lemmas.List.{append_assoc, append-nil}
use Rattle.std.proofs.Math.Seq.{drop-append_seam}
use Rattle.alg_model.specs.Expressions.{PureCarrier, whole, up_to, down_from, seqs, simseqs, sets, one, named, pairs, sides}
use Rattle.alg_model.specs.Expressions.{PureValue, number, symbols, marks, unit, name, pair, first, second}
use Rattle.alg_model.specs.Carriers.{In, Order}
use Rattle.alg_model.specs.Formation.{IsCarrier, is_table_count, are_ranks, are_named, are_values}
use Rattle.label_code.specs.declared.operations.OrdOp.{OrdOp}
use Rattle.label_code.specs.declared.operations.OrdOp.TheVariants as ord
use Rattle.label_code.specs.Orders.{by_words, found, compare_over, RunOrder}
use Rattle.label_code.specs.CodeLaws.{leap_past}
use Rattle.code_gen.specs.Encoding.{Enc}
use Rattle.code_gen.specs.EncodingLaws.{length_fits}
use Rattle.code_gen.specs.Compilation.{CompileOrder}
use Rattle.code_gen.specs.Meaning.{CodeMeansOrder}

-- decided, or what the rest decides where the two are equivalent
abbrev then_rest : Ordering → Option Ordering → Option Ordering
then_rest Less rest = Some Less
then_rest Greater rest = Some Greater
then_rest Equal rest = rest

-- the law for a carrier: more code and longer rows may follow
abbrev Means : PureCarrier → Type 0
Means c = (u v : PureValue) (code : List OrdOp) (x y : List ℕ) → In c u → In c v
    → RunOrder (CompileOrder c ++ code) (Enc u ++ x) (Enc v ++ y) ≡ then_rest (Order c u v) (RunOrder code x y)

same_order : (c d : List OrdOp) (v w x y : List ℕ) → c ≡ d → v ≡ w → x ≡ y → RunOrder c v x ≡ RunOrder d w y
same_order c d v w x y e f g = ap (λ k. RunOrder k v x) e ∙ ap (λ r. RunOrder d r x) f ∙ ap (λ r. RunOrder d w r) g

-- decided by words
worded : (o : Ordering) (code : List OrdOp) (x y : List ℕ) → found (by_words o x y) (λ jump v w. compare_over jump code v w) ≡ then_rest o (RunOrder code x y)
worded Less code x y = refl
worded Greater code x y = refl
worded Equal code x y = refl

-- of two parts
then_both : (o p : Ordering) (rest : Option Ordering) → then_rest o (then_rest p rest) ≡ then_rest (ordering_then o p) rest
then_both Less p rest = refl
then_both Greater p rest = refl
then_both Equal p rest = refl

seq_means : (ms ns : List ℕ) (code : List OrdOp) (x y : List ℕ)
    → RunOrder (ord.Length ∷ code) (length ms ∷ (ms ++ x)) (length ns ∷ (ns ++ y)) ≡ then_rest (nat_cmp (length ms) (length ns)) (RunOrder code x y)
seq_means ms ns code x y =
    rw (length_fits ms x, length_fits ns y, drop-append_seam ms x, drop-append_seam ns y) (worded (nat_cmp (length ms) (length ns)) code x y)

named_means : (names : List (List ℕ)) (ranks : List ℕ) → length ranks ≡ length names → Means (named names ranks)
named_means names ranks e (name j) (name k) code x y h i =
    rw (within j h, within k i) (worded (nat_cmp (slice_index ranks j) (slice_index ranks k)) code x y)
  where
    within : (k : ℕ) → k < length names → nat_lt k (length ranks) ≡ true
    within k h = grind (arith, nat_tests)
named_means names ranks e (name j) _ code x y h i = absurd i
named_means names ranks e _ v code x y h i = absurd h

-- a leap over the end of a choice's second side
leapt : (d code : List OrdOp) (x y : List ℕ) → RunOrder (ord.Leap (length d) ∷ (d ++ code)) x y ≡ RunOrder code x y
leapt d code x y = let e : length d + 0 ≡ length d = omega arith in rw e at (leap_past d code 0 x y)

-- a choice reads as its parts, where more code follows
choice_then : (c d code : List OrdOp) → (ord.Sides (length c + 1) ∷ c ++ ord.Leap (length d) ∷ d) ++ code ≡ ord.Sides (length c + 1) ∷ (c ++ (ord.Leap (length d) ∷ (d ++ code)))
choice_then c d code = ap (λ k. ord.Sides (length c + 1) ∷ k) (append_assoc c (ord.Leap (length d) ∷ d) code)

pairs_mean : (c d : PureCarrier) → Means c → Means d → Means (pairs c d)
pairs_mean c d f g (pair u v) (pair p q) code x y h i =
    same_order _ _ _ _ _ _ (append_assoc (CompileOrder c) (CompileOrder d) code) (append_assoc (Enc u) (Enc v) x) (append_assoc (Enc p) (Enc q) y)
    ∙ f u p (CompileOrder d ++ code) (Enc v ++ x) (Enc q ++ y) h.0 i.0
    ∙ ap (then_rest (Order c u p)) (g v q code x y h.1 i.1)
    ∙ then_both (Order c u p) (Order d v q) (RunOrder code x y)
pairs_mean c d f g (pair u v) _ code x y h i = absurd i
pairs_mean c d f g _ v code x y h i = absurd h

sides_mean : (c d : PureCarrier) → Means c → Means d → Means (sides c d)
sides_mean c d f g (first u) (first p) code x y h i =
    same_order _ _ (0 ∷ (Enc u ++ x)) _ (0 ∷ (Enc p ++ y)) _ (choice_then (CompileOrder c) (CompileOrder d) code) refl refl
    ∙ f u p (ord.Leap (length (CompileOrder d)) ∷ (CompileOrder d ++ code)) x y h i
    ∙ ap (then_rest (Order c u p)) (leapt (CompileOrder d) code x y)
sides_mean c d f g (first u) (second q) code x y h i = refl
sides_mean c d f g (first u) _ code x y h i = absurd i
sides_mean c d f g (second v) (first p) code x y h i = refl
sides_mean c d f g (second v) (second q) code x y h i =
    same_order _ _ (1 ∷ (Enc v ++ x)) _ (1 ∷ (Enc q ++ y)) _ (choice_then (CompileOrder c) (CompileOrder d) code) refl refl
    ∙ leap_past (CompileOrder c) (ord.Leap (length (CompileOrder d)) ∷ (CompileOrder d ++ code)) 1 (Enc v ++ x) (Enc q ++ y)
    ∙ g v q code x y h i
sides_mean c d f g (second v) _ code x y h i = absurd i
sides_mean c d f g _ v code x y h i = absurd h

-- both of two tests hold
both_hold : (a b : Bool) → (a && b) ≡ true → (a ≡ true) × (b ≡ true)
both_hold true b h = (refl, h)
both_hold false b h = absurd (cc)

-- a table's values have a rank each
ranks_fit : (a b c d : Bool) → (a && b && c && d) ≡ true → b ≡ true
ranks_fit a b c d h = (both_hold a b (both_hold (a && b) c (both_hold (a && b && c) d h).0).0).1

ranked : (names : List (List ℕ)) (ranks : List ℕ) → are_values names ranks ≡ true → length ranks ≡ length names
ranked names ranks h = same (ranks_fit (is_table_count (length names)) (length ranks == length names) (are_ranks ranks) (are_named (λ name. name) names) h)
  where
    same : (length ranks == length names) ≡ true → length ranks ≡ length names
    same h = grind (arith, nat_tests)

means : (c : PureCarrier) → IsCarrier c → Means c
means whole f (number m) (number n) code x y h i = worded (nat_cmp m n) code x y
means whole f (number m) _ code x y h i = absurd i
means whole f _ v code x y h i = absurd h
means (up_to top) f (number m) (number n) code x y h i = worded (nat_cmp m n) code x y
means (up_to top) f (number m) _ code x y h i = absurd i
means (up_to top) f _ v code x y h i = absurd h
means (down_from top) f (number m) (number n) code x y h i = worded (nat_cmp n m) code x y
means (down_from top) f (number m) _ code x y h i = absurd i
means (down_from top) f _ v code x y h i = absurd h
means (seqs k) f (symbols ms) (symbols ns) code x y h i = seq_means ms ns code x y
means (seqs k) f (symbols ms) _ code x y h i = absurd i
means (seqs k) f _ v code x y h i = absurd h
means (simseqs k) f (symbols ms) (symbols ns) code x y h i = seq_means ms ns code x y
means (simseqs k) f (symbols ms) _ code x y h i = absurd i
means (simseqs k) f _ v code x y h i = absurd h
means (sets k) f (marks m) (marks n) code x y h i = refl
means (sets k) f (marks m) _ code x y h i = absurd i
means (sets k) f _ v code x y h i = absurd h
means one f unit unit code x y h i = refl
means one f unit _ code x y h i = absurd i
means one f _ v code x y h i = absurd h
means (named names ranks) f u v code x y h i = named_means names ranks (ranked names ranks f) u v code x y h i
means (pairs c d) f u v code x y h i = pairs_mean c d (means c f.0) (means d f.1) u v code x y h i
means (sides c d) f u v code x y h i = sides_mean c d (means c f.0) (means d f.1) u v code x y h i

-- where nothing follows
last_order : (o : Ordering) → then_rest o (Some Equal) ≡ Some o
last_order Less = refl
last_order Greater = refl
last_order Equal = refl

pub code_means_order : (c : PureCarrier) → IsCarrier c → CodeMeansOrder c
code_means_order c f u v h i =
    sym (same_order _ _ _ _ _ _ (append-nil (CompileOrder c)) (append-nil (Enc u)) (append-nil (Enc v)))
    ∙ means c f u v [] [] [] h i
    ∙ last_order (Order c u v)
