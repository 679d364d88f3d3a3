-- Hops of rows, one arc and one node after the other.
use Rattle.std.proofs.Common.{◌≡◌, ℕ, ◌+◌, ◌<◌, zero, suc, List, [], ◌∷◌, ◌++◌, Bool, true, false, cond, map, take, filter, length, append-nil, Some, refl, sym, ap, ◌∙◌, subst, arith}
use Rattle.std.specs.List.{slice_get}
use Rattle.std.proofs.Math.Seq.{take-length}
use Rattle.std.proofs.lemmas.List.{map-append}
use Rattle.net_graph.specs.Nets.{PureArc, PureNet}
use Rattle.net_graph.specs.Tables.{PureRow, carrier, value_at}
use Rattle.net_graph.specs.Views.{rows_of}
use Rattle.net_graph.specs.Walks.{along}
use Rattle.net_graph.specs.declared.route.DestTable.{DestTable}
use Rattle.report_check.specs.Hops.{PureHops, are_equivalent, hops_at, hops_from, is_hop}

filter_next : {X : Type 0} (p : X → Bool) (xs : List X) (m : ℕ) (x : X) → slice_get xs m ≡ Some x → filter p (take (suc m) xs) ≡ filter p (take m xs) ++ cond (p x) (x ∷ []) []
filter_next p [] m x e = absurd (cc)
filter_next {X} p (y ∷ ys) zero x e = let same : y ≡ x = cc in rw same (by ys (p x))
  where
    by : (ys : List X) (b : Bool) → cond b (x ∷ filter p (take 0 ys)) (filter p (take 0 ys)) ≡ cond b (x ∷ []) []
    by [] true = refl
    by [] false = refl
    by (z ∷ zs) true = refl
    by (z ∷ zs) false = refl
filter_next p (y ∷ ys) (suc m) x e = by (filter_next p ys m x e) (p y) refl
  where
    by : filter p (take (suc m) ys) ≡ filter p (take m ys) ++ cond (p x) (x ∷ []) [] → (b : Bool) → p y ≡ b → filter p (take (suc (suc m)) (y ∷ ys)) ≡ filter p (take (suc m) (y ∷ ys)) ++ cond (p x) (x ∷ []) []
    by rest true h = rw (h, rest) refl
    by rest false h = rw h rest

filter_more : {X : Type 0} (p : X → Bool) (xs : List X) (m : ℕ) (x : X) → slice_get xs m ≡ Some x → filter p (take (m + 1) xs) ≡ filter p (take m xs) ++ cond (p x) (x ∷ []) []
filter_more p xs m x e =
    let more : m + 1 ≡ suc m = omega arith in
    rw more (filter_next p xs m x e)

-- the heads so far, with an arc that passes and with one that doesn't
pub heads_more : (p : PureArc → Bool) (arcs : List PureArc) (m : ℕ) (a : PureArc) (heads : List ℕ) → slice_get arcs m ≡ Some a → p a ≡ true
    → heads ≡ map (λ (b : PureArc). b.head) (filter p (take m arcs)) → heads ++ a.head ∷ [] ≡ map (λ (b : PureArc). b.head) (filter p (take (m + 1) arcs))
heads_more p arcs m a heads at passes e =
    rw (filter_more p arcs m a at, passes, e) (sym (map-append (λ (b : PureArc). b.head) (filter p (take m arcs)) (a ∷ [])))

pub heads_same : (p : PureArc → Bool) (arcs : List PureArc) (m : ℕ) (a : PureArc) (heads : List ℕ) → slice_get arcs m ≡ Some a → p a ≡ false
    → heads ≡ map (λ (b : PureArc). b.head) (filter p (take m arcs)) → heads ≡ map (λ (b : PureArc). b.head) (filter p (take (m + 1) arcs))
heads_same p arcs m a heads at fails e =
    rw (filter_more p arcs m a at, fails, map-append (λ (b : PureArc). b.head) (filter p (take m arcs)) []) (e ∙ sym (append-nil (map (λ (b : PureArc). b.head) (filter p (take m arcs)))))

pub heads_all : (p : PureArc → Bool) (arcs : List PureArc) (m : ℕ) (heads : List ℕ) → m ≡ length arcs
    → heads ≡ map (λ (b : PureArc). b.head) (filter p (take m arcs)) → heads ≡ map (λ (b : PureArc). b.head) (filter p arcs)
heads_all p arcs m heads all e =
    let whole : take m arcs ≡ arcs = rw all (take-length arcs) in
    e ∙ ap (λ (xs : List PureArc). map (λ (b : PureArc). b.head) (filter p xs)) whole

-- the rows so far, with one more
hops_next : (net : PureNet) (dest : ℕ) (t : List PureRow) (i : ℕ) (rows : List PureRow) (m : ℕ) → m < length rows → hops_from net dest t i (take (suc m) rows) ≡ hops_from net dest t i (take m rows) ++ hops_at net dest t (i + m) ∷ []
hops_next net dest t i [] m l = absurd (omega arith)
hops_next net dest t i (row ∷ rows) zero l =
    let here : i + 0 ≡ i = omega arith in
    rw here (by rows)
  where
    by : (rows : List PureRow) → hops_at net dest t i ∷ hops_from net dest t (i + 1) (take 0 rows) ≡ hops_at net dest t i ∷ []
    by [] = refl
    by (x ∷ xs) = refl
hops_next net dest t i (row ∷ rows) (suc m) l =
    let there : (i + 1) + m ≡ i + suc m = omega arith in
    let rest = hops_next net dest t (i + 1) rows m (omega arith) in
    ap (λ (hs : List PureHops). hops_at net dest t i ∷ hs) (rw there at rest)

pub hops_more : (net : PureNet) (dest : ℕ) (t rows : List PureRow) (m : ℕ) → m < length rows → hops_from net dest t 0 (take (m + 1) rows) ≡ hops_from net dest t 0 (take m rows) ++ hops_at net dest t m ∷ []
hops_more net dest t rows m l =
    let more : m + 1 ≡ suc m = omega arith in
    let here : 0 + m ≡ m = omega arith in
    rw more (rw here at (hops_next net dest t 0 rows m l))

pub hops_all : (net : PureNet) (dest : ℕ) (t rows : List PureRow) (m : ℕ) (many : List PureHops) → m ≡ length rows → many ≡ hops_from net dest t 0 (take m rows) → many ≡ hops_from net dest t 0 rows
hops_all net dest t rows m many all e =
    let whole : take m rows ≡ rows = rw all (take-length rows) in
    e ∙ ap (hops_from net dest t 0) whole

-- no row of a table that isn't there
pub hops_none : (net : PureNet) (dest : ℕ) (t rows : List PureRow) → [] ≡ hops_from net dest t 0 (take 0 rows)
hops_none net dest t [] = refl
hops_none net dest t (x ∷ xs) = refl

pub heads_none : (p : PureArc → Bool) (arcs : List PureArc) → [] ≡ map (λ (b : PureArc). b.head) (filter p (take 0 arcs))
heads_none p [] = refl
heads_none p (a ∷ arcs) = refl

-- the test of the arc, by its nodes
pub hop_test : (net : PureNet) (rows : List PureRow) (i j : ℕ) (a : PureArc) (b : Bool) → a.tail ≡ i → j ≡ a.head → b ≡ are_equivalent (carrier net) (along net i j (value_at rows j)) (value_at rows i) → b ≡ is_hop net rows a
hop_test net rows i j a b e f h = rw (e, ← f) h

-- the hops of one table of a network are those of another form of both
pub hops_same : (net other : PureNet) (t u : DestTable) (i : ℕ) (h : PureHops) → net ≡ other → t ≡ u → h ≡ hops_at net t.dest.0 (rows_of t) i → h ≡ hops_at other u.dest.0 (rows_of u) i
hops_same net other t u i h e f g = subst (λ (n : PureNet). h ≡ hops_at n u.dest.0 (rows_of u) i) e (subst (λ (x : DestTable). h ≡ hops_at net x.dest.0 (rows_of x) i) f g)
