-- What is sent on which arc: a message to all that listen to a node stands once on each arc that it speaks on. Lemmas,
-- so that proofs of other crates may cite them.
use Rattle.std.proofs.Common.{◌≡◌, ℕ, zero, suc, ◌+◌, ◌<◌, ◌≤◌, List, [], ◌∷◌, Bool, true, false, length, filter, cond, slice_get, Option, Some, None, option_map, refl, sym, ap, ◌∙◌, arith}
use Rattle.std.specs.Prelude.{◌==◌}
use Rattle.std.specs.List.{AllByRecursion}
use Rattle.std.specs.Option.{option_map_or}
use Rattle.std.proofs.lemmas.Bool.{eqb-true}
use Rattle.std.proofs.lemmas.Bool.Decides.{nat_tests}
use Rattle.net_graph.specs.Nets.{PureArc, PureNet, IsNet, AreNumbered, arcs_to}
use Rattle.node_core.specs.Kinds.{on_arc, speaker}
use Rattle.flood_node.specs.Cards.{PureFlooded}
use Rattle.flood_node.specs.Node.{reported_on}

-- the node speaks on the arc
abbrev pub speaks : PureNet → ℕ → ℕ → Bool
speaks net i b = option_map_or (λ j. j == i) (speaker net b) false

-- the arc at a place leads to the node
abbrev pub leads_to : ℕ → List PureArc → ℕ → Bool
leads_to i arcs k = option_map_or (λ (a : PureArc). a.head == i) (slice_get arcs k) false

abbrev pub heard_by : ℕ → List PureArc → List PureArc
heard_by i arcs = filter (λ (a : PureArc). a.head == i) arcs

-- nothing is sent on an arc of a lower number
reported_early : (n b i : ℕ) (arcs : List PureArc) (m : PureFlooded) → AreNumbered n arcs → b < n → on_arc b (reported_on (heard_by i arcs) m) ≡ []
reported_early n b i [] m h l = refl
reported_early n b i (a ∷ arcs) m h l = by (a.head == i) (reported_early (n + 1) b i arcs m h.1 (omega arith))
  where
    other : (a.id == b) ≡ false
    other = let e : a.id ≡ n = h.0 in grind (arith, nat_tests)

    by : (t : Bool) → on_arc b (reported_on (heard_by i arcs) m) ≡ [] → on_arc b (reported_on (cond t (a ∷ heard_by i arcs) (heard_by i arcs)) m) ≡ []
    by true r = rw other r
    by false r = r

reported_at : (n k b i : ℕ) (arcs : List PureArc) (m : PureFlooded) → AreNumbered n arcs → b ≡ n + k → on_arc b (reported_on (heard_by i arcs) m) ≡ cond (leads_to i arcs k) (m ∷ []) []
reported_at n k b i [] m h e = refl
reported_at n zero b i (a ∷ arcs) m h e = by (a.head == i) (reported_early (n + 1) b i arcs m h.1 (omega (arith, e)))
  where
    itself : (a.id == b) ≡ true
    itself = let first : a.id ≡ n = h.0 in grind (arith, nat_tests)

    by : (t : Bool) → on_arc b (reported_on (heard_by i arcs) m) ≡ [] → on_arc b (reported_on (cond t (a ∷ heard_by i arcs) (heard_by i arcs)) m) ≡ cond t (m ∷ []) []
    by true r = rw (itself, r) refl
    by false r = r
reported_at n (suc k) b i (a ∷ arcs) m h e = by (a.head == i) (reported_at (n + 1) k b i arcs m h.1 (omega (arith, e)))
  where
    other : (a.id == b) ≡ false
    other = let first : a.id ≡ n = h.0 in grind (arith, nat_tests)

    by : (t : Bool) → on_arc b (reported_on (heard_by i arcs) m) ≡ cond (leads_to i arcs k) (m ∷ []) [] → on_arc b (reported_on (cond t (a ∷ heard_by i arcs) (heard_by i arcs)) m) ≡ cond (leads_to i arcs k) (m ∷ []) []
    by true r = rw other r
    by false r = r

leads_is_speaks : (net : PureNet) (i b : ℕ) → leads_to i net.arcs b ≡ speaks net i b
leads_is_speaks net i b = by (slice_get net.arcs b)
  where
    by : (o : Option PureArc) → option_map_or (λ (a : PureArc). a.head == i) o false ≡ option_map_or (λ j. j == i) (option_map (λ (a : PureArc). a.head) o) false
    by None = refl
    by (Some a) = refl

-- a message to all listeners of a node is put once on each arc that it speaks on, and on no other
pub reported_once : (net : PureNet) (i b : ℕ) (m : PureFlooded) → IsNet net → on_arc b (reported_on (arcs_to net i) m) ≡ cond (speaks net i b) (m ∷ []) []
reported_once net i b m n = reported_at 0 b b i net.arcs m n.arc_ids (omega arith) ∙ ap (λ t. cond t (m ∷ []) []) (leads_is_speaks net i b)

pub reported_few : (net : PureNet) (i b : ℕ) (m : PureFlooded) → IsNet net → length (on_arc b (reported_on (arcs_to net i) m)) ≤ 1
reported_few net i b m n = rw (reported_once net i b m n) (by (speaks net i b))
  where
    by : (t : Bool) → length {A = PureFlooded} (cond t (m ∷ []) []) ≤ 1
    by true = omega arith
    by false = omega arith

-- whatever holds of a message holds of each that is sent
pub reported_all : (P : PureFlooded → Type 0) (arcs : List PureArc) (m : PureFlooded) → P m → AllByRecursion (λ (q : ℕ × PureFlooded). P q.1) (reported_on arcs m)
reported_all P [] m h = tt
reported_all P (a ∷ arcs) m h = (h, reported_all P arcs m h)

spoken_from : (net : PureNet) (i n : ℕ) (arcs : List PureArc) (m : PureFlooded) → AreNumbered n arcs → ((k : ℕ) → slice_get arcs k ≡ slice_get net.arcs (n + k))
    → AllByRecursion (λ (q : ℕ × PureFlooded). speaker net q.0 ≡ Some i) (reported_on (heard_by i arcs) m)
spoken_from net i n [] m h at = tt
spoken_from net i n (a ∷ arcs) m h at = by (a.head == i) refl (spoken_from net i (n + 1) arcs m h.1 next)
  where
    next : (k : ℕ) → slice_get arcs k ≡ slice_get net.arcs (n + 1 + k)
    next k = let one : n + suc k ≡ n + 1 + k = omega arith in at (suc k) ∙ ap (slice_get net.arcs) one

    stands : slice_get net.arcs a.id ≡ Some a
    stands =
        let first : a.id ≡ n + 0 = let e : a.id ≡ n = h.0 in omega (arith, e) in
        ap (slice_get net.arcs) first ∙ sym (at 0)

    by : (t : Bool) → (a.head == i) ≡ t → AllByRecursion (λ (q : ℕ × PureFlooded). speaker net q.0 ≡ Some i) (reported_on (heard_by i arcs) m)
        → AllByRecursion (λ (q : ℕ × PureFlooded). speaker net q.0 ≡ Some i) (reported_on (cond t (a ∷ heard_by i arcs) (heard_by i arcs)) m)
    by true e r = (rw (stands, eqb-true a.head i e) refl, r)
    by false e r = r

-- a node speaks on the arcs on which it tells
pub reported_by_speaker : (net : PureNet) (i : ℕ) (m : PureFlooded) → IsNet net → AllByRecursion (λ (q : ℕ × PureFlooded). speaker net q.0 ≡ Some i) (reported_on (arcs_to net i) m)
reported_by_speaker net i m n = spoken_from net i 0 net.arcs m n.arc_ids (λ k. let same : k ≡ 0 + k = omega arith in ap (slice_get net.arcs) same)
