-- Neighbours of which nothing was heard.
use Rattle.std.proofs.Common.{◌≡◌, ℕ, suc, ◌*◌, ◌<◌, ◌≤◌, ◌^◌, ◌==◌, List, [], ◌∷◌, ◌++◌, Bool, true, false, cond, length, map, subst, Some, None, refl, sym, ap, ◌∙◌, arith}
use Rattle.std.specs.Prelude.{filter, find, option_map, option_and_then, IfOk, Result, Ok, Err}
use Rattle.std.proofs.Math.ListN.{take}
use Rattle.std.proofs.Math.Nat.{mul-le-mul}
use Rattle.alg_model.specs.Expressions.{PureLabel, PureValue}
use Rattle.net_graph.specs.Nets.{PureArc, PureNet, IsNet, arcs_from}
use Rattle.net_graph.specs.Routes.{PureRoute}
use Rattle.net_graph.specs.declared.limits.TheConstants.{MAX_ARCS, MOST_DESTS}
use Rattle.path_vector.specs.Columns.{AreSilent, IsSilent}
use Rattle.path_vector.specs.Known.{entry_of, heard_by, known_route, AreNeighbours, IsNeighbour, Listened}
use Rattle.path_vector.specs.declared.neighbour.Neighbour.{Neighbour}
use Rattle.path_vector.proofs.Choices.{take_whole}

-- neighbours at these arcs, with their labels
abbrev pub AreAt : {L : Type 0} → (L → PureLabel → Type 0) → List PureArc → List (Neighbour L) → Type 0
AreAt stands_for [] [] = Unit {0}
AreAt stands_for (a ∷ arcs) (n ∷ ns) = (n.arc.0 ≡ a.id) × stands_for n.label a.label × AreAt stands_for arcs ns
AreAt stands_for [] (n ∷ ns) = ⊥
AreAt stands_for (a ∷ arcs) [] = ⊥

pub at_more : {L : Type 0} (stands_for : L → PureLabel → Type 0) (arcs : List PureArc) (ns : List (Neighbour L)) (a : PureArc) (n : Neighbour L) → AreAt stands_for arcs ns → n.arc.0 ≡ a.id → stands_for n.label a.label
    → AreAt stands_for (arcs ++ a ∷ []) (ns ++ n ∷ [])
at_more stands_for [] [] a n are e l = (e, l, tt)
at_more stands_for [] (m ∷ ns) a n are e l = absurd are
at_more stands_for (b ∷ arcs) [] a n are e l = absurd are
at_more stands_for (b ∷ arcs) (m ∷ ns) a n are e l = (are.0, are.1, at_more stands_for arcs ns a n are.2 e l)

-- once all arcs are done
pub at_end : {L : Type 0} (stands_for : L → PureLabel → Type 0) (all : List PureArc) (k : ℕ) → length all ≤ k → (ns : List (Neighbour L)) → AreAt stands_for (take k all) ns → AreAt stands_for all ns
at_end stands_for all k past ns are = subst (λ z. AreAt stands_for z ns) (take_whole all k past) are

as_many : {L : Type 0} (stands_for : L → PureLabel → Type 0) (arcs : List PureArc) (ns : List (Neighbour L)) → AreAt stands_for arcs ns → length ns ≡ length arcs
as_many stands_for [] [] are = refl
as_many stands_for [] (n ∷ ns) are = absurd are
as_many stands_for (a ∷ arcs) [] are = absurd are
as_many stands_for (a ∷ arcs) (n ∷ ns) are = ap (λ z. suc z) (as_many stands_for arcs ns are.2)

fewer : {X : Type 0} (p : X → Bool) (xs : List X) → length (filter p xs) ≤ length xs
fewer p [] = omega arith
fewer p (x ∷ xs) = by (p x) (fewer p xs)
  where
    by : (b : Bool) → length (filter p xs) ≤ length xs → length (cond b (x ∷ filter p xs) (filter p xs)) ≤ length (x ∷ xs)
    by true more = omega arith
    by false more = omega arith

-- their entries for all destinations can be counted
pub store_fits : {L : Type 0} (stands_for : L → PureLabel → Type 0) (net : PureNet) (i dests : ℕ) (ns : List (Neighbour L)) → IsNet net → dests ≤ MOST_DESTS → AreAt stands_for (arcs_from net i) ns → dests * length ns < 2 ^ 64
store_fits stands_for net i dests ns n few are =
    let arcs : length (arcs_from net i) ≤ length net.arcs = fewer (λ (a : PureArc). a.tail == i) net.arcs in
    let room : length net.arcs ≤ MAX_ARCS = n.arc_room in
    let many = as_many stands_for (arcs_from net i) ns are in
    let least : length ns ≤ MAX_ARCS = omega arith in
    let most : dests * length ns ≤ MOST_DESTS * MAX_ARCS = mul-le-mul few least in
    omega arith

module _ {L S : Type 0} (stands_for : L → PureLabel → Type 0) (is_sig : S → Type 0) (value : S → PureValue) (net : PureNet) where
  silent_is : (a : PureArc) (n : Neighbour L) (m : Listened L S) → n.arc.0 ≡ a.id → stands_for n.label a.label → IsSilent (length net.dests) n m → IsNeighbour stands_for is_sig value net a m
  silent_is a n m e l is =
      record {
        arc = ap (λ z. z.0) is.arc ∙ e;
        label = rw is.label l;
        count = is.count;
        known = λ dest x f. absurd (let h : None ≡ Some x = sym (is.none dest) ∙ f in cc);
      }

  pub silent_are : (arcs : List PureArc) (ns : List (Neighbour L)) (ms : List (Listened L S)) → AreAt stands_for arcs ns → AreSilent (length net.dests) ns ms → AreNeighbours stands_for is_sig value net arcs ms
  silent_are [] [] [] are silent = tt
  silent_are [] [] (m ∷ ms) are silent = absurd silent
  silent_are [] (n ∷ ns) ms are silent = absurd are
  silent_are (a ∷ arcs) [] ms are silent = absurd are
  silent_are (a ∷ arcs) (n ∷ ns) [] are silent = absurd silent
  silent_are (a ∷ arcs) (n ∷ ns) (m ∷ ms) are silent = (silent_is a n m are.0 are.1 silent.0, silent_are arcs ns ms are.2 silent.1)

pub silent_nothing : {L S : Type 0} (value : S → PureValue) (dests : ℕ) (ns : List (Neighbour L)) (ms : List (Listened L S)) → AreSilent dests ns ms → (a dest : ℕ) → heard_by value ms a dest ≡ None
silent_nothing value dests [] [] silent a dest = refl
silent_nothing value dests [] (m ∷ ms) silent a dest = absurd silent
silent_nothing value dests (n ∷ ns) [] silent a dest = absurd silent
silent_nothing {L} {S} value dests (n ∷ ns) (m ∷ ms) silent a dest = by (m.arc.0 == a) (silent_nothing value dests ns ms silent.1 a dest)
  where
    by : (b : Bool) → heard_by value ms a dest ≡ None
        → option_and_then (λ (x : Listened L S). option_map {U = PureRoute} (known_route value) (entry_of x.heard dest)) (cond b (Some m) (find (λ (x : Listened L S). x.arc.0 == a) ms)) ≡ None
    by true more = ap (option_map (known_route value)) (silent.0.none dest)
    by false more = more

-- what follows from what a result holds
pub ok_then : {X E : Type 0} (P Q : X → Type 0) (r : Result X E) → IfOk r P → ((x : X) → P x → Q x) → IfOk r Q
ok_then P Q (Ok x) p f = f x p
ok_then P Q (Err e) p f = tt
