-- Nodes that get their seats, and arcs that are laid with their listeners, one by one.
use Rattle.std.proofs.Common.{◌≡◌, ◌≢◌, ℕ, zero, suc, ◌+◌, ◌<◌, ◌≤◌, Bool, true, false, cond, List, [], ◌∷◌, ◌++◌, length, map, Option, Some, None, slice_get, option_map, refl, sym, ap, subst, ◌∙◌, append_assoc, append-nil, arith}
use Rattle.std.specs.Prelude.{◌==◌, ◌%◌}
use Rattle.std.specs.declared.collections.VecDeque.{VecDeque}
use Rattle.std.specs.declared.alloc.Global.{Global}
use Rattle.std.proofs.lemmas.Bool.{eqb-true, eqb-false}
use Rattle.std.proofs.lemmas.Option.{slice_get_past}
use Rattle.net_graph.specs.Nets.{PureArc, PureNet}
use Rattle.node_core.specs.Configs.{waits_in, waits_on}
use Rattle.node_core.specs.Kinds.{listener}
use Rattle.node_core.specs.Machine.{changed_at}
use Rattle.node_core.specs.MachineLaws.{same_test}
use Rattle.weave.specs.Lanes.{PureLane, inside, waits_inside}
use Rattle.weave.specs.Views.{View}
use Rattle.weave.specs.Arcs.{IsReplaced}
use Rattle.weave.specs.Dealt.{IsEmptyView, IsSeatPut, AreSeatedFresh, AreLaid, IsDealt}
use Rattle.weave.specs.Gathered.{block_of, lane_across}

pub got_before : {X : Type 0} (xs : List X) (x : X) (i : ℕ) → (i ≡ length xs → ⊥) → slice_get (xs ++ x ∷ []) i ≡ slice_get xs i
got_before [] x zero ne = absurd (ne refl)
got_before [] x (suc i) ne = refl
got_before (y ∷ xs) x zero ne = refl
got_before (y ∷ xs) x (suc i) ne = got_before xs x i (λ e. ne (ap (λ n. suc n) e))

pub got_last : {X : Type 0} (xs : List X) (x : X) → slice_get (xs ++ x ∷ []) (length xs) ≡ Some x
got_last [] x = refl
got_last (y ∷ xs) x = got_last xs x

-- where nothing is left, all was yielded
pub all_yielded : {X : Type 0} (yielded left all : List X) → yielded ++ left ≡ all → length left ≡ 0 → yielded ≡ all
all_yielded yielded [] all e none = sym (append-nil yielded) ∙ e
all_yielded yielded (x ∷ left) all e none = absurd (omega arith)

-- one more was yielded
pub one_yielded : {X : Type 0} (yielded left more all : List X) (x : X) → yielded ++ left ≡ all → left ≡ x ∷ more → (yielded ++ x ∷ []) ++ more ≡ all
one_yielded yielded left more all x e split = append_assoc yielded (x ∷ []) more ∙ (ap (λ l. yielded ++ l) (sym split) ∙ e)

past_from_none : {X : Type 0} (xs : List X) (i : ℕ) → slice_get xs i ≡ None → length xs ≤ i
past_from_none [] i e = omega arith
past_from_none (x ∷ xs) zero e = absurd (cc)
past_from_none (x ∷ xs) (suc i) e = let r = past_from_none xs i e in omega (arith, r)

no_listener : (net : PureNet) (a : ℕ) → listener net a ≡ None → length net.arcs ≤ a
no_listener net a none = past_from_none net.arcs a (by (slice_get net.arcs a) none)
  where
    by : (o : Option PureArc) → option_map (λ (x : PureArc). x.tail) o ≡ None → o ≡ None
    by None e = refl
    by (Some arc) e = absurd (cc)

module _ {S W : Type 0} where
  module _ {N : Type 0} (state : N → S) (count : ℕ) where
    pub seated_none : (views : ℕ → View S W) → ((b : ℕ) → IsEmptyView (views b)) → AreSeatedFresh state count [] views
    seated_none views empty =
        record {
          node_is = λ b i. (empty b).node_is i ∙ by (b == block_of count i) i;
          clock_is = λ b. (empty b).clock_is;
          log_is = λ b. (empty b).log_is;
          lane_is = λ b. (empty b).lane_is;
        }
      where
        no_node : (i : ℕ) → option_map state (slice_get [] i) ≡ None
        no_node zero = refl
        no_node (suc i) = refl

        by : (t : Bool) (i : ℕ) → None ≡ cond t (option_map state (slice_get [] i)) None
        by true i = sym (no_node i)
        by false i = refl

    -- the seat, where its place and its block are given otherwise
    pub seat_at : (n len number : ℕ) (s : S) (v w : ℕ → View S W) → number ≡ n → len ≡ count → IsSeatPut v w (number % len) number s 0 [] → IsSeatPut v w (block_of count n) n s 0 []
    seat_at n len number s v w same all put = subst (λ m. IsSeatPut v w (m % count) m s 0 []) same (subst (λ k. IsSeatPut v w (number % k) number s 0 []) all put)

    module _ (nodes : List N) (node : N) (v w : ℕ → View S W) (before : AreSeatedFresh state count nodes v) (put : IsSeatPut v w (block_of count (length nodes)) (length nodes) (state node) 0 []) where
      node_now : (b i : ℕ) (t u : Bool) → (b == block_of count (length nodes)) ≡ t → (i == length nodes) ≡ u → (w b).node i ≡ cond (b == block_of count i) (option_map state (slice_get (nodes ++ node ∷ []) i)) None
      node_now b i true true e f =
          let same : i ≡ length nodes = eqb-true i (length nodes) f in
          subst (λ n. (w b).node n ≡ cond (b == block_of count n) (option_map state (slice_get (nodes ++ node ∷ []) n)) None) (sym same)
          (rw (e, got_last nodes node) (put.node_is b (length nodes) ∙ rw (e, same_test (length nodes)) refl))
      node_now b i false true e f =
          let same : i ≡ length nodes = eqb-true i (length nodes) f in
          subst (λ n. (w b).node n ≡ cond (b == block_of count n) (option_map state (slice_get (nodes ++ node ∷ []) n)) None) (sym same)
          (rw e (put.node_is b (length nodes) ∙ rw e (before.node_is b (length nodes) ∙ rw e refl)))
      node_now b i t false e f =
          rw (got_before nodes node i (eqb-false i (length nodes) f)) (put.node_is b i ∙ (by t ∙ before.node_is b i))
        where
          by : (t : Bool) → cond (b == block_of count (length nodes)) (changed_at (v b).node (length nodes) (Some (state node)) i) ((v b).node i) ≡ (v b).node i
          by t = rw f (both (b == block_of count (length nodes)))
            where
              both : (t : Bool) → cond t ((v b).node i) ((v b).node i) ≡ (v b).node i
              both true = refl
              both false = refl

      same_value : {X : Type 0} (t u : Bool) (x y : X) → y ≡ x → cond t (cond u x y) y ≡ x
      same_value true true x y e = refl
      same_value true false x y e = e
      same_value false u x y e = e

      pub seated_more : AreSeatedFresh state count (nodes ++ node ∷ []) w
      seated_more =
          record {
            node_is = λ b i. node_now b i (b == block_of count (length nodes)) (i == length nodes) refl refl;
            clock_is = λ b i. put.clock_is b i ∙ same_value (b == block_of count (length nodes)) (i == length nodes) 0 ((v b).clock i) (before.clock_is b i);
            log_is = λ b i. put.log_is b i ∙ same_value (b == block_of count (length nodes)) (i == length nodes) [] ((v b).log i) (before.log_is b i);
            lane_is = λ b a. put.lane_is b a ∙ before.lane_is b a;
          }

  module _ {M : Type 0} (note : M → W) (net : PureNet) (count : ℕ) where
    -- what waits on an arc more is with its listener
    pub laid_more : (links : List (VecDeque M Global)) (link : VecDeque M Global) (v w : ℕ → View S W) (b : ℕ) (arc : PureArc) (was : PureLane W) → slice_get net.arcs (length links) ≡ Some arc → b ≡ block_of count arc.tail
        → IsReplaced v w b (length links) was (inside (map note link.items))
        → ((a i : ℕ) → a < length links → listener net a ≡ Some i → (v (block_of count i)).lane a ≡ inside (map note (waits_on links a)))
        → (a i : ℕ) → a < length links + 1 → listener net a ≡ Some i → (w (block_of count i)).lane a ≡ inside (map note (waits_on (links ++ link ∷ []) a))
    laid_more links link v w b arc was found stands put before a i lt hears = by (a == length links) refl
      where
        by : (t : Bool) → (a == length links) ≡ t → (w (block_of count i)).lane a ≡ inside (map note (waits_on (links ++ link ∷ []) a))
        by true t =
            let same : a ≡ length links = eqb-true a (length links) t in
            let tail : Some arc.tail ≡ Some i = sym (ap (option_map (λ (x : PureArc). x.tail)) found) ∙ (ap (listener net) (sym same) ∙ hears) in
            let at : arc.tail ≡ i = cc in
            let here : block_of count i ≡ b = ap (block_of count) (sym at) ∙ sym stands in
            rw (here, same, got_last links link) (put.lane_is b (length links) ∙ rw (same_test b, same_test (length links)) refl)
        by false t =
            let ne : a ≢ length links = eqb-false a (length links) t in
            rw (got_before links link a ne) (kept (block_of count i == b) (put.lane_is (block_of count i) a) ∙ before a i (omega arith) hears)
          where
            kept : (u : Bool) → (w (block_of count i)).lane a ≡ cond u (changed_at (v (block_of count i)).lane (length links) (inside (map note link.items)) a) ((v (block_of count i)).lane a) → (w (block_of count i)).lane a ≡ (v (block_of count i)).lane a
            kept true e = e ∙ rw t refl
            kept false e = e

    pub dealt : {N : Type 0} (state : N → S) (nodes : List N) (links : List (VecDeque M Global)) (v w : ℕ → View S W) → length links ≡ length net.arcs
        → AreSeatedFresh state count nodes v → AreLaid note net count links v w → IsDealt note net count state nodes links w
    dealt state nodes links v w len seated laid =
        record {
          gathered = record {
            own = λ i b ne. laid.seats.node_is b i ∙ (seated.node_is b i ∙ rw ne refl);
            whole = λ a i hears. let e = laid.lane_is a i hears in e ∙ ap (λ l. inside (waits_inside l)) (sym e);
          };
          node_is = λ i. laid.seats.node_is (block_of count i) i ∙ (seated.node_is (block_of count i) i ∙ rw (same_test (block_of count i)) refl);
          clock_is = λ i. laid.seats.clock_is (block_of count i) i ∙ seated.clock_is (block_of count i) i;
          log_is = λ i. laid.seats.log_is (block_of count i) i ∙ seated.log_is (block_of count i) i;
          link_is = λ a. link a (listener net a) refl;
        }
      where
        link : (a : ℕ) (o : Option ℕ) → listener net a ≡ o → waits_inside (lane_across net count w a) ≡ map note (waits_on links a)
        link a None e =
            let past : length links ≤ a = let le = no_listener net a e in omega (arith, le, len) in
            rw e (sym (ap (λ o. map note (waits_in o)) (slice_get_past links a past)))
        link a (Some i) e = rw e (ap waits_inside (laid.lane_is a i e))
