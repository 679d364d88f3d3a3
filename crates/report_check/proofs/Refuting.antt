-- What is found of tables decides whether they are optimal.
use Rattle.std.proofs.Common.{◌≡◌, ℕ, ◌+◌, List, [], ◌∷◌, Option, Some, None, Bool, true, false, inl, inr, option_map, option_and_then, refl}
use Rattle.std.specs.List.{find}
use Rattle.std.specs.declared.cmp.Ordering.{Ordering}
use Rattle.std.specs.declared.cmp.Ordering.TheVariants.{Less, Equal, Greater}
use Rattle.alg_model.specs.Application.{App}
use Rattle.alg_model.specs.Carriers.{IsPreferred, OrderOrNone}
use Rattle.alg_model.specs.Expressions.{PureValue}
use Rattle.net_graph.specs.Nets.{PureArc, PureNet, PureOrigin, has_arc, has_origin, is_arc_between, is_origin_at, origin_value}
use Rattle.net_graph.specs.Tables.{PureRow, OnTablesFrom, Optimal, carrier, value_at}
use Rattle.net_graph.specs.Unbeaten.{none_last}
use Rattle.net_graph.specs.Walks.{Walk, Weight, along}
use Rattle.net_graph.specs.ArcLaws.{find_any}
use Rattle.stable_check.specs.Checks.{IsWalkOf}
use Rattle.report_check.specs.Judged.{HasNoWalk, IsBeatenBy}
use Rattle.report_check.proofs.TableFindings.{walk_there}

-- what holds of each table
pub on_tables_too : (P Q : ℕ → List PureRow → Type 0) (d : ℕ) (tables : List (List PureRow)) → ((k : ℕ) (t : List PureRow) → P k t → Q k t) → OnTablesFrom P d tables → OnTablesFrom Q d tables
on_tables_too P Q d [] f h = tt
on_tables_too P Q d (t ∷ tables) f h = (f d t h.0, on_tables_too P Q (d + 1) tables f h.1)

pub no_walk_no_optimum : (net : PureNet) (dest : ℕ) (t : List PureRow) (i : ℕ) → HasNoWalk net dest t i → ¬ Optimal net dest t
no_walk_no_optimum net dest t i h o = h (walk_there net dest t o.walks i)

-- what isn't refuted of a test holds
true_stands : (b : Bool) → ¬ ¬ (b ≡ true) → b ≡ true
true_stands true f = refl
true_stands false f = absurd (f (λ e. absurd (cc)))

less_stands : (o : Ordering) → ¬ ¬ (o ≡ Less) → o ≡ Less
less_stands Less f = refl
less_stands Equal f = absurd (f (λ e. absurd (cc)))
less_stands Greater f = absurd (f (λ e. absurd (cc)))

walk_stands : (net : PureNet) (dest : ℕ) (p : List ℕ) → ¬ ¬ Walk net dest p → Walk net dest p
walk_stands net dest [] f = f (λ w. w)
walk_stands net dest (i ∷ []) f = true_stands (has_origin net dest i) f
walk_stands net dest (i ∷ j ∷ p) f = (
  true_stands (has_arc net i j) (λ g. f (λ w. g w.0)),
  walk_stands net dest (j ∷ p) (λ g. f (λ w. g w.1)),
)

-- a value that beats a row comes of an origin or an arc that is there
origin_there : (net : PureNet) (dest i : ℕ) (x : Option PureValue) → IsPreferred (carrier net) (origin_value net dest i) x → has_origin net dest i ≡ true
origin_there net dest i x h = by (find (is_origin_at dest i) net.origins) refl h
  where
    by : (o : Option PureOrigin) → find (is_origin_at dest i) net.origins ≡ o → IsPreferred (carrier net) (option_map (λ (q : PureOrigin). q.value) o) x → has_origin net dest i ≡ true
    by None e h = absurd (none_last (carrier net) x h)
    by (Some q) e h = find_any (is_origin_at dest i) net.origins q e

arc_there : (net : PureNet) (i j : ℕ) (v x : Option PureValue) → IsPreferred (carrier net) (along net i j v) x → has_arc net i j ≡ true
arc_there net i j v x h = by (find (is_arc_between i j) net.arcs) refl h
  where
    by : (o : Option PureArc) → find (is_arc_between i j) net.arcs ≡ o
        → IsPreferred (carrier net) (option_and_then (λ l. option_and_then (App net.alg.expression l) v) (option_map (λ (a : PureArc). a.label) o)) x → has_arc net i j ≡ true
    by None e h = absurd (none_last (carrier net) x h)
    by (Some a) e h = find_any (is_arc_between i j) net.arcs a e

-- a walk from the node that beats its row
pub record Beats (net : PureNet) (dest : ℕ) (t : List PureRow) (i : ℕ) (walk : List ℕ) : Type 0 where
  pub path : List ℕ
  pub begins : walk ≡ i ∷ path
  pub is_walk : Walk net dest (i ∷ path)
  pub preferred : IsPreferred (carrier net) (Weight net dest (i ∷ path)) (value_at t i)

pub beats : (net : PureNet) (dest : ℕ) (t : List PureRow) (i : ℕ) (walk : List ℕ) → ((k : ℕ) → ¬ HasNoWalk net dest t k) → IsBeatenBy net dest t i walk → Beats net dest t i walk
beats net dest t i walk f (inl o) = record { path = []; begins = o.0; is_walk = origin_there net dest i (value_at t i) o.1; preferred = o.1 }
beats net dest t i walk f (inr (j, r, e, b, m)) = record {
  path = r.path;
  begins = b;
  is_walk = walk_stands net dest (i ∷ r.path) (λ g. whole (λ w. g (both w).0));
  preferred = less_stands (OrderOrNone (carrier net) (Weight net dest (i ∷ r.path)) (value_at t i)) (λ g. whole (λ w. g (both w).1));
}
  where
    whole : ¬ ¬ IsWalkOf net dest j r
    whole g = f j (λ h. g (rw e at h))

    preferred : IsPreferred (carrier net) (along net i j (Some r.value)) (value_at t i)
    preferred = rw e at m

    both : IsWalkOf net dest j r → Walk net dest (i ∷ r.path) × IsPreferred (carrier net) (Weight net dest (i ∷ r.path)) (value_at t i)
    both w =
        let has : has_arc net i j ≡ true = arc_there net i j (Some r.value) (value_at t i) preferred in
        let begins : r.path ≡ j ∷ w.begins.0 = w.begins.1 in
        let walk : Walk net dest (j ∷ w.begins.0) = rw begins at w.walk in
        let weight : Weight net dest (j ∷ w.begins.0) ≡ Some r.value = rw begins at w.weight in
        let made : IsPreferred (carrier net) (Weight net dest (i ∷ j ∷ w.begins.0)) (value_at t i) = rw weight preferred in
        rw begins ((has, walk), made)

pub beats_no_optimum : (net : PureNet) (dest : ℕ) (t : List PureRow) (i : ℕ) (walk : List ℕ) → Beats net dest t i walk → ¬ Optimal net dest t
beats_no_optimum net dest t i walk b o = o.unbeaten i b.path b.is_walk b.preferred

pub beats_walk : (net : PureNet) (dest : ℕ) (t : List PureRow) (i : ℕ) (walk : List ℕ) → Beats net dest t i walk → Walk net dest walk × IsPreferred (carrier net) (Weight net dest walk) (value_at t i)
beats_walk net dest t i walk b = rw b.begins (b.is_walk, b.preferred)
