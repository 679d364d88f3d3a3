-- Rows that are counted one by one.
use Rattle.std.proofs.Common.{◌≡◌, ◌<◌, ◌+◌, ◌-◌, ◌++◌, ℕ, ◌≤◌, Bool, true, false, zero, suc, List, [], ◌∷◌, cond, drop, get_or, length, map, refl, subst, sym, ap, ◌∙◌, append_assoc, Result, Ok, Err, arith}
use Rattle.std.specs.List.{AllByRecursion, range_with_len}
use Rattle.std.specs.Prelude.{OnOk, String, string_bytes}
use Rattle.meta_base.specs.Appending.{Gains}
use Rattle.meta_base.specs.declared.errors.NoMemory.{NoMemory}
use Rattle.std.proofs.lemmas.List.{at_drop_more}
use Rattle.std.proofs.lemmas.List.Sums.{sum_by-cons}
use Rattle.net_graph.specs.Nets.{PureNet}
use Rattle.net_graph.specs.Tables.{PureRow}
use Rattle.net_graph.specs.declared.route.RouteRow.{RouteRow}
use Rattle.net_graph.specs.Views.{pure_row}
use Rattle.report_text.specs.SummaryTexts.{IsSummed, is_reached, number_for, reach_text, reached, reaches_text, value_sum}

pub reached_at : (dest : ℕ) (rows : List RouteRow) (i : ℕ) (row : RouteRow) → i < length rows → row ≡ get_or rows i row
    → reached dest (map pure_row (drop i rows)) ≡ cond (is_reached dest (pure_row row)) 1 0 + reached dest (map pure_row (drop (i + 1) rows))
reached_at dest rows i row h e =
    at_drop_more (λ (rs : List RouteRow). reached dest (map pure_row rs)) rows i row h
    ∙ (sum_by-cons (λ (x : PureRow). cond (is_reached dest x) 1 0) (pure_row (get_or rows i row)) (map pure_row (drop (i + 1) rows))
    ∙ ap (λ (x : RouteRow). cond (is_reached dest (pure_row x)) 1 0 + reached dest (map pure_row (drop (i + 1) rows))) (sym e))

pub sum_at : (dest : ℕ) (rows : List RouteRow) (i : ℕ) (row : RouteRow) → i < length rows → row ≡ get_or rows i row
    → value_sum dest (map pure_row (drop i rows)) ≡ number_for dest (pure_row row) + value_sum dest (map pure_row (drop (i + 1) rows))
sum_at dest rows i row h e =
    at_drop_more (λ (rs : List RouteRow). value_sum dest (map pure_row rs)) rows i row h
    ∙ (sum_by-cons (number_for dest) (pure_row (get_or rows i row)) (map pure_row (drop (i + 1) rows))
    ∙ ap (λ (x : RouteRow). number_for dest (pure_row x) + value_sum dest (map pure_row (drop (i + 1) rows))) (sym e))

pub summed_at : (rows : List RouteRow) (i : ℕ) (row : RouteRow) → i < length rows → row ≡ get_or rows i row → AllByRecursion IsSummed (map pure_row rows) → IsSummed (pure_row row)
summed_at [] i row h e all = absurd (omega arith)
summed_at (x ∷ xs) zero row h e all = let same : x ≡ row = sym e in subst (λ (y : RouteRow). IsSummed (pure_row y)) same all.0
summed_at (x ∷ xs) (suc i) row h e all = summed_at xs i row (omega arith) e all.1

-- the lines from one destination on
pub reaches_at : (net : PureNet) (rows : List PureRow) (dest dests : ℕ) → dest < dests
    → reaches_text net rows (range_with_len dest (dests - dest)) ≡ reach_text net rows dest ++ reaches_text net rows (range_with_len (dest + 1) (dests - (dest + 1)))
reaches_at net rows dest dests l =
    let e : dests - dest ≡ suc (dests - (dest + 1)) = omega arith in
    rw e refl

-- what is added to a count or a sum is no more left
pub added : (now old here rest whole : ℕ) → now ≡ here + old → old + (here + rest) ≡ whole → now + rest ≡ whole
added now old here rest whole e f = omega (arith, e, f)

pub one_more : (b : Bool) (now old i : ℕ) → now ≡ cond b 1 0 + old → old ≤ i → now ≤ i + 1
one_more true now old i e l = omega (arith, e)
one_more false now old i e l = omega (arith, e)

-- two texts are gained one after the other
pub gains_both : {Z : Type 0} (r : Result (Unit {0}) NoMemory) (old between new : String Z) (first second : List ℕ) → Gains old first between → OnOk r (Gains between second new) → OnOk r (Gains old (first ++ second) new)
gains_both (Ok x) old between new first second g h = h ∙ (ap (λ t. t ++ second) g ∙ append_assoc (string_bytes old) first second)
gains_both (Err e) old between new first second g h = tt
