-- Which of the rows of all destinations are a destination's. Lemmas, so that proofs of other crates may cite them.
use Rattle.std.proofs.Common.{◌≡◌, ℕ, zero, suc, ◌+◌, ◌<◌, ◌≤◌, List, [], ◌∷◌, ◌++◌, Bool, true, false, ◌==◌, length, filter, refl, ap, ◌∙◌, arith}
use Rattle.std.specs.List.{range_with_len}
use Rattle.std.proofs.lemmas.Bool.{eqb-true}
use Rattle.std.proofs.lemmas.Bool.Decides.{nat_tests}
use Rattle.std.proofs.lemmas.List.{append-nil}
use Rattle.std.proofs.lemmas.List.Elements.{filter-append}
use Rattle.net_graph.specs.Nets.{PureNet}
use Rattle.net_graph.specs.Tables.{PureRow}
use Rattle.path_vector.specs.Node.{PvState, dest_rows, rows_for, node_rows}

-- the rows of the destination
abbrev pub rows_at : ℕ → List PureRow → List PureRow
rows_at dest rows = filter (λ (row : PureRow). row.dest == dest) rows

same_dest : (dest : ℕ) (states : List PvState) → rows_at dest (dest_rows states dest) ≡ dest_rows states dest
same_dest dest [] = refl
same_dest dest (s ∷ states) =
    let test : (dest == dest) ≡ true = grind (arith, nat_tests) in
    rw test (ap (λ l. record { node = s.number; dest = dest; route = s.rows dest } ∷ l) (same_dest dest states))

other_dest : (dest d : ℕ) (states : List PvState) → (d == dest) ≡ false → rows_at dest (dest_rows states d) ≡ []
other_dest dest d [] e = refl
other_dest dest d (s ∷ states) e = rw e (other_dest dest d states e)

after : (dest a n : ℕ) (states : List PvState) → dest < a → rows_at dest (rows_for states (range_with_len a n)) ≡ []
after dest a zero states l = refl
after dest a (suc n) states l =
    let e : (a == dest) ≡ false = grind (arith, nat_tests) in
    filter-append (λ (row : PureRow). row.dest == dest) (dest_rows states a) (rows_for states (range_with_len (a + 1) n))
    ∙ (ap (λ l. l ++ rows_at dest (rows_for states (range_with_len (a + 1) n))) (other_dest dest a states e) ∙ after dest (a + 1) n states (omega arith))

at_dest : (dest a n : ℕ) (states : List PvState) → a ≤ dest → dest < a + n → rows_at dest (rows_for states (range_with_len a n)) ≡ dest_rows states dest
at_dest dest a zero states l m = absurd (omega arith)
at_dest dest a (suc n) states l m = by (a == dest) refl (λ k. at_dest dest (a + 1) n states k (omega arith))
  where
    by : (b : Bool) → (a == dest) ≡ b → (a + 1 ≤ dest → rows_at dest (rows_for states (range_with_len (a + 1) n)) ≡ dest_rows states dest)
        → rows_at dest (dest_rows states a ++ rows_for states (range_with_len (a + 1) n)) ≡ dest_rows states dest
    by true e rest =
        let same : a ≡ dest = eqb-true a dest e in
        let below : dest < a + 1 = omega arith in
        filter-append (λ (row : PureRow). row.dest == dest) (dest_rows states a) (rows_for states (range_with_len (a + 1) n))
        ∙ (ap (λ l. rows_at dest (dest_rows states a) ++ l) (after dest (a + 1) n states below)
        ∙ (append-nil (rows_at dest (dest_rows states a)) ∙ (ap (λ d. rows_at dest (dest_rows states d)) same ∙ same_dest dest states)))
    by false e rest =
        let k : a + 1 ≤ dest = grind (arith, nat_tests) in
        filter-append (λ (row : PureRow). row.dest == dest) (dest_rows states a) (rows_for states (range_with_len (a + 1) n))
        ∙ (ap (λ l. l ++ rows_at dest (rows_for states (range_with_len (a + 1) n))) (other_dest dest a states e) ∙ rest k)

-- the rows of a destination of the network, among those of all, are those of the nodes for it
pub rows_of_dest : (net : PureNet) (states : List PvState) (dest : ℕ) → dest < length net.dests → rows_at dest (node_rows net states) ≡ dest_rows states dest
rows_of_dest net states dest below = at_dest dest 0 (length net.dests) states (omega arith) (omega arith)
