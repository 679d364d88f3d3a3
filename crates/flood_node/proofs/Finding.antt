-- The rows that are found, leader by leader and destination by destination.
use Rattle.std.proofs.Common.{◌≡◌, ℕ, zero, suc, ◌+◌, ◌<◌, ◌≤◌, List, [], ◌∷◌, ◌++◌, Bool, true, false, ◌==◌, ◌&&◌, ltb, length, cond, replicate, slice_get, set, Option, Some, None, refl, sym, ap, ◌∙◌, subst, arith}
use Rattle.std.specs.Prelude.{option_and_then}
use Rattle.std.proofs.lemmas.Bool.{eqb-true}
use Rattle.std.proofs.lemmas.Bool.Decides.{nat_tests}
use Rattle.std.proofs.lemmas.List.{length_push}
use Rattle.std.proofs.lemmas.Option.{same_Some, slice_get_within}
use Rattle.net_graph.specs.Nets.{PureNet}
use Rattle.net_graph.specs.Tables.{PureRow, BestFirst}
use Rattle.flood_node.specs.Node.{FloodState, holds}
use Rattle.flood_node.specs.Rows.{AreAllFound, AreFound, AreLeaders, IsAsReported, placed_at}
use Rattle.flood_node.specs.Reported.{AreBegun, IsReportedRow}
use Rattle.flood_node.proofs.AsReported.{best_as_reported, reported_alike}
use Rattle.flood_node.proofs.Placed.{placed_set, placed_there}

-- a place within a list has its item
pub within_or_past : {X : Type 0} (xs : List X) (i : ℕ) → i < length xs → (x : X) × (slice_get xs i ≡ Some x)
within_or_past [] i l = absurd (omega (arith, l))
within_or_past (x ∷ xs) zero l = (x, refl)
within_or_past (x ∷ xs) (suc i) l = within_or_past xs i (omega (arith, l))

pushed_before : {X : Type 0} (xs : List X) (x : X) (i : ℕ) → i < length xs → slice_get (xs ++ x ∷ []) i ≡ slice_get xs i
pushed_before [] x i l = absurd (omega (arith, l))
pushed_before (y ∷ xs) x zero l = refl
pushed_before (y ∷ xs) x (suc i) l = pushed_before xs x i (omega (arith, l))

pushed_at : {X : Type 0} (xs : List X) (x : X) → slice_get (xs ++ x ∷ []) (length xs) ≡ Some x
pushed_at [] x = refl
pushed_at (y ∷ xs) x = pushed_at xs x

-- these rows are in the places of the nodes with that leader, and nothing else has changed
abbrev pub ArePlaced : List ℕ → ℕ → List PureRow → List (Option PureRow) → List (Option PureRow) → Type 0
ArePlaced leaders leader rows old new = (i l : ℕ) → slice_get leaders i ≡ Some l
    → placed_at new i ≡ cond (l == leader && ltb i (length rows)) (slice_get rows i) (placed_at old i)

pub none_placed : (leaders : List ℕ) (leader : ℕ) (old : List (Option PureRow)) → ArePlaced leaders leader [] old old
none_placed leaders leader old i l e = by (l == leader)
  where
    none : ltb i 0 ≡ false
    none = grind (arith, nat_tests)

    by : (b : Bool) → placed_at old i ≡ cond (b && ltb i 0) None (placed_at old i)
    by true = rw none refl
    by false = refl

module _ (leaders : List ℕ) (leader : ℕ) (rows : List PureRow) (old new : List (Option PureRow)) (row : PureRow) (place : ℕ) (is : place ≡ length rows) (so : ArePlaced leaders leader rows old new) where
  other_place : (i l : ℕ) → slice_get leaders i ≡ Some l → (place == i) ≡ false → placed_at new i ≡ cond (l == leader && ltb i (length (rows ++ row ∷ []))) (slice_get (rows ++ row ∷ []) i) (placed_at old i)
  other_place i l e f = so i l e ∙ by (ltb i (length rows)) refl
    where
      count : length (rows ++ row ∷ []) ≡ length rows + 1
      count = length_push rows row

      by : (b : Bool) → ltb i (length rows) ≡ b → cond (l == leader && ltb i (length rows)) (slice_get rows i) (placed_at old i) ≡ cond (l == leader && ltb i (length (rows ++ row ∷ []))) (slice_get (rows ++ row ∷ []) i) (placed_at old i)
      by true g =
          let within : i < length rows = grind (arith, nat_tests) in
          let more : ltb i (length (rows ++ row ∷ [])) ≡ true = grind (arith, nat_tests, count) in
          rw (g, more, pushed_before rows row i within) refl
      by false g =
          let apart : ¬ (place ≡ i) = grind (arith, nat_tests) in
          let past : length rows ≤ i = grind (arith, nat_tests) in
          let more : ltb i (length (rows ++ row ∷ [])) ≡ false = grind (arith, nat_tests, count) in
          rw (g, more) (none (l == leader))
        where
          none : (b : Bool) → cond (b && false) (slice_get rows i) (placed_at old i) ≡ cond (b && false) (slice_get (rows ++ row ∷ []) i) (placed_at old i)
          none true = refl
          none false = refl

  -- a row more in a place of that leader
  pub placed_more : place < length new → slice_get leaders place ≡ Some leader → ArePlaced leaders leader (rows ++ row ∷ []) old (set new place (Some row))
  placed_more room at i l e = placed_set new place i (Some row) room ∙ by (place == i) refl
    where
      by : (b : Bool) → (place == i) ≡ b → cond b (Some row) (placed_at new i) ≡ cond (l == leader && ltb i (length (rows ++ row ∷ []))) (slice_get (rows ++ row ∷ []) i) (placed_at old i)
      by true f =
          let here : place ≡ i = eqb-true place i f in
          let mine : l ≡ leader = same_Some l leader (sym e ∙ subst (λ z. slice_get leaders z ≡ Some leader) here at) in
          let test : (l == leader) ≡ true = grind (arith, nat_tests) in
          let count = length_push rows row in
          let more : ltb i (length (rows ++ row ∷ [])) ≡ true = grind (arith, nat_tests, count) in
          rw (test, more) (sym (subst (λ z. slice_get (rows ++ row ∷ []) z ≡ Some row) (sym is ∙ here) (pushed_at rows row)))
      by false f = other_place i l e f

  -- and one that isn't wanted
  pub placed_past : (other : ℕ) → slice_get leaders place ≡ Some other → ¬ (other ≡ leader) → ArePlaced leaders leader (rows ++ row ∷ []) old new
  placed_past other at apart i l e = by (place == i) refl
    where
      by : (b : Bool) → (place == i) ≡ b → placed_at new i ≡ cond (l == leader && ltb i (length (rows ++ row ∷ []))) (slice_get (rows ++ row ∷ []) i) (placed_at old i)
      by true f =
          let here : place ≡ i = eqb-true place i f in
          let its : l ≡ other = same_Some l other (sym e ∙ subst (λ z. slice_get leaders z ≡ Some other) here at) in
          let test : (l == leader) ≡ false = grind (arith, nat_tests) in
          so i l e ∙ rw test refl
      by false f = other_place i l e f

pub placed_either : (leaders : List ℕ) (leader : ℕ) (rows : List PureRow) (old mid new : List (Option PureRow)) (row : PureRow) (place other : ℕ) → place ≡ length rows → slice_get leaders place ≡ Some other → place < length mid
    → ArePlaced leaders leader rows old mid → new ≡ cond (other == leader) (set mid place (Some row)) mid → ArePlaced leaders leader (rows ++ row ∷ []) old new
placed_either leaders leader rows old mid new row place other is at room so made = by (other == leader) refl made
  where
    by : (b : Bool) → (other == leader) ≡ b → new ≡ cond b (set mid place (Some row)) mid → ArePlaced leaders leader (rows ++ row ∷ []) old new
    by true e f =
        subst (ArePlaced leaders leader (rows ++ row ∷ []) old) (sym f)
        (placed_more leaders leader rows old mid row place is so room (subst (λ z. slice_get leaders place ≡ Some z) (eqb-true other leader e) at))
    by false e f =
        let apart : ¬ (other ≡ leader) = grind (arith, nat_tests) in
        subst (ArePlaced leaders leader (rows ++ row ∷ []) old) (sym f) (placed_past leaders leader rows old mid row place is so other at apart)

-- all rows of a table are placed
pub placed_all : (leaders : List ℕ) (leader : ℕ) (rows : List PureRow) (old new : List (Option PureRow)) → length rows ≡ length leaders → ArePlaced leaders leader rows old new
    → (i l : ℕ) → slice_get leaders i ≡ Some l → placed_at new i ≡ cond (l == leader) (slice_get rows i) (placed_at old i)
placed_all leaders leader rows old new count so i l e = so i l e ∙ by (l == leader)
  where
    test : ltb i (length rows) ≡ true
    test = let within = slice_get_within leaders i l e in grind (arith, nat_tests)

    by : (b : Bool) → cond (b && ltb i (length rows)) (slice_get rows i) (placed_at old i) ≡ cond b (slice_get rows i) (placed_at old i)
    by true = rw test refl
    by false = refl

begun_number : (net : PureNet) (k i : ℕ) (nodes : List FloodState) (s : FloodState) → AreBegun net k nodes → slice_get nodes i ≡ Some s → s.number ≡ k + i
begun_number net k i [] s b e = absurd (cc)
begun_number net k zero (n ∷ nodes) s b e =
    let same : n ≡ s = same_Some n s e in
    let number : n.number ≡ k = b.1 in
    ap (λ (z : FloodState). z.number) (sym same) ∙ omega (arith, number)
begun_number net k (suc i) (n ∷ nodes) s b e = let rest = begun_number net (k + 1) i nodes s b.3 e in omega (arith, rest)

begun_count : (net : PureNet) (k : ℕ) (nodes : List FloodState) → AreBegun net k nodes → k + length nodes ≡ length net.nodes
begun_count net k [] b = let whole : length net.nodes ≡ k = b in omega (arith, whole)
begun_count net k (n ∷ nodes) b = let rest = begun_count net (k + 1) nodes b.3 in omega (arith, rest)

pub begun_all : (net : PureNet) (nodes : List FloodState) → AreBegun net 0 nodes → length nodes ≡ length net.nodes
begun_all net nodes b = let count = begun_count net 0 nodes b in omega (arith, count)

module _ (net : PureNet) (nodes : List FloodState) (leaders : List ℕ) (leading : AreLeaders nodes leaders) where
  module _ (leader : ℕ) (is_leader : slice_get leaders leader ≡ Some leader) (begun : AreBegun net 0 nodes) (t : FloodState) (there : slice_get nodes leader ≡ Some t) (reported : PureNet) (is_reported : IsAsReported net (holds t) reported) where
    -- a table has a row for each node
    pub table_count : (dest : ℕ) (table : List PureRow) → BestFirst reported dest table → length table ≡ length leaders
    table_count dest table best =
        let all = begun_all net nodes begun in
        best.table_of.count ∙ (ap (λ (n : PureNet). length n.nodes) is_reported.but_origins ∙ (sym all ∙ sym leading.count))

    -- the rows of a leader more for a destination
    pub found_more : (dest : ℕ) (table : List PureRow) (old new : List (Option PureRow)) → BestFirst reported dest table → length new ≡ length old
        → ((i l : ℕ) → slice_get leaders i ≡ Some l → placed_at new i ≡ cond (l == leader) (slice_get table i) (placed_at old i))
        → AreFound net nodes leaders leader dest old → AreFound net nodes leaders (leader + 1) dest new
    found_more dest table old new best count so had =
        record {
          count = count ∙ had.count;
          rows = rows;
          there = λ i l e below. by_leader i l e below (l == leader) refl;
        }
      where
        rows : (i : ℕ) (s : FloodState) (row : PureRow) → slice_get nodes i ≡ Some s → slice_get new i ≡ Some (Some row) → IsReportedRow net dest s row
        rows i s row e f =
            let within = slice_get_within nodes i s e in
            let count = leading.count in
            let l = within_or_past leaders i (omega (arith, within, count)) in
            by l.0 l.1 (l.0 == leader) refl (sym (so i l.0 l.1) ∙ ap (option_and_then (λ o. o)) f)
          where
            by : (l : ℕ) → slice_get leaders i ≡ Some l → (b : Bool) → (l == leader) ≡ b → cond (l == leader) (slice_get table i) (placed_at old i) ≡ Some row → IsReportedRow net dest s row
            by l at true h g =
                let mine : l ≡ leader = eqb-true l leader h in
                let alike = leading.same i leader s t (subst (λ z. slice_get leaders i ≡ Some z) mine at) e there in
                record {
                  table = table;
                  best_first = subst (λ n. BestFirst n dest table) (sym (reported_alike net (holds s) (holds t) alike)) (best_as_reported net reported (holds t) dest table is_reported best);
                  is_row = subst (λ z. slice_get table z ≡ Some row) (sym (begun_number net 0 i nodes s begun e ∙ zero_more i)) (rw h at g);
                }
              where
                zero_more : (n : ℕ) → 0 + n ≡ n
                zero_more n = omega arith
            by l at false h g = had.rows i s row e (placed_there old i row (rw h at g))

        by_leader : (i l : ℕ) → slice_get leaders i ≡ Some l → l < leader + 1 → (b : Bool) → (l == leader) ≡ b → (row : PureRow) × (slice_get new i ≡ Some (Some row))
        by_leader i l e below true h =
            let within = slice_get_within leaders i l e in
            let rows_are = table_count dest table best in
            let row = within_or_past table i (omega (arith, within, rows_are)) in
            (row.0, placed_there new i row.0 (so i l e ∙ rw h row.1))
        by_leader i l e below false h =
            let apart : ¬ (l ≡ leader) = grind (arith, nat_tests) in
            let row = had.there i l e (omega (arith, below, apart)) in
            (row.0, placed_there new i row.0 (so i l e ∙ rw h (ap (option_and_then (λ o. o)) row.1)))

  -- a node that isn't its own leader leads none
  pub all_found_past : (leader other : ℕ) (found : List (List (Option PureRow))) → slice_get leaders leader ≡ Some other → ¬ (other ≡ leader) → AreAllFound net nodes leaders leader leader 0 found
      → AreAllFound net nodes leaders (leader + 1) (leader + 1) 0 found
  all_found_past leader other found at apart so =
      record {
        count = so.count;
        before = λ d r e below. absurd (omega (arith, below));
        after = λ d r e. more d r (so.after d r e);
      }
    where
      more : (d : ℕ) (r : List (Option PureRow)) → AreFound net nodes leaders leader d r → AreFound net nodes leaders (leader + 1) d r
      more d r f = record { count = f.count; rows = f.rows; there = λ i l e below. f.there i l e (lower i l e below (l == leader) refl) }
        where
          lower : (i l : ℕ) → slice_get leaders i ≡ Some l → l < leader + 1 → (b : Bool) → (l == leader) ≡ b → l < leader
          lower i l e below true h =
              let mine : l ≡ leader = eqb-true l leader h in
              let itself = (leading.each i l e).1 in
              absurd (apart (same_Some other leader (sym at ∙ subst (λ z. slice_get leaders z ≡ Some z) mine itself)))
          lower i l e below false h = let away : ¬ (l ≡ leader) = grind (arith, nat_tests) in omega (arith, below, away)

  -- nothing is found at first
  pub none_found : (found : List (List (Option PureRow))) → found ≡ replicate (length net.dests) (replicate (length nodes) None) → AreAllFound net nodes leaders 0 0 0 found
  none_found found is =
      record {
        count = ap length is ∙ length_made (length net.dests) (replicate (length nodes) None);
        before = λ d r e below. absurd (omega (arith, below));
        after = λ d r e. subst (AreFound net nodes leaders 0 d) (one_made (length net.dests) d (replicate (length nodes) None) r (sym (ap (λ l. slice_get l d) is) ∙ e)) (none d);
      }
    where
      length_made : {X : Type 0} (n : ℕ) (x : X) → length (replicate n x) ≡ n
      length_made zero x = refl
      length_made (suc n) x = let rest = length_made n x in omega (arith, rest)

      one_made : {X : Type 0} (n d : ℕ) (x y : X) → slice_get (replicate n x) d ≡ Some y → x ≡ y
      one_made zero d x y e = absurd (cc)
      one_made (suc n) zero x y e = same_Some x y e
      one_made (suc n) (suc d) x y e = one_made n d x y e

      none : (d : ℕ) → AreFound net nodes leaders 0 d (replicate (length nodes) None)
      none d =
          record {
            count = length_made (length nodes) None;
            rows = λ i s row e f. absurd (let clash : None ≡ Some row = one_made (length nodes) i None (Some row) f in cc);
            there = λ i l e below. absurd (omega (arith, below));
          }
