-- The rows of a leader, destination by destination.
use Rattle.std.proofs.Common.{◌≡◌, ℕ, zero, suc, ◌+◌, ◌<◌, List, [], ◌∷◌, Bool, true, false, ◌==◌, length, cond, slice_get, set, Option, Some, refl, sym, ap, ◌∙◌, subst, arith}
use Rattle.std.specs.Prelude.{option_map}
use Rattle.std.specs.List.{AllByRecursion}
use Rattle.std.proofs.lemmas.Bool.{eqb-true}
use Rattle.std.proofs.lemmas.Bool.Decides.{nat_tests}
use Rattle.std.proofs.lemmas.List.{length-map, map-set}
use Rattle.std.proofs.lemmas.Option.{same_Some, slice_get-map, slice_get_within}
use Rattle.std.specs.declared.alloc.Global.{Global}
use Rattle.std.specs.declared.vec.Vec.{Vec}
use Rattle.net_graph.specs.ArcLaws.{all_at}
use Rattle.net_graph.specs.Nets.{PureNet}
use Rattle.net_graph.specs.Tables.{PureRow, BestFirst}
use Rattle.net_graph.specs.declared.route.RouteRow.{RouteRow}
use Rattle.flood_node.specs.FoundRows.{found_rows}
use Rattle.flood_node.specs.Node.{FloodState, holds}
use Rattle.flood_node.specs.Rows.{AreAllFound, AreAllPlaced, AreFound, AreLeaders, ArePlacedOn, IsAsReported, placed_at}
use Rattle.flood_node.specs.Reported.{AreBegun}
use Rattle.flood_node.proofs.Finding.{found_more, within_or_past}
use Rattle.flood_node.proofs.Joining.{seen_rows}
use Rattle.flood_node.proofs.Placed.{set_at}

set_count : {X : Type 0} (xs : List X) (n : ℕ) (x : X) → length (set xs n x) ≡ length xs
set_count [] n x = refl
set_count (y ∷ xs) zero x = refl
set_count (y ∷ xs) (suc n) x = let rest = set_count xs n x in omega (arith, rest)

module _ (reported : PureNet) (leaders : List ℕ) (leader : ℕ) where
  pub none_solved : (old : List (List (Option PureRow))) → AreAllPlaced reported leaders leader 0 old old
  none_solved old = record { count = refl; done = λ d before after below e f. absurd (omega (arith, below)); left = λ d l. refl }

  -- the rows of a destination that isn't solved yet are as they were
  pub still_there : (dest : ℕ) (old found : List (Vec (Option RouteRow) Global)) (rows : Vec (Option RouteRow) Global) → AreAllPlaced reported leaders leader dest (found_rows old) (found_rows found) → slice_get found dest ≡ Some rows → slice_get (found_rows old) dest ≡ Some (seen_rows rows)
  still_there dest old found rows so at = sym (so.left dest (omega arith)) ∙ (slice_get-map seen_rows found dest ∙ ap (option_map seen_rows) at)

  pub still_many : (dest : ℕ) (old found : List (Vec (Option RouteRow) Global)) (rows : Vec (Option RouteRow) Global) → AllByRecursion (λ (r : List (Option PureRow)). length r ≡ length leaders) (found_rows old) → AreAllPlaced reported leaders leader dest (found_rows old) (found_rows found)
      → slice_get found dest ≡ Some rows → length rows.items ≡ length leaders
  still_many dest old found rows all so at =
      sym (length-map rows.items _) ∙ all_at (λ (r : List (Option PureRow)). length r ≡ length leaders) (found_rows old) dest (seen_rows rows) all (still_there dest old found rows so at)

  placed_next : (dest : ℕ) (old found : List (List (Option PureRow))) (rows new : List (Option PureRow)) → slice_get found dest ≡ Some rows → ArePlacedOn reported leaders leader dest rows new → AreAllPlaced reported leaders leader dest old found
      → AreAllPlaced reported leaders leader (dest + 1) old (set found dest new)
  placed_next dest old found rows new at here so =
      record {
        count = set_count found dest new ∙ so.count;
        done = λ d before after below e f. done d before after below e (dest == d) refl (sym (set_at found dest d new within) ∙ f);
        left = λ d l. let other : (dest == d) ≡ false = grind (arith, nat_tests) in set_at found dest d new within ∙ rw other (so.left d (omega (arith, l)));
      }
    where
      within : dest < length found
      within = slice_get_within found dest rows at

      done : (d : ℕ) (before after : List (Option PureRow)) → d < dest + 1 → slice_get old d ≡ Some before → (b : Bool) → (dest == d) ≡ b → cond (dest == d) (Some new) (slice_get found d) ≡ Some after → ArePlacedOn reported leaders leader d before after
      done d before after below e true h f =
          let here_is : dest ≡ d = eqb-true dest d h in
          let last : new ≡ after = same_Some new after (rw h at f) in
          let first : rows ≡ before = same_Some rows before (sym at ∙ (so.left dest (omega arith) ∙ (ap (slice_get old) here_is ∙ e))) in
          subst (λ z. ArePlacedOn reported leaders leader z before after) here_is (subst (λ z. ArePlacedOn reported leaders leader dest z after) first (subst (ArePlacedOn reported leaders leader dest rows) last here))
      done d before after below e false h f =
          let apart : ¬ (dest ≡ d) = grind (arith, nat_tests) in
          so.done d before after (omega (arith, below, apart)) e (rw h at f)

  -- the rows of a destination more
  pub solved_next : (dest : ℕ) (table : List PureRow) (old found : List (Vec (Option RouteRow) Global)) (rows new : Vec (Option RouteRow) Global) → slice_get found dest ≡ Some rows → BestFirst reported dest table → length new.items ≡ length rows.items
      → ((i l : ℕ) → slice_get leaders i ≡ Some l → placed_at (seen_rows new) i ≡ cond (l == leader) (slice_get table i) (placed_at (seen_rows rows) i)) → AreAllPlaced reported leaders leader dest (found_rows old) (found_rows found)
      → AreAllPlaced reported leaders leader (dest + 1) (found_rows old) (found_rows (set found dest new))
  solved_next dest table old found rows new at best count placed so =
      let same : length (seen_rows new) ≡ length (seen_rows rows) = length-map new.items _ ∙ (count ∙ sym (length-map rows.items _)) in
      subst (AreAllPlaced reported leaders leader (dest + 1) (found_rows old)) (sym (map-set seen_rows found dest new))
      (placed_next dest (found_rows old) (found_rows found) (seen_rows rows) (seen_rows new) (slice_get-map seen_rows found dest ∙ ap (option_map seen_rows) at) (record { table = table; best_first = best; count = same; placed = placed }) so)

-- all that is found has a place for each node
pub found_wide : (net : PureNet) (nodes : List FloodState) (leaders : List ℕ) (done bound dest : ℕ) (found : List (List (Option PureRow))) → AreLeaders nodes leaders → AreAllFound net nodes leaders done bound dest found
    → AllByRecursion (λ (r : List (Option PureRow)). length r ≡ length leaders) found
found_wide net nodes leaders done bound dest found leading so = all found (λ d r e. (so.after d r e).count ∙ sym leading.count)
  where
    all : (xs : List (List (Option PureRow))) → ((d : ℕ) (r : List (Option PureRow)) → slice_get xs d ≡ Some r → length r ≡ length leaders) → AllByRecursion (λ (r : List (Option PureRow)). length r ≡ length leaders) xs
    all [] h = tt
    all (x ∷ xs) h = (h 0 x refl, all xs (λ d r e. h (suc d) r e))

module _ (net : PureNet) (nodes : List FloodState) (leaders : List ℕ) (leading : AreLeaders nodes leaders) (leader : ℕ) (is_leader : slice_get leaders leader ≡ Some leader) (begun : AreBegun net 0 nodes)
    (t : FloodState) (there : slice_get nodes leader ≡ Some t) (reported : PureNet) (is_reported : IsAsReported net (holds t) reported) where
  -- all destinations are solved for a leader
  pub leader_solved : (old new : List (List (Option PureRow))) → AreAllPlaced reported leaders leader (length reported.dests) old new → AreAllFound net nodes leaders leader leader 0 old → AreAllFound net nodes leaders (leader + 1) (leader + 1) 0 new
  leader_solved old new so had =
      record {
        count = so.count ∙ had.count;
        before = λ d r e below. absurd (omega (arith, below));
        after = λ d r e. after d r e;
      }
    where
      after : (d : ℕ) (r : List (Option PureRow)) → slice_get new d ≡ Some r → AreFound net nodes leaders (leader + 1) d r
      after d r e =
          let within = slice_get_within new d r e in
          let same = so.count in
          let dests : length reported.dests ≡ length net.dests = ap (λ (n : PureNet). length n.dests) is_reported.but_origins in
          let all = had.count in
          let was = within_or_past old d (omega (arith, within, same)) in
          let here = so.done d was.0 r (omega (arith, within, same, dests, all)) was.1 e in
          found_more net nodes leaders leading leader is_leader begun t there reported is_reported d here.table was.0 r here.best_first here.count here.placed (had.after d was.0 was.1)
