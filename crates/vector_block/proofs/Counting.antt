-- How many messages wait.
use Rattle.std.proofs.Common.{◌≡◌, ℕ, ◌+◌, ◌-◌, ◌<◌, ◌==◌, zero, suc, List, [], ◌∷◌, ◌++◌, length, drop, inl, inr, refl, ap, ◌∙◌, length-drop}
use Rattle.std.specs.List.{AllByRecursion}
use Rattle.std.proofs.lemmas.List.{length-map, length-append}
use Rattle.std.proofs.lemmas.Option.{slice_get_within}
use Rattle.net_graph.specs.Nets.{PureArc, PureNet, IsNet, arcs_to}
use Rattle.path_vector.specs.Choosing.{arc_stands}
use Rattle.path_vector.specs.Items.{IsItem, item_passed}
use Rattle.path_vector.specs.Node.{PureUpdate, reported_on}
use Rattle.woven_laws.specs.Counts.{waiting_on}
use Rattle.woven_laws.specs.CountLaws.{on_arc_total}
use Rattle.vector_block.specs.Blocks.{block_machine, for_all, waiting}
use Rattle.vector_block.specs.Stores.{PureStore}

-- what waits is on arcs of the network
module _ (net : PureNet) (n : IsNet net) where
  abbrev IsInside : ℕ × PureUpdate → Type 0
  IsInside p = p.0 < length net.arcs

  on_arcs : (arcs : List PureArc) (u : PureUpdate) → ((a : PureArc) → IsItem a arcs → IsItem a net.arcs) → AllByRecursion IsInside (reported_on arcs u)
  on_arcs [] u of = tt
  on_arcs (a ∷ arcs) u of = (slice_get_within net.arcs a.id a (arc_stands net a n (of a (inl refl))), on_arcs arcs u (λ b i. of b (inr i)))

  item_later : (arcs : List PureArc) (k : ℕ) (a : PureArc) → IsItem a (drop k arcs) → IsItem a arcs
  item_later [] zero a i = i
  item_later [] (suc k) a i = i
  item_later (b ∷ arcs) zero a i = i
  item_later (b ∷ arcs) (suc k) a i = inr (item_later arcs k a i)

  to_inside : (speaker k : ℕ) (u : PureUpdate) → AllByRecursion IsInside (reported_on (drop k (arcs_to net speaker)) u)
  to_inside speaker k u = on_arcs (drop k (arcs_to net speaker)) u (λ a i. (item_passed (λ (b : PureArc). b.head == speaker) net.arcs a (item_later (arcs_to net speaker) k a i)).0)

  both : (ps qs : List (ℕ × PureUpdate)) → AllByRecursion IsInside ps → AllByRecursion IsInside qs → AllByRecursion IsInside (ps ++ qs)
  both [] qs a b = b
  both (p ∷ ps) qs a b = (a.0, both ps qs a.1 b)

  all_inside : (ps : List (ℕ × PureUpdate)) → AllByRecursion IsInside (for_all net ps)
  all_inside [] = tt
  all_inside (p ∷ ps) = both (reported_on (arcs_to net p.0) p.1) (for_all net ps) (to_inside p.0 0 p.1) (all_inside ps)

  waiting_inside : (passed : ℕ) (ps : List (ℕ × PureUpdate)) → AllByRecursion IsInside (waiting net passed ps)
  waiting_inside passed [] = tt
  waiting_inside passed (p ∷ ps) = both (reported_on (drop passed (arcs_to net p.0)) p.1) (for_all net ps) (to_inside p.0 passed p.1) (all_inside ps)

  -- the messages that wait are as many as those on the network's arcs
  pub waiting_count : (s : PureStore) (clocks : List ℕ) (front passed : ℕ) → waiting_on net (block_machine net s clocks front passed) ≡ length (waiting net passed (drop front s.reports))
  waiting_count s clocks front passed = on_arc_total (length net.arcs) (waiting net passed (drop front s.reports)) (waiting_inside passed (drop front s.reports))

-- after the first report none has passed
afresh : (net : PureNet) (ps : List (ℕ × PureUpdate)) → for_all net ps ≡ waiting net 0 ps
afresh net [] = refl
afresh net (p ∷ ps) = refl

-- the report at the front waits for those who have not passed
pub one_report : (net : PureNet) (passed : ℕ) (p : ℕ × PureUpdate) (ps : List (ℕ × PureUpdate))
    → length (waiting net passed (p ∷ ps)) ≡ (length (arcs_to net p.0) - passed) + length (waiting net 0 ps)
one_report net passed p ps =
    length-append (reported_on (drop passed (arcs_to net p.0)) p.1) (for_all net ps)
    ∙ (ap (λ k. k + length (for_all net ps)) (length-map (drop passed (arcs_to net p.0)) (λ (a : PureArc). (a.id, p.1)) ∙ length-drop passed (arcs_to net p.0))
    ∙ ap (λ qs. (length (arcs_to net p.0) - passed) + length qs) (afresh net ps))
