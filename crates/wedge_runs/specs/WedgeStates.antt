-- The two nodes of the wedge phase by phase. Lemmas, so that proofs of other crates may cite them.
use Rattle.std.proofs.Common.{◌≡◌, [], ◌∷◌, Bool, true, false, ◌&&◌, Some, refl, ap, ◌∙◌}
use Rattle.alg_model.specs.Expressions.{PureAlg, PureLabel, PureValue}
use Rattle.alg_model.specs.Tests.{same_value}
use Rattle.node_core.specs.Machine.{begun_messages}
use Rattle.path_vector.specs.Node.{PvState, Begin, carried, new_node, node_rows, path_vector, same_row}
use Rattle.settled_laws.specs.Pair.{table_by_q, table_by_p}
use Rattle.settled_laws.specs.Wedge.{wedge_net}
use Rattle.pair_runs.specs.BestOfTwo.{route}
use Rattle.wedge_runs.specs.WedgePhases.{wedge_two, wedge_three, wedge_four}
use Rattle.pair_runs.specs.ImprovedValues.{AreTested}
use Rattle.wedge_runs.specs.WedgeChoices.{one_p_alone, one_p_by_q, one_q, two_p_by_q, two_q_alone, two_q_passed, three_p, three_q_passed, three_q_by_p, four_p_alone, four_p_passed, four_q_by_p}
use Rattle.wedge_runs.specs.TwoNodes.{Begins, Takes, TakesOne, after_taking, both_put_out, first_takes, second_takes, stays_silent, two_rows, unheard_silent, update_of}

module _ (alg : PureAlg) (l : PureLabel) (v w : PureValue) where
  -- the two nodes when they begin on each network, and when it drained there
  abbrev pub p_new : PvState
  p_new = new_node (wedge_net alg l v) 0

  abbrev pub q_new : PvState
  q_new = new_node (wedge_net alg l v) 1

  abbrev pub p_one : PvState
  p_one = after_taking p_new 0 (route v (1 ∷ []))

  abbrev pub q_one : PvState
  q_one = (Begin q_new).0

  abbrev pub p_to_two : PvState
  p_to_two = carried (wedge_two alg l v) p_one

  abbrev pub q_to_two : PvState
  q_to_two = carried (wedge_two alg l v) q_one

  abbrev pub p_two : PvState
  p_two = (Begin p_to_two).0

  abbrev pub q_two : PvState
  q_two = after_taking q_to_two 1 (route w (0 ∷ 1 ∷ []))

  abbrev pub p_to_three : PvState
  p_to_three = carried (wedge_three alg l v) p_two

  abbrev pub q_to_three : PvState
  q_to_three = carried (wedge_three alg l v) q_two

  abbrev pub p_three : PvState
  p_three = (Begin p_to_three).0

  abbrev pub q_three : PvState
  q_three = after_taking q_to_three 0 (route v (0 ∷ []))

  abbrev pub p_to_four : PvState
  p_to_four = carried (wedge_four alg l v) p_three

  abbrev pub q_to_four : PvState
  q_to_four = carried (wedge_four alg l v) q_three

  abbrev pub p_four : PvState
  p_four = after_taking p_to_four 1 (route w (1 ∷ 0 ∷ []))

  abbrev pub q_four : PvState
  q_four = (Begin q_to_four).0

  module _ (t : AreTested alg l v w) where
    -- ---- the first phase: p takes q's route
    p_new_row : (Begin p_new).0.rows 0 ≡ Some (route v (0 ∷ []))
    p_new_row = one_p_alone alg l v w t p_new.heard refl

    p_new_begins : Begins p_new (route v (0 ∷ [])) false
    p_new_begins = record { count = refl; chosen = p_new_row; known = refl }

    q_one_row : q_one.rows 0 ≡ Some (route v (1 ∷ []))
    q_one_row = one_q alg l v w t q_new.heard

    q_new_begins : Begins q_new (route v (1 ∷ [])) false
    q_new_begins = record { count = refl; chosen = q_one_row; known = refl }

    p_one_row : p_one.rows 0 ≡ Some (route w (0 ∷ 1 ∷ []))
    p_one_row = one_p_by_q alg l v w t p_one.heard refl

    p_new_takes : Takes p_new 0 (route v (1 ∷ []))
    p_new_takes = record { fit = rw (t.own_in, t.own_small) refl; silent = unheard_silent p_new 0 (route v (1 ∷ [])) refl }

    one_begun : begun_messages path_vector (p_new ∷ q_new ∷ []) ≡ (0, update_of (route v (1 ∷ []))) ∷ []
    one_begun = both_put_out p_new q_new (route v (0 ∷ [])) (route v (1 ∷ [])) false false p_new_begins q_new_begins

    pub one_takes : TakesOne (wedge_net alg l v) p_new q_new 0 p_one q_one
    one_takes = first_takes (wedge_net alg l v) p_new q_new 0 (route v (1 ∷ [])) one_begun refl refl p_new_takes

    pub one_end_rows : node_rows (wedge_net alg l v) (p_one ∷ q_one ∷ []) ≡ table_by_q v w
    one_end_rows = two_rows (wedge_net alg l v) p_one q_one (route w (0 ∷ 1 ∷ [])) (route v (1 ∷ [])) refl refl refl p_one_row q_one_row

    -- ---- the second: q takes p's route, which is by q
    own_known_p : same_row (Some (route v (0 ∷ []))) (Some (route v (0 ∷ []))) ≡ true
    own_known_p = rw (t.own_same) refl

    own_known_q : same_row (Some (route v (1 ∷ []))) (Some (route v (1 ∷ []))) ≡ true
    own_known_q = rw (t.own_same) refl

    p_two_row : p_two.rows 0 ≡ Some (route w (0 ∷ 1 ∷ []))
    p_two_row = two_p_by_q alg l v w t p_to_two.heard refl

    p_two_begins : Begins p_to_two (route w (0 ∷ 1 ∷ [])) (same_row (Some (route w (0 ∷ 1 ∷ []))) (p_one.rows 0))
    p_two_begins = record { count = refl; chosen = p_two_row; known = refl }

    q_to_two_row : (Begin q_to_two).0.rows 0 ≡ Some (route v (1 ∷ []))
    q_to_two_row = two_q_alone alg l v w t q_to_two.heard refl

    q_two_begins : Begins q_to_two (route v (1 ∷ [])) true
    q_two_begins = record { count = refl; chosen = q_to_two_row; known = ap (same_row (Some (route v (1 ∷ [])))) q_one_row ∙ own_known_q }

    q_two_row : q_two.rows 0 ≡ Some (route v (1 ∷ []))
    q_two_row = two_q_passed alg l v w t q_two.heard refl

    q_two_takes : Takes q_to_two 1 (route w (0 ∷ 1 ∷ []))
    q_two_takes = record { fit = rw (t.made_in, t.made_small) refl; silent = stays_silent q_to_two 1 (route w (0 ∷ 1 ∷ [])) (route v (1 ∷ [])) q_to_two_row q_two_row own_known_q }

    two_begun : begun_messages path_vector (p_to_two ∷ q_to_two ∷ []) ≡ (1, update_of (route w (0 ∷ 1 ∷ []))) ∷ []
    two_begun = both_put_out p_to_two q_to_two (route w (0 ∷ 1 ∷ [])) (route v (1 ∷ [])) (same_row (Some (route w (0 ∷ 1 ∷ []))) (p_one.rows 0)) true p_two_begins q_two_begins

    pub two_takes : TakesOne (wedge_two alg l v) p_to_two q_to_two 1 p_two q_two
    two_takes = second_takes (wedge_two alg l v) p_to_two q_to_two 1 (route w (0 ∷ 1 ∷ [])) two_begun refl refl q_two_takes

    pub two_end_rows : node_rows (wedge_two alg l v) (p_two ∷ q_two ∷ []) ≡ table_by_q v w
    two_end_rows = two_rows (wedge_two alg l v) p_two q_two (route w (0 ∷ 1 ∷ [])) (route v (1 ∷ [])) refl refl refl p_two_row q_two_row

    -- ---- the third: q takes p's own route
    never : (b : Bool) → b && false ≡ false
    never true = refl
    never false = refl

    p_three_row : p_three.rows 0 ≡ Some (route v (0 ∷ []))
    p_three_row = three_p alg l v w t p_to_three.heard

    p_three_begins : Begins p_to_three (route v (0 ∷ [])) false
    p_three_begins = record { count = refl; chosen = p_three_row; known = ap (same_row (Some (route v (0 ∷ [])))) p_two_row ∙ never (same_value v w) }

    q_to_three_row : (Begin q_to_three).0.rows 0 ≡ Some (route v (1 ∷ []))
    q_to_three_row = three_q_passed alg l v w t q_to_three.heard refl

    q_three_begins : Begins q_to_three (route v (1 ∷ [])) (same_row (Some (route v (1 ∷ []))) (q_two.rows 0))
    q_three_begins = record { count = refl; chosen = q_to_three_row; known = refl }

    q_three_row : q_three.rows 0 ≡ Some (route w (1 ∷ 0 ∷ []))
    q_three_row = three_q_by_p alg l v w t q_three.heard refl

    q_three_takes : Takes q_to_three 0 (route v (0 ∷ []))
    q_three_takes = record { fit = rw (t.own_in, t.own_small) refl; silent = unheard_silent q_to_three 0 (route v (0 ∷ [])) refl }

    three_begun : begun_messages path_vector (p_to_three ∷ q_to_three ∷ []) ≡ (0, update_of (route v (0 ∷ []))) ∷ []
    three_begun = both_put_out p_to_three q_to_three (route v (0 ∷ [])) (route v (1 ∷ [])) false (same_row (Some (route v (1 ∷ []))) (q_two.rows 0)) p_three_begins q_three_begins

    pub three_takes : TakesOne (wedge_three alg l v) p_to_three q_to_three 0 p_three q_three
    three_takes = second_takes (wedge_three alg l v) p_to_three q_to_three 0 (route v (0 ∷ [])) three_begun refl refl q_three_takes

    pub three_end_rows : node_rows (wedge_three alg l v) (p_three ∷ q_three ∷ []) ≡ table_by_p v w
    three_end_rows = two_rows (wedge_three alg l v) p_three q_three (route v (0 ∷ [])) (route w (1 ∷ 0 ∷ [])) refl refl refl p_three_row q_three_row

    -- ---- the fourth: p takes q's route, which is by p
    p_to_four_row : (Begin p_to_four).0.rows 0 ≡ Some (route v (0 ∷ []))
    p_to_four_row = four_p_alone alg l v w t p_to_four.heard refl

    p_four_begins : Begins p_to_four (route v (0 ∷ [])) true
    p_four_begins = record { count = refl; chosen = p_to_four_row; known = ap (same_row (Some (route v (0 ∷ [])))) p_three_row ∙ own_known_p }

    q_four_row : q_four.rows 0 ≡ Some (route w (1 ∷ 0 ∷ []))
    q_four_row = four_q_by_p alg l v w t q_to_four.heard refl

    q_four_begins : Begins q_to_four (route w (1 ∷ 0 ∷ [])) (same_row (Some (route w (1 ∷ 0 ∷ []))) (q_three.rows 0))
    q_four_begins = record { count = refl; chosen = q_four_row; known = refl }

    p_four_row : p_four.rows 0 ≡ Some (route v (0 ∷ []))
    p_four_row = four_p_passed alg l v w t p_four.heard refl

    p_four_takes : Takes p_to_four 1 (route w (1 ∷ 0 ∷ []))
    p_four_takes = record { fit = rw (t.made_in, t.made_small) refl; silent = stays_silent p_to_four 1 (route w (1 ∷ 0 ∷ [])) (route v (0 ∷ [])) p_to_four_row p_four_row own_known_p }

    four_begun : begun_messages path_vector (p_to_four ∷ q_to_four ∷ []) ≡ (1, update_of (route w (1 ∷ 0 ∷ []))) ∷ []
    four_begun = both_put_out p_to_four q_to_four (route v (0 ∷ [])) (route w (1 ∷ 0 ∷ [])) true (same_row (Some (route w (1 ∷ 0 ∷ []))) (q_three.rows 0)) p_four_begins q_four_begins

    pub four_takes : TakesOne (wedge_four alg l v) p_to_four q_to_four 1 p_four q_four
    four_takes = first_takes (wedge_four alg l v) p_to_four q_to_four 1 (route w (1 ∷ 0 ∷ [])) four_begun refl refl p_four_takes

    pub four_end_rows : node_rows (wedge_four alg l v) (p_four ∷ q_four ∷ []) ≡ table_by_p v w
    four_end_rows = two_rows (wedge_four alg l v) p_four q_four (route v (0 ∷ [])) (route w (1 ∷ 0 ∷ [])) refl refl refl p_four_row q_four_row
