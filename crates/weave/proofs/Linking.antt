-- Arcs between two blocks that get links or lose them, one by one.
use Rattle.std.proofs.Common.{◌≡◌, ℕ, ◌+◌, ◌<◌, Bool, true, false, cond, List, [], ◌++◌, length, map, Some, slice_get, option_map, refl, sym, ap, ap₂, subst, ◌∙◌, arith}
use Rattle.std.specs.Prelude.{◌==◌}
use Rattle.std.proofs.lemmas.Bool.{eqb-true, eqb-false, false_from_ne_true}
use Rattle.std.proofs.lemmas.List.{map-append}
use Rattle.std.proofs.lemmas.Option.{same_Some, slice_get_within}
use Rattle.link_queues.specs.Links.{LinkId}
use Rattle.net_graph.specs.Nets.{PureArc, PureNet}
use Rattle.node_core.specs.Kinds.{listener, speaker}
use Rattle.node_core.specs.Machine.{changed_at}
use Rattle.node_core.specs.MachineLaws.{same_test, option_from}
use Rattle.weave.specs.Lanes.{PureLane, elsewhere, inside, coming, going, waits_inside}
use Rattle.weave.specs.Views.{View}
use Rattle.weave.specs.Arcs.{KeepsSeats, GetsLink, LosesLink, IsWhole, HaveEnds, IsReplaced, IsDoneBetween, IsDoneOn, AreDoneBelow}
use Rattle.weave.specs.Gathered.{block_of, AreGathered, AreSameSeats, AreLinked, AreEnded, AreSettled}

same_number : (m n : ℕ) → m ≡ n → (m == n) ≡ true
same_number m n e = subst (λ k. (m == k) ≡ true) e (same_test m)

other_way : (m n : ℕ) → (m == n) ≡ false → (n == m) ≡ false
other_way m n ne = false_from_ne_true (n == m) (λ e. eqb-false m n ne (sym (eqb-true n m e)))

pub listens_below : (net : PureNet) (a i : ℕ) → listener net a ≡ Some i → a < length net.arcs
listens_below net a i h = let from = option_from (λ (arc : PureArc). arc.tail) (slice_get net.arcs a) i h in slice_get_within net.arcs a from.0 from.1

pub apart_test : (m n : ℕ) → (m ≡ n → ⊥) → (m == n) ≡ false
apart_test m n ne = false_from_ne_true (m == n) (λ e. ne (eqb-true m n e))

-- the block of a node, where the number of blocks is given by another
pub stands_at : (block len count node : ℕ) → block ≡ block_of len node → len ≡ count → block ≡ block_of count node
stands_at block len count node e same = e ∙ ap (λ n. block_of n node) same

-- what was received and what waits is what was sent, also by what it says
pub noted_whole : {M W : Type 0} (note : M → W) (received waits rest sent : List M) → received ++ rest ≡ sent → waits ≡ rest → map note received ++ map note waits ≡ map note sent
noted_whole note received waits rest sent whole same = ap (λ l. map note received ++ map note l) same ∙ (sym (map-append note received rest) ∙ ap (map note) whole)

module _ {S M : Type 0} where
  pub keeps_then : (u v w : ℕ → View S M) → KeepsSeats u v → KeepsSeats v w → KeepsSeats u w
  keeps_then u v w f g =
      record {
        node_is = λ b i. g.node_is b i ∙ f.node_is b i;
        clock_is = λ b i. g.clock_is b i ∙ f.clock_is b i;
        log_is = λ b i. g.log_is b i ∙ f.log_is b i;
      }

  pub keeps_same : (v w : ℕ → View S M) → ((b : ℕ) → w b ≡ v b) → KeepsSeats v w
  keeps_same v w same =
      record {
        node_is = λ b i. ap (λ (x : View S M). x.node i) (same b);
        clock_is = λ b i. ap (λ (x : View S M). x.clock i) (same b);
        log_is = λ b i. ap (λ (x : View S M). x.log i) (same b);
      }

  module _ (v w : ℕ → View S M) (b a : ℕ) (was is : PureLane M) (r : IsReplaced v w b a was is) where
    here : (w b).lane a ≡ is
    here = r.lane_is b a ∙ rw (same_test b, same_test a) refl

    other_block : (c n : ℕ) → (c == b) ≡ false → (w c).lane n ≡ (v c).lane n
    other_block c n ne = r.lane_is c n ∙ rw ne refl

    other_arc : (c n : ℕ) → (n == a) ≡ false → (w c).lane n ≡ (v c).lane n
    other_arc c n ne = by (c == b) (r.lane_is c n)
      where
        by : (t : Bool) → (w c).lane n ≡ cond t (changed_at (v c).lane a is n) ((v c).lane n) → (w c).lane n ≡ (v c).lane n
        by true e = e ∙ rw ne refl
        by false e = e

  -- both ends are put into their blocks
  pub ends_put : (u v w x : ℕ → View S M) (b c a : ℕ) (was was' into out : PureLane M) → (b == c) ≡ false → ((d : ℕ) → v d ≡ u d) → IsReplaced v w b a was into → IsReplaced w x c a was' out
      → IsDoneBetween (λ _ _ heard spoken. (heard ≡ into) × (spoken ≡ out)) b c a u x
  ends_put u v w x b c a was was' into out ne same r s =
      record {
        seats = keeps_then u v x (keeps_same u v same) (keeps_then v w x r.seats s.seats);
        others = λ d n apart. other_arc w x c a was' out s d n apart ∙ (other_arc v w b a was into r d n apart ∙ ap (λ (y : View S M). y.lane n) (same d));
        becomes = (other_block w x c a was' out s b a ne ∙ here v w b a was into r, here w x c a was' out s);
      }

  -- what waited was taken out, and then the ends were put in
  pub gets_link : (v w x : ℕ → View S M) (b c a : ℕ) (waits received sent : List M) (link other : LinkId) → IsReplaced v w b a (inside waits) elsewhere
      → IsDoneBetween (λ _ _ heard spoken. (heard ≡ coming link received) × (spoken ≡ going other sent)) b c a w x → other ≡ link → received ≡ [] → sent ≡ waits
      → IsDoneBetween GetsLink b c a v x
  gets_link v w x b c a waits received sent link other r d same none all =
      record {
        seats = keeps_then v w x r.seats d.seats;
        others = λ k n apart. d.others k n apart ∙ other_arc v w b a (inside waits) elsewhere r k n apart;
        becomes = (link, d.becomes.0 ∙ ap (coming link) none, d.becomes.1 ∙ ap₂ going same (all ∙ ap waits_inside (sym r.lane_was)));
      }

  -- both ends were taken out, and what waits was put in
  pub loses_link : (u v w x : ℕ → View S M) (b c a : ℕ) (link other : LinkId) (received sent waits : List M) (was : PureLane M) → (b == c) ≡ false
      → IsReplaced u v b a (coming link received) elsewhere → IsReplaced v w c a (going other sent) elsewhere → IsReplaced w x b a was (inside waits) → received ++ waits ≡ sent
      → IsDoneBetween LosesLink b c a u x
  loses_link u v w x b c a link other received sent waits was ne r s t whole =
      record {
        seats = keeps_then u v x r.seats (keeps_then v w x s.seats t.seats);
        others = λ k n apart. other_arc w x b a was (inside waits) t k n apart ∙ (other_arc v w c a (going other sent) elsewhere s k n apart ∙ other_arc u v b a (coming link received) elsewhere r k n apart);
        becomes = λ l got put into_is out_is.
            let first : coming link received ≡ coming l got = sym r.lane_was ∙ into_is in
            let second : going other sent ≡ going l put = sym s.lane_was ∙ (other_block u v b a (coming link received) elsewhere r c a (other_way b c ne) ∙ out_is) in
            let same : received ≡ got = cc in
            let all : sent ≡ put = cc in
            (waits, here w x b a was (inside waits) t, ap (λ k. k ++ waits) (sym same) ∙ (whole ∙ all));
      }

  module _ (Becomes : PureLane M → PureLane M → PureLane M → PureLane M → Type 0) (net : PureNet) (count : ℕ) where
    module _ (a : ℕ) (arc : PureArc) (v w : ℕ → View S M) (found : slice_get net.arcs a ≡ Some arc) where
      tail_is : (i : ℕ) → listener net a ≡ Some i → arc.tail ≡ i
      tail_is i h = same_Some _ _ (sym (ap (option_map (λ (x : PureArc). x.tail)) found) ∙ h)

      head_is : (j : ℕ) → speaker net a ≡ Some j → arc.head ≡ j
      head_is j h = same_Some _ _ (sym (ap (option_map (λ (x : PureArc). x.head)) found) ∙ h)

      pub done_across : (heard spoken : ℕ) → heard ≡ block_of count arc.tail → spoken ≡ block_of count arc.head → (heard ≡ spoken → ⊥) → IsDoneBetween Becomes heard spoken a v w → IsDoneOn Becomes net count a v w
      done_across heard spoken heard_is spoken_is ne d =
          record {
            seats = d.seats;
            others = d.others;
            within = λ i j h s e.
                let tail = tail_is i h in
                let head = head_is j s in
                absurd (ne (heard_is ∙ (ap (block_of count) tail ∙ (e ∙ (sym (ap (block_of count) head) ∙ sym spoken_is)))));
            across = λ i j h s apart.
                let first : heard ≡ block_of count i = heard_is ∙ ap (block_of count) (tail_is i h) in
                let second : spoken ≡ block_of count j = spoken_is ∙ ap (block_of count) (head_is j s) in
                subst (λ n. Becomes ((v n).lane a) ((v (block_of count j)).lane a) ((w n).lane a) ((w (block_of count j)).lane a)) first
                (subst (λ n. Becomes ((v heard).lane a) ((v n).lane a) ((w heard).lane a) ((w n).lane a)) second d.becomes);
          }

      pub done_within : (heard spoken : ℕ) → heard ≡ block_of count arc.tail → spoken ≡ block_of count arc.head → heard ≡ spoken → ((b : ℕ) → w b ≡ v b) → IsDoneOn Becomes net count a v w
      done_within heard spoken heard_is spoken_is e same =
          record {
            seats = keeps_same v w same;
            others = λ b n apart. ap (λ (x : View S M). x.lane n) (same b);
            within = λ i j h s e. ap (λ (x : View S M). x.lane a) (same (block_of count i));
            across = λ i j h s apart.
                let tail = tail_is i h in
                let head = head_is j s in
                absurd (eqb-false _ _ apart (sym (ap (block_of count) tail) ∙ (sym heard_is ∙ (e ∙ (spoken_is ∙ ap (block_of count) head)))));
          }

    pub below_none : (v w : ℕ → View S M) → ((b : ℕ) → w b ≡ v b) → AreDoneBelow Becomes net count 0 v w
    below_none v w same =
        record {
          seats = keeps_same v w same;
          later = λ b a le. ap (λ (x : View S M). x.lane a) (same b);
          within = λ a i j lt. absurd (omega arith);
          across = λ a i j lt. absurd (omega arith);
        }

    pub below_more : (n : ℕ) (u v w : ℕ → View S M) → AreDoneBelow Becomes net count n u v → IsDoneOn Becomes net count n v w → AreDoneBelow Becomes net count (n + 1) u w
    below_more n u v w before next =
        record {
          seats = keeps_then u v w before.seats next.seats;
          later = λ b a le. next.others b a (false_from_ne_true (a == n) (λ e. let same : a ≡ n = eqb-true a n e in absurd (omega arith))) ∙ before.later b a (omega arith);
          within = λ a i j lt h s e. within a i j lt h s e (a == n) refl;
          across = λ a i j lt h s e. across a i j lt h s e (a == n) refl;
        }
      where
        within : (a i j : ℕ) → a < n + 1 → listener net a ≡ Some i → speaker net a ≡ Some j → block_of count i ≡ block_of count j → (t : Bool) → (a == n) ≡ t → (w (block_of count i)).lane a ≡ (u (block_of count i)).lane a
        within a i j lt h s e true t =
            let same = eqb-true a n t in
            rw same (next.within i j (rw same at h) (rw same at s) e ∙ before.later (block_of count i) n (omega arith))
        within a i j lt h s e false t =
            let ne = eqb-false a n t in
            next.others (block_of count i) a t ∙ before.within a i j (omega arith) h s e

        across : (a i j : ℕ) → a < n + 1 → listener net a ≡ Some i → speaker net a ≡ Some j → (block_of count i == block_of count j) ≡ false → (t : Bool) → (a == n) ≡ t
            → Becomes ((u (block_of count i)).lane a) ((u (block_of count j)).lane a) ((w (block_of count i)).lane a) ((w (block_of count j)).lane a)
        across a i j lt h s e true t =
            let same = eqb-true a n t in
            rw (same, ← before.later (block_of count i) n (omega arith), ← before.later (block_of count j) n (omega arith)) (next.across i j (rw same at h) (rw same at s) e)
        across a i j lt h s e false t =
            let ne = eqb-false a n t in
            rw (next.others (block_of count i) a t, next.others (block_of count j) a t) (before.across a i j (omega arith) h s e)

  seats_are : (net : PureNet) (count : ℕ) (v w : ℕ → View S M) → KeepsSeats v w → AreSameSeats net count v w
  seats_are net count v w k = record { node_is = k.node_is; clock_is = k.clock_is; log_is = k.log_is }

  pub all_linked : (net : PureNet) (count : ℕ) (v w : ℕ → View S M) → AreDoneBelow GetsLink net count (length net.arcs) v w → AreLinked net count v w
  all_linked net count v w d =
      record {
        seats = seats_are net count v w d.seats;
        within = λ a i j h s e. d.within a i j (listens_below net a i h) h s e;
        across = λ a i j h s e. let x = d.across a i j (listens_below net a i h) h s e in record { link = x.0; into_is = x.1; out_is = x.2 };
      }

  pub all_settled : (net : PureNet) (count : ℕ) (v w : ℕ → View S M) → AreDoneBelow LosesLink net count (length net.arcs) v w → AreSettled net count v w
  all_settled net count v w d =
      record {
        seats = seats_are net count v w d.seats;
        within = λ a i j h s e. d.within a i j (listens_below net a i h) h s e;
        across = λ a i j h s e received sent x. d.across a i j (listens_below net a i h) h s e x.link received sent x.into_is x.out_is;
      }

  -- the next arc is as it was at the start
  pub still_whole : (net : PureNet) (count n i : ℕ) (v w : ℕ → View S M) → AreGathered net count v → AreDoneBelow GetsLink net count n v w → listener net n ≡ Some i → IsWhole ((w (block_of count i)).lane n)
  still_whole net count n i v w gathered d h = subst IsWhole (sym (d.later (block_of count i) n (omega arith))) (gathered.whole n i h)

  pub still_ended : (net : PureNet) (count n i j : ℕ) (v w : ℕ → View S M) → AreEnded net count v → AreDoneBelow LosesLink net count n v w → listener net n ≡ Some i → speaker net n ≡ Some j
      → (block_of count i == block_of count j) ≡ false → HaveEnds ((w (block_of count i)).lane n) ((w (block_of count j)).lane n)
  still_ended net count n i j v w ended d h s e =
      let x = ended n i j h s e in
      (x.2.link, x.0, x.1, d.later (block_of count i) n (omega arith) ∙ x.2.into_is, d.later (block_of count j) n (omega arith) ∙ x.2.out_is)
