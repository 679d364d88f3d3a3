-- What all workers of a round did, from their parts.
use Rattle.std.proofs.Common.{◌≡◌, ℕ, zero, suc, ◌+◌, ◌*◌, ◌/◌, ◌%◌, ◌<◌, ◌≤◌, List, [], ◌∷◌, Option, Some, None, All, slice_get, slice_index_or, map, length, refl, sym, ap, subst, subst₂, ◌∙◌, arith}
use Rattle.std.specs.Prelude.{◌==◌, false, true, Bool, cond, sum_by}
use Rattle.std.specs.Option.{option_map}
use Rattle.std.proofs.lemmas.Bool.{eqb-true}
use Rattle.std.proofs.lemmas.List.{length-map}
use Rattle.std.proofs.Math.Nat.{div-add-mod}
use Rattle.std.proofs.lemmas.Option.{same_Some, slice_get-map, slice_get_within, get_or_from_slice_get}
use Rattle.net_graph.specs.Nets.{PureNet}
use Rattle.node_core.specs.declared.node.TheConstants.{MAX_CLOCK}
use Rattle.node_core.specs.Kinds.{Kind}
use Rattle.node_core.specs.MachineLaws.{option_from}
use Rattle.node_core.specs.Running.{IsRunning}
use Rattle.quiet_ledger.specs.Ledger.{sent_by, taken_by}
use Rattle.quiet_ledger.specs.declared.book.Share.{Share}
use Rattle.quiet_ledger.specs.declared.totals.Totals.{Totals}
use Rattle.woven_laws.specs.Counts.{total, sent_by_all, taken_by_all}
use Rattle.woven_laws.specs.CountLaws.{total_below}
use Rattle.weave.specs.declared.block.Block.{Block}
use Rattle.weave.specs.declared.part.Part.{Part}
use Rattle.weave.specs.Views.{View, IsSeated, HasRun, IsSameView}
use Rattle.weave.specs.Blocks.{view_of, IsEntered, IsReady, HasWorked}
use Rattle.weave.specs.Gathered.{block_of, no_view, view_at, machine_across, AreGathered, AreLinked, AreSettled}
use Rattle.weave.specs.Rounds.{share_of, AreLent, IsRound, HasRunIn}
use Rattle.weave.proofs.Runs.{run_same}
use Rattle.weave.proofs.Round.{round_sent, round_taken, round_is, round_gathered, round_logs, shares_add_up, sum_total}

-- a share of the turns is no more than all of them
whole_shares : (q r count : ℕ) → 0 < count → q + r ≤ count * q + r
whole_shares q r zero h = absurd (omega (arith, h))
whole_shares q r (suc count) h = omega arith

module _ {N M S W : Type 0} (state : N → S) (note : M → W) (k : Kind S W) (net : PureNet) where
  the_block : Part N M → Block N M
  the_block p = p.block

  -- the view of a part's block, among those of all
  pub view_there : (parts : List (Part N M)) (blocks : List (Block N M)) (w : ℕ) (p : Part N M) → map (λ (x : Part N M). x.block) parts ≡ blocks → slice_get parts w ≡ Some p → view_at state note blocks w ≡ view_of state note p.block
  view_there parts blocks w p are at =
      let one : slice_get blocks w ≡ Some p.block = ap (λ l. slice_get l w) (sym are) ∙ (slice_get-map (λ (x : Part N M). x.block) parts w ∙ ap (option_map (λ (x : Part N M). x.block)) at) in
      rw one refl

  view_past : (parts : List (Part N M)) (blocks : List (Block N M)) (w : ℕ) → map (λ (x : Part N M). x.block) parts ≡ blocks → slice_get parts w ≡ None → view_at state note blocks w ≡ no_view
  view_past parts blocks w are at =
      let one : slice_get blocks w ≡ None = ap (λ l. slice_get l w) (sym are) ∙ (slice_get-map (λ (x : Part N M). x.block) parts w ∙ ap (option_map (λ (x : Part N M). x.block)) at) in
      rw one refl

  nothing_seen : IsSameView {S = S} {M = W} no_view no_view
  nothing_seen = record { node_is = λ i. refl; clock_is = λ i. refl; log_is = λ i. refl; lane_is = λ b. tt }

  module _ (count turns extra : ℕ) (parts parts' : List (Part N M)) (blocks blocks' : List (Block N M))
      (lent : AreLent turns count extra blocks parts) (returned : map (λ (x : Part N M). x.block) parts' ≡ blocks') (same : length parts ≡ length parts')
      (worked : (w : ℕ) (p q : Part N M) → slice_get parts w ≡ Some p → slice_get parts' w ≡ Some q → HasWorked state note k net p q × IsEntered q) where
    -- what worker w did
    pub record HasDone (w : ℕ) : Type 0 where
      pub ran : HasRunIn k net count (view_at state note blocks) (view_at state note blocks') w
      pub sent : (q : Part N M) → slice_get parts' w ≡ Some q → sent_by q.share ≡ sent_by_all k net (view_at state note blocks w).node ran.history
      pub taken : (q : Part N M) → slice_get parts' w ≡ Some q → taken_by q.share ≡ taken_by_all net ran.history
      pub few : (q : Part N M) → slice_get parts' w ≡ Some q → taken_by q.share ≤ share_of turns count extra w

    done_by : (w : ℕ) (p q : Part N M) → slice_get parts w ≡ Some p → slice_get parts' w ≡ Some q → HasDone w
    done_by w p q at at' =
        let work = (worked w p q at at').0 in
        let entered = (worked w p q at at').1 in
        let first = view_there parts blocks w p lent.blocks_are at in
        let second = view_there parts' blocks' w q returned at' in
        let fresh = lent.fresh w p at in
        let turns_are = lent.turns_are w p at in
        let run = subst₂ (λ v x. HasRun k net v work.history x) (sym first) (sym second) work.run in
        let nodes : sent_by_all k net (view_at state note blocks w).node work.history ≡ sent_by_all k net (view_of state note p.block).node work.history = ap (λ v. sent_by_all k net v.node work.history) first in
        let s1 = work.sent in
        let s2 = fresh.sent in
        let s3 = entered.0 in
        let t1 = work.taken in
        let t2 = fresh.taken in
        let t3 = entered.1 in
        let u = work.turns in
        record {
          ran = record { history = work.history; run = run };
          sent = λ x e. let is : q ≡ x = same_Some _ _ (sym at' ∙ e) in subst (λ y. sent_by y.share ≡ sent_by_all k net (view_at state note blocks w).node work.history) is (omega (arith, s1, s2, s3) ∙ sym nodes);
          taken = λ x e. let is : q ≡ x = same_Some _ _ (sym at' ∙ e) in subst (λ y. taken_by y.share ≡ taken_by_all net work.history) is (omega (arith, t1, t2, t3));
          few = λ x e. let is : q ≡ x = same_Some _ _ (sym at' ∙ e) in subst (λ y. taken_by y.share ≤ share_of turns count extra w) is (subst (λ t. taken_by q.share ≤ t) turns_are (omega (arith, t2, t3, u)));
        }

    idle : (w : ℕ) → slice_get parts w ≡ None → slice_get parts' w ≡ None → HasDone w
    idle w at at' =
        let first = view_past parts blocks w lent.blocks_are at in
        let second = view_past parts' blocks' w returned at' in
        record {
          ran = record { history = λ i. []; run = subst₂ (λ v x. HasRun k net v (λ i. []) x) (sym first) (sym second) (run_same k net no_view no_view nothing_seen) };
          sent = λ q e. absurd (no_part q e);
          taken = λ q e. absurd (no_part q e);
          few = λ q e. absurd (no_part q e);
        }
      where
        no_part : (q : Part N M) → slice_get parts' w ≡ Some q → ⊥
        no_part q e = let none : None ≡ Some q = sym at' ∙ e in absurd (cc)

    there : {X : Type 0} (xs : List X) (i : ℕ) → i < length xs → slice_get xs i ≡ None → ⊥
    there [] i h e = absurd (omega (arith, h))
    there (x ∷ xs) zero h e = absurd (cc)
    there (x ∷ xs) (suc i) h e = there xs i (omega (arith, h)) e

    pub done : (w : ℕ) → HasDone w
    done w = by (slice_get parts w) refl (slice_get parts' w) refl
      where
        by : (o : Option (Part N M)) → slice_get parts w ≡ o → (o' : Option (Part N M)) → slice_get parts' w ≡ o' → HasDone w
        by (Some p) at (Some q) at' = done_by w p q at at'
        by None at None at' = idle w at at'
        by (Some p) at None at' = absurd (there parts' w (subst (λ n. w < n) same (slice_get_within parts w p at)) at')
        by None at (Some q) at' = absurd (there parts w (subst (λ n. w < n) (sym same) (slice_get_within parts' w q at')) at)

    abbrev pub ran : (w : ℕ) → HasRunIn k net count (view_at state note blocks) (view_at state note blocks') w
    ran w = (done w).ran

    shares_of : List Share
    shares_of = map (λ (x : Part N M). x.share) parts'

    share_at : (w : ℕ) (s : Share) → slice_get (map (λ (x : Part N M). x.share) parts') w ≡ Some s → (q : Part N M) × (slice_get parts' w ≡ Some q) × (q.share ≡ s)
    share_at w s e = option_from (λ (x : Part N M). x.share) (slice_get parts' w) s (sym (slice_get-map (λ (x : Part N M). x.share) parts' w) ∙ e)

    pub all_sent : sum_by sent_by (map (λ (x : Part N M). x.share) parts') ≡ total (length parts') (λ w. sent_by_all k net (view_at state note blocks w).node (ran w).history)
    all_sent =
        sum_total sent_by (map (λ (x : Part N M). x.share) parts') (λ w. sent_by_all k net (view_at state note blocks w).node (ran w).history)
        (λ w s e. let x = share_at w s e in sym (ap sent_by x.2) ∙ (done w).sent x.0 x.1)
        ∙ ap (λ n. total n (λ w. sent_by_all k net (view_at state note blocks w).node (ran w).history)) (length-map parts' (λ (x : Part N M). x.share))

    pub all_taken : sum_by taken_by (map (λ (x : Part N M). x.share) parts') ≡ total (length parts') (λ w. taken_by_all net (ran w).history)
    all_taken =
        sum_total taken_by (map (λ (x : Part N M). x.share) parts') (λ w. taken_by_all net (ran w).history)
        (λ w s e. let x = share_at w s e in sym (ap taken_by x.2) ∙ (done w).taken x.0 x.1)
        ∙ ap (λ n. total n (λ w. taken_by_all net (ran w).history)) (length-map parts' (λ (x : Part N M). x.share))

    pub few_taken : length parts' ≡ count → extra < count → total count (λ w. taken_by_all net (ran w).history) ≤ turns
    few_taken len within =
        subst (λ n. total count (λ w. taken_by_all net (ran w).history) ≤ n) (shares_add_up turns count extra within)
        (total_below count (λ w. taken_by_all net (ran w).history) (share_of turns count extra) (λ w h. each w (subst (λ n. w < n) (sym len) h)))
      where
        each : (w : ℕ) → w < length parts' → taken_by_all net (ran w).history ≤ share_of turns count extra w
        each w h = by (slice_get parts' w) refl
          where
            by : (o : Option (Part N M)) → slice_get parts' w ≡ o → taken_by_all net (ran w).history ≤ share_of turns count extra w
            by None e = absurd (there parts' w h e)
            by (Some q) e = subst (λ n. n ≤ share_of turns count extra w) ((done w).taken q e) ((done w).few q e)

    -- a round, whole
    pub round_done : (old new : ℕ → View S W) → AreGathered net count old → AreLinked net count old (view_at state note blocks) → AreSettled net count (view_at state note blocks') new
        → length parts' ≡ count → 0 < count → extra < count → (before after : Totals) → after.sent ≡ before.sent + sum_by sent_by (map (λ (x : Part N M). x.share) parts') → after.taken ≡ before.taken + sum_by taken_by (map (λ (x : Part N M). x.share) parts')
        → IsRound k net count turns old new before after
    round_done old new gathered linked settled len some within before after sent taken =
        let first = view_at state note blocks in
        let second = view_at state note blocks' in
        let many_sent = round_sent k net count old first second gathered linked ran some in
        let many_taken = round_taken k net count old first second gathered linked ran some in
        record {
          history = λ i. (ran (block_of count i)).history i;
          woven = round_is k net count old first second gathered linked ran new settled;
          gathered = round_gathered k net count old first second gathered linked ran new settled;
          log_is = round_logs k net count old first second gathered linked ran new settled;
          sent = sent ∙ ap (λ n. before.sent + n) (all_sent ∙ (ap (λ n. total n (λ w. sent_by_all k net (view_at state note blocks w).node (ran w).history)) len ∙ many_sent));
          taken = taken ∙ ap (λ n. before.taken + n) (all_taken ∙ (ap (λ n. total n (λ w. taken_by_all net (ran w).history)) len ∙ many_taken));
          few = subst (λ n. n ≤ turns) many_taken (few_taken len within);
        }

  -- workers may take up what they are lent
  pub lent_ready : (count turns extra : ℕ) (parts : List (Part N M)) (blocks : List (Block N M)) (old : ℕ → View S W) → AreLent turns count extra blocks parts → 0 < count → turns ≤ MAX_CLOCK
      → AreGathered net count old → AreLinked net count old (view_at state note blocks) → IsRunning k net (machine_across net count old) → (w : ℕ) (p : Part N M) → slice_get parts w ≡ Some p → IsReady state note k net p
  lent_ready count turns extra parts blocks old lent some few gathered linked running w p at =
      let fresh = lent.fresh w p at in
      let turns_are = lent.turns_are w p at in
      let s = fresh.sent in
      let t = fresh.taken in
      let mine : p.turns ≤ turns = subst (λ n. n ≤ turns) (sym turns_are) (mine_of (w == extra)) in
      record {
        seated = λ i x e. seated i x (subst (λ v. v.node i ≡ Some x) (sym (view_there parts blocks w p lent.blocks_are at)) e);
        sent_room = omega (arith, s, mine, few);
        taken_room = omega (arith, t, mine, few);
      }
    where
      whole : turns / count + turns % count ≤ turns
      whole = subst (λ n. turns / count + turns % count ≤ n) (div-add-mod turns count) (whole_shares (turns / count) (turns % count) count some)

      mine_of : (b : Bool) → turns / count + cond b (turns % count) 0 ≤ turns
      mine_of true = whole
      mine_of false = let h = whole in omega (arith, h)

      here : (i : ℕ) (x : S) → w ≡ block_of count i → (old w).node i ≡ Some x → IsSeated k net i ((old w).clock i) x
      here i x same e =
          let at = running.each i x (subst (λ b. (old b).node i ≡ Some x) same e) in
          record { net_is = at.net_is; number_is = at.number_is; begun = at.begun; last_is = at.last_is ∙ ap (λ b. (old b).clock i) (sym same) }

      seated : (i : ℕ) (x : S) → (view_at state note blocks w).node i ≡ Some x → IsSeated k net i ((view_of state note p.block).clock i) x
      seated i x e =
          let was : (old w).node i ≡ Some x = sym (linked.seats.node_is w i) ∙ e in
          let clock : (old w).clock i ≡ (view_of state note p.block).clock i = sym (linked.seats.clock_is w i) ∙ ap (λ v. v.clock i) (view_there parts blocks w p lent.blocks_are at) in
          by (w == block_of count i) refl was clock
        where
          by : (b : Bool) → (w == block_of count i) ≡ b → (old w).node i ≡ Some x → (old w).clock i ≡ (view_of state note p.block).clock i → IsSeated k net i ((view_of state note p.block).clock i) x
          by true t was clock = subst (λ c. IsSeated k net i c x) clock (here i x (eqb-true w (block_of count i) t) was)
          by false t was clock = let none = gathered.own i w t in absurd (cc)

  -- what each worker did with its part
  pub each_worked : (n : ℕ) (parts parts' : List (Part N M)) → length parts ≡ n → length parts' ≡ n
      → ((w : ℕ) (d : Part N M) → w < n → (slice_index_or parts' w d).refused ≡ false → HasWorked state note k net (slice_index_or parts w d) (slice_index_or parts' w d) × IsEntered (slice_index_or parts' w d))
      → All (λ (x : Part N M). x.refused ≡ false) parts'
      → (w : ℕ) (p q : Part N M) → slice_get parts w ≡ Some p → slice_get parts' w ≡ Some q → HasWorked state note k net p q × IsEntered q
  each_worked n parts parts' len len' then unrefused w p q at at' =
      let within : w < n = subst (λ m. w < m) len (slice_get_within parts w p at) in
      let within' : w < length parts' = subst (λ m. w < m) (sym len') within in
      let is : slice_index_or parts w p ≡ p = get_or_from_slice_get parts w p p at in
      let is' : slice_index_or parts' w p ≡ q = get_or_from_slice_get parts' w q p at' in
      let b = then w p within (unrefused w p within') in
      (subst₂ (HasWorked state note k net) is is' b.0, subst IsEntered is' b.1)
