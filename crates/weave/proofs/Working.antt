-- What a worker does with its part adds up, counts and all.
use Rattle.std.proofs.Common.{◌≡◌, ℕ, zero, suc, ◌+◌, ◌*◌, ◌<◌, ◌≤◌, [], ◌++◌, Some, length, sym, ap, subst, arith}
use Rattle.net_graph.specs.Nets.{PureNet, IsNet}
use Rattle.net_graph.specs.declared.limits.TheConstants.{MAX_ARCS}
use Rattle.quiet_ledger.specs.declared.book.TheConstants.{MAX_SHARE}
use Rattle.node_core.specs.Kinds.{Kind, IsLawful, on_arc, speaker}
use Rattle.node_core.specs.MachineLaws.{speaks_within, all_mapped}
use Rattle.woven_laws.specs.Counts.{total}
use Rattle.woven_laws.specs.CountLaws.{on_arc_total}
use Rattle.weave.specs.declared.part.Part.{Part}
use Rattle.weave.specs.Views.{View, AreSeated, TakesOne, IsSameView}
use Rattle.weave.specs.Blocks.{view_of, sent_in, taken_in, IsReady, HasWorked}
use Rattle.weave.proofs.Runs.{run_same, run_then, sent_then, taken_then, none_sent, none_taken, one, run_taken, sent_taken, one_taken, seated_run}

-- a sum of numbers none of which is above 1
few : (n : ℕ) (f : ℕ → ℕ) → ((i : ℕ) → f i ≤ 1) → total n f ≤ n
few zero f h = omega arith
few (suc n) f h = let r = few n f h in let s = h n in omega (arith, r, s)

-- a step puts out no more messages than there are arcs
pub few_sent : {S M : Type 0} (k : Kind S M) (net : PureNet) → IsLawful k → IsNet net → (s : S) (a : ℕ) (m : M) (t : ℕ) → k.net s ≡ net → length (k.step s a m t).1 ≤ MAX_ARCS
few_sent k net lawful is_net s a m t same =
    let its = subst (λ n. IsNet n) (sym same) is_net in
    let n = length (k.net s).arcs in
    let inside = all_mapped (λ p. speaker (k.net s) p.0 ≡ Some (k.number s)) (λ p. p.0 < n) (λ p e. speaks_within (k.net s) p.0 (k.number s) e) (k.step s a m t).1 ((lawful.step_sends s a m t).spoken its) in
    let sum = on_arc_total n (k.step s a m t).1 inside in
    let most = few n (λ b. length (on_arc b (k.step s a m t).1)) (λ b. lawful.step_few s a b m t its) in
    let room = its.arc_room in
    omega (arith, sum, most, room)

module _ {N M S W : Type 0} (state : N → S) (note : M → W) (k : Kind S W) (net : PureNet) where
  -- a part whose view and counts stayed
  pub worked_same : (p q : Part N M) → IsSameView (view_of state note p.block) (view_of state note q.block) → sent_in q ≡ sent_in p → taken_in q ≡ taken_in p → q.turns ≡ p.turns → HasWorked state note k net p q
  worked_same p q same sent taken turns =
      let none = none_sent k net (view_of state note p.block).node in
      let zero_taken = none_taken k net W in
      record {
        history = λ i. [];
        run = run_same k net (view_of state note p.block) (view_of state note q.block) same;
        sent = omega (arith, sent, none);
        taken = omega (arith, taken, zero_taken);
        turns = omega (arith, turns, taken);
        room = rw (turns, sent) (omega arith);
      }

  pub worked_then : (p q r : Part N M) → HasWorked state note k net p q → HasWorked state note k net q r → HasWorked state note k net p r
  worked_then p q r a b =
      let v = view_of state note p.block in
      let w = view_of state note q.block in
      let x = view_of state note r.block in
      let sent = sent_then k net v w x a.history b.history a.run b.run in
      let taken = taken_then k net v w x a.history b.history a.run b.run in
      let s1 = a.sent in
      let s2 = b.sent in
      let t1 = a.taken in
      let t2 = b.taken in
      let u1 = a.turns in
      let u2 = b.turns in
      let r1 = a.room in
      let r2 = b.room in
      record {
        history = λ i. a.history i ++ b.history i;
        run = run_then k net v w x a.history b.history a.run b.run;
        sent = omega (arith, sent, s1, s2);
        taken = omega (arith, taken, t1, t2);
        turns = omega (arith, u1, u2);
        room = omega (arith, r1, r2);
      }

  pub ready_still : IsLawful k → (p q : Part N M) → IsReady state note k net p → HasWorked state note k net p q → IsReady state note k net q
  ready_still lawful p q ready w =
      let r1 = ready.sent_room in
      let r2 = ready.taken_room in
      let s = w.room in
      let t = w.turns in
      record {
        seated = seated_run k net lawful (view_of state note p.block) (view_of state note q.block) w.history ready.seated w.run;
        sent_room = omega (arith, r1, s);
        taken_room = omega (arith, r2, t);
      }

  -- a message more was taken, and what came of it was sent
  pub worked_taken : IsLawful k → IsNet net → (p q : Part N M) (count : ℕ) → AreSeated k net (view_of state note p.block) → TakesOne k net (view_of state note p.block) count (view_of state note q.block)
      → sent_in q ≡ sent_in p + count → taken_in q ≡ taken_in p + 1 → q.turns + 1 ≡ p.turns → HasWorked state note k net p q
  worked_taken lawful is_net p q count seated (e, out, len, taken_on) sent taken turns =
      let v = view_of state note p.block in
      let w = view_of state note q.block in
      let place = seated taken_on.number taken_on.node taken_on.was in
      let many = sent_taken k net lawful is_net v w e out seated taken_on in
      let once = one_taken k net lawful is_net v w e out seated taken_on in
      let most = few_sent k net lawful is_net taken_on.node e.arc.0 taken_on.message e.clock place.net_is in
      let out_len = ap length taken_on.out_is in
      record {
        history = one k net lawful is_net v w e out seated taken_on;
        run = run_taken k net lawful is_net v w e out seated taken_on;
        sent = omega (arith, sent, many, len);
        taken = omega (arith, taken, once);
        turns = omega (arith, turns, taken);
        room = roomy (sent_in p) (sent_in q) p.turns q.turns count sent turns (omega (arith, most, out_len, len));
      }
    where
      roomy : (s s' t t' n : ℕ) → s' ≡ s + n → t' + 1 ≡ t → n ≤ MAX_ARCS → s' + t' * MAX_ARCS ≤ s + t * MAX_ARCS
      roomy s s' t t' n e f h = rw (e, ← f) (omega (arith, h))

  -- which are no more than there are arcs
  pub takes_few : IsLawful k → IsNet net → (v w : View S W) (count : ℕ) → AreSeated k net v → TakesOne k net v count w → count ≤ MAX_ARCS
  takes_few lawful is_net v w count seated (e, out, len, x) =
      let place = seated x.number x.node x.was in
      let most = few_sent k net lawful is_net x.node e.arc.0 x.message e.clock place.net_is in
      let out_len = ap length x.out_is in
      omega (arith, most, out_len, len)

  -- so they can be counted
  pub counted_room : (sent turns count : ℕ) → sent + turns * MAX_ARCS ≤ MAX_SHARE → 0 < turns → count ≤ MAX_ARCS → sent + count ≤ MAX_SHARE
  counted_room sent turns count h g f = by turns h g
    where
      by : (t : ℕ) → sent + t * MAX_ARCS ≤ MAX_SHARE → 0 < t → sent + count ≤ MAX_SHARE
      by zero h g = absurd (omega (arith, g))
      by (suc t) h g = omega (arith, h, f)
