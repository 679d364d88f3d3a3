-- Histories one after another, and what was woven twice. Lemmas, so that proofs of other crates may cite them.
use Rattle.std.proofs.Common.{◌≡◌, ℕ, List, [], ◌∷◌, ◌++◌, Bool, true, false, Option, Some, None, cond, refl, sym, ap, ◌∙◌, append_assoc, append-nil}
use Rattle.std.specs.Prelude.{◌==◌}
use Rattle.net_graph.specs.Nets.{PureNet}
use Rattle.node_core.specs.Kinds.{Kind, listener, speaker, on_arc}
use Rattle.node_core.specs.Machine.{Machine}
use Rattle.node_core.specs.MachineLaws.{all_join, on_arc_join}
use Rattle.woven_laws.specs.Histories.{Taken, taken_on, clock_past, node_after, put_out, IsTimed, option_after, option_out}
use Rattle.woven_laws.specs.Woven.{Woven}

module _ {M : Type 0} where
  pub taken_on_join : (a : ℕ) (hs gs : List (Taken M)) → taken_on a (hs ++ gs) ≡ taken_on a hs ++ taken_on a gs
  taken_on_join a [] gs = refl
  taken_on_join a (h ∷ hs) gs = by (h.arc == a) (taken_on_join a hs gs)
    where
      by : (b : Bool) → taken_on a (hs ++ gs) ≡ taken_on a hs ++ taken_on a gs → cond b (h.message ∷ taken_on a (hs ++ gs)) (taken_on a (hs ++ gs)) ≡ cond b (h.message ∷ taken_on a hs) (taken_on a hs) ++ taken_on a gs
      by true r = ap (λ l. h.message ∷ l) r
      by false r = r

  pub clock_past_join : (t : ℕ) (hs gs : List (Taken M)) → clock_past t (hs ++ gs) ≡ clock_past (clock_past t hs) gs
  clock_past_join t [] gs = refl
  clock_past_join t (h ∷ hs) gs = clock_past_join h.clock hs gs

module _ {S M : Type 0} (k : Kind S M) where
  pub node_after_join : (s : S) (hs gs : List (Taken M)) → node_after k s (hs ++ gs) ≡ node_after k (node_after k s hs) gs
  node_after_join s [] gs = refl
  node_after_join s (h ∷ hs) gs = node_after_join (k.step s h.arc h.message h.clock).0 hs gs

  pub put_out_join : (s : S) (hs gs : List (Taken M)) → put_out k s (hs ++ gs) ≡ put_out k s hs ++ put_out k (node_after k s hs) gs
  put_out_join s [] gs = refl
  put_out_join s (h ∷ hs) gs =
      let next = k.step s h.arc h.message h.clock in
      ap (λ l. next.1 ++ l) (put_out_join next.0 hs gs) ∙ sym (append_assoc next.1 (put_out k next.0 hs) (put_out k (node_after k next.0 hs) gs))

  pub timed_join : (t : ℕ) (hs gs : List (Taken M)) → IsTimed k t hs → IsTimed k (clock_past t hs) gs → IsTimed k t (hs ++ gs)
  timed_join t [] gs a b = b
  timed_join t (h ∷ hs) gs a b = (a.0, timed_join h.clock hs gs a.1 b)

  pub option_after_join : (o : Option S) (hs gs : List (Taken M)) → option_after k (option_after k o hs) gs ≡ option_after k o (hs ++ gs)
  option_after_join None hs gs = refl
  option_after_join (Some s) hs gs = ap (λ x. Some x) (sym (node_after_join s hs gs))

  pub option_out_join : (o : Option S) (hs gs : List (Taken M)) → option_out k o (hs ++ gs) ≡ option_out k o hs ++ option_out k (option_after k o hs) gs
  option_out_join None hs gs = refl
  option_out_join (Some s) hs gs = put_out_join s hs gs

  pub after_none : (o : Option S) → option_after k o [] ≡ o
  after_none None = refl
  after_none (Some s) = refl

  pub out_none : (o : Option S) → option_out k o [] ≡ []
  out_none None = refl
  out_none (Some s) = refl

  -- where nodes took nothing the machine is the same
  pub woven_same : (net : PureNet) (c : Machine S M) → Woven k net c (λ i. []) c
  woven_same net c =
      record {
        node_is = λ i. sym (after_none (c.node i));
        none_takes = λ i none. refl;
        clock_is = λ i. refl;
        timed = λ i. tt;
        heard = λ i. tt;
        spoken = λ i. rw (out_none (c.node i)) tt;
        link_is = λ a i j listens speaks. rw (out_none (c.node j)) (append-nil (c.link a));
        outside = λ a past. refl;
      }

  module _ (net : PureNet) (c d e : Machine S M) (h g : ℕ → List (Taken M)) where
    -- two stretches of a run, one after the other
    pub woven_then : Woven k net c h d → Woven k net d g e → Woven k net c (λ i. h i ++ g i) e
    woven_then v w =
        record {
          node_is = λ i. w.node_is i ∙ (ap (λ o. option_after k o (g i)) (v.node_is i) ∙ option_after_join (c.node i) (h i) (g i));
          none_takes = λ i none. let first : h i ≡ [] = v.none_takes i none in let gone : d.node i ≡ None = v.node_is i ∙ ap (λ o. option_after k o (h i)) none in let then : g i ≡ [] = w.none_takes i gone in rw (first, then) refl;
          clock_is = λ i. w.clock_is i ∙ (ap (λ t. clock_past t (g i)) (v.clock_is i) ∙ sym (clock_past_join (c.clock i) (h i) (g i)));
          timed = λ i. timed_join (c.clock i) (h i) (g i) (v.timed i) (rw (v.clock_is i) at (w.timed i));
          heard = λ i. all_join (λ (t : Taken M). listener net t.arc ≡ Some i) (h i) (g i) (v.heard i) (w.heard i);
          spoken = λ i. rw (out i) (all_join (λ (p : ℕ × M). speaker net p.0 ≡ Some i) (option_out k (c.node i) (h i)) (option_out k (d.node i) (g i)) (v.spoken i) (w.spoken i));
          link_is = link;
          outside = λ a past. v.outside a past ∙ w.outside a past;
        }
      where
        out : (i : ℕ) → option_out k (c.node i) (h i ++ g i) ≡ option_out k (c.node i) (h i) ++ option_out k (d.node i) (g i)
        out i = option_out_join (c.node i) (h i) (g i) ∙ ap (λ o. option_out k (c.node i) (h i) ++ option_out k o (g i)) (sym (v.node_is i))

        link : (a i j : ℕ) → listener net a ≡ Some i → speaker net a ≡ Some j → c.link a ++ on_arc a (option_out k (c.node j) (h j ++ g j)) ≡ taken_on a (h i ++ g i) ++ e.link a
        link a i j listens speaks =
            let sent = on_arc a (option_out k (c.node j) (h j)) in
            let more_sent = on_arc a (option_out k (d.node j) (g j)) in
            let taken = taken_on a (h i) in
            let more_taken = taken_on a (g i) in
            let both : on_arc a (option_out k (c.node j) (h j ++ g j)) ≡ sent ++ more_sent =
            ap (on_arc a) (out j) ∙ on_arc_join a (option_out k (c.node j) (h j)) (option_out k (d.node j) (g j)) in
            rw (both, taken_on_join a (h i) (g i))
            (sym (append_assoc (c.link a) sent more_sent) ∙ (ap (λ l. l ++ more_sent) (v.link_is a i j listens speaks) ∙ (append_assoc taken (d.link a) more_sent ∙ (ap (λ l. taken ++ l) (w.link_is a i j listens speaks) ∙ sym (append_assoc taken more_taken (e.link a))))))
