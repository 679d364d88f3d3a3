-- What a change makes of a network is a network again. Lemmas, so that proofs of other crates may cite them.
use Rattle.std.proofs.Common.{◌≡◌, ℕ, zero, suc, ◌+◌, ◌≤◌, List, [], ◌∷◌, ◌++◌, Bool, true, false, not, eqb, length, map, filter, cond, take, slice_get, Some, subst, refl, ap, ◌∙◌, arith}
use Rattle.std.proofs.lemmas.List.{length-map, take_more}
use Rattle.std.proofs.lemmas.Option.{same_Some, slice_get_within, get_or_from_slice_get}
use Rattle.std.proofs.lemmas.Bool.Decides.{nat_tests}
use Rattle.std.specs.List.{AllByRecursion}
use Rattle.alg_model.specs.Expressions.{PureAlg, PureLabel}
use Rattle.alg_model.specs.Application.{IsLabel}
use Rattle.alg_model.specs.Bounds.{LabelAtMost, greatest_number}
use Rattle.net_graph.specs.Nets.{PureArc, PureNet, IsNet, IsArcOf, AreDistinct, AreNumbered, joins_same, is_arc_between, has_arc}
use Rattle.net_graph.specs.Lines.{arcs_with}
use Rattle.net_graph.specs.NetLaws.{all_passed, other_arcs_are_a_net, with_arc_is_net}
use Rattle.net_graph.specs.Changes.{PureChange, link, drop, relabelled, with_label, numbered_from, without_arc, changed, after_all, After, MayChange, AreChanges}

-- what holds of all, and is kept, holds of all images
all_images : {X Y : Type 0} (P : X → Type 0) (Q : Y → Type 0) (f : X → Y) (xs : List X) → ((x : X) → P x → Q (f x)) → AllByRecursion P xs → AllByRecursion Q (map f xs)
all_images P Q f [] k a = tt
all_images P Q f (x ∷ xs) k a = (k x a.0, all_images P Q f xs k a.1)

distinct_images : {X : Type 0} (same : X → X → Bool) (f : X → X) (xs : List X) → ((x y : X) → same (f x) (f y) ≡ same x y) → AreDistinct same xs → AreDistinct same (map f xs)
distinct_images same f [] k d = tt
distinct_images same f (x ∷ xs) k d = (all_images (λ y. same x y ≡ false) (λ y. same (f x) y ≡ false) f xs (λ y e. k x y ∙ e) d.0, distinct_images same f xs k d.1)

numbered_images : (f : PureArc → PureArc) (n : ℕ) (arcs : List PureArc) → ((a : PureArc) → (f a).id ≡ a.id) → AreNumbered n arcs → AreNumbered n (map f arcs)
numbered_images f n [] k r = tt
numbered_images f n (a ∷ arcs) k r = (k a ∙ r.0, numbered_images f (n + 1) arcs k r.1)

-- a label in the place of another changes neither the number nor the ends of an arc
pub record IsSameBut (a b : PureArc) : Type 0 where
  pub id : b.id ≡ a.id
  pub tail : b.tail ≡ a.tail
  pub head : b.head ≡ a.head

relabelled_is_same : (tail head : ℕ) (l : PureLabel) (a : PureArc) → IsSameBut a (relabelled tail head l a)
relabelled_is_same tail head l a = by (is_arc_between tail head a)
  where
    by : (b : Bool) → IsSameBut a (cond b (record a { label = l }) a)
    by true = record { id = refl; tail = refl; head = refl }
    by false = record { id = refl; tail = refl; head = refl }

joins_as_before : (tail head : ℕ) (l : PureLabel) (a b : PureArc) → joins_same (relabelled tail head l a) (relabelled tail head l b) ≡ joins_same a b
joins_as_before tail head l a b =
    let s = relabelled_is_same tail head l a in
    let t = relabelled_is_same tail head l b in
    rw (s.tail, s.head, t.tail, t.head) refl

relabelled_within : (alg : PureAlg) (nodes tail head : ℕ) (l : PureLabel) → IsLabel alg.expression l → LabelAtMost (greatest_number alg.edition) l → (a : PureArc) → IsArcOf alg nodes a → IsArcOf alg nodes (relabelled tail head l a)
relabelled_within alg nodes tail head l i b a h = by (is_arc_between tail head a)
  where
    by : (t : Bool) → IsArcOf alg nodes (cond t (record a { label = l }) a)
    by true = record { tail_in = h.tail_in; head_in = h.head_in; apart = h.apart; label_in = i; bound = b }
    by false = h

with_label_is_net : (net : PureNet) (tail head : ℕ) (l : PureLabel) → IsNet net → IsLabel net.alg.expression l → LabelAtMost (greatest_number net.alg.edition) l → IsNet (record net { arcs = with_label tail head l net.arcs })
with_label_is_net net tail head l n i b =
    let f = relabelled tail head l in
    let same = length-map net.arcs f in
    other_arcs_are_a_net net (with_label tail head l net.arcs) n (omega (arith, same, n.arc_room))
    (all_images (IsArcOf net.alg (length net.nodes)) (IsArcOf net.alg (length net.nodes)) f net.arcs (relabelled_within net.alg (length net.nodes) tail head l i b) n.arcs_in)
    (distinct_images joins_same f net.arcs (joins_as_before tail head l) n.arc_apart)
    (numbered_images f 0 net.arcs (λ a. (relabelled_is_same tail head l a).id) n.arc_ids)

distinct_passed : {X : Type 0} (same : X → X → Bool) (p : X → Bool) (xs : List X) → AreDistinct same xs → AreDistinct same (filter p xs)
distinct_passed same p [] d = tt
distinct_passed {X} same p (x ∷ xs) d = by (p x) (distinct_passed same p xs d.1)
  where
    by : (b : Bool) → AreDistinct same (filter p xs) → AreDistinct same (cond b (x ∷ filter p xs) (filter p xs))
    by true more = (all_passed (λ y. same x y ≡ false) p xs d.0, more)
    by false more = more

fewer_passed : {X : Type 0} (p : X → Bool) (xs : List X) → length (filter p xs) ≤ length xs
fewer_passed p [] = omega arith
fewer_passed {X} p (x ∷ xs) = by (p x) (fewer_passed p xs)
  where
    by : (b : Bool) → length (filter p xs) ≤ length xs → length (cond b (x ∷ filter p xs) (filter p xs)) ≤ length (x ∷ xs)
    by true more = omega arith
    by false more = omega arith

-- what doesn't look at the numbers holds of the arcs with other numbers
all_renumbered : (P : PureArc → Type 0) (n : ℕ) (arcs : List PureArc) → ((a : PureArc) (i : ℕ) → P a → P (record a { id = i })) → AllByRecursion P arcs → AllByRecursion P (numbered_from n arcs)
all_renumbered P n [] k a = tt
all_renumbered P n (x ∷ arcs) k a = (k x n a.0, all_renumbered P (n + 1) arcs k a.1)

distinct_renumbered : (n : ℕ) (arcs : List PureArc) → AreDistinct joins_same arcs → AreDistinct joins_same (numbered_from n arcs)
distinct_renumbered n [] d = tt
distinct_renumbered n (x ∷ arcs) d = (all_renumbered (λ y. joins_same x y ≡ false) (n + 1) arcs (λ a i e. e) d.0, distinct_renumbered (n + 1) arcs d.1)

renumbered : (n : ℕ) (arcs : List PureArc) → AreNumbered n (numbered_from n arcs)
renumbered n [] = tt
renumbered n (x ∷ arcs) = (refl, renumbered (n + 1) arcs)

pub length-numbered_from : (n : ℕ) (arcs : List PureArc) → length (numbered_from n arcs) ≡ length arcs
length-numbered_from n [] = refl
length-numbered_from n (a ∷ arcs) = rw (length-numbered_from (n + 1) arcs) refl

without_arc_is_net : (net : PureNet) (tail head : ℕ) → IsNet net → IsNet (record net { arcs = without_arc tail head net.arcs })
without_arc_is_net net tail head n =
    let others : PureArc → Bool = λ a. not (is_arc_between tail head a) in
    let left = filter others net.arcs in
    let count = length-numbered_from 0 left in
    let fewer = fewer_passed others net.arcs in
    other_arcs_are_a_net net (numbered_from 0 left) n (omega (arith, count, fewer, n.arc_room))
    (all_renumbered (IsArcOf net.alg (length net.nodes)) 0 left
    (λ a i h. record { tail_in = h.tail_in; head_in = h.head_in; apart = h.apart; label_in = h.label_in; bound = h.bound })
    (all_passed (IsArcOf net.alg (length net.nodes)) others net.arcs n.arcs_in))
    (distinct_renumbered 0 left (distinct_passed joins_same others net.arcs n.arc_apart))
    (renumbered 0 left)

-- a network with a change that it may have is a network
pub changed_is_net : (net : PureNet) (c : PureChange) → IsNet net → MayChange net c → IsNet (changed net c)
changed_is_net net (drop tail head) n m = without_arc_is_net net tail head n
changed_is_net net (link tail head l) n m = by (has_arc net tail head) refl
  where
    differ : eqb tail head ≡ false
    differ = let apart = m.apart in grind (arith, nat_tests)

    by : (b : Bool) → has_arc net tail head ≡ b → IsNet (record net { arcs = cond b (with_label tail head l net.arcs) (arcs_with tail head l net.arcs) })
    by true e = with_label_is_net net tail head l n m.label_in m.bound
    by false e = with_arc_is_net net tail head l n (record { tail_in = m.tail_in; head_in = m.head_in; apart = differ; label_in = m.label_in; bound = m.bound }) e (m.room e)

-- and so is one with changes that it may have, one after another
pub after_all_is_net : (net : PureNet) (cs : List PureChange) → IsNet net → AreChanges net cs → IsNet (after_all net cs)
after_all_is_net net [] n m = n
after_all_is_net net (c ∷ cs) n m = after_all_is_net (changed net c) cs (changed_is_net net c n m.0) m.1

-- and after the first k of them
pub after_is_net : (net : PureNet) (cs : List PureChange) (k : ℕ) → IsNet net → AreChanges net cs → IsNet (After net cs k)
after_is_net net [] zero n m = n
after_is_net net [] (suc k) n m = n
after_is_net net (c ∷ cs) zero n m = n
after_is_net net (c ∷ cs) (suc k) n m = after_is_net (changed net c) cs k (changed_is_net net c n m.0) m.1

-- changes leave all but the arcs as it is
pub after_all_keeps : (net : PureNet) (cs : List PureChange) → after_all net cs ≡ record net { arcs = (after_all net cs).arcs }
after_all_keeps net [] = refl
after_all_keeps net (c ∷ cs) = after_all_keeps (changed net c) cs

pub after_keeps : (net : PureNet) (cs : List PureChange) (k : ℕ) → After net cs k ≡ record net { arcs = (After net cs k).arcs }
after_keeps net cs k = after_all_keeps net (take k cs)

-- a change more, after the others
pub after_all_more : (net : PureNet) (cs : List PureChange) (c : PureChange) → after_all net (cs ++ c ∷ []) ≡ changed (after_all net cs) c
after_all_more net [] c = refl
after_all_more net (d ∷ cs) c = after_all_more (changed net d) cs c

pub are_changes_more : (net : PureNet) (cs : List PureChange) (c : PureChange) → AreChanges net cs → MayChange (after_all net cs) c → AreChanges net (cs ++ c ∷ [])
are_changes_more net [] c a m = (m, tt)
are_changes_more net (d ∷ cs) c a m = (a.0, are_changes_more (changed net d) cs c a.1 m)

-- the next change is one that the network after those before it may have, and makes the next network of it
pub may_change_next : (net : PureNet) (cs : List PureChange) (k : ℕ) (c : PureChange) → AreChanges net cs → slice_get cs k ≡ Some c → MayChange (After net cs k) c
may_change_next net [] k c a e = absurd (cc)
may_change_next net (d ∷ cs) zero c a e = subst (MayChange net) (same_Some d c e) a.0
may_change_next net (d ∷ cs) (suc k) c a e = may_change_next (changed net d) cs k c a.1 e

pub after_next : (net : PureNet) (cs : List PureChange) (k : ℕ) (c : PureChange) → slice_get cs k ≡ Some c → After net cs (k + 1) ≡ changed (After net cs k) c
after_next net cs k c e =
    let more = take_more cs k c (slice_get_within cs k c e) ∙ ap (λ d. take k cs ++ d ∷ []) (get_or_from_slice_get cs k c c e) in
    ap (after_all net) more ∙ after_all_more net (take k cs) c
