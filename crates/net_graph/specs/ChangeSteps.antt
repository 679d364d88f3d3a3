-- What one change more does: which arcs are there after it, and how many. Lemmas, so that proofs of other
-- crates may cite them.
use Rattle.std.proofs.Common.{◌≡◌, ◌+◌, ℕ, List, [], ◌∷◌, ◌++◌, Bool, true, false, not, ◌||◌, ◌&&◌, eqb, length, filter, cond, refl, ap, ◌∙◌, arith}
use Rattle.std.proofs.lemmas.List.{length-map, length_push}
use Rattle.std.proofs.lemmas.Bool.Decides.{nat_tests}
use Rattle.std.specs.List.{list_any, AllByRecursion}
use Rattle.alg_model.specs.Expressions.{PureLabel}
use Rattle.net_graph.specs.Nets.{PureArc, PureNet, IsNet, AreDistinct, joins_same, is_arc_between, has_arc}
use Rattle.net_graph.specs.Lines.{arcs_with}
use Rattle.net_graph.specs.Changes.{PureChange, link, drop, relabelled, with_label, numbered_from, changed, after_all}
use Rattle.net_graph.specs.ChangeLaws.{length-numbered_from}

-- the pairs of nodes are the same
abbrev pub is_pair : ℕ → ℕ → ℕ → ℕ → Bool
is_pair t h tail head = eqb t tail && eqb h head

-- the arc is there after a change, where it was there before it or not
abbrev pub is_there_after : ℕ → ℕ → PureChange → Bool → Bool
is_there_after tail head (link t h l) there = cond (is_pair t h tail head) true there
is_there_after tail head (drop t h) there = cond (is_pair t h tail head) false there

-- and after changes, one after another
abbrev pub is_there_after_all : ℕ → ℕ → List PureChange → Bool → Bool
is_there_after_all tail head [] there = there
is_there_after_all tail head (c ∷ cs) there = is_there_after_all tail head cs (is_there_after tail head c there)

-- another label changes no arc's ends
relabelled_joins : (t h tail head : ℕ) (l : PureLabel) (a : PureArc) → is_arc_between tail head (relabelled t h l a) ≡ is_arc_between tail head a
relabelled_joins t h tail head l a = by (is_arc_between t h a)
  where
    by : (b : Bool) → is_arc_between tail head (cond b (record a { label = l }) a) ≡ is_arc_between tail head a
    by true = refl
    by false = refl

relabelled_has : (t h tail head : ℕ) (l : PureLabel) (arcs : List PureArc) → list_any (is_arc_between tail head) (with_label t h l arcs) ≡ list_any (is_arc_between tail head) arcs
relabelled_has t h tail head l [] = refl
relabelled_has t h tail head l (a ∷ arcs) = rw (relabelled_joins t h tail head l a, relabelled_has t h tail head l arcs) refl

-- an arc more is there too
added_has : (t h tail head n : ℕ) (l : PureLabel) (arcs : List PureArc)
    → list_any (is_arc_between tail head) (arcs ++ record { id = n; tail = t; head = h; label = l } ∷ []) ≡ cond (is_pair t h tail head) true (list_any (is_arc_between tail head) arcs)
added_has t h tail head n l [] = by (is_pair t h tail head)
  where
    by : (b : Bool) → (b || false) ≡ cond b true false
    by true = refl
    by false = refl
added_has t h tail head n l (a ∷ arcs) = rw (added_has t h tail head n l arcs) (by (is_pair t h tail head) (is_arc_between tail head a))
  where
    by : (b c : Bool) → (c || cond b true (list_any (is_arc_between tail head) arcs)) ≡ cond b true (c || list_any (is_arc_between tail head) arcs)
    by true true = refl
    by true false = refl
    by false c = refl

-- numbers say nothing of ends
renumbered_has : (tail head n : ℕ) (arcs : List PureArc) → list_any (is_arc_between tail head) (numbered_from n arcs) ≡ list_any (is_arc_between tail head) arcs
renumbered_has tail head n [] = refl
renumbered_has tail head n (a ∷ arcs) = rw (renumbered_has tail head (n + 1) arcs) refl

-- an arc of one pair is none of another
one_pair : (t h tail head x y : ℕ) → is_pair x y t h ≡ true → is_pair x y tail head ≡ is_pair t h tail head
one_pair t h tail head x y e =
    let same : (x ≡ t) × (y ≡ h) = grind (arith, nat_tests) in
    rw (same.0, same.1) refl

left_has : (t h tail head : ℕ) (arcs : List PureArc)
    → list_any (is_arc_between tail head) (filter (λ (a : PureArc). not (is_arc_between t h a)) arcs) ≡ cond (is_pair t h tail head) false (list_any (is_arc_between tail head) arcs)
left_has t h tail head [] = by (is_pair t h tail head)
  where
    by : (b : Bool) → false ≡ cond b false false
    by true = refl
    by false = refl
left_has t h tail head (a ∷ arcs) = by (is_arc_between t h a) refl (left_has t h tail head arcs)
  where
    others : List PureArc
    others = filter (λ (x : PureArc). not (is_arc_between t h x)) arcs

    out : (b c d : Bool) → c ≡ b → cond b false d ≡ cond b false (c || d)
    out true c d e = refl
    out false false d e = refl
    out false true d e = absurd (cc)

    kept : (b c d : Bool) → (b ≡ true → c ≡ false) → (c || cond b false d) ≡ cond b false (c || d)
    kept true false d e = refl
    kept true true d e = absurd (let f = e refl in cc)
    kept false c d e = refl

    by : (b : Bool) → is_arc_between t h a ≡ b → list_any (is_arc_between tail head) others ≡ cond (is_pair t h tail head) false (list_any (is_arc_between tail head) arcs)
        → list_any (is_arc_between tail head) (cond (not b) (a ∷ others) others) ≡ cond (is_pair t h tail head) false (is_arc_between tail head a || list_any (is_arc_between tail head) arcs)
    by true e more = more ∙ out (is_pair t h tail head) (is_arc_between tail head a) (list_any (is_arc_between tail head) arcs) (one_pair t h tail head a.tail a.head e)
    by false e more = rw more (kept (is_pair t h tail head) (is_arc_between tail head a) (list_any (is_arc_between tail head) arcs)
        (λ same. let s : (t ≡ tail) × (h ≡ head) = grind (arith, nat_tests) in rw (← s.0, ← s.1) e))

-- an arc is there after a change where the change says so, or says nothing and it was there
pub changed_has_arc : (net : PureNet) (c : PureChange) (tail head : ℕ) → has_arc (changed net c) tail head ≡ is_there_after tail head c (has_arc net tail head)
changed_has_arc net (drop t h) tail head = renumbered_has tail head 0 (filter (λ (a : PureArc). not (is_arc_between t h a)) net.arcs) ∙ left_has t h tail head net.arcs
changed_has_arc net (link t h l) tail head = by (has_arc net t h) refl
  where
    there : (b : Bool) → is_pair t h tail head ≡ b → has_arc net t h ≡ true → has_arc net tail head ≡ cond b true (has_arc net tail head)
    there true same e = let s : (t ≡ tail) × (h ≡ head) = grind (arith, nat_tests) in rw (← s.0, ← s.1) e
    there false other e = refl

    by : (b : Bool) → has_arc net t h ≡ b → list_any (is_arc_between tail head) (cond b (with_label t h l net.arcs) (arcs_with t h l net.arcs)) ≡ cond (is_pair t h tail head) true (has_arc net tail head)
    by true e = relabelled_has t h tail head l net.arcs ∙ there (is_pair t h tail head) refl e
    by false e = added_has t h tail head (length net.arcs) l net.arcs

pub after_all_has_arc : (net : PureNet) (cs : List PureChange) (tail head : ℕ) → has_arc (after_all net cs) tail head ≡ is_there_after_all tail head cs (has_arc net tail head)
after_all_has_arc net [] tail head = refl
after_all_has_arc net (c ∷ cs) tail head = after_all_has_arc (changed net c) cs tail head ∙ ap (is_there_after_all tail head cs) (changed_has_arc net c tail head)

-- a label in the place of another leaves as many arcs
pub linked_count : (net : PureNet) (tail head : ℕ) (l : PureLabel) → has_arc net tail head ≡ true → length (changed net (link tail head l)).arcs ≡ length net.arcs
linked_count net tail head l e = rw e (length-map net.arcs (relabelled tail head l))

-- and an arc that was not there is one more
pub added_count : (net : PureNet) (tail head : ℕ) (l : PureLabel) → has_arc net tail head ≡ false → length (changed net (link tail head l)).arcs ≡ length net.arcs + 1
added_count net tail head l e = rw e (length_push net.arcs (record { id = length net.arcs; tail = tail; head = head; label = l }))

-- where no arc joins the nodes of this one, all are left
none_left_out : (a : PureArc) (tail head : ℕ) (arcs : List PureArc) → is_arc_between tail head a ≡ true → AllByRecursion (λ b. joins_same a b ≡ false) arcs
    → filter (λ (b : PureArc). not (is_arc_between tail head b)) arcs ≡ arcs
none_left_out a tail head [] e d = refl
none_left_out a tail head (b ∷ arcs) e d =
    let other : is_arc_between tail head b ≡ false = let apart = d.0 in grind (arith, nat_tests) in
    rw (other, none_left_out a tail head arcs e d.1) refl

one_left_out : (tail head : ℕ) (arcs : List PureArc) → AreDistinct joins_same arcs → list_any (is_arc_between tail head) arcs ≡ true
    → length (filter (λ (a : PureArc). not (is_arc_between tail head a)) arcs) + 1 ≡ length arcs
one_left_out tail head [] d e = absurd (cc)
one_left_out tail head (a ∷ arcs) d e = by (is_arc_between tail head a) refl e (one_left_out tail head arcs d.1)
  where
    others : List PureArc
    others = filter (λ (x : PureArc). not (is_arc_between tail head x)) arcs

    by : (b : Bool) → is_arc_between tail head a ≡ b → (b || list_any (is_arc_between tail head) arcs) ≡ true → (list_any (is_arc_between tail head) arcs ≡ true → length others + 1 ≡ length arcs)
        → length (cond (not b) (a ∷ others) others) + 1 ≡ length (a ∷ arcs)
    by true same any more = rw (none_left_out a tail head arcs same d.0) (omega arith)
    by false other any more = let left = more any in omega arith

-- an arc that is taken out is one less
pub dropped_count : (net : PureNet) (tail head : ℕ) → IsNet net → has_arc net tail head ≡ true → length (changed net (drop tail head)).arcs + 1 ≡ length net.arcs
dropped_count net tail head n e =
    let left = filter (λ (a : PureArc). not (is_arc_between tail head a)) net.arcs in
    let count = length-numbered_from 0 left in
    let fewer = one_left_out tail head net.arcs n.arc_apart e in
    omega arith
