-- The shapes of labels: a reader takes exactly what the parts of a shape are, and finds what it spells.
use Rattle.std.proofs.Common.{◌≡◌, ◌⊎◌, inl, inr, ℕ, ◌≤◌, Bool, true, false, ◌&&◌, ◌||◌, List, [], ◌∷◌, ◌++◌, Option, Some, None, Result, Ok, refl, sym, ap, ◌∙◌, subst, arith, append_assoc, nat_le, nat_lt, ◌==◌}
use Rattle.std.specs.Prelude.{codes, option_map, option_and_then}
use Rattle.std.specs.Str.{bytes_eq}
use Rattle.std.proofs.lemmas.Bool.Decides.{nat_tests}
use Rattle.std.proofs.lemmas.Slice.Eq.{bytes_eq-Decides}
use Rattle.alg_model.specs.Expressions.{Expression, add, cap, worst, width, pref, orig, seq, simseq, tags, guard, gate, table, lex, scoped, union, sum, plus, left, right}
use Rattle.alg_model.specs.Expressions.{PureLabel, number_label, keep, symbol_label, allow, deny, row_label, pair_label, both_label, first_label, second_label, const_label, outer, inner}
use Rattle.alg_model.specs.Carriers.{carrier_of}
use Rattle.sig_text.specs.declared.faults.LitFault.{LitFault}
use Rattle.sig_text.specs.declared.faults.LitFault.TheVariants.{NotALabel}
use Rattle.sig_text.specs.declared.parts.Side.{Side}
use Rattle.sig_text.specs.declared.parts.Side.TheVariants.{First, Second}
use Rattle.sig_text.specs.declared.parts.Scope.{Scope}
use Rattle.sig_text.specs.declared.parts.Scope.TheVariants.{Outer, Inner}
use Rattle.sig_text.specs.Parts.{Part, word, digits, mark}
use Rattle.sig_text.specs.Shapes.{LabelShape, number_label_shape, word_label_shape, marked_shape, pair_label_shape, both_shape, first_label_shape, second_label_shape, value_label_shape, outer_shape, inner_shape, label_parts, value_parts, HasLabelShape, IsOneOf}
use Rattle.sig_text.specs.Literals.{where_true, both_of, one_of, placed, tag_label, guard_label, value_of, label_of}
use Rattle.sig_text.specs.Reading.{take_mark, take_number, take_word, take_side, on_side, kept, take_pair, or_else, take_either, take_marked, take_parens, scope_of, take_scope, on_scope, keep_at, gate_at, row_of, ranged_at, value_at, label_at}
use Rattle.sig_text.proofs.Fronts.{same_pairs, kept_is, and_then_is, map_is, test_is, take_mark_is, take_number_is, take_word_is, takes_number, takes_pair, pair_regroup, pair_is}
use Rattle.sig_text.proofs.Values.{value_complete, value_sound, side_is}

pub record LabelFront (greatest : ℕ) (a : Expression) (ps : List Part) (o : Result PureLabel LitFault) (z : List Part) : Type 0 where
  pub shape : LabelShape
  pub has : HasLabelShape greatest a shape
  pub parts : ps ≡ label_parts shape ++ z
  pub means : label_of a shape ≡ o

one_of_two : (a b c : ℕ) → IsOneOf a b c → (c == a || c == b) ≡ true
one_of_two a b c (inl e) = grind (arith, nat_tests)
one_of_two a b c (inr e) = grind (arith, nat_tests)

takes_marked : (greatest : ℕ) (a b c n : ℕ) (z : List Part) → IsOneOf a b c → n ≤ greatest → take_marked greatest a b (mark c ∷ digits n ∷ z) ≡ Some ((c, n), z)
takes_marked greatest a b c n z h k = rw (one_of_two a b c h, takes_number greatest n z k) refl

parens_regroup : (a z : List Part) → (mark 40 ∷ (a ++ mark 41 ∷ [])) ++ z ≡ mark 40 ∷ (a ++ mark 41 ∷ z)
parens_regroup a z = simp append_assoc

takes_parens : {A B : Type 0} (f : A → B) (x : List Part → Option (A × List Part)) (a : A) (qs z : List Part) → x qs ≡ Some (a, mark 41 ∷ z) → take_parens f x (mark 40 ∷ qs) ≡ Some (f a, z)
takes_parens f x a qs z h = rw h refl

takes_keep : (w : List ℕ) (z : List Part) → w ≡ codes "keep" → option_and_then keep_at (take_word (word w ∷ z)) ≡ Some (Ok keep, z)
takes_keep w z h = rw h refl

-- a reader takes what is there
pub label_complete : (greatest : ℕ) (a : Expression) (s : LabelShape) (z : List Part) → HasLabelShape greatest a s → label_at greatest a (label_parts s ++ z) ≡ Some (label_of a s, z)
label_complete greatest (add low high) (number_label_shape n) z h = rw (takes_number greatest n z h) refl
label_complete greatest (add low high) _ z h = absurd h
label_complete greatest (cap top low high) (number_label_shape n) z h = rw (takes_number greatest n z h) refl
label_complete greatest (cap top low high) _ z h = absurd h
label_complete greatest (worst top low high) (number_label_shape n) z h = rw (takes_number greatest n z h) refl
label_complete greatest (worst top low high) _ z h = absurd h
label_complete greatest (width top low high) (number_label_shape n) z h = rw (takes_number greatest n z h) refl
label_complete greatest (width top low high) _ z h = absurd h
label_complete greatest (pref top) (number_label_shape n) z h = rw (takes_number greatest n z h) refl
label_complete greatest (pref top) _ z h = absurd h
label_complete greatest (orig top) (word_label_shape w) z h = takes_keep w z h
label_complete greatest (orig top) _ z h = absurd h
label_complete greatest (seq k) (number_label_shape n) z h = rw (takes_number greatest n z h) refl
label_complete greatest (seq k) _ z h = absurd h
label_complete greatest (simseq k) (number_label_shape n) z h = rw (takes_number greatest n z h) refl
label_complete greatest (simseq k) _ z h = absurd h
label_complete greatest (tags k) (word_label_shape w) z h = rw h refl
label_complete greatest (tags k) (marked_shape c n) z h = ap (kept (λ (r : ℕ × ℕ). where_true (nat_lt r.1 k) NotALabel (tag_label r.0 r.1))) (takes_marked greatest 43 45 c n z h.0 h.1)
label_complete greatest (tags k) _ z h = absurd h
label_complete greatest (guard k) (marked_shape c n) z h = ap (kept (λ (r : ℕ × ℕ). where_true (nat_lt r.1 k) NotALabel (guard_label r.0 r.1))) (takes_marked greatest 63 33 c n z h.0 h.1)
label_complete greatest (guard k) _ z h = absurd h
label_complete greatest gate (word_label_shape w) z (inl h) = rw h refl
label_complete greatest gate (word_label_shape w) z (inr h) = rw h refl
label_complete greatest gate _ z h = absurd h
label_complete greatest (table t) (word_label_shape w) z h = refl
label_complete greatest (table t) _ z h = absurd h
label_complete greatest (lex a b) (pair_label_shape x y) z h =
    ap (take_pair 44 (both_of pair_label) (label_at greatest a) (label_at greatest b)) (pair_regroup 44 (label_parts x) (label_parts y) z)
    ∙ takes_pair 44 (both_of pair_label) (label_at greatest a) (label_at greatest b) (label_of a x) (label_of b y) (label_parts x ++ mark 44 ∷ (label_parts y ++ mark 41 ∷ z)) (label_parts y ++ mark 41 ∷ z) z
    (label_complete greatest a x (mark 44 ∷ (label_parts y ++ mark 41 ∷ z)) h.0) (label_complete greatest b y (mark 41 ∷ z) h.1)
label_complete greatest (lex a b) _ z h = absurd h
label_complete greatest (scoped a b) (outer_shape x v) z h =
    ap (take_pair 44 (both_of outer) (label_at greatest a) (value_at greatest (carrier_of b))) (pair_regroup 44 (label_parts x) (value_parts v) z)
    ∙ takes_pair 44 (both_of outer) (label_at greatest a) (value_at greatest (carrier_of b)) (label_of a x) (value_of (carrier_of b) v) (label_parts x ++ mark 44 ∷ (value_parts v ++ mark 41 ∷ z)) (value_parts v ++ mark 41 ∷ z) z
    (label_complete greatest a x (mark 44 ∷ (value_parts v ++ mark 41 ∷ z)) h.0) (value_complete greatest (carrier_of b) v (mark 41 ∷ z) h.1)
label_complete greatest (scoped a b) (inner_shape y) z h =
    ap (take_parens (one_of inner) (label_at greatest b)) (parens_regroup (label_parts y) z)
    ∙ takes_parens (one_of inner) (label_at greatest b) (label_of b y) (label_parts y ++ mark 41 ∷ z) z (label_complete greatest b y (mark 41 ∷ z) h)
label_complete greatest (scoped a b) _ z h = absurd h
label_complete greatest (union a b) (first_label_shape x) z h = ap (kept (one_of first_label)) (label_complete greatest a x z h)
label_complete greatest (union a b) (second_label_shape y) z h = ap (kept (one_of second_label)) (label_complete greatest b y z h)
label_complete greatest (union a b) _ z h = absurd h
label_complete greatest (sum a b) (both_shape x y) z h =
    ap (take_pair 124 (both_of both_label) (label_at greatest a) (label_at greatest b)) (pair_regroup 124 (label_parts x) (label_parts y) z)
    ∙ takes_pair 124 (both_of both_label) (label_at greatest a) (label_at greatest b) (label_of a x) (label_of b y) (label_parts x ++ mark 124 ∷ (label_parts y ++ mark 41 ∷ z)) (label_parts y ++ mark 41 ∷ z) z
    (label_complete greatest a x (mark 124 ∷ (label_parts y ++ mark 41 ∷ z)) h.0) (label_complete greatest b y (mark 41 ∷ z) h.1)
label_complete greatest (sum a b) _ z h = absurd h
label_complete greatest (plus a b) (first_label_shape x) z h = ap (kept (one_of first_label)) (label_complete greatest a x z h)
label_complete greatest (plus a b) (second_label_shape y) z h = ap (kept (one_of second_label)) (label_complete greatest b y z h)
label_complete greatest (plus a b) _ z h = absurd h
label_complete greatest (left a) (value_label_shape v) z h = ap (kept (one_of const_label)) (value_complete greatest (carrier_of a) v z h)
label_complete greatest (left a) _ z h = absurd h
label_complete greatest (right a) (word_label_shape w) z h = takes_keep w z h
label_complete greatest (right a) _ z h = absurd h

-- one of two marks, and a number
either_test : (a b c : ℕ) → (c == a || c == b) ≡ true → IsOneOf a b c
either_test a b c h = grind (arith, nat_tests)

either_is : (a b : ℕ) (ps z : List Part) (c : ℕ) → take_either a b ps ≡ Some (c, z) → (ps ≡ mark c ∷ z) × IsOneOf a b c
either_is a b (mark d ∷ ps) z c e =
    let t = test_is (d == a || d == b) (d, ps) (c, z) e in
    let pq = same_pairs (d, ps) (c, z) (ap (λ (r : ℕ × List Part). Some r) t.1) in
    (ap (λ x. mark x ∷ ps) pq.0 ∙ ap (λ us. mark c ∷ us) pq.1, subst (IsOneOf a b) pq.0 (either_test a b d t.0))
either_is a b _ z c e = absurd (cc)

record MarkedFront (greatest : ℕ) (a b : ℕ) (ps : List Part) (r : ℕ × ℕ) (z : List Part) : Type 0 where
  parts : ps ≡ mark r.0 ∷ digits r.1 ∷ z
  one : IsOneOf a b r.0
  small : r.1 ≤ greatest

marked_is : (greatest : ℕ) (a b : ℕ) (ps z : List Part) (r : ℕ × ℕ) → take_marked greatest a b ps ≡ Some (r, z) → MarkedFront greatest a b ps r z
marked_is greatest a b ps z r e =
    let h = and_then_is (λ (r : ℕ × List Part). option_map (λ (s : ℕ × List Part). ((r.0, s.0), s.1)) (take_number greatest r.1)) (take_either a b ps) (r, z) e in
    let i = map_is (λ (s : ℕ × List Part). ((h.0.0, s.0), s.1)) (take_number greatest h.0.1) (r, z) h.2 in
    let p : i.0.1 ≡ z = ap (λ (x : (ℕ × ℕ) × List Part). x.1) i.2 in
    let made : ℕ × ℕ = (h.0.0, i.0.0) in
    let q : made ≡ r = ap (λ (x : (ℕ × ℕ) × List Part). x.0) i.2 in
    let k = either_is a b ps h.0.1 h.0.0 h.1 in
    let n = take_number_is greatest h.0.1 i.0.1 i.0.0 i.1 in
    subst (λ x. MarkedFront greatest a b ps x z) q (record {
      parts = k.0 ∙ ap (λ us. mark h.0.0 ∷ us) (n.0 ∙ ap (λ us. digits i.0.0 ∷ us) p);
      one = k.1;
      small = n.1;
    })

record KeepFront (ps : List Part) (o : Result PureLabel LitFault) (z : List Part) : Type 0 where
  sign : List ℕ
  is : sign ≡ codes "keep"
  parts : ps ≡ word sign ∷ z
  means : Ok keep ≡ o

keep_is : (ps z : List Part) (o : Result PureLabel LitFault) → option_and_then keep_at (take_word ps) ≡ Some (o, z) → KeepFront ps o z
keep_is ps z o e =
    let h = and_then_is keep_at (take_word ps) (o, z) e in
    let t = test_is (bytes_eq h.0.0 (codes "keep")) (Ok keep, h.0.1) (o, z) h.2 in
    let p : h.0.1 ≡ z = ap (λ (r : Result PureLabel LitFault × List Part). r.1) t.1 in
    record {
      sign = h.0.0;
      is = (bytes_eq-Decides h.0.0 (codes "keep")).0 t.0;
      parts = take_word_is ps h.0.1 h.0.0 h.1 ∙ ap (λ us. word h.0.0 ∷ us) p;
      means = ap (λ (r : Result PureLabel LitFault × List Part). r.0) t.1;
    }

or_else_is : {A : Type 0} (o p : Option A) (a : A) → or_else o p ≡ Some a → (o ≡ Some a) ⊎ (p ≡ Some a)
or_else_is (Some b) p a e = inl e
or_else_is None p a e = inr e

tag_by : (greatest : ℕ) (k : ℕ) (ps z : List Part) (o : Result PureLabel LitFault)
    → (option_and_then keep_at (take_word ps) ≡ Some (o, z)) ⊎ (kept (λ (r : ℕ × ℕ). where_true (nat_lt r.1 k) NotALabel (tag_label r.0 r.1)) (take_marked greatest 43 45 ps) ≡ Some (o, z)) → LabelFront greatest (tags k) ps o z
tag_by greatest k ps z o (inl e) =
    let h = keep_is ps z o e in
    record { shape = word_label_shape h.sign; has = h.is; parts = h.parts; means = h.means }
tag_by greatest k ps z o (inr e) =
    let h = kept_is (λ (r : ℕ × ℕ). where_true (nat_lt r.1 k) NotALabel (tag_label r.0 r.1)) (take_marked greatest 43 45 ps) o z e in
    let m = marked_is greatest 43 45 ps z h.0 h.1 in
    record { shape = marked_shape h.0.0 h.0.1; has = (m.one, m.small); parts = m.parts; means = h.2 }

gate_by : (greatest : ℕ) (w : List ℕ) (ps qs z : List Part) (o : Result PureLabel LitFault) (b d : Bool) → bytes_eq w (codes "allow") ≡ b → bytes_eq w (codes "deny") ≡ d
    → ps ≡ word w ∷ qs → gate_at (w, qs) ≡ Some (o, z) → LabelFront greatest gate ps o z
gate_by greatest w ps qs z o true d h k p e =
    let v : gate_at (w, qs) ≡ Some (Ok allow, qs) = rw h refl in
    let pq = same_pairs (Ok allow, qs) (o, z) (sym v ∙ e) in
    record { shape = word_label_shape w; has = inl ((bytes_eq-Decides w (codes "allow")).0 h); parts = p ∙ ap (λ us. word w ∷ us) pq.1; means = rw h pq.0 }
gate_by greatest w ps qs z o false true h k p e =
    let v : gate_at (w, qs) ≡ Some (Ok deny, qs) = rw (h, k) refl in
    let pq = same_pairs (Ok deny, qs) (o, z) (sym v ∙ e) in
    record { shape = word_label_shape w; has = inr ((bytes_eq-Decides w (codes "deny")).0 k); parts = p ∙ ap (λ us. word w ∷ us) pq.1; means = rw h pq.0 }
gate_by greatest w ps qs z o false false h k p e =
    let v : gate_at (w, qs) ≡ None = rw (h, k) refl in
    absurd (cc)

-- the sign of a scope
record ScopeFront (ps : List Part) (scope : Scope) (z : List Part) : Type 0 where
  sign : List ℕ
  parts : ps ≡ word sign ∷ z
  is : sign ≡ on_scope scope (codes "out") (codes "in")

scope_by : (w : List ℕ) (scope : Scope) (b d : Bool) → bytes_eq w (codes "out") ≡ b → bytes_eq w (codes "in") ≡ d → scope_of w ≡ Some scope → w ≡ on_scope scope (codes "out") (codes "in")
scope_by w scope true d h k e =
    let v : scope_of w ≡ Some Outer = rw h refl in
    let p : Outer ≡ scope = cc in
    subst (λ s. w ≡ on_scope s (codes "out") (codes "in")) p ((bytes_eq-Decides w (codes "out")).0 h)
scope_by w scope false true h k e =
    let v : scope_of w ≡ Some Inner = rw (h, k) refl in
    let p : Inner ≡ scope = cc in
    subst (λ s. w ≡ on_scope s (codes "out") (codes "in")) p ((bytes_eq-Decides w (codes "in")).0 k)
scope_by w scope false false h k e =
    let v : scope_of w ≡ None = rw (h, k) refl in
    absurd (cc)

scope_is : (ps z : List Part) (scope : Scope) → take_scope ps ≡ Some (scope, z) → ScopeFront ps scope z
scope_is ps z scope e =
    let h = and_then_is (λ (r : List ℕ × List Part). option_map (λ scope. (scope, r.1)) (scope_of r.0)) (take_word ps) (scope, z) e in
    let j = map_is (λ (scope : Scope). (scope, h.0.1)) (scope_of h.0.0) (scope, z) h.2 in
    let p : h.0.1 ≡ z = ap (λ (r : Scope × List Part). r.1) j.2 in
    let q : j.0 ≡ scope = ap (λ (r : Scope × List Part). r.0) j.2 in
    record {
      sign = h.0.0;
      parts = take_word_is ps h.0.1 h.0.0 h.1 ∙ ap (λ us. word h.0.0 ∷ us) p;
      is = scope_by h.0.0 scope (bytes_eq h.0.0 (codes "out")) (bytes_eq h.0.0 (codes "in")) refl refl (j.1 ∙ ap (λ s. Some s) q);
    }

record ParensFront {A B : Type 0} (f : A → B) (x : List Part → Option (A × List Part)) (ps : List Part) (b : B) (z : List Part) : Type 0 where
  a : A
  after : List Part
  opens : ps ≡ mark 40 ∷ after
  inside : x after ≡ Some (a, mark 41 ∷ z)
  makes : f a ≡ b

parens_is : {A B : Type 0} (f : A → B) (x : List Part → Option (A × List Part)) (ps : List Part) (b : B) (z : List Part) → take_parens f x ps ≡ Some (b, z) → ParensFront f x ps b z
parens_is f x ps b z e =
    let h = and_then_is (λ qs. option_and_then (λ r. option_map (λ us. (f r.0, us)) (take_mark 41 r.1)) (x qs)) (take_mark 40 ps) (b, z) e in
    let i = and_then_is (λ r. option_map (λ us. (f r.0, us)) (take_mark 41 r.1)) (x h.0) (b, z) h.2 in
    let j = map_is (λ us. (f i.0.0, us)) (take_mark 41 i.0.1) (b, z) i.2 in
    let p : j.0 ≡ z = ap (λ r. r.1) j.2 in
    record {
      a = i.0.0;
      after = h.0;
      opens = take_mark_is 40 ps h.0 h.1;
      inside = i.1 ∙ ap (λ us. Some (i.0.0, us)) (take_mark_is 41 i.0.1 j.0 j.1 ∙ ap (λ us. mark 41 ∷ us) p);
      makes = ap (λ r. r.0) j.2;
    }

ranged_is : (greatest : ℕ) (a : Expression) (low high : ℕ) → ((n : ℕ) → n ≤ greatest → HasLabelShape greatest a (number_label_shape n)) → ((n : ℕ) → label_of a (number_label_shape n) ≡ where_true (nat_le low n && nat_le n high) NotALabel (number_label n))
    → (ps : List Part) (o : Result PureLabel LitFault) (z : List Part) → ranged_at greatest low high ps ≡ Some (o, z) → LabelFront greatest a ps o z
ranged_is greatest a low high has means ps o z e =
    let h = kept_is (λ n. where_true (nat_le low n && nat_le n high) NotALabel (number_label n)) (take_number greatest ps) o z e in
    let k = take_number_is greatest ps z h.0 h.1 in
    record { shape = number_label_shape h.0; has = has h.0 k.1; parts = k.0; means = means h.0 ∙ h.2 }

-- what a reader of one algebra takes is there
abbrev Sound : ℕ → Expression → Type 0
Sound greatest a = (ps : List Part) (o : Result PureLabel LitFault) (z : List Part) → label_at greatest a ps ≡ Some (o, z) → LabelFront greatest a ps o z

side_sound : (greatest : ℕ) (a b : Expression) (ps : List Part) (o : Result PureLabel LitFault) (z : List Part) (side : Side) (qs : List Part) (sign : List ℕ) → ps ≡ word sign ∷ mark 58 ∷ qs → sign ≡ on_side side (codes "l") (codes "r")
    → on_side side (kept (one_of first_label) (label_at greatest a qs)) (kept (one_of second_label) (label_at greatest b qs)) ≡ Some (o, z) → Sound greatest a → Sound greatest b → LabelFront greatest (union a b) ps o z
side_sound greatest a b ps o z First qs sign p q e f g =
    let h = kept_is (one_of first_label) (label_at greatest a qs) o z e in
    let x = f qs h.0 z h.1 in
    record { shape = first_label_shape x.shape; has = x.has; parts = p ∙ ap (λ w. word w ∷ mark 58 ∷ qs) q ∙ ap (λ us. word (codes "l") ∷ mark 58 ∷ us) x.parts; means = ap (one_of first_label) x.means ∙ h.2 }
side_sound greatest a b ps o z Second qs sign p q e f g =
    let h = kept_is (one_of second_label) (label_at greatest b qs) o z e in
    let y = g qs h.0 z h.1 in
    record { shape = second_label_shape y.shape; has = y.has; parts = p ∙ ap (λ w. word w ∷ mark 58 ∷ qs) q ∙ ap (λ us. word (codes "r") ∷ mark 58 ∷ us) y.parts; means = ap (one_of second_label) y.means ∙ h.2 }

sides_sound : (greatest : ℕ) (a b : Expression) → Sound greatest a → Sound greatest b → (ps : List Part) (o : Result PureLabel LitFault) (z : List Part) → label_at greatest (union a b) ps ≡ Some (o, z) → LabelFront greatest (union a b) ps o z
sides_sound greatest a b f g ps o z e =
    let h = and_then_is (λ (r : Side × List Part). on_side r.0 (kept (one_of first_label) (label_at greatest a r.1)) (kept (one_of second_label) (label_at greatest b r.1))) (take_side ps) (o, z) e in
    let i = side_is ps h.0.1 h.0.0 h.1 in
    side_sound greatest a b ps o z h.0.0 h.0.1 i.sign i.parts i.is h.2 f g

-- a plus has the labels of a union
plus_by : (greatest : ℕ) (a b : Expression) (s : LabelShape) → HasLabelShape greatest (union a b) s → (HasLabelShape greatest (plus a b) s) × (label_of (union a b) s ≡ label_of (plus a b) s)
plus_by greatest a b (first_label_shape x) h = (h, refl)
plus_by greatest a b (second_label_shape y) h = (h, refl)
plus_by greatest a b _ h = absurd h

plus_front : (greatest : ℕ) (a b : Expression) (ps : List Part) (o : Result PureLabel LitFault) (z : List Part) → LabelFront greatest (union a b) ps o z → LabelFront greatest (plus a b) ps o z
plus_front greatest a b ps o z f =
    let p = plus_by greatest a b f.shape f.has in
    record { shape = f.shape; has = p.0; parts = f.parts; means = sym p.1 ∙ f.means }

scope_sound : (greatest : ℕ) (a b : Expression) (ps : List Part) (o : Result PureLabel LitFault) (z : List Part) (scope : Scope) (qs : List Part) (sign : List ℕ) → ps ≡ word sign ∷ qs → sign ≡ on_scope scope (codes "out") (codes "in")
    → on_scope scope (take_pair 44 (both_of outer) (label_at greatest a) (value_at greatest (carrier_of b)) qs) (take_parens (one_of inner) (label_at greatest b) qs) ≡ Some (o, z) → Sound greatest a → Sound greatest b → LabelFront greatest (scoped a b) ps o z
scope_sound greatest a b ps o z Outer qs sign p q e f g =
    let h = pair_is 44 (both_of outer) (label_at greatest a) (value_at greatest (carrier_of b)) qs o z e in
    let x = f h.after h.a (mark 44 ∷ h.further) h.first in
    let v = value_sound greatest (carrier_of b) h.further h.b (mark 41 ∷ z) h.second in
    record {
      shape = outer_shape x.shape v.shape;
      has = (x.has, v.has);
      parts = p ∙ ap (λ w. word w ∷ qs) q
          ∙ ap (λ us. word (codes "out") ∷ us) (h.opens ∙ ap (λ us. mark 40 ∷ us) (x.parts ∙ ap (λ us. label_parts x.shape ++ mark 44 ∷ us) v.parts) ∙ sym (pair_regroup 44 (label_parts x.shape) (value_parts v.shape) z));
      means = ap (λ u. both_of outer u (value_of (carrier_of b) v.shape)) x.means ∙ ap (λ u. both_of outer h.a u) v.means ∙ h.makes;
    }
scope_sound greatest a b ps o z Inner qs sign p q e f g =
    let h = parens_is (one_of inner) (label_at greatest b) qs o z e in
    let y = g h.after h.a (mark 41 ∷ z) h.inside in
    record {
      shape = inner_shape y.shape;
      has = y.has;
      parts = p ∙ ap (λ w. word w ∷ qs) q ∙ ap (λ us. word (codes "in") ∷ us) (h.opens ∙ ap (λ us. mark 40 ∷ us) y.parts ∙ sym (parens_regroup (label_parts y.shape) z));
      means = ap (one_of inner) y.means ∙ h.makes;
    }

lex_sound : (greatest : ℕ) (a b : Expression) → Sound greatest a → Sound greatest b → Sound greatest (lex a b)
lex_sound greatest a b f g ps o z e =
    let h = pair_is 44 (both_of pair_label) (label_at greatest a) (label_at greatest b) ps o z e in
    let x = f h.after h.a (mark 44 ∷ h.further) h.first in
    let y = g h.further h.b (mark 41 ∷ z) h.second in
    record {
      shape = pair_label_shape x.shape y.shape;
      has = (x.has, y.has);
      parts = h.opens ∙ ap (λ us. mark 40 ∷ us) (x.parts ∙ ap (λ us. label_parts x.shape ++ mark 44 ∷ us) y.parts) ∙ sym (pair_regroup 44 (label_parts x.shape) (label_parts y.shape) z);
      means = ap (λ u. both_of pair_label u (label_of b y.shape)) x.means ∙ ap (λ u. both_of pair_label h.a u) y.means ∙ h.makes;
    }

sum_sound : (greatest : ℕ) (a b : Expression) → Sound greatest a → Sound greatest b → Sound greatest (sum a b)
sum_sound greatest a b f g ps o z e =
    let h = pair_is 124 (both_of both_label) (label_at greatest a) (label_at greatest b) ps o z e in
    let x = f h.after h.a (mark 124 ∷ h.further) h.first in
    let y = g h.further h.b (mark 41 ∷ z) h.second in
    record {
      shape = both_shape x.shape y.shape;
      has = (x.has, y.has);
      parts = h.opens ∙ ap (λ us. mark 40 ∷ us) (x.parts ∙ ap (λ us. label_parts x.shape ++ mark 124 ∷ us) y.parts) ∙ sym (pair_regroup 124 (label_parts x.shape) (label_parts y.shape) z);
      means = ap (λ u. both_of both_label u (label_of b y.shape)) x.means ∙ ap (λ u. both_of both_label h.a u) y.means ∙ h.makes;
    }

-- and what it takes is there
pub label_sound : (greatest : ℕ) (a : Expression) → Sound greatest a
label_sound greatest (add low high) ps o z e = ranged_is greatest (add low high) low high (λ n h. h) (λ n. refl) ps o z e
label_sound greatest (cap top low high) ps o z e = ranged_is greatest (cap top low high) low high (λ n h. h) (λ n. refl) ps o z e
label_sound greatest (worst top low high) ps o z e = ranged_is greatest (worst top low high) low high (λ n h. h) (λ n. refl) ps o z e
label_sound greatest (width top low high) ps o z e = ranged_is greatest (width top low high) low high (λ n h. h) (λ n. refl) ps o z e
label_sound greatest (pref top) ps o z e =
    let h = kept_is (λ n. where_true (nat_le n top) NotALabel (number_label n)) (take_number greatest ps) o z e in
    let k = take_number_is greatest ps z h.0 h.1 in
    record { shape = number_label_shape h.0; has = k.1; parts = k.0; means = h.2 }
label_sound greatest (orig top) ps o z e =
    let h = keep_is ps z o e in
    record { shape = word_label_shape h.sign; has = h.is; parts = h.parts; means = h.means }
label_sound greatest (seq k) ps o z e =
    let h = kept_is (λ n. where_true (nat_lt n k) NotALabel (symbol_label n)) (take_number greatest ps) o z e in
    let j = take_number_is greatest ps z h.0 h.1 in
    record { shape = number_label_shape h.0; has = j.1; parts = j.0; means = h.2 }
label_sound greatest (simseq k) ps o z e =
    let h = kept_is (λ n. where_true (nat_lt n k) NotALabel (symbol_label n)) (take_number greatest ps) o z e in
    let j = take_number_is greatest ps z h.0 h.1 in
    record { shape = number_label_shape h.0; has = j.1; parts = j.0; means = h.2 }
label_sound greatest (tags k) ps o z e =
    tag_by greatest k ps z o (or_else_is (option_and_then keep_at (take_word ps)) (kept (λ (r : ℕ × ℕ). where_true (nat_lt r.1 k) NotALabel (tag_label r.0 r.1)) (take_marked greatest 43 45 ps)) (o, z) e)
label_sound greatest (guard k) ps o z e =
    let h = kept_is (λ (r : ℕ × ℕ). where_true (nat_lt r.1 k) NotALabel (guard_label r.0 r.1)) (take_marked greatest 63 33 ps) o z e in
    let m = marked_is greatest 63 33 ps z h.0 h.1 in
    record { shape = marked_shape h.0.0 h.0.1; has = (m.one, m.small); parts = m.parts; means = h.2 }
label_sound greatest gate ps o z e =
    let h = and_then_is gate_at (take_word ps) (o, z) e in
    gate_by greatest h.0.0 ps h.0.1 z o (bytes_eq h.0.0 (codes "allow")) (bytes_eq h.0.0 (codes "deny")) refl refl (take_word_is ps h.0.1 h.0.0 h.1) h.2
label_sound greatest (table t) ps o z e =
    let h = kept_is (λ w. placed row_label NotALabel (row_of t.rows w)) (take_word ps) o z e in
    record { shape = word_label_shape h.0; has = tt; parts = take_word_is ps z h.0 h.1; means = h.2 }
label_sound greatest (lex a b) ps o z e = lex_sound greatest a b (label_sound greatest a) (label_sound greatest b) ps o z e
label_sound greatest (scoped a b) ps o z e =
    let h = and_then_is (λ (r : Scope × List Part). on_scope r.0 (take_pair 44 (both_of outer) (label_at greatest a) (value_at greatest (carrier_of b)) r.1) (take_parens (one_of inner) (label_at greatest b) r.1)) (take_scope ps) (o, z) e in
    let i = scope_is ps h.0.1 h.0.0 h.1 in
    scope_sound greatest a b ps o z h.0.0 h.0.1 i.sign i.parts i.is h.2 (label_sound greatest a) (label_sound greatest b)
label_sound greatest (union a b) ps o z e = sides_sound greatest a b (label_sound greatest a) (label_sound greatest b) ps o z e
label_sound greatest (sum a b) ps o z e = sum_sound greatest a b (label_sound greatest a) (label_sound greatest b) ps o z e
label_sound greatest (plus a b) ps o z e = plus_front greatest a b ps o z (sides_sound greatest a b (label_sound greatest a) (label_sound greatest b) ps o z e)
label_sound greatest (left a) ps o z e =
    let h = kept_is (one_of const_label) (value_at greatest (carrier_of a) ps) o z e in
    let v = value_sound greatest (carrier_of a) ps h.0 z h.1 in
    record { shape = value_label_shape v.shape; has = v.has; parts = v.parts; means = ap (one_of const_label) v.means ∙ h.2 }
label_sound greatest (right a) ps o z e =
    let h = keep_is ps z o e in
    record { shape = word_label_shape h.sign; has = h.is; parts = h.parts; means = h.means }
