-- What a shape of a label spells is a label of the algebra, and a text spells it where a reader took all
-- of it.
use Rattle.std.proofs.Common.{◌≡◌, ℕ, ◌≤◌, ◌<◌, Bool, true, false, ◌&&◌, List, [], Some, Result, Ok, Err, refl, sym, ap, ◌∙◌, subst, arith, nat_le, nat_lt, ◌==◌}
use Rattle.std.specs.Prelude.{codes, position, if◌then◌else◌}
use Rattle.std.specs.Str.{bytes_eq}
use Rattle.std.proofs.lemmas.Bool.Decides.{nat_tests}
use Rattle.std.proofs.lemmas.List.Quantifiers.{position-Some}
use Rattle.alg_model.specs.declared.tree.TableRow.{TableRow}
use Rattle.alg_model.specs.Expressions.{Expression, add, cap, worst, width, pref, orig, seq, simseq, tags, guard, gate, table, lex, scoped, union, sum, plus, left, right}
use Rattle.alg_model.specs.Expressions.{PureLabel, number_label, keep, symbol_label, allow, deny, row_label, pair_label, both_label, first_label, second_label, const_label, outer, inner}
use Rattle.alg_model.specs.Carriers.{carrier_of}
use Rattle.alg_model.specs.Application.{IsLabel}
use Rattle.alg_model.specs.Bounds.{LabelAtMost}
use Rattle.sig_text.specs.declared.faults.LitFault.{LitFault}
use Rattle.sig_text.specs.declared.faults.LitFault.TheVariants.{BadText, NotInCarrier, NotALabel}
use Rattle.sig_text.specs.Parts.{Splits}
use Rattle.sig_text.specs.Sequences.{parts_of}
use Rattle.sig_text.specs.Shapes.{LabelShape, number_label_shape, word_label_shape, marked_shape, pair_label_shape, both_shape, first_label_shape, second_label_shape, value_label_shape, outer_shape, inner_shape, label_parts, HasLabelShape}
use Rattle.sig_text.specs.Literals.{where_true, tag_label, guard_label, value_of, label_of, LabelTextTo, HasLabelFault, IsLabelFaultTo}
use Rattle.sig_text.specs.Spelled.{Reports, spelled_label_to}
use Rattle.sig_text.specs.Reading.{NotWhole, label_at}
use Rattle.sig_text.proofs.Fronts.{splits_parts, parts_splits, append_none}
use Rattle.sig_text.proofs.Meant.{true_is, placed_is, both_made, one_made, both_true, meant, not_bad, not_where, not_placed, not_both, not_one, whole_is, not_whole, taken_whole}
use Rattle.sig_text.proofs.Labels.{LabelFront, label_complete, label_sound}

-- it is a label of the algebra, and its numbers are those of a text
pub record LabelMember (greatest : ℕ) (a : Expression) (l : PureLabel) : Type 0 where
  pub is_label : IsLabel a l
  pub small : LabelAtMost greatest l

ranged_member : (greatest : ℕ) (a : Expression) (low high n : ℕ) (l : PureLabel) → (low ≤ n → n ≤ high → IsLabel a (number_label n)) → n ≤ greatest
    → where_true (nat_le low n && nat_le n high) NotALabel (number_label n) ≡ Ok l → LabelMember greatest a l
ranged_member greatest a low high n l is h e =
    let t = true_is (nat_le low n && nat_le n high) NotALabel (number_label n) l e in
    let b = both_true (nat_le low n) (nat_le n high) t.0 in
    let p : low ≤ n = grind (arith, nat_tests, b.0) in
    let q : n ≤ high = grind (arith, nat_tests, b.1) in
    subst (LabelMember greatest a) t.1 (record { is_label = is p q; small = h })

symbol_member : (greatest : ℕ) (a : Expression) (k n : ℕ) (l : PureLabel) → (n < k → IsLabel a (symbol_label n)) → n ≤ greatest → where_true (nat_lt n k) NotALabel (symbol_label n) ≡ Ok l → LabelMember greatest a l
symbol_member greatest a k n l is h e =
    let t = true_is (nat_lt n k) NotALabel (symbol_label n) l e in
    let p : n < k = grind (arith, nat_tests, t.0) in
    subst (LabelMember greatest a) t.1 (record { is_label = is p; small = h })

tag_member : (greatest : ℕ) (k c n : ℕ) (b : Bool) → (c == 43) ≡ b → n < k → LabelMember greatest (tags k) (tag_label c n)
tag_member greatest k c n true h p = rw h (record { is_label = p; small = tt })
tag_member greatest k c n false h p = rw h (record { is_label = p; small = tt })

guard_member : (greatest : ℕ) (k c n : ℕ) (b : Bool) → (c == 63) ≡ b → n < k → LabelMember greatest (guard k) (guard_label c n)
guard_member greatest k c n true h p = rw h (record { is_label = p; small = tt })
guard_member greatest k c n false h p = rw h (record { is_label = p; small = tt })

keep_member : (greatest : ℕ) (a : Expression) (l : PureLabel) → IsLabel a keep → ◌≡◌ {A = Result PureLabel LitFault} (Ok keep) (Ok l) → LabelMember greatest a l
keep_member greatest a l i e = let p : keep ≡ l = cc in subst (LabelMember greatest a) p (record { is_label = i; small = tt })

gate_member : (greatest : ℕ) (b : Bool) (l : PureLabel) → ◌≡◌ {A = Result PureLabel LitFault} (Ok (if b then allow else deny)) (Ok l) → LabelMember greatest gate l
gate_member greatest true l e = let p : allow ≡ l = cc in subst (LabelMember greatest gate) p (record { is_label = tt; small = tt })
gate_member greatest false l e = let p : deny ≡ l = cc in subst (LabelMember greatest gate) p (record { is_label = tt; small = tt })

pub label_meant : (greatest : ℕ) (a : Expression) (s : LabelShape) (l : PureLabel) → HasLabelShape greatest a s → label_of a s ≡ Ok l → LabelMember greatest a l
label_meant greatest (add low high) (number_label_shape n) l h e = ranged_member greatest (add low high) low high n l (λ p q. (p, q)) h e
label_meant greatest (add low high) _ l h e = absurd h
label_meant greatest (cap top low high) (number_label_shape n) l h e = ranged_member greatest (cap top low high) low high n l (λ p q. (p, q)) h e
label_meant greatest (cap top low high) _ l h e = absurd h
label_meant greatest (worst top low high) (number_label_shape n) l h e = ranged_member greatest (worst top low high) low high n l (λ p q. (p, q)) h e
label_meant greatest (worst top low high) _ l h e = absurd h
label_meant greatest (width top low high) (number_label_shape n) l h e = ranged_member greatest (width top low high) low high n l (λ p q. (p, q)) h e
label_meant greatest (width top low high) _ l h e = absurd h
label_meant greatest (pref top) (number_label_shape n) l h e =
    let t = true_is (nat_le n top) NotALabel (number_label n) l e in
    let p : n ≤ top = grind (arith, nat_tests, t.0) in
    subst (LabelMember greatest (pref top)) t.1 (record { is_label = p; small = h })
label_meant greatest (pref top) _ l h e = absurd h
label_meant greatest (orig top) (word_label_shape w) l h e = keep_member greatest (orig top) l tt e
label_meant greatest (orig top) _ l h e = absurd h
label_meant greatest (seq k) (number_label_shape n) l h e = symbol_member greatest (seq k) k n l (λ p. p) h e
label_meant greatest (seq k) _ l h e = absurd h
label_meant greatest (simseq k) (number_label_shape n) l h e = symbol_member greatest (simseq k) k n l (λ p. p) h e
label_meant greatest (simseq k) _ l h e = absurd h
label_meant greatest (tags k) (word_label_shape w) l h e = keep_member greatest (tags k) l tt e
label_meant greatest (tags k) (marked_shape c n) l h e =
    let t = true_is (nat_lt n k) NotALabel (tag_label c n) l e in
    let p : n < k = grind (arith, nat_tests, t.0) in
    subst (LabelMember greatest (tags k)) t.1 (tag_member greatest k c n (c == 43) refl p)
label_meant greatest (tags k) _ l h e = absurd h
label_meant greatest (guard k) (marked_shape c n) l h e =
    let t = true_is (nat_lt n k) NotALabel (guard_label c n) l e in
    let p : n < k = grind (arith, nat_tests, t.0) in
    subst (LabelMember greatest (guard k)) t.1 (guard_member greatest k c n (c == 63) refl p)
label_meant greatest (guard k) _ l h e = absurd h
label_meant greatest gate (word_label_shape w) l h e = gate_member greatest (bytes_eq w (codes "allow")) l e
label_meant greatest gate _ l h e = absurd h
label_meant greatest (table t) (word_label_shape w) l h e =
    let p = placed_is row_label NotALabel (position (λ (row : TableRow). bytes_eq row.name w) t.rows) l e in
    let q = position-Some (λ (row : TableRow). bytes_eq row.name w) t.rows p.0 (record { name = []; images = [] }) p.1 in
    subst (LabelMember greatest (table t)) p.2 (record { is_label = q.0; small = tt })
label_meant greatest (table t) _ l h e = absurd h
label_meant greatest (lex a b) (pair_label_shape s t) l h e =
    let m = both_made pair_label (label_of a s) (label_of b t) l e in
    let x = label_meant greatest a s m.a h.0 m.first in
    let y = label_meant greatest b t m.b h.1 m.second in
    subst (LabelMember greatest (lex a b)) m.makes (record { is_label = (x.is_label, y.is_label); small = (x.small, y.small) })
label_meant greatest (lex a b) _ l h e = absurd h
label_meant greatest (scoped a b) (outer_shape s t) l h e =
    let m = both_made outer (label_of a s) (value_of (carrier_of b) t) l e in
    let x = label_meant greatest a s m.a h.0 m.first in
    let y = meant greatest (carrier_of b) t m.b h.1 m.second in
    subst (LabelMember greatest (scoped a b)) m.makes (record { is_label = (x.is_label, y.is_in); small = (x.small, y.small) })
label_meant greatest (scoped a b) (inner_shape t) l h e =
    let m = one_made inner (label_of b t) l e in
    let y = label_meant greatest b t m.0 h m.1 in
    subst (LabelMember greatest (scoped a b)) m.2 (record { is_label = y.is_label; small = y.small })
label_meant greatest (scoped a b) _ l h e = absurd h
label_meant greatest (union a b) (first_label_shape s) l h e =
    let m = one_made first_label (label_of a s) l e in
    let x = label_meant greatest a s m.0 h m.1 in
    subst (LabelMember greatest (union a b)) m.2 (record { is_label = x.is_label; small = x.small })
label_meant greatest (union a b) (second_label_shape t) l h e =
    let m = one_made second_label (label_of b t) l e in
    let y = label_meant greatest b t m.0 h m.1 in
    subst (LabelMember greatest (union a b)) m.2 (record { is_label = y.is_label; small = y.small })
label_meant greatest (union a b) _ l h e = absurd h
label_meant greatest (sum a b) (both_shape s t) l h e =
    let m = both_made both_label (label_of a s) (label_of b t) l e in
    let x = label_meant greatest a s m.a h.0 m.first in
    let y = label_meant greatest b t m.b h.1 m.second in
    subst (LabelMember greatest (sum a b)) m.makes (record { is_label = (x.is_label, y.is_label); small = (x.small, y.small) })
label_meant greatest (sum a b) _ l h e = absurd h
label_meant greatest (plus a b) (first_label_shape s) l h e =
    let m = one_made first_label (label_of a s) l e in
    let x = label_meant greatest a s m.0 h m.1 in
    subst (LabelMember greatest (plus a b)) m.2 (record { is_label = x.is_label; small = x.small })
label_meant greatest (plus a b) (second_label_shape t) l h e =
    let m = one_made second_label (label_of b t) l e in
    let y = label_meant greatest b t m.0 h m.1 in
    subst (LabelMember greatest (plus a b)) m.2 (record { is_label = y.is_label; small = y.small })
label_meant greatest (plus a b) _ l h e = absurd h
label_meant greatest (left a) (value_label_shape v) l h e =
    let m = one_made const_label (value_of (carrier_of a) v) l e in
    let y = meant greatest (carrier_of a) v m.0 h m.1 in
    subst (LabelMember greatest (left a)) m.2 (record { is_label = y.is_in; small = y.small })
label_meant greatest (left a) _ l h e = absurd h
label_meant greatest (right a) (word_label_shape w) l h e = keep_member greatest (right a) l tt e
label_meant greatest (right a) _ l h e = absurd h

not_a_label : NotALabel ≡ BadText → ⊥
not_a_label e = cc

-- a shape of the kind that is asked for is never bad text
pub label_not_bad : (greatest : ℕ) (a : Expression) (s : LabelShape) → HasLabelShape greatest a s → label_of a s ≡ Err BadText → ⊥
label_not_bad greatest (add low high) (number_label_shape n) h e = not_where (nat_le low n && nat_le n high) NotALabel (number_label n) not_a_label e
label_not_bad greatest (add low high) _ h e = h
label_not_bad greatest (cap top low high) (number_label_shape n) h e = not_where (nat_le low n && nat_le n high) NotALabel (number_label n) not_a_label e
label_not_bad greatest (cap top low high) _ h e = h
label_not_bad greatest (worst top low high) (number_label_shape n) h e = not_where (nat_le low n && nat_le n high) NotALabel (number_label n) not_a_label e
label_not_bad greatest (worst top low high) _ h e = h
label_not_bad greatest (width top low high) (number_label_shape n) h e = not_where (nat_le low n && nat_le n high) NotALabel (number_label n) not_a_label e
label_not_bad greatest (width top low high) _ h e = h
label_not_bad greatest (pref top) (number_label_shape n) h e = not_where (nat_le n top) NotALabel (number_label n) not_a_label e
label_not_bad greatest (pref top) _ h e = h
label_not_bad greatest (orig top) (word_label_shape w) h e = cc
label_not_bad greatest (orig top) _ h e = h
label_not_bad greatest (seq k) (number_label_shape n) h e = not_where (nat_lt n k) NotALabel (symbol_label n) not_a_label e
label_not_bad greatest (seq k) _ h e = h
label_not_bad greatest (simseq k) (number_label_shape n) h e = not_where (nat_lt n k) NotALabel (symbol_label n) not_a_label e
label_not_bad greatest (simseq k) _ h e = h
label_not_bad greatest (tags k) (word_label_shape w) h e = cc
label_not_bad greatest (tags k) (marked_shape c n) h e = not_where (nat_lt n k) NotALabel (tag_label c n) not_a_label e
label_not_bad greatest (tags k) _ h e = h
label_not_bad greatest (guard k) (marked_shape c n) h e = not_where (nat_lt n k) NotALabel (guard_label c n) not_a_label e
label_not_bad greatest (guard k) _ h e = h
label_not_bad greatest gate (word_label_shape w) h e = cc
label_not_bad greatest gate _ h e = h
label_not_bad greatest (table t) (word_label_shape w) h e = not_placed row_label NotALabel (position (λ (row : TableRow). bytes_eq row.name w) t.rows) not_a_label e
label_not_bad greatest (table t) _ h e = h
label_not_bad greatest (lex a b) (pair_label_shape s t) h e = not_both pair_label (label_of a s) (label_of b t) (label_not_bad greatest a s h.0) (label_not_bad greatest b t h.1) e
label_not_bad greatest (lex a b) _ h e = h
label_not_bad greatest (scoped a b) (outer_shape s t) h e = not_both outer (label_of a s) (value_of (carrier_of b) t) (label_not_bad greatest a s h.0) (not_bad greatest (carrier_of b) t h.1) e
label_not_bad greatest (scoped a b) (inner_shape t) h e = not_one inner (label_of b t) (label_not_bad greatest b t h) e
label_not_bad greatest (scoped a b) _ h e = h
label_not_bad greatest (union a b) (first_label_shape s) h e = not_one first_label (label_of a s) (label_not_bad greatest a s h) e
label_not_bad greatest (union a b) (second_label_shape t) h e = not_one second_label (label_of b t) (label_not_bad greatest b t h) e
label_not_bad greatest (union a b) _ h e = h
label_not_bad greatest (sum a b) (both_shape s t) h e = not_both both_label (label_of a s) (label_of b t) (label_not_bad greatest a s h.0) (label_not_bad greatest b t h.1) e
label_not_bad greatest (sum a b) _ h e = h
label_not_bad greatest (plus a b) (first_label_shape s) h e = not_one first_label (label_of a s) (label_not_bad greatest a s h) e
label_not_bad greatest (plus a b) (second_label_shape t) h e = not_one second_label (label_of b t) (label_not_bad greatest b t h) e
label_not_bad greatest (plus a b) _ h e = h
label_not_bad greatest (left a) (value_label_shape v) h e = not_one const_label (value_of (carrier_of a) v) (not_bad greatest (carrier_of a) v h) e
label_not_bad greatest (left a) _ h e = h
label_not_bad greatest (right a) (word_label_shape w) h e = cc
label_not_bad greatest (right a) _ h e = h

-- a reader that takes the whole of a text says what it spells
pub label_spelled : (greatest : ℕ) (a : Expression) (text : List ℕ) (l : PureLabel) → label_at greatest a (parts_of text) ≡ Some (Ok l, []) → LabelTextTo greatest a text l
label_spelled greatest a text l e =
    let f = label_sound greatest a (parts_of text) (Ok l) [] e in
    record { shape = f.shape; has = f.has; splits = parts_splits (label_parts f.shape) text (f.parts ∙ append_none (label_parts f.shape)); means = f.means }

pub label_member : (greatest : ℕ) (a : Expression) (text : List ℕ) (l : PureLabel) → LabelTextTo greatest a text l → LabelMember greatest a l
label_member greatest a text l t = label_meant greatest a t.shape l t.has t.means

whole_label : (greatest : ℕ) (a : Expression) (text : List ℕ) (s : LabelShape) → HasLabelShape greatest a s → Splits (label_parts s) text → label_at greatest a (parts_of text) ≡ Some (label_of a s, [])
whole_label greatest a text s h p = ap (label_at greatest a) (splits_parts (label_parts s) text p ∙ sym (append_none (label_parts s))) ∙ label_complete greatest a s [] h

-- the shape that a reader of the whole found stands in the text
label_splits : (greatest : ℕ) (a : Expression) (text : List ℕ) (o : Result PureLabel LitFault) → (f : LabelFront greatest a (parts_of text) o []) → Splits (label_parts f.shape) text
label_splits greatest a text o f = parts_splits (label_parts f.shape) text (f.parts ∙ append_none (label_parts f.shape))

label_fault_by : (greatest : ℕ) (a : Expression) (text : List ℕ) (fault : LitFault) → LabelFront greatest a (parts_of text) (Err fault) [] → IsLabelFaultTo greatest a text fault
label_fault_by greatest a text BadText f = absurd (label_not_bad greatest a f.shape f.has f.means)
label_fault_by greatest a text NotInCarrier f = record { shape = f.shape; has = f.has; splits = label_splits greatest a text (Err NotInCarrier) f; breaks = f.means }
label_fault_by greatest a text NotALabel f = record { shape = f.shape; has = f.has; splits = label_splits greatest a text (Err NotALabel) f; breaks = f.means }

pub label_fault : (greatest : ℕ) (a : Expression) (text : List ℕ) (fault : LitFault) → label_at greatest a (parts_of text) ≡ Some (Err fault, []) → IsLabelFaultTo greatest a text fault
label_fault greatest a text fault e = label_fault_by greatest a text fault (label_sound greatest a (parts_of text) (Err fault) [] e)

pub label_refused : (greatest : ℕ) (a : Expression) (text : List ℕ) → NotWhole (label_at greatest a (parts_of text)) → IsLabelFaultTo greatest a text BadText
label_refused greatest a text n = λ s h p. n (label_of a s) (whole_label greatest a text s h p)

-- what a text spells is what the function says
pub label_said : (greatest : ℕ) (a : Expression) (text : List ℕ) (l : PureLabel) → LabelTextTo greatest a text l → spelled_label_to greatest a text ≡ Ok l
label_said greatest a text l t =
    whole_is (label_at greatest a (parts_of text)) (label_of a t.shape) (whole_label greatest a text t.shape t.has t.splits) ∙ t.means

pub label_says : (greatest : ℕ) (a : Expression) (text : List ℕ) (l : PureLabel) → spelled_label_to greatest a text ≡ Ok l → LabelTextTo greatest a text l
label_says greatest a text l e = label_spelled greatest a text l (taken_whole (label_at greatest a (parts_of text)) (Ok l) (λ h. cc) e)

has_label_fault : (greatest : ℕ) (a : Expression) (text : List ℕ) (fault : LitFault) → HasLabelFault greatest a text fault → spelled_label_to greatest a text ≡ Err fault
has_label_fault greatest a text fault f =
    whole_is (label_at greatest a (parts_of text)) (label_of a f.shape) (whole_label greatest a text f.shape f.has f.splits) ∙ f.breaks

pub label_fault_said : (greatest : ℕ) (a : Expression) (text : List ℕ) (fault : LitFault) → IsLabelFaultTo greatest a text fault → spelled_label_to greatest a text ≡ Err fault
label_fault_said greatest a text BadText f =
    not_whole (label_at greatest a (parts_of text)) (λ r e.
    let x = label_sound greatest a (parts_of text) r [] e in
    f x.shape x.has (label_splits greatest a text r x))
label_fault_said greatest a text NotInCarrier f = has_label_fault greatest a text NotInCarrier f
label_fault_said greatest a text NotALabel f = has_label_fault greatest a text NotALabel f

-- a reader of the whole never finds bad text
label_not_whole : (greatest : ℕ) (a : Expression) (text : List ℕ) → spelled_label_to greatest a text ≡ Err BadText → NotWhole (label_at greatest a (parts_of text))
label_not_whole greatest a text e = λ r h.
    let x = label_sound greatest a (parts_of text) r [] h in
    let w = whole_is (label_at greatest a (parts_of text)) r h in
    label_not_bad greatest a x.shape x.has (x.means ∙ sym w ∙ e)

pub label_fault_says : (greatest : ℕ) (a : Expression) (text : List ℕ) (fault : LitFault) → spelled_label_to greatest a text ≡ Err fault → IsLabelFaultTo greatest a text fault
label_fault_says greatest a text BadText e = label_refused greatest a text (label_not_whole greatest a text e)
label_fault_says greatest a text NotInCarrier e = label_fault greatest a text NotInCarrier (taken_whole (label_at greatest a (parts_of text)) (Err NotInCarrier) (λ h. cc) e)
label_fault_says greatest a text NotALabel e = label_fault greatest a text NotALabel (taken_whole (label_at greatest a (parts_of text)) (Err NotALabel) (λ h. cc) e)

pub label_states : (greatest : ℕ) (a : Expression) (text : List ℕ) → Reports (spelled_label_to greatest a text) (LabelTextTo greatest a text) (IsLabelFaultTo greatest a text)
label_states greatest a text = record {
  spells = λ l t. label_said greatest a text l t;
  is_spelled = λ l e. label_says greatest a text l e;
  refuses = λ f t. label_fault_said greatest a text f t;
  is_refused = λ f e. label_fault_says greatest a text f e;
}
