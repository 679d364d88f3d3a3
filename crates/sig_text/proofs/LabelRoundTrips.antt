-- A printed label of an algebra is read back as what it is.
use Rattle.std.proofs.Common.{◌≡◌, inl, inr, ℕ, ◌≤◌, ◌<◌, true, not, ◌&&◌, List, [], ◌∷◌, ◌++◌, length, get_or, Ok, refl, sym, ap, ◌∙◌, subst, arith, append_assoc, nat_le, nat_lt}
use Rattle.std.specs.Prelude.{codes, decimal, slice_get}
use Rattle.std.specs.List.{list_all}
use Rattle.std.specs.Str.{bytes_eq}
use Rattle.std.proofs.lemmas.Bool.Decides.{nat_tests}
use Rattle.std.proofs.lemmas.Option.{slice_get-get_or}
use Rattle.sig_text.specs.declared.bytes.TheConstants.{MAX_LITERAL_NUMBER}
use Rattle.meta_base.specs.Bytes.{is_word}
use Rattle.alg_model.specs.declared.tree.TableSpec.{TableSpec}
use Rattle.alg_model.specs.declared.tree.TableRow.{TableRow}
use Rattle.alg_model.specs.Expressions.{Expression, add, cap, worst, width, pref, orig, seq, simseq, tags, guard, gate, table, lex, scoped, union, sum, plus, left, right}
use Rattle.alg_model.specs.Expressions.{PureValue, PureLabel, number_label, keep, symbol_label, unmark, need, bar, allow, deny, row_label, pair_label, both_label, first_label, second_label, const_label, outer, inner}
use Rattle.alg_model.specs.Expressions as labels
use Rattle.alg_model.specs.Carriers.{carrier_of}
use Rattle.alg_model.specs.Application.{IsLabel}
use Rattle.alg_model.specs.Bounds.{LabelAtMost}
use Rattle.alg_model.specs.Formation.{MeetsRanges, MeetsNames, IsFormed, are_named, are_distinct, is_table_name, row_name}
use Rattle.alg_model.specs.Texts.{value_text, label_text, row_text}
use Rattle.sig_text.specs.declared.faults.LitFault.TheVariants.{NotALabel}
use Rattle.sig_text.specs.Parts.{Part, word, digits, mark, part, step_of, Begins}
use Rattle.sig_text.specs.Shapes.{LabelShape, number_label_shape, word_label_shape, marked_shape, pair_label_shape, both_shape, first_label_shape, second_label_shape, value_label_shape, outer_shape, inner_shape, label_parts, value_parts, HasLabelShape}
use Rattle.sig_text.specs.Literals.{both_of, one_of, placed, value_of, label_of, LabelTextTo}
use Rattle.sig_text.proofs.Meant.{both_true}
use Rattle.sig_text.proofs.Digits.{step_digits, step_word, begins_append, begins_one}
use Rattle.sig_text.proofs.Sets.{all_at, placed_at}
use Rattle.sig_text.proofs.RoundTrips.{HasRoom, readable_number, readable, Reads, pair_reads, reads_whole, reported}

-- a shape that spells the label, whose parts are those of the printed text
pub record LabelStated (greatest : ℕ) (a : Expression) (l : PureLabel) : Type 0 where
  pub shape : LabelShape
  pub has : HasLabelShape greatest a shape
  pub means : label_of a shape ≡ Ok l
  pub reads : Reads (label_parts shape) (label_text a l)

number_reads : (n : ℕ) → n ≤ MAX_LITERAL_NUMBER → Reads (digits n ∷ []) (decimal n)
number_reads n s = λ rest h. begins_one (digits n) (decimal n ++ rest) rest (step_digits n rest s h)

word_reads : (w : List ℕ) → is_word w ≡ true → Reads (word w ∷ []) w
word_reads w i = λ rest h. begins_one (word w) (w ++ rest) rest (step_word w rest i h)

marked_reads : (c n : ℕ) → ((r : List ℕ) → step_of (c ∷ r) ≡ part (mark c) r) → n ≤ MAX_LITERAL_NUMBER → Reads (mark c ∷ digits n ∷ []) (c ∷ decimal n)
marked_reads c n e s = λ rest h. (decimal n ++ rest, e (decimal n ++ rest), number_reads n s rest h)

parens_regroup : (t rest : List ℕ) → ((40 ∷ []) ++ t ++ (41 ∷ [])) ++ rest ≡ 40 ∷ (t ++ 41 ∷ rest)
parens_regroup t rest = simp append_assoc

parens_reads : (ps : List Part) (t : List ℕ) → Reads ps t → Reads (mark 40 ∷ (ps ++ mark 41 ∷ [])) ((40 ∷ []) ++ t ++ (41 ∷ []))
parens_reads ps t f = λ rest s.
    let last : Begins (mark 41 ∷ []) (41 ∷ rest) rest = (rest, refl, refl) in
    let inside = begins_append ps (mark 41 ∷ []) (t ++ 41 ∷ rest) (41 ∷ rest) rest (f (41 ∷ rest) refl) last in
    subst (λ x. Begins (mark 40 ∷ (ps ++ mark 41 ∷ [])) x rest) (sym (parens_regroup t rest)) (t ++ 41 ∷ rest, refl, inside)

both_tests : (low n high : ℕ) → low ≤ n → n ≤ high → (nat_le low n && nat_le n high) ≡ true
both_tests low n high h k =
    let p : nat_le low n ≡ true = grind (arith, nat_tests) in
    let q : nat_le n high ≡ true = grind (arith, nat_tests) in
    rw (p, q) refl

stated_row : (greatest : ℕ) (t : TableSpec) (k : ℕ) → are_named row_name t.rows ≡ true → k < length t.rows → LabelStated greatest (table t) (row_label k)
stated_row greatest t k r i =
    let none : TableRow = record { name = []; images = [] } in
    let both = both_true (list_all (λ (row : TableRow). is_table_name (row_name row)) t.rows) (are_distinct row_name t.rows) r in
    let named = all_at (λ (row : TableRow). is_table_name (row_name row)) t.rows k none i both.0 in
    let w = (get_or t.rows k none).name in
    let is = (both_true (is_word w) (not (bytes_eq w (codes "none"))) named).0 in
    let text : w ≡ row_text (slice_get t.rows k) = sym (ap row_text (slice_get-get_or t.rows k none i)) in
    record {
      shape = word_label_shape w;
      has = tt;
      means = ap (placed row_label NotALabel) (placed_at row_name t.rows k none i both.1);
      reads = subst (Reads (word w ∷ [])) text (word_reads w is);
    }

pub label_stated : (greatest : ℕ) → HasRoom greatest → (a : Expression) (l : PureLabel) → MeetsRanges a → MeetsNames a → IsLabel a l → LabelAtMost greatest l → LabelStated greatest a l
label_stated greatest room (add low high) (number_label n) r m i s = record { shape = number_label_shape n; has = s; means = rw (both_tests low n high i.0 i.1) refl; reads = number_reads n (readable_number greatest n room s) }
label_stated greatest room (add low high) _ r m i s = absurd i
label_stated greatest room (cap top low high) (number_label n) r m i s = record { shape = number_label_shape n; has = s; means = rw (both_tests low n high i.0 i.1) refl; reads = number_reads n (readable_number greatest n room s) }
label_stated greatest room (cap top low high) _ r m i s = absurd i
label_stated greatest room (worst top low high) (number_label n) r m i s = record { shape = number_label_shape n; has = s; means = rw (both_tests low n high i.0 i.1) refl; reads = number_reads n (readable_number greatest n room s) }
label_stated greatest room (worst top low high) _ r m i s = absurd i
label_stated greatest room (width top low high) (number_label n) r m i s = record { shape = number_label_shape n; has = s; means = rw (both_tests low n high i.0 i.1) refl; reads = number_reads n (readable_number greatest n room s) }
label_stated greatest room (width top low high) _ r m i s = absurd i
label_stated greatest room (pref top) (number_label n) r m i s =
    let t : nat_le n top ≡ true = grind (arith, nat_tests) in
    record { shape = number_label_shape n; has = s; means = rw t refl; reads = number_reads n (readable_number greatest n room s) }
label_stated greatest room (pref top) _ r m i s = absurd i
label_stated greatest room (orig top) keep r m i s = record { shape = word_label_shape (codes "keep"); has = refl; means = refl; reads = word_reads (codes "keep") refl }
label_stated greatest room (orig top) _ r m i s = absurd i
label_stated greatest room (seq k) (symbol_label n) r m i s =
    let t : nat_lt n k ≡ true = grind (arith, nat_tests) in
    record { shape = number_label_shape n; has = s; means = rw t refl; reads = number_reads n (readable_number greatest n room s) }
label_stated greatest room (seq k) _ r m i s = absurd i
label_stated greatest room (simseq k) (symbol_label n) r m i s =
    let t : nat_lt n k ≡ true = grind (arith, nat_tests) in
    record { shape = number_label_shape n; has = s; means = rw t refl; reads = number_reads n (readable_number greatest n room s) }
label_stated greatest room (simseq k) _ r m i s = absurd i
label_stated greatest room (tags k) keep r m i s = record { shape = word_label_shape (codes "keep"); has = refl; means = refl; reads = word_reads (codes "keep") refl }
label_stated greatest room (tags k) (labels.mark n) r m i s =
    let few = r.1 in
    let t : nat_lt n k ≡ true = grind (arith, nat_tests) in
    let least = room.0 in
    let small : n ≤ greatest = omega arith in
    record { shape = marked_shape 43 n; has = (inl refl, small); means = rw t refl; reads = marked_reads 43 n (λ r. refl) (readable_number greatest n room small) }
label_stated greatest room (tags k) (unmark n) r m i s =
    let few = r.1 in
    let t : nat_lt n k ≡ true = grind (arith, nat_tests) in
    let least = room.0 in
    let small : n ≤ greatest = omega arith in
    record { shape = marked_shape 45 n; has = (inr refl, small); means = rw t refl; reads = marked_reads 45 n (λ r. refl) (readable_number greatest n room small) }
label_stated greatest room (tags k) _ r m i s = absurd i
label_stated greatest room (guard k) (need n) r m i s =
    let few = r.1 in
    let t : nat_lt n k ≡ true = grind (arith, nat_tests) in
    let least = room.0 in
    let small : n ≤ greatest = omega arith in
    record { shape = marked_shape 63 n; has = (inl refl, small); means = rw t refl; reads = marked_reads 63 n (λ r. refl) (readable_number greatest n room small) }
label_stated greatest room (guard k) (bar n) r m i s =
    let few = r.1 in
    let t : nat_lt n k ≡ true = grind (arith, nat_tests) in
    let least = room.0 in
    let small : n ≤ greatest = omega arith in
    record { shape = marked_shape 33 n; has = (inr refl, small); means = rw t refl; reads = marked_reads 33 n (λ r. refl) (readable_number greatest n room small) }
label_stated greatest room (guard k) _ r m i s = absurd i
label_stated greatest room gate allow r m i s = record { shape = word_label_shape (codes "allow"); has = inl refl; means = refl; reads = word_reads (codes "allow") refl }
label_stated greatest room gate deny r m i s = record { shape = word_label_shape (codes "deny"); has = inr refl; means = refl; reads = word_reads (codes "deny") refl }
label_stated greatest room gate _ r m i s = absurd i
label_stated greatest room (table t) (row_label k) r m i s = stated_row greatest t k (both_true (are_named (λ name. name) t.names) (are_named row_name t.rows) m).1 i
label_stated greatest room (table t) _ r m i s = absurd i
label_stated greatest room (lex a b) (pair_label l n) r m i s =
    let x = label_stated greatest room a l r.0 m.0 i.0 s.0 in
    let y = label_stated greatest room b n r.1 m.1 i.1 s.1 in
    record {
      shape = pair_label_shape x.shape y.shape;
      has = (x.has, y.has);
      means = ap (λ o. both_of pair_label o (label_of b y.shape)) x.means ∙ ap (λ o. both_of pair_label (Ok l) o) y.means;
      reads = pair_reads 44 (label_parts x.shape) (label_parts y.shape) (label_text a l) (label_text b n) refl (λ r. refl) x.reads y.reads;
    }
label_stated greatest room (lex a b) _ r m i s = absurd i
label_stated greatest room (scoped a b) (outer l v) r m i s =
    let x = label_stated greatest room a l r.0 m.0 i.0 s.0 in
    let y = reported greatest room (carrier_of b) v (readable b r.1 m.1) i.1 s.1 in
    let inside = pair_reads 44 (label_parts x.shape) (value_parts y.shape) (label_text a l) (value_text (carrier_of b) v) refl (λ r. refl) x.reads y.reads in
    record {
      shape = outer_shape x.shape y.shape;
      has = (x.has, y.has);
      means = ap (λ o. both_of outer o (value_of (carrier_of b) y.shape)) x.means ∙ ap (λ o. both_of outer (Ok l) o) y.means;
      reads = λ rest h. (((40 ∷ []) ++ label_text a l ++ (44 ∷ []) ++ value_text (carrier_of b) v ++ (41 ∷ [])) ++ rest, refl, inside rest h);
    }
label_stated greatest room (scoped a b) (inner n) r m i s =
    let y = label_stated greatest room b n r.1 m.1 i s in
    let inside = parens_reads (label_parts y.shape) (label_text b n) y.reads in
    record {
      shape = inner_shape y.shape;
      has = y.has;
      means = ap (one_of inner) y.means;
      reads = λ rest h. (((40 ∷ []) ++ label_text b n ++ (41 ∷ [])) ++ rest, refl, inside rest h);
    }
label_stated greatest room (scoped a b) _ r m i s = absurd i
label_stated greatest room (union a b) (first_label l) r m i s =
    let x = label_stated greatest room a l r.0 m.0 i s in
    record { shape = first_label_shape x.shape; has = x.has; means = ap (one_of first_label) x.means; reads = λ rest h. (58 ∷ (label_text a l ++ rest), refl, (label_text a l ++ rest, refl, x.reads rest h)) }
label_stated greatest room (union a b) (second_label n) r m i s =
    let y = label_stated greatest room b n r.1 m.1 i s in
    record { shape = second_label_shape y.shape; has = y.has; means = ap (one_of second_label) y.means; reads = λ rest h. (58 ∷ (label_text b n ++ rest), refl, (label_text b n ++ rest, refl, y.reads rest h)) }
label_stated greatest room (union a b) _ r m i s = absurd i
label_stated greatest room (sum a b) (both_label l n) r m i s =
    let x = label_stated greatest room a l r.0 m.0 i.0 s.0 in
    let y = label_stated greatest room b n r.1 m.1 i.1 s.1 in
    record {
      shape = both_shape x.shape y.shape;
      has = (x.has, y.has);
      means = ap (λ o. both_of both_label o (label_of b y.shape)) x.means ∙ ap (λ o. both_of both_label (Ok l) o) y.means;
      reads = pair_reads 124 (label_parts x.shape) (label_parts y.shape) (label_text a l) (label_text b n) refl (λ r. refl) x.reads y.reads;
    }
label_stated greatest room (sum a b) _ r m i s = absurd i
label_stated greatest room (plus a b) (first_label l) r m i s =
    let x = label_stated greatest room a l r.0 m.0 i s in
    record { shape = first_label_shape x.shape; has = x.has; means = ap (one_of first_label) x.means; reads = λ rest h. (58 ∷ (label_text a l ++ rest), refl, (label_text a l ++ rest, refl, x.reads rest h)) }
label_stated greatest room (plus a b) (second_label n) r m i s =
    let y = label_stated greatest room b n r.1 m.1 i s in
    record { shape = second_label_shape y.shape; has = y.has; means = ap (one_of second_label) y.means; reads = λ rest h. (58 ∷ (label_text b n ++ rest), refl, (label_text b n ++ rest, refl, y.reads rest h)) }
label_stated greatest room (plus a b) _ r m i s = absurd i
label_stated greatest room (left a) (const_label v) r m i s =
    let y = reported greatest room (carrier_of a) v (readable a r m) i s in
    record { shape = value_label_shape y.shape; has = y.has; means = ap (one_of const_label) y.means; reads = y.reads }
label_stated greatest room (left a) _ r m i s = absurd i
label_stated greatest room (right a) keep r m i s = record { shape = word_label_shape (codes "keep"); has = refl; means = refl; reads = word_reads (codes "keep") refl }
label_stated greatest room (right a) _ r m i s = absurd i

pub label_round : (greatest : ℕ) → HasRoom greatest → (a : Expression) (l : PureLabel) → IsFormed a → IsLabel a l → LabelAtMost greatest l → LabelTextTo greatest a (label_text a l) l
label_round greatest room a l f i s =
    let t = label_stated greatest room a l f.ranges f.names i s in
    record { shape = t.shape; has = t.has; splits = reads_whole (label_parts t.shape) (label_text a l) t.reads; means = t.means }
