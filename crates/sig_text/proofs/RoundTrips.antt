-- A printed value or label of an algebra is read back as what it is.
use Rattle.std.proofs.Common.{◌≡◌, ℕ, ◌≤◌, ◌<◌, true, false, not, List, [], ◌∷◌, ◌++◌, length, get_or, Ok, refl, sym, ap, ◌∙◌, subst, arith, append_assoc, nat_le}
use Rattle.std.specs.Prelude.{codes, decimal}
use Rattle.std.specs.List.{list_all}
use Rattle.std.specs.Str.{bytes_eq}
use Rattle.std.proofs.lemmas.Bool.Decides.{nat_tests}
use Rattle.sig_text.specs.declared.bytes.TheConstants.{MAX_LITERAL_NUMBER}
use Rattle.meta_base.specs.Bytes.{is_word, is_word_byte}
use Rattle.alg_model.specs.declared.alg.TheConstants.{MAX_MARKS}
use Rattle.alg_model.specs.Expressions.{Expression, add, cap, worst, width, pref, orig, seq, simseq, tags, guard, gate, table, lex, scoped, union, sum, plus, left, right}
use Rattle.alg_model.specs.Expressions.{PureCarrier, whole, up_to, down_from, seqs, simseqs, sets, one, named, pairs, sides}
use Rattle.alg_model.specs.Expressions.{PureValue, number, symbols, marks, unit, name, pair, first, second}
use Rattle.alg_model.specs.Carriers.{carrier_of, In}
use Rattle.alg_model.specs.Bounds.{AtMost, greatest_number}
use Rattle.alg_model.specs.BoundLaws.{all_at_most_more}
use Rattle.alg_model.specs.declared.edition.Edition.{Edition}
use Rattle.alg_model.specs.declared.edition.Edition.TheVariants.{One, Two}
use Rattle.alg_model.specs.Formation.{MeetsRanges, MeetsNames, IsFormed, are_named, are_distinct, is_table_name, row_name}
use Rattle.alg_model.specs.Texts.{members, value_text}
use Rattle.sig_text.specs.declared.faults.LitFault.TheVariants.{NotInCarrier}
use Rattle.sig_text.specs.Parts.{Part, word, digits, mark, part, step_of, Begins, Splits}
use Rattle.sig_text.specs.Shapes.{ValueShape, number_shape, list_shape, set_shape, word_shape, pair_shape, first_shape, second_shape, value_parts, AreSmall, HasValueShape}
use Rattle.sig_text.specs.Literals.{both_of, one_of, placed, value_of, ValueTextTo}
use Rattle.sig_text.proofs.Meant.{both_true}
use Rattle.sig_text.proofs.Digits.{stops, step_digits, step_word, begins_append, begins_one, list_begins}
use Rattle.sig_text.proofs.Sets.{members_below, members_distinct, set_members, below_small, below_tested, all_at, placed_at}

-- the carrier is that of an algebra, as far as its texts go
abbrev pub Readable : PureCarrier → Type 0
Readable (sets k) = k ≤ MAX_MARKS
Readable (named names ranks) = are_named (λ name. name) names ≡ true
Readable (pairs c d) = Readable c × Readable d
Readable (sides c d) = Readable c × Readable d
Readable _ = Unit {0}

pub readable : (a : Expression) → MeetsRanges a → MeetsNames a → Readable (carrier_of a)
readable (add low high) r n = tt
readable (cap top low high) r n = tt
readable (worst top low high) r n = tt
readable (width top low high) r n = tt
readable (pref top) r n = tt
readable (orig top) r n = tt
readable (seq k) r n = tt
readable (simseq k) r n = tt
readable (tags k) r n = r.1
readable (guard k) r n = r.1
readable gate r n = tt
readable (table t) r n = (both_true (are_named (λ name. name) t.names) (are_named row_name t.rows) n).0
readable (lex a b) r n = (readable a r.0 n.0, readable b r.1 n.1)
readable (scoped a b) r n = (readable a r.0 n.0, readable b r.1 n.1)
readable (union a b) r n = (readable a r.0 n.0, readable b r.1 n.1)
readable (sum a b) r n = (readable a r.0 n.0, readable b r.1 n.1)
readable (plus a b) r n = readable a r.0 n.0
readable (left a) r n = readable a r n
readable (right a) r n = readable a r n

-- texts may hold the numbers of every set, and no greater number than any literal
abbrev pub HasRoom : ℕ → Type 0
HasRoom greatest = (MAX_MARKS ≤ greatest) × (greatest ≤ MAX_LITERAL_NUMBER)

pub readable_number : (greatest n : ℕ) → HasRoom greatest → n ≤ greatest → n ≤ MAX_LITERAL_NUMBER
readable_number greatest n room h = let most = room.1 in omega arith

readable_numbers : (greatest : ℕ) (ns : List ℕ) → HasRoom greatest → AreSmall greatest ns → AreSmall MAX_LITERAL_NUMBER ns
readable_numbers greatest ns room h = all_at_most_more greatest MAX_LITERAL_NUMBER ns room.1 h

-- the greatest number of an edition has room
pub edition_room : (e : Edition) → HasRoom (greatest_number e)
edition_room One = (omega arith, omega arith)
edition_room Two = (omega arith, omega arith)

-- a text after which these parts have been read
abbrev pub Reads : List Part → List ℕ → Type 0
Reads ps text = (rest : List ℕ) → stops rest ≡ true → Begins ps (text ++ rest) rest

regroup : (m : ℕ) (t u rest : List ℕ) → ((40 ∷ []) ++ t ++ (m ∷ []) ++ u ++ (41 ∷ [])) ++ rest ≡ 40 ∷ (t ++ m ∷ (u ++ 41 ∷ rest))
regroup m t u rest = simp append_assoc

not_stop : (m : ℕ) (cs : List ℕ) → is_word_byte m ≡ false → stops (m ∷ cs) ≡ true
not_stop m cs h = rw h refl

pub pair_reads : (m : ℕ) (ps qs : List Part) (t u : List ℕ) → is_word_byte m ≡ false → ((r : List ℕ) → step_of (m ∷ r) ≡ part (mark m) r) → Reads ps t → Reads qs u
    → Reads (mark 40 ∷ (ps ++ mark m ∷ (qs ++ mark 41 ∷ []))) ((40 ∷ []) ++ t ++ (m ∷ []) ++ u ++ (41 ∷ []))
pair_reads m ps qs t u h e f g = λ rest s.
    let after = u ++ 41 ∷ rest in
    let last : Begins (mark 41 ∷ []) (41 ∷ rest) rest = (rest, refl, refl) in
    let second = begins_append qs (mark 41 ∷ []) after (41 ∷ rest) rest (g (41 ∷ rest) refl) last in
    let between : Begins (mark m ∷ (qs ++ mark 41 ∷ [])) (m ∷ after) rest = (after, e after, second) in
    let first = begins_append ps (mark m ∷ (qs ++ mark 41 ∷ [])) (t ++ m ∷ after) (m ∷ after) rest (f (m ∷ after) (not_stop m after h)) between in
    subst (λ x. Begins (mark 40 ∷ (ps ++ mark m ∷ (qs ++ mark 41 ∷ []))) x rest) (sym (regroup m t u rest)) (t ++ m ∷ after, refl, first)

-- a shape that spells the value, whose parts are those of the printed text
pub record Reported (greatest : ℕ) (c : PureCarrier) (v : PureValue) : Type 0 where
  pub shape : ValueShape
  pub has : HasValueShape greatest c shape
  pub means : value_of c shape ≡ Ok v
  pub reads : Reads (value_parts shape) (value_text c v)

stated_name : (greatest : ℕ) (names : List (List ℕ)) (ranks : List ℕ) (k : ℕ) → are_named (λ name. name) names ≡ true → k < length names → Reported greatest (named names ranks) (name k)
stated_name greatest names ranks k r i =
    let both = both_true (list_all (λ (w : List ℕ). is_table_name w) names) (are_distinct (λ (w : List ℕ). w) names) r in
    let named = all_at (λ (w : List ℕ). is_table_name w) names k [] i both.0 in
    let is = (both_true (is_word (get_or names k [])) (not (bytes_eq (get_or names k []) (codes "none"))) named).0 in
    record {
      shape = word_shape (get_or names k []);
      has = tt;
      means = ap (placed name NotInCarrier) (placed_at (λ (w : List ℕ). w) names k [] i both.1);
      reads = λ rest h. begins_one (word (get_or names k [])) (get_or names k [] ++ rest) rest (step_word (get_or names k []) rest is h);
    }

pub reported : (greatest : ℕ) → HasRoom greatest → (c : PureCarrier) (v : PureValue) → Readable c → In c v → AtMost greatest v → Reported greatest c v
reported greatest room whole (number n) r i s =
    record { shape = number_shape n; has = s; means = refl; reads = λ rest h. begins_one (digits n) (decimal n ++ rest) rest (step_digits n rest (readable_number greatest n room s) h) }
reported greatest room whole _ r i s = absurd i
reported greatest room (up_to top) (number n) r i s =
    let t : nat_le n top ≡ true = grind (arith, nat_tests) in
    record { shape = number_shape n; has = s; means = rw t refl; reads = λ rest h. begins_one (digits n) (decimal n ++ rest) rest (step_digits n rest (readable_number greatest n room s) h) }
reported greatest room (up_to top) _ r i s = absurd i
reported greatest room (down_from top) (number n) r i s =
    let t : nat_le n top ≡ true = grind (arith, nat_tests) in
    record { shape = number_shape n; has = s; means = rw t refl; reads = λ rest h. begins_one (digits n) (decimal n ++ rest) rest (step_digits n rest (readable_number greatest n room s) h) }
reported greatest room (down_from top) _ r i s = absurd i
reported greatest room (seqs k) (symbols ns) r i s =
    record { shape = list_shape ns; has = s; means = rw (below_tested k ns i) refl; reads = λ rest h. list_begins 91 93 ns rest (readable_numbers greatest ns room s) refl refl refl }
reported greatest room (seqs k) _ r i s = absurd i
reported greatest room (simseqs k) (symbols ns) r i s =
    record { shape = list_shape ns; has = s; means = rw (below_tested k ns i.0, i.1) refl; reads = λ rest h. list_begins 91 93 ns rest (readable_numbers greatest ns room s) refl refl refl }
reported greatest room (simseqs k) _ r i s = absurd i
reported greatest room (sets k) (marks m) r i s =
    let below = members_below k m in
    let least = room.0 in
    let small = below_small greatest k (members k m) (omega arith) below in
    record {
      shape = set_shape (members k m);
      has = (small, members_distinct k m);
      means = rw (below_tested k (members k m) below) (ap (λ x. Ok (marks x)) (set_members k m i));
      reads = λ rest h. list_begins 123 125 (members k m) rest (readable_numbers greatest (members k m) room small) refl refl refl;
    }
reported greatest room (sets k) _ r i s = absurd i
reported greatest room one unit r i s =
    record { shape = word_shape (codes "unit"); has = refl; means = refl; reads = λ rest h. begins_one (word (codes "unit")) (codes "unit" ++ rest) rest (step_word (codes "unit") rest refl h) }
reported greatest room one _ r i s = absurd i
reported greatest room (named names ranks) (name k) r i s = stated_name greatest names ranks k r i
reported greatest room (named names ranks) _ r i s = absurd i
reported greatest room (pairs c d) (pair u v) r i s =
    let x = reported greatest room c u r.0 i.0 s.0 in
    let y = reported greatest room d v r.1 i.1 s.1 in
    record {
      shape = pair_shape x.shape y.shape;
      has = (x.has, y.has);
      means = ap (λ o. both_of pair o (value_of d y.shape)) x.means ∙ ap (λ o. both_of pair (Ok u) o) y.means;
      reads = pair_reads 44 (value_parts x.shape) (value_parts y.shape) (value_text c u) (value_text d v) refl (λ r. refl) x.reads y.reads;
    }
reported greatest room (pairs c d) _ r i s = absurd i
reported greatest room (sides c d) (first u) r i s =
    let x = reported greatest room c u r.0 i s in
    record { shape = first_shape x.shape; has = x.has; means = ap (one_of first) x.means; reads = λ rest h. (58 ∷ (value_text c u ++ rest), refl, (value_text c u ++ rest, refl, x.reads rest h)) }
reported greatest room (sides c d) (second v) r i s =
    let y = reported greatest room d v r.1 i s in
    record { shape = second_shape y.shape; has = y.has; means = ap (one_of second) y.means; reads = λ rest h. (58 ∷ (value_text d v ++ rest), refl, (value_text d v ++ rest, refl, y.reads rest h)) }
reported greatest room (sides c d) _ r i s = absurd i

append_end : (t : List ℕ) → t ++ [] ≡ t
append_end [] = refl
append_end (c ∷ cs) = ap (λ x. c ∷ x) (append_end cs)

pub reads_whole : (ps : List Part) (text : List ℕ) → Reads ps text → Splits ps text
reads_whole ps text f = record { rest = []; begins = subst (λ x. Begins ps x []) (append_end text) (f [] refl); ends = refl }

pub value_round : (greatest : ℕ) → HasRoom greatest → (a : Expression) (v : PureValue) → IsFormed a → In (carrier_of a) v → AtMost greatest v → ValueTextTo greatest a (value_text (carrier_of a) v) v
value_round greatest room a v f i s =
    let t = reported greatest room (carrier_of a) v (readable a f.ranges f.names) i s in
    record { shape = t.shape; has = t.has; splits = reads_whole (value_parts t.shape) (value_text (carrier_of a) v) t.reads; means = t.means }
