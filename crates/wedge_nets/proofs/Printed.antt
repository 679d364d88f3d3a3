-- The printed texts of values and labels end no line: they have no line feed, no carriage return and no #.
use Rattle.std.proofs.Common.{◌≡◌, ℕ, zero, suc, ◌+◌, ◌^◌, ◌<◌, ◌≤◌, Bool, true, false, not, if◌then◌else◌, List, [], ◌∷◌, ◌++◌, refl, arith}
use Rattle.std.specs.Prelude.{codes, decimal, slice_get, slice_index_or}
use Rattle.std.specs.List.{list_all, AllByRecursion}
use Rattle.std.specs.Str.{bytes_eq}
use Rattle.std.proofs.lemmas.Bool.Decides.{nat_tests}
use Rattle.meta_base.specs.Bytes.{is_letter, is_word_byte, is_word}
use Rattle.alg_model.specs.declared.tree.TableRow.{TableRow}
use Rattle.alg_model.specs.Expressions.{Expression, add, cap, worst, width, pref, orig, seq, simseq, tags, guard, gate, table, lex, scoped, union, sum, plus, left, right}
use Rattle.alg_model.specs.Expressions.{PureCarrier, whole, up_to, down_from, seqs, simseqs, sets, one, named, pairs, sides}
use Rattle.alg_model.specs.Expressions.{PureValue, number, symbols, marks, unit, name, pair, first, second}
use Rattle.alg_model.specs.Expressions.{PureLabel, number_label, keep, symbol_label, mark, unmark, need, bar, allow, deny, row_label, pair_label, both_label, first_label, second_label, const_label, outer, inner}
use Rattle.alg_model.specs.Carriers.{carrier_of, In}
use Rattle.alg_model.specs.Application.{IsLabel, has_mark}
use Rattle.alg_model.specs.Bounds.{AtMost, LabelAtMost}
use Rattle.alg_model.specs.Formation.{IsFormed, IsCarrier, are_named, are_distinct, is_table_name, row_name}
use Rattle.alg_model.specs.CarrierLaws.{carriers_are}
use Rattle.alg_model.specs.Laws.{formed_lex, formed_scoped, formed_union, formed_sum, formed_plus, formed_left}
use Rattle.alg_model.specs.Texts.{more_numbers, numbers_text, members_from, members, value_text, row_text, label_text}
use Rattle.topology_file.specs.LineLaws.{is_plain, both_true, all_pass, all_joined, word_plain, number_word}

-- no byte of it ends a line, or what a line says
abbrev pub Plain : List ℕ → Type 0
Plain text = list_all is_plain text ≡ true

pub joined : (xs ys : List ℕ) → Plain xs → Plain ys → Plain (xs ++ ys)
joined xs ys h k = all_joined is_plain xs ys h k

-- numbers of so few digits that they are printed as they are
abbrev pub printable : ℕ
printable = 10 ^ 64

number_plain : (n : ℕ) → n < printable → Plain (decimal n)
number_plain n h = word_plain (decimal n) (number_word n h)

AreFew : List ℕ → Type 0
AreFew ns = AllByRecursion (λ n. n < printable) ns

more_plain : (ns : List ℕ) → AreFew ns → Plain (more_numbers ns)
unfolding AreFew is_plain
more_plain [] h = refl
more_plain (n ∷ ns) h = joined (codes "," ++ decimal n) (more_numbers ns) (joined (codes ",") (decimal n) refl (number_plain n h.0)) (more_plain ns h.1)

numbers_plain : (ns : List ℕ) → AreFew ns → Plain (numbers_text ns)
unfolding AreFew
numbers_plain [] h = refl
numbers_plain (n ∷ ns) h = joined (decimal n) (more_numbers ns) (number_plain n h.0) (more_plain ns h.1)

listed_plain : (opening closing : List ℕ) (ns : List ℕ) → Plain opening → Plain closing → AreFew ns → Plain (opening ++ numbers_text ns ++ closing)
listed_plain opening closing ns o c h = joined (opening ++ numbers_text ns) closing (joined opening (numbers_text ns) o (numbers_plain ns h)) c

few_symbols : (n : ℕ) (ns : List ℕ) → n < printable → AllByRecursion (λ m. m ≤ n) ns → AreFew ns
unfolding AreFew
few_symbols n [] h a = tt
few_symbols n (m ∷ ns) h a = (omega (arith, a.0), few_symbols n ns h a.1)

few_members : (k count m : ℕ) → k + count ≤ printable → AreFew (members_from k count m)
unfolding AreFew
few_members k zero m h = tt
few_members k (suc count) m h = by (has_mark m k) (few_members (k + 1) count m (omega arith))
  where
    by : (b : Bool) → AreFew (members_from (k + 1) count m) → AreFew (if b then k ∷ members_from (k + 1) count m else members_from (k + 1) count m)
    by true more = (omega arith, more)
    by false more = more

-- names of tables

letter_plain : (c : ℕ) → is_letter c ≡ true → is_plain c ≡ true
unfolding is_plain
letter_plain c h = grind (arith, nat_tests)

byte_plain : (c : ℕ) → is_word_byte c ≡ true → is_plain c ≡ true
unfolding is_plain
byte_plain c h = grind (arith, nat_tests)

name_plain : (word : List ℕ) → is_word word ≡ true → Plain word
name_plain [] h = refl
name_plain (c ∷ cs) h =
    let t = both_true (is_letter c) (list_all is_word_byte cs) h in
    rw (letter_plain c t.0) (all_pass is_word_byte is_plain cs byte_plain t.1)

place_plain : (names : List (List ℕ)) (k : ℕ) → list_all (λ name. is_table_name name) names ≡ true → Plain (slice_index_or names k [])
place_plain [] k h = refl
place_plain (w ∷ names) zero h =
    let t = both_true (is_table_name w) (list_all (λ name. is_table_name name) names) h in
    name_plain w (both_true (is_word w) (not (bytes_eq w (codes "none"))) t.0).0
place_plain (w ∷ names) (suc k) h = place_plain names k (both_true (is_table_name w) (list_all (λ name. is_table_name name) names) h).1

row_plain : (rows : List TableRow) (r : ℕ) → list_all (λ (row : TableRow). is_table_name (row_name row)) rows ≡ true → Plain (row_text (slice_get rows r))
row_plain [] r h = refl
row_plain (row ∷ rows) zero h =
    let t = both_true (is_table_name (row_name row)) (list_all (λ (row : TableRow). is_table_name (row_name row)) rows) h in
    name_plain row.name (both_true (is_word row.name) (not (bytes_eq row.name (codes "none"))) t.0).0
row_plain (row ∷ rows) (suc r) h = row_plain rows r (both_true (is_table_name (row_name row)) (list_all (λ (row : TableRow). is_table_name (row_name row)) rows) h).1

-- two texts between others
two_plain : (opening u middle v closing : List ℕ) → Plain opening → Plain u → Plain middle → Plain v → Plain closing → Plain (opening ++ u ++ middle ++ v ++ closing)
two_plain opening u middle v closing o p m q c =
    joined (opening ++ u ++ middle ++ v) closing (joined (opening ++ u ++ middle) v (joined (opening ++ u) middle (joined opening u o p) m) q) c

-- a value of a carrier, with numbers of so few digits
pub value_plain : (n : ℕ) (c : PureCarrier) (v : PureValue) → n < printable → IsCarrier c → In c v → AtMost n v → Plain (value_text c v)
unfolding is_plain
value_plain n whole (number m) h i k s = number_plain m (omega arith)
value_plain n (up_to top) (number m) h i k s = number_plain m (omega arith)
value_plain n (down_from top) (number m) h i k s = number_plain m (omega arith)
value_plain n (seqs count) (symbols ns) h i k s = listed_plain (codes "[") (codes "]") ns refl refl (few_symbols n ns h s)
value_plain n (simseqs count) (symbols ns) h i k s = listed_plain (codes "[") (codes "]") ns refl refl (few_symbols n ns h s)
value_plain n (sets count) (marks m) h i k s = listed_plain (codes "{") (codes "}") (members count m) refl refl (few_members 0 count m (omega (arith, i.1)))
value_plain n one unit h i k s = refl
value_plain n (named names ranks) (name place) h i k s = place_plain names place (names_of (both_true _ _ i).1)
  where
    names_of : are_named (λ name. name) names ≡ true → list_all (λ name. is_table_name name) names ≡ true
    names_of e = (both_true (list_all (λ name. is_table_name name) names) (are_distinct (λ name. name) names) e).0
value_plain n (pairs c d) (pair u v) h i k s =
    two_plain (codes "(") (value_text c u) (codes ",") (value_text d v) (codes ")") refl (value_plain n c u h i.0 k.0 s.0) refl (value_plain n d v h i.1 k.1 s.1) refl
value_plain n (sides c d) (first u) h i k s = joined (codes "l:") (value_text c u) refl (value_plain n c u h i.0 k s)
value_plain n (sides c d) (second v) h i k s = joined (codes "r:") (value_text d v) refl (value_plain n d v h i.1 k s)
value_plain n _ _ h i k s = absurd k

marked_plain : (c k : ℕ) → is_plain c ≡ true → k < printable → Plain (c ∷ decimal k)
marked_plain c k p h = rw p (number_plain k h)

-- a label of an algebra
pub label_plain : (n : ℕ) (a : Expression) (l : PureLabel) → n < printable → IsFormed a → IsLabel a l → LabelAtMost n l → Plain (label_text a l)
unfolding is_plain
label_plain n (add low high) (number_label m) h f i s = number_plain m (omega arith)
label_plain n (cap top low high) (number_label m) h f i s = number_plain m (omega arith)
label_plain n (worst top low high) (number_label m) h f i s = number_plain m (omega arith)
label_plain n (width top low high) (number_label m) h f i s = number_plain m (omega arith)
label_plain n (pref top) (number_label m) h f i s = number_plain m (omega arith)
label_plain n (orig top) keep h f i s = refl
label_plain n (seq count) (symbol_label m) h f i s = number_plain m (omega arith)
label_plain n (simseq count) (symbol_label m) h f i s = number_plain m (omega arith)
label_plain n (tags count) keep h f i s = refl
label_plain n (tags count) (mark k) h f i s = marked_plain 43 k refl (omega (arith, f.ranges.1))
label_plain n (tags count) (unmark k) h f i s = marked_plain 45 k refl (omega (arith, f.ranges.1))
label_plain n (guard count) (need k) h f i s = marked_plain 63 k refl (omega (arith, f.ranges.1))
label_plain n (guard count) (bar k) h f i s = marked_plain 33 k refl (omega (arith, f.ranges.1))
label_plain n gate allow h f i s = refl
label_plain n gate deny h f i s = refl
label_plain n (table t) (row_label r) h f i s =
    let named = both_true (are_named (λ name. name) t.names) (are_named row_name t.rows) f.names in
    row_plain t.rows r (both_true (list_all (λ (row : TableRow). is_table_name (row_name row)) t.rows) (are_distinct row_name t.rows) named.1).0
label_plain n (lex a b) (pair_label l m) h f i s =
    let parts = formed_lex a b f in
    two_plain (codes "(") (label_text a l) (codes ",") (label_text b m) (codes ")") refl (label_plain n a l h parts.0 i.0 s.0) refl (label_plain n b m h parts.1 i.1 s.1) refl
label_plain n (scoped a b) (outer l v) h f i s =
    let parts = formed_scoped a b f in
    two_plain (codes "out(") (label_text a l) (codes ",") (value_text (carrier_of b) v) (codes ")") refl (label_plain n a l h parts.0 i.0 s.0) refl
    (value_plain n (carrier_of b) v h (carriers_are b parts.1) i.1 s.1) refl
label_plain n (scoped a b) (inner m) h f i s =
    let parts = formed_scoped a b f in
    joined (codes "in(" ++ label_text b m) (codes ")") (joined (codes "in(") (label_text b m) refl (label_plain n b m h parts.1 i s)) refl
label_plain n (union a b) (first_label l) h f i s = joined (codes "l:") (label_text a l) refl (label_plain n a l h (formed_union a b f).0 i s)
label_plain n (union a b) (second_label m) h f i s = joined (codes "r:") (label_text b m) refl (label_plain n b m h (formed_union a b f).1 i s)
label_plain n (sum a b) (both_label l m) h f i s =
    let parts = formed_sum a b f in
    two_plain (codes "(") (label_text a l) (codes "|") (label_text b m) (codes ")") refl (label_plain n a l h parts.0 i.0 s.0) refl (label_plain n b m h parts.1 i.1 s.1) refl
label_plain n (plus a b) (first_label l) h f i s = joined (codes "l:") (label_text a l) refl (label_plain n a l h (formed_plus a b f).0 i s)
label_plain n (plus a b) (second_label m) h f i s = joined (codes "r:") (label_text b m) refl (label_plain n b m h (formed_plus a b f).1 i s)
label_plain n (left a) (const_label v) h f i s = value_plain n (carrier_of a) v h (carriers_are a (formed_left a f)) i s
label_plain n (right a) keep h f i s = refl
label_plain n _ _ h f i s = absurd i
