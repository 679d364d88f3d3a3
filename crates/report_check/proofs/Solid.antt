-- The printed words of a report: no blank stands in them, and no byte that ends a line.
use Rattle.std.proofs.Common.{◌≡◌, ℕ, zero, suc, ◌+◌, ◌^◌, ◌<◌, ◌≤◌, Bool, true, false, not, ◌&&◌, if◌then◌else◌, List, [], ◌∷◌, ◌++◌, length, append-nil, refl, sym, ap, ◌∙◌, arith, length-append}
use Rattle.std.specs.Prelude.{codes, decimal, slice_index_or}
use Rattle.std.specs.List.{list_all, onto_first, AllByRecursion}
use Rattle.std.specs.Str.{bytes_eq}
use Rattle.std.proofs.lemmas.Bool.Decides.{nat_tests}
use Rattle.meta_base.specs.Bytes.{is_blank, is_letter, is_word_byte, is_word}
use Rattle.alg_model.specs.Expressions.{PureCarrier, whole, up_to, down_from, seqs, simseqs, sets, one, named, pairs, sides}
use Rattle.alg_model.specs.Expressions.{PureValue, number, symbols, marks, unit, name, pair, first, second}
use Rattle.alg_model.specs.Carriers.{In}
use Rattle.alg_model.specs.Application.{has_mark}
use Rattle.alg_model.specs.Bounds.{AtMost}
use Rattle.alg_model.specs.Formation.{IsCarrier, are_named, are_distinct, is_table_name}
use Rattle.alg_model.specs.Texts.{more_numbers, numbers_text, members_from, members, value_text}
use Rattle.net_graph.specs.Nets.{is_name_byte}
use Rattle.topology_file.specs.LineLaws.{IsWord, both_true, all_pass, all_joined, is_plain, number_word}
use Rattle.topology_file.specs.Texts.{ends_word, words_of}

abbrev pub is_solid : ℕ → Bool
is_solid c = not (is_blank c) && is_plain c

abbrev pub Solid : List ℕ → Type 0
Solid text = list_all is_solid text ≡ true

joined : (xs ys : List ℕ) → Solid xs → Solid ys → Solid (xs ++ ys)
joined xs ys h k = all_joined is_solid xs ys h k

byte_solid : (c : ℕ) → is_name_byte c ≡ true → is_solid c ≡ true
unfolding is_plain
byte_solid c h = grind (arith, nat_tests)

letter_solid : (c : ℕ) → is_letter c ≡ true → is_solid c ≡ true
unfolding is_plain
letter_solid c h = grind (arith, nat_tests)

word_byte_solid : (c : ℕ) → is_word_byte c ≡ true → is_solid c ≡ true
unfolding is_plain
word_byte_solid c h = grind (arith, nat_tests)

pub solid_plain : (text : List ℕ) → Solid text → list_all is_plain text ≡ true
solid_plain text h = all_pass is_solid is_plain text (λ c k. (both_true (not (is_blank c)) (is_plain c) k).1) h

-- bytes of a printed word, one at least
pub record IsSolid (w : List ℕ) : Type 0 where
  pub bytes : Solid w
  pub some : 0 < length w

pub word_solid : (w : List ℕ) → IsWord w → IsSolid w
word_solid w i = record { bytes = all_pass is_name_byte is_solid w byte_solid i.bytes; some = i.some }

-- Words of a line.

not_blank : (c : ℕ) → is_solid c ≡ true → is_blank c ≡ false
not_blank c h = by (is_blank c) (both_true (not (is_blank c)) (is_plain c) h).0
  where
    by : (b : Bool) → not b ≡ true → b ≡ false
    by true e = absurd (cc)
    by false e = refl

word_grows : (c d : ℕ) (xs : List ℕ) → is_blank c ≡ false → is_blank d ≡ false → words_of (c ∷ d ∷ xs) ≡ onto_first c (words_of (d ∷ xs))
word_grows c d xs e f = rw (e, f) refl

word_first : (c : ℕ) (cs rest : List ℕ) → Solid (c ∷ cs) → ends_word rest ≡ true → words_of ((c ∷ cs) ++ rest) ≡ (c ∷ cs) ∷ words_of rest
word_first c [] rest h e = rw (not_blank c (both_true (is_solid c) true h).0, e) refl
word_first c (d ∷ ds) rest h e =
    let t = both_true (is_solid c) (list_all is_solid (d ∷ ds)) h in
    let u = both_true (is_solid d) (list_all is_solid ds) t.1 in
    word_grows c d (ds ++ rest) (not_blank c t.0) (not_blank d u.0) ∙ ap (onto_first c) (word_first d ds rest t.1 e)

pub words_first : (w rest : List ℕ) → IsSolid w → ends_word rest ≡ true → words_of (w ++ rest) ≡ w ∷ words_of rest
words_first [] rest i e = let some = i.some in absurd (omega arith)
words_first (c ∷ cs) rest i e = word_first c cs rest i.bytes e

pub words_one : (w : List ℕ) → IsSolid w → words_of w ≡ w ∷ []
words_one w i = ap words_of (sym (append-nil w)) ∙ words_first w [] i refl

-- Printed values.

abbrev printable : ℕ
printable = 10 ^ 64

number_solid : (n : ℕ) → n < printable → IsSolid (decimal n)
number_solid n h = word_solid (decimal n) (number_word n h)

AreFew : List ℕ → Type 0
AreFew ns = AllByRecursion (λ n. n < printable) ns

more_solid : (ns : List ℕ) → AreFew ns → Solid (more_numbers ns)
unfolding AreFew is_plain
more_solid [] h = refl
more_solid (n ∷ ns) h = joined (codes "," ++ decimal n) (more_numbers ns) (joined (codes ",") (decimal n) refl (number_solid n h.0).bytes) (more_solid ns h.1)

numbers_solid : (ns : List ℕ) → AreFew ns → Solid (numbers_text ns)
unfolding AreFew
numbers_solid [] h = refl
numbers_solid (n ∷ ns) h = joined (decimal n) (more_numbers ns) (number_solid n h.0).bytes (more_solid ns h.1)

few_symbols : (n : ℕ) (ns : List ℕ) → n < printable → AllByRecursion (λ m. m ≤ n) ns → AreFew ns
unfolding AreFew
few_symbols n [] h a = tt
few_symbols n (m ∷ ns) h a = (omega (arith, a.0), few_symbols n ns h a.1)

few_members : (k count m : ℕ) → k + count ≤ printable → AreFew (members_from k count m)
unfolding AreFew
few_members k zero m h = tt
few_members k (suc count) m h = by (has_mark m k) (few_members (k + 1) count m (omega arith))
  where
    by : (b : Bool) → AreFew (members_from (k + 1) count m) → AreFew (if b then k ∷ members_from (k + 1) count m else members_from (k + 1) count m)
    by true more = (omega arith, more)
    by false more = more

-- between two texts, of which the first isn't empty
wrapped : (opening text closing : List ℕ) → IsSolid opening → Solid text → Solid closing → IsSolid (opening ++ text ++ closing)
wrapped opening text closing o t c = record {
  bytes = joined (opening ++ text) closing (joined opening text o.bytes t) c;
  some = omega (arith, o.some, length-append opening text, length-append (opening ++ text) closing);
}

after_word : (opening text : List ℕ) → IsSolid opening → Solid text → IsSolid (opening ++ text)
after_word opening text o t = record { bytes = joined opening text o.bytes t; some = omega (arith, o.some, length-append opening text) }

table_word : (word : List ℕ) → is_word word ≡ true → IsSolid word
table_word [] h = absurd (cc)
table_word (c ∷ cs) h =
    let t = both_true (is_letter c) (list_all is_word_byte cs) h in
    record { bytes = rw (letter_solid c t.0) (all_pass is_word_byte is_solid cs word_byte_solid t.1); some = omega arith }

place_solid : (names : List (List ℕ)) (k : ℕ) → k < length names → list_all (λ name. is_table_name name) names ≡ true → IsSolid (slice_index_or names k [])
place_solid [] k l h = absurd (omega arith)
place_solid (w ∷ names) zero l h =
    let t = both_true (is_table_name w) (list_all (λ name. is_table_name name) names) h in
    table_word w (both_true (is_word w) (not (bytes_eq w (codes "none"))) t.0).0
place_solid (w ∷ names) (suc k) l h = place_solid names k (omega arith) (both_true (is_table_name w) (list_all (λ name. is_table_name name) names) h).1

pub value_solid : (n : ℕ) (c : PureCarrier) (v : PureValue) → n < printable → IsCarrier c → In c v → AtMost n v → IsSolid (value_text c v)
unfolding is_plain
value_solid n whole (number m) h i k s = number_solid m (omega arith)
value_solid n (up_to top) (number m) h i k s = number_solid m (omega arith)
value_solid n (down_from top) (number m) h i k s = number_solid m (omega arith)
value_solid n (seqs count) (symbols ns) h i k s = wrapped (codes "[") (numbers_text ns) (codes "]") (record { bytes = refl; some = omega arith }) (numbers_solid ns (few_symbols n ns h s)) refl
value_solid n (simseqs count) (symbols ns) h i k s = wrapped (codes "[") (numbers_text ns) (codes "]") (record { bytes = refl; some = omega arith }) (numbers_solid ns (few_symbols n ns h s)) refl
value_solid n (sets count) (marks m) h i k s =
    wrapped (codes "{") (numbers_text (members count m)) (codes "}") (record { bytes = refl; some = omega arith }) (numbers_solid (members count m) (few_members 0 count m (omega (arith, i.1)))) refl
value_solid n one unit h i k s = record { bytes = refl; some = omega arith }
value_solid n (named names ranks) (name place) h i k s = place_solid names place k (names_of (both_true _ _ i).1)
  where
    names_of : are_named (λ name. name) names ≡ true → list_all (λ name. is_table_name name) names ≡ true
    names_of e = (both_true (list_all (λ name. is_table_name name) names) (are_distinct (λ name. name) names) e).0
value_solid n (pairs c d) (pair u v) h i k s =
    let a = value_solid n c u h i.0 k.0 s.0 in
    let b = value_solid n d v h i.1 k.1 s.1 in
    let inner : Solid (value_text c u ++ codes "," ++ value_text d v) = joined (value_text c u ++ codes ",") (value_text d v) (joined (value_text c u) (codes ",") a.bytes refl) b.bytes in
    wrapped (codes "(") (value_text c u ++ codes "," ++ value_text d v) (codes ")") (record { bytes = refl; some = omega arith }) inner refl
value_solid n (sides c d) (first u) h i k s = after_word (codes "l:") (value_text c u) (record { bytes = refl; some = omega arith }) (value_solid n c u h i.0 k s).bytes
value_solid n (sides c d) (second v) h i k s = after_word (codes "r:") (value_text d v) (record { bytes = refl; some = omega arith }) (value_solid n d v h i.1 k s).bytes
value_solid n _ _ h i k s = absurd k
