-- The code of a label means what the label makes of a value.
use Rattle.std.proofs.Common.{◌≡◌, ℕ, ◌+◌, ◌^◌, ◌<◌, ◌≤◌, ◌==◌, List, [], ◌∷◌, ◌++◌, length, Bool, true, false, ◌&&◌, Option, Some, None, zero, suc, refl, sym, ap, ◌∙◌, subst, arith, if◌then◌else◌}
use Rattle.std.specs.Prelude.{nat_le, nat_lt, option_map, option_and_then, slice_get}
use Rattle.std.specs.List.{list_any, list_all}
use Rattle.std.proofs.lemmas.Bool.Decides.{nat_tests}
use Rattle.std.proofs.lemmas.List.{append_assoc, append-nil, length-append}
use Rattle.std.proofs.lemmas.Option.{slice_get-get_or}
use Rattle.std.proofs.Math.Seq.{take-append_seam, drop-append_seam}
use Rattle.alg_model.specs.declared.edition.TheConstants.{MAX_LABEL_NUMBER}
use Rattle.alg_model.specs.declared.alg.TheConstants.{MAX_VALUE_NUMBER}
use Rattle.alg_model.specs.declared.tree.TableSpec.{TableSpec}
use Rattle.alg_model.specs.declared.tree.TableRow.{TableRow}
use Rattle.alg_model.specs.Expressions.{Expression, add, cap, worst, width, pref, orig, seq, simseq, tags, guard, gate, table, lex, scoped, union, sum, plus, left, right}
use Rattle.alg_model.specs.Expressions.{PureCarrier, PureValue, number, symbols, marks, unit, name, pair, first, second}
use Rattle.alg_model.specs.Expressions.{PureLabel, number_label, keep, symbol_label, mark, unmark, need, bar, allow, deny, row_label, pair_label, both_label, first_label, second_label, const_label, outer, inner}
use Rattle.alg_model.specs.Carriers.{carrier_of, In}
use Rattle.alg_model.specs.Application.{App, both, has_mark}
use Rattle.alg_model.specs.Actions.{MayAct}
use Rattle.alg_model.specs.Formation.{is_table, is_table_count, are_ranks, is_row_over}
use Rattle.label_code.specs.declared.operations.Op.{Op}
use Rattle.label_code.specs.declared.operations.Op.TheVariants as op
use Rattle.label_code.specs.Effects.{goes_on, denies, writes, looks}
use Rattle.label_code.specs.Machine.{Outcome, made, prohibited, after_written, outcome, run_over, RunCode}
use Rattle.label_code.specs.CodeLaws.{after_both, after_none}
use Rattle.code_gen.specs.Encoding.{Enc}
use Rattle.code_gen.specs.EncodingLaws.{length_fits}
use Rattle.code_gen.specs.Compilation.{Keep, Lose, Say, images_of, CompileLabel}
use Rattle.code_gen.specs.Meaning.{outcome_of, CodeMeansApplication}
use Rattle.code_gen.proofs.Running.{same_run, fork_first, fork_second, skipped, said, kept, lost}
use Rattle.code_gen.proofs.Sets.{below_word, cleared}

-- what comes of a value's words, and of a row after them, where this comes of the value and more code follows
abbrev after : Option PureValue → List Op → List ℕ → Outcome
after (Some w) code row = after_written (Enc w) (RunCode code row)
after None code row = prohibited

-- the law for an expression: more code and a longer row may follow
abbrev Means : Expression → Type 0
Means a = (l : PureLabel) (v : PureValue) (code : List Op) (row : List ℕ) → MayAct a l v → RunCode (CompileLabel a l ++ code) (Enc v ++ row) ≡ after (App a l v) code row

-- a word is written where a test holds, or where it fails
where_true : (b : Bool) (v : PureValue) (w : ℕ) (code : List Op) (row : List ℕ) → Enc v ≡ w ∷ []
    → outcome (if b then writes w row else denies) (λ jump rest. run_over jump code rest) ≡ after (if b then Some v else None) code row
where_true true v w code row e = ap (λ ws. after_written ws (RunCode code row)) (sym e)
where_true false v w code row e = refl

where_false : (b : Bool) (v : PureValue) (w : ℕ) (code : List Op) (row : List ℕ) → Enc v ≡ w ∷ []
    → outcome (if b then denies else writes w row) (λ jump rest. run_over jump code rest) ≡ after (if b then None else Some v) code row
where_false true v w code row e = refl
where_false false v w code row e = ap (λ ws. after_written ws (RunCode code row)) (sym e)

sum_fits : (m n : ℕ) → m ≤ MAX_VALUE_NUMBER → n ≤ MAX_LABEL_NUMBER → nat_lt (m + n) (2 ^ 128) ≡ true
sum_fits m n h i = grind (arith, nat_tests)

bit_fits : (k n : ℕ) → k < n → n ≤ 64 → nat_lt k 64 ≡ true
bit_fits k n h i = grind (arith, nat_tests)

add_means : (low high : ℕ) → Means (add low high)
add_means low high (number_label n) (number m) code row h = rw (sum_fits m n h.small_value h.small_label) refl
add_means low high (number_label n) _ code row h = absurd h.value
add_means low high _ v code row h = absurd h.label

cap_means : (top low high : ℕ) → Means (cap top low high)
cap_means top low high (number_label n) (number m) code row h =
    rw (sum_fits m n h.small_value h.small_label) (where_true (nat_le (m + n) top) (number (m + n)) (m + n) code row refl)
cap_means top low high (number_label n) _ code row h = absurd h.value
cap_means top low high _ v code row h = absurd h.label

worst_means : (top low high : ℕ) → Means (worst top low high)
worst_means top low high (number_label n) (number m) code row h = refl
worst_means top low high (number_label n) _ code row h = absurd h.value
worst_means top low high _ v code row h = absurd h.label

width_means : (top low high : ℕ) → Means (width top low high)
width_means top low high (number_label n) (number m) code row h = refl
width_means top low high (number_label n) _ code row h = absurd h.value
width_means top low high _ v code row h = absurd h.label

pref_means : (top : ℕ) → Means (pref top)
pref_means top (number_label n) (number m) code row h = after_none _
pref_means top (number_label n) _ code row h = absurd h.value
pref_means top _ v code row h = absurd h.label

orig_means : (top : ℕ) → Means (orig top)
orig_means top keep (number m) code row h = refl
orig_means top keep _ code row h = absurd h.value
orig_means top _ v code row h = absurd h.label

-- a sequence and one more symbol
one_longer : (ns : List ℕ) (n : ℕ) → length ns + 1 ≡ length (ns ++ n ∷ [])
one_longer ns n = sym (length-append ns (n ∷ []))

seq_means : (k : ℕ) → Means (seq k)
seq_means k (symbol_label n) (symbols ns) code row h =
    rw (length_fits ns row, take-append_seam ns row, drop-append_seam ns row)
    (ap (λ m. after_written (m ∷ (ns ++ n ∷ [])) (RunCode code row)) (one_longer ns n))
seq_means k (symbol_label n) _ code row h = absurd h.value
seq_means k _ v code row h = absurd h.label

-- the symbol is fresh, or not
fresh_means : (b : Bool) (ns : List ℕ) (n : ℕ) (code : List Op) (row : List ℕ)
    → outcome (if b then denies else goes_on ((length ns + 1) ∷ (ns ++ n ∷ [])) row 0) (λ jump rest. run_over jump code rest) ≡ after (if b then None else Some (symbols (ns ++ n ∷ []))) code row
fresh_means true ns n code row = refl
fresh_means false ns n code row = ap (λ m. after_written (m ∷ (ns ++ n ∷ [])) (RunCode code row)) (one_longer ns n)

simseq_means : (k : ℕ) → Means (simseq k)
simseq_means k (symbol_label n) (symbols ns) code row h =
    rw (length_fits ns row, take-append_seam ns row, drop-append_seam ns row) (fresh_means (list_any (λ m. m == n) ns) ns n code row)
simseq_means k (symbol_label n) _ code row h = absurd h.value
simseq_means k _ v code row h = absurd h.label

tags_means : (n : ℕ) → Means (tags n)
tags_means n keep (marks m) code row h = refl
tags_means n keep _ code row h = absurd h.value
tags_means n (mark k) (marks m) code row h = rw (bit_fits k n h.label h.ranges.1) refl
tags_means n (mark k) _ code row h = absurd h.value
tags_means n (unmark k) (marks m) code row h =
    rw (bit_fits k n h.label h.ranges.1)
    (ap (λ w. after_written (w ∷ []) (RunCode code row)) (cleared m k (below_word n m h.ranges.1 h.value) (below k n h.label h.ranges.1)))
  where
    below : (k n : ℕ) → k < n → n ≤ 64 → k < 64
    below k n h i = omega arith
tags_means n (unmark k) _ code row h = absurd h.value
tags_means n _ v code row h = absurd h.label

guard_means : (n : ℕ) → Means (guard n)
guard_means n (need k) (marks m) code row h = rw (bit_fits k n h.label h.ranges.1) (where_true (has_mark m k) (marks m) m code row refl)
guard_means n (need k) _ code row h = absurd h.value
guard_means n (bar k) (marks m) code row h = rw (bit_fits k n h.label h.ranges.1) (where_false (has_mark m k) (marks m) m code row refl)
guard_means n (bar k) _ code row h = absurd h.value
guard_means n _ v code row h = absurd h.label

gate_means : Means gate
gate_means allow unit code row h = sym (after_none _)
gate_means allow _ code row h = absurd h.value
gate_means deny v code row h = refl
gate_means _ v code row h = absurd h.label

-- both of two tests hold
both_hold : (a b : Bool) → (a && b) ≡ true → (a ≡ true) × (b ≡ true)
both_hold true b h = (refl, h)
both_hold false b h = absurd (cc)

-- what holds of each holds of the one at a place
holds_at : {X : Type 0} (p : X → Bool) (xs : List X) (k : ℕ) (x : X) → list_all p xs ≡ true → slice_get xs k ≡ Some x → p x ≡ true
holds_at p [] k x h e = absurd (cc)
holds_at p (y ∷ ys) zero x h e = let f : y ≡ x = cc in rw f at (both_hold (p y) (list_all p ys) h).0
holds_at p (y ∷ ys) (suc k) x h e = holds_at p ys k x (both_hold (p y) (list_all p ys) h).1 e

-- each row of a table has an image for each value
rows_fit : (a b c d e : Bool) → (a && b && c && d && e) ≡ true → e ≡ true
rows_fit a b c d e h = (both_hold (a && b && c && d) e h).1

row_is_long : (t : TableSpec) (r : ℕ) (row : TableRow) → is_table t ≡ true → slice_get t.rows r ≡ Some row → length row.images ≡ length t.names
row_is_long t r row h e =
    let each = rows_fit (is_table_count (length t.names)) (is_table_count (length t.rows)) (length t.ranks == length t.names) (are_ranks t.ranks) (list_all (is_row_over (length t.names)) t.rows) h in
    let one = holds_at (is_row_over (length t.names)) t.rows r row each e in
    same (length row.images) (length t.names) (both_hold (length row.images == length t.names) _ one).0
  where
    same : (m n : ℕ) → (m == n) ≡ true → m ≡ n
    same m n h = grind (arith, nat_tests)

looked : (e : Option ℕ) (code : List Op) (row : List ℕ)
    → outcome (looks (Some e) row) (λ jump rest. run_over jump code rest) ≡ after (option_map name e) code row
looked None code row = refl
looked (Some w) code row = refl

row_means : (row : TableRow) (k : ℕ) (code : List Op) (rest : List ℕ) → k < length row.images
    → RunCode (op.Look row.images ∷ code) (k ∷ rest) ≡ after (option_map name (option_and_then (λ image. image) (slice_get row.images k))) code rest
row_means row k code rest h = rw (slice_get-get_or row.images k None h) (looked _ code rest)

table_means : (t : TableSpec) → Means (table t)
table_means t (row_label r) (name k) code rest h = found (slice_get t.rows r) refl
  where
    found : (o : Option TableRow) → slice_get t.rows r ≡ o
        → RunCode (op.Look (images_of o) ∷ code) (k ∷ rest) ≡ after (option_map name (option_and_then (λ (row : TableRow). option_and_then (λ image. image) (slice_get row.images k)) o)) code rest
    found None e = let f = slice_get-get_or t.rows r (record { name = []; images = [] }) h.label in absurd (cc)
    found (Some row) e = let long = row_is_long t r row h.ranges e in row_means row k code rest (rw long h.value)
table_means t (row_label r) _ code row h = absurd h.value
table_means t _ v code row h = absurd h.label

-- a part's code runs on the part's words, and the rest of the code on what is after them
both_after : (o p : Option PureValue) (next code : List Op) (words row : List ℕ)
    → RunCode next words ≡ after p code row → after o next words ≡ after (both o p) code row
both_after (Some u) (Some v) next code words row e = ap (after_written (Enc u)) e ∙ after_both (Enc u) (Enc v) (RunCode code row)
both_after (Some u) None next code words row e = ap (after_written (Enc u)) e
both_after None p next code words row e = refl

-- a side's code runs after the side
first_after : (o : Option PureValue) (code : List Op) (row : List ℕ) → after_written (0 ∷ []) (after o code row) ≡ after (option_map first o) code row
first_after (Some u) code row = after_both (0 ∷ []) (Enc u) (RunCode code row)
first_after None code row = refl

second_after : (o : Option PureValue) (code : List Op) (row : List ℕ) → after_written (1 ∷ []) (after o code row) ≡ after (option_map second o) code row
second_after (Some v) code row = after_both (1 ∷ []) (Enc v) (RunCode code row)
second_after None code row = refl

-- the second side's code is passed after the first side's
skipped_after : (o : Option PureValue) (d code : List Op) (row : List ℕ) → after o (op.Skip (length d) ∷ (d ++ code)) row ≡ after o code row
skipped_after (Some u) d code row = ap (after_written (Enc u)) (skipped d code row)
skipped_after None d code row = refl

-- a value is passed over and another written
replaced : (c : PureCarrier) (v w : PureValue) (code : List Op) (row : List ℕ) → In c v → RunCode (Lose c ++ (Say w ++ code)) (Enc v ++ row) ≡ after (Some w) code row
replaced c v w code row i = lost c v (Say w ++ code) row i ∙ said (Enc w) code row

first_of : (a b : Expression) (l m : PureLabel) (u v : PureValue) → MayAct (lex a b) (pair_label l m) (pair u v) → MayAct a l u × MayAct b m v
first_of a b l m u v h = (
  record { ranges = h.ranges.0; carriers = h.carriers.0; label = h.label.0; value = h.value.0; small_label = h.small_label.0; small_value = h.small_value.0 },
  record { ranges = h.ranges.1; carriers = h.carriers.1; label = h.label.1; value = h.value.1; small_label = h.small_label.1; small_value = h.small_value.1 },
)

lex_means : (a b : Expression) → Means a → Means b → Means (lex a b)
lex_means a b f g (pair_label l m) (pair u v) code row h =
    let parts = first_of a b l m u v h in
    same_run _ _ _ _ (append_assoc (CompileLabel a l) (CompileLabel b m) code) (append_assoc (Enc u) (Enc v) row)
    ∙ f l u (CompileLabel b m ++ code) (Enc v ++ row) parts.0
    ∙ both_after (App a l u) (App b m v) _ code _ row (g m v code row parts.1)
lex_means a b f g (pair_label l m) _ code row h = absurd h.value
lex_means a b f g _ v code row h = absurd h.label

outer_of : (a b : Expression) (l : PureLabel) (w u v : PureValue) → MayAct (scoped a b) (outer l w) (pair u v) → MayAct a l u
outer_of a b l w u v h = record { ranges = h.ranges.0; carriers = h.carriers.0; label = h.label.0; value = h.value.0; small_label = h.small_label.0; small_value = h.small_value.0 }

inner_of : (a b : Expression) (m : PureLabel) (u v : PureValue) → MayAct (scoped a b) (inner m) (pair u v) → MayAct b m v
inner_of a b m u v h = record { ranges = h.ranges.1; carriers = h.carriers.1; label = h.label; value = h.value.1; small_label = h.small_label; small_value = h.small_value.1 }

-- three pieces of code, and more after them
three : (c d e code : List Op) → ((c ++ d) ++ e) ++ code ≡ c ++ (d ++ (e ++ code))
three c d e code = append_assoc (c ++ d) e code ∙ append_assoc c d (e ++ code)

scoped_means : (a b : Expression) → Means a → Means b → Means (scoped a b)
scoped_means a b f g (outer l w) (pair u v) code row h =
    same_run _ _ _ _ (three (CompileLabel a l) (Lose (carrier_of b)) (Say w) code) (append_assoc (Enc u) (Enc v) row)
    ∙ f l u (Lose (carrier_of b) ++ (Say w ++ code)) (Enc v ++ row) (outer_of a b l w u v h)
    ∙ both_after (App a l u) (Some w) _ code _ row (replaced (carrier_of b) v w code row h.value.1)
scoped_means a b f g (outer l w) _ code row h = absurd h.value
scoped_means a b f g (inner m) (pair u v) code row h =
    same_run _ _ _ _ (append_assoc (Keep (carrier_of a)) (CompileLabel b m) code) (append_assoc (Enc u) (Enc v) row)
    ∙ kept (carrier_of a) u (CompileLabel b m ++ code) (Enc v ++ row) h.value.0
    ∙ both_after (Some u) (App b m v) (CompileLabel b m ++ code) code (Enc v ++ row) row (g m v code row (inner_of a b m u v h))
scoped_means a b f g (inner m) _ code row h = absurd h.value
scoped_means a b f g _ v code row h = absurd h.label

union_means : (a b : Expression) → Means a → Means b → Means (union a b)
union_means a b f g (first_label l) (first u) code row h =
    let part : MayAct a l u = record { ranges = h.ranges.0; carriers = h.carriers.0; label = h.label; value = h.value; small_label = h.small_label; small_value = h.small_value } in
    fork_first (CompileLabel a l) (op.Deny ∷ []) code (Enc u ++ row)
    ∙ ap (after_written (0 ∷ [])) (f l u _ row part ∙ skipped_after (App a l u) (op.Deny ∷ []) code row)
    ∙ first_after (App a l u) code row
union_means a b f g (first_label l) (second v) code row h = fork_second (CompileLabel a l) (op.Deny ∷ []) code (Enc v ++ row)
union_means a b f g (first_label l) _ code row h = absurd h.value
union_means a b f g (second_label m) (first u) code row h = refl
union_means a b f g (second_label m) (second v) code row h =
    let part : MayAct b m v = record { ranges = h.ranges.1; carriers = h.carriers.1; label = h.label; value = h.value; small_label = h.small_label; small_value = h.small_value } in
    ap (after_written (1 ∷ [])) (g m v code row part) ∙ second_after (App b m v) code row
union_means a b f g (second_label m) _ code row h = absurd h.value
union_means a b f g _ v code row h = absurd h.label

sum_means : (a b : Expression) → Means a → Means b → Means (sum a b)
sum_means a b f g (both_label l m) (first u) code row h =
    let part : MayAct a l u = record { ranges = h.ranges.0; carriers = h.carriers.0; label = h.label.0; value = h.value; small_label = h.small_label.0; small_value = h.small_value } in
    fork_first (CompileLabel a l) (CompileLabel b m) code (Enc u ++ row)
    ∙ ap (after_written (0 ∷ [])) (f l u _ row part ∙ skipped_after (App a l u) (CompileLabel b m) code row)
    ∙ first_after (App a l u) code row
sum_means a b f g (both_label l m) (second v) code row h =
    let part : MayAct b m v = record { ranges = h.ranges.1; carriers = h.carriers.1; label = h.label.1; value = h.value; small_label = h.small_label.1; small_value = h.small_value } in
    fork_second (CompileLabel a l) (CompileLabel b m) code (Enc v ++ row)
    ∙ ap (after_written (1 ∷ [])) (g m v code row part)
    ∙ second_after (App b m v) code row
sum_means a b f g (both_label l m) _ code row h = absurd h.value
sum_means a b f g _ v code row h = absurd h.label

plus_means : (a b : Expression) → Means a → Means b → Means (plus a b)
plus_means a b f g (first_label l) v code row h =
    f l v code row (record { ranges = h.ranges.0; carriers = h.carriers.0; label = h.label; value = h.value; small_label = h.small_label; small_value = h.small_value })
plus_means a b f g (second_label m) v code row h =
    g m v code row (record { ranges = h.ranges.1; carriers = h.carriers.1; label = h.label; value = subst (λ c. In c v) h.carriers.2 h.value; small_label = h.small_label; small_value = h.small_value })
plus_means a b f g _ v code row h = absurd h.label

left_means : (a : Expression) → Means (left a)
left_means a (const_label w) v code row h =
    same_run _ _ (Enc v ++ row) _ (append_assoc (Lose (carrier_of a)) (Say w) code) refl ∙ replaced (carrier_of a) v w code row h.value
left_means a _ v code row h = absurd h.label

right_means : (a : Expression) → Means (right a)
right_means a keep v code row h = kept (carrier_of a) v code row h.value
right_means a _ v code row h = absurd h.label

means : (a : Expression) → Means a
means (add low high) = add_means low high
means (cap top low high) = cap_means top low high
means (worst top low high) = worst_means top low high
means (width top low high) = width_means top low high
means (pref top) = pref_means top
means (orig top) = orig_means top
means (seq k) = seq_means k
means (simseq k) = simseq_means k
means (tags n) = tags_means n
means (guard n) = guard_means n
means gate = gate_means
means (table t) = table_means t
means (lex a b) = lex_means a b (means a) (means b)
means (scoped a b) = scoped_means a b (means a) (means b)
means (union a b) = union_means a b (means a) (means b)
means (sum a b) = sum_means a b (means a) (means b)
means (plus a b) = plus_means a b (means a) (means b)
means (left a) = left_means a
means (right a) = right_means a

-- where nothing follows
last_outcome : (o : Option PureValue) → after o [] [] ≡ outcome_of o
last_outcome (Some w) = ap made (append-nil (Enc w))
last_outcome None = refl

pub code_means_application : (a : Expression) → CodeMeansApplication a
code_means_application a l v h =
    sym (same_run _ _ _ _ (append-nil (CompileLabel a l)) (append-nil (Enc v))) ∙ means a l v [] [] h ∙ last_outcome (App a l v)
