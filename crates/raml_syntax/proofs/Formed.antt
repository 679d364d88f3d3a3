-- Where no fault stands in the marks of a tree, it meets the formation rules.
use Rattle.std.proofs.Common.{◌≡◌, ℕ, suc, ◌+◌, ◌≤◌, ◌==◌, List, [], ◌∷◌, ◌++◌, length, map, Bool, true, false, not, cond, ◌&&◌, ◌||◌, nat_lt, nat_le, bytes_eq, codes, Option, Some, None, option_and_then, refl, sym, ap, subst, ◌∙◌, arith, length-append}
use Rattle.std.specs.List.{AllByRecursion, list_all, list_any, position_or_len}
use Rattle.std.proofs.lemmas.Bool.{and_parts, and_from, or_from, or_left, or_right, not-true, not_from_false, eq-eqb, leb-true, le-leb, cond_both, true≢false, false_from_ne_true}
use Rattle.std.proofs.lemmas.List.{length-map}
use Rattle.std.proofs.lemmas.List.Folds.{list_any-append}
use Rattle.meta_base.specs.declared.limits.TheConstants.{MAX_NUMBER}
use Rattle.meta_base.specs.Bytes.{is_word, is_word_byte, is_letter, is_digit, front, after_front, number_from}
use Rattle.raml_lex.specs.declared.token.LexKind.TheVariants as lex
use Rattle.raml_lex.specs.Tokens.{Tok, word, number, left_paren, right_paren, left_brace, right_brace, comma, semicolon, colon, dots, equals, less, arrow, Step, bad, token, number_at, pair_at, mark_at, token_at, step_of}
use Rattle.raml_lex.specs.Gaps.{after_gap}
use Rattle.alg_model.specs.declared.alg.TheConstants.{MAX_TREE_NODES, MAX_TABLE_NAMES}
use Rattle.alg_model.specs.Expressions.{PureAlg, Expression, add, cap, worst, width, pref, orig, seq, simseq, tags, guard, gate, table}
use Rattle.alg_model.specs.Carriers.{carrier_of}
use Rattle.alg_model.specs.Bounds.{ExpressionAtMost, greatest_number}
use Rattle.alg_model.specs.Formation.{MeetsRanges, MeetsCarriers, MeetsNames, IsFormed, IsAlg, node_count, ranks_rise, are_ranks, is_place_or_none, is_row_over, is_table_name, are_distinct, are_named, row_name, is_table_count}
use Rattle.raml_syntax.specs.declared.faults.ExprKind.{ExprKind}
use Rattle.raml_syntax.specs.declared.faults.ExprKind.TheVariants.{BadRange, CarriersDiffer, TooLarge, BadTable}
use Rattle.raml_syntax.specs.declared.file.Keyword.{Keyword}
use Rattle.raml_syntax.specs.declared.file.Keyword.TheVariants as k
use Rattle.raml_syntax.specs.Syntax.{Ranged, cap_head, worst_head, width_head, Counted, lp_head, op_head, seq_head, simseq_head, tags_head, guard_head, Paired, lex_head, scoped_head, union_head, sum_head, plus_head, Single, left_head, right_head}
use Rattle.raml_syntax.specs.Syntax.{is_among, is_none, ranged_word, counted_word, ValueSyntax, MapSyntax, RowSyntax, TableSyntax, Syntax, named, add_syntax, ranged, counted, gate_syntax, table_syntax, paired, single, LetSyntax}
use Rattle.alg_model.specs.Names.{place_of}
use Rattle.raml_syntax.specs.Meaning.{Definition, lookup, known, ranged_meaning, counted_meaning, paired_meaning, single_meaning, value_names, ranks_from, target_of, all_maps, image_place, row_meaning, table_meaning, meaning, with_let, with_lets, edition_of}
use Rattle.raml_syntax.specs.Marks.{Mark, plain, header_marks, tested, name_mark, own_name, values_marks, maps_marks, rows_marks, table_marks, closing, marks, rest_marks}
use Rattle.raml_syntax.specs.Tests.{is_in_range, is_same_carrier}
use Rattle.raml_syntax.specs.Productions.{clean, toks}
use Rattle.raml_syntax.specs.ExprText.{greatest_following, BeginsWith, ExprText}
use Rattle.raml_syntax.specs.Statements.{keyword_word}
use Rattle.raml_syntax.proofs.Beginnings.{IsSettled, settled_more}
use Rattle.raml_syntax.proofs.Headers.{keyword_settled, tokens_of}
use Rattle.raml_syntax.proofs.TestLaws.{same_carrier, bytes_same, bytes_self, IsBase, in_range_meets}

-- a token of a text: a number isn't too large, and a word is one
abbrev pub IsTextTok : ℕ → Tok → Type 0
IsTextTok greatest (number n) = n ≤ greatest
IsTextTok greatest (word w) = is_word w ≡ true
IsTextTok greatest _ = Unit {0}

-- no fault stands at the token
abbrev pub IsClean : ℕ → Mark → Type 0
IsClean greatest m = (m.fault ≡ None) × IsTextTok greatest m.tok

abbrev pub AreClean : ℕ → List Mark → Type 0
AreClean greatest ms = AllByRecursion (IsClean greatest) ms

-- no fault means that the test passes
pub passes : (t : Tok) (k : ExprKind) (b : Bool) → (tested t k b).fault ≡ None → b ≡ true
passes t k true h = refl
passes t k false h = absurd (let e : Some k ≡ None = h in cc)

-- the expression meets the rules, after so many nodes
pub record Meets (greatest nodes : ℕ) (a : Expression) : Type 0 where
  pub ranges : MeetsRanges a
  pub carriers : MeetsCarriers a
  pub names : MeetsNames a
  pub bound : ExpressionAtMost greatest a
  pub size : nodes + node_count a ≤ MAX_TREE_NODES

-- the expression breaks no rule, and none of its numbers is above the greatest
abbrev pub IsFormedTo : ℕ → Expression → Type 0
IsFormedTo greatest a = IsFormed a × ExpressionAtMost greatest a

-- each name stands for such an expression
abbrev pub AreFormed : ℕ → List Definition → Type 0
AreFormed greatest ds = AllByRecursion (λ (d : Definition). IsFormedTo greatest d.expression) ds

-- what a name stands for is such an expression, if it stands for anything
abbrev FormedOrNone : ℕ → Option Expression → Type 0
FormedOrNone greatest None = Unit {0}
FormedOrNone greatest (Some a) = IsFormedTo greatest a

-- an algebra of numbers has one node, no names and no other carrier
base_facts : (a : Expression) → IsBase a → MeetsCarriers a × MeetsNames a × (node_count a ≡ 1)
base_facts (add low high) b = (tt, tt, refl)
base_facts (cap top low high) b = (tt, tt, refl)
base_facts (worst top low high) b = (tt, tt, refl)
base_facts (width top low high) b = (tt, tt, refl)
base_facts (pref n) b = (tt, tt, refl)
base_facts (orig n) b = (tt, tt, refl)
base_facts (seq n) b = (tt, tt, refl)
base_facts (simseq n) b = (tt, tt, refl)
base_facts (tags n) b = (tt, tt, refl)
base_facts (guard n) b = (tt, tt, refl)
base_facts gate b = (tt, tt, refl)
base_facts _ b = absurd b

-- a name of a value or a row that no fault stands at, after those names
pub record IsOwn (before : List (List ℕ)) (w : List ℕ) : Type 0 where
  pub is_text : is_word w ≡ true
  pub no_none : is_none w ≡ false
  pub fresh : is_among before w ≡ false
  pub room : length before + 1 ≤ MAX_TABLE_NAMES

-- each has such a name, after those and those before it
module _ {X : Type 0} (name_of : X → List ℕ) where
  abbrev AreOwn : List (List ℕ) → List X → Type 0
  AreOwn before [] = Unit {0}
  AreOwn before (x ∷ xs) = IsOwn before (name_of x) × AreOwn (before ++ name_of x ∷ []) xs

  -- each is a word other than `none`
  own_names : (before : List (List ℕ)) (xs : List X) → AreOwn before xs → list_all (λ x. is_table_name (name_of x)) xs ≡ true
  own_names before [] h = refl
  own_names before (x ∷ xs) h =
      and_from (is_table_name (name_of x)) (list_all (λ x. is_table_name (name_of x)) xs)
      (and_from (is_word (name_of x)) (not (is_none (name_of x))) h.0.is_text (not_from_false (is_none (name_of x)) h.0.no_none))
      (own_names (before ++ name_of x ∷ []) xs h.1)

  -- a longer list has what a shorter one had, and its last
  among_more : (before : List (List ℕ)) (w z : List ℕ) → is_among before z ≡ true → is_among (before ++ w ∷ []) z ≡ true
  among_more before w z h = list_any-append (λ other. bytes_eq other z) before (w ∷ []) ∙ or_left (is_among before z) (is_among (w ∷ []) z) h

  among_last : (before : List (List ℕ)) (w : List ℕ) → is_among (before ++ w ∷ []) w ≡ true
  among_last before w = list_any-append (λ other. bytes_eq other w) before (w ∷ []) ∙ or_right (is_among before w) (is_among (w ∷ []) w) (or_left (bytes_eq w w) false (bytes_self w))

  -- a name before them is none of theirs
  own_apart : (before : List (List ℕ)) (z : List ℕ) (xs : List X) → is_among before z ≡ true → AreOwn before xs → list_any (λ y. bytes_eq (name_of y) z) xs ≡ false
  own_apart before z [] m h = refl
  own_apart before z (x ∷ xs) m h =
      let first : bytes_eq (name_of x) z ≡ false = false_from_ne_true (bytes_eq (name_of x) z) (λ e. true≢false (sym m ∙ ap (is_among before) (sym (bytes_same (name_of x) z e)) ∙ h.0.fresh)) in
      or_from (bytes_eq (name_of x) z) (list_any (λ y. bytes_eq (name_of y) z) xs) first (own_apart (before ++ name_of x ∷ []) z xs (among_more before (name_of x) z m) h.1)

  -- no two are the same
  own_distinct : (before : List (List ℕ)) (xs : List X) → AreOwn before xs → are_distinct name_of xs ≡ true
  own_distinct before [] h = refl
  own_distinct before (x ∷ xs) h =
      and_from (not (list_any (λ y. bytes_eq (name_of y) (name_of x)) xs)) (are_distinct name_of xs)
      (not_from_false (list_any (λ y. bytes_eq (name_of y) (name_of x)) xs) (own_apart (before ++ name_of x ∷ []) (name_of x) xs (among_last before (name_of x)) h.1))
      (own_distinct (before ++ name_of x ∷ []) xs h.1)

  -- there are not too many
  own_room : (before : List (List ℕ)) (xs : List X) → length before ≤ MAX_TABLE_NAMES → AreOwn before xs → length before + length xs ≤ MAX_TABLE_NAMES
  own_room before [] r h = omega arith
  own_room before (x ∷ xs) r h =
      let e : length (before ++ name_of x ∷ []) ≡ length before + 1 = length-append before (name_of x ∷ []) in
      let k = own_room (before ++ name_of x ∷ []) xs (omega (arith, h.0.room)) h.1 in
      omega (arith, k, e)

  -- so the rule on names is met
  own_named : (xs : List X) → AreOwn [] xs → are_named name_of xs ≡ true
  own_named xs h = and_from (list_all (λ x. is_table_name (name_of x)) xs) (are_distinct name_of xs) (own_names [] xs h) (own_distinct [] xs h)

  own_count : (x : X) (xs : List X) → AreOwn [] (x ∷ xs) → is_table_count (length (x ∷ xs)) ≡ true
  own_count x xs h =
      let r = own_room [] (x ∷ xs) (omega arith) h in
      and_from (nat_le 1 (length (x ∷ xs))) (nat_le (length (x ∷ xs)) MAX_TABLE_NAMES) (le-leb 1 (length (x ∷ xs)) (omega arith)) (le-leb (length (x ∷ xs)) MAX_TABLE_NAMES (omega (arith, r)))

-- the ranks of a table rise, and there is one for each value
ranks_do_rise : (rank : ℕ) (vs : List ValueSyntax) → ranks_rise rank (ranks_from rank vs) ≡ true
ranks_do_rise rank [] = refl
ranks_do_rise rank (v ∷ vs) = by v.is_tied (ranks_do_rise rank vs) (ranks_do_rise (rank + 1) vs)
  where
    by : (b : Bool) → ranks_rise rank (ranks_from rank vs) ≡ true → ranks_rise (rank + 1) (ranks_from (rank + 1) vs) ≡ true → ranks_rise rank (cond b (rank ∷ ranks_from rank vs) ((rank + 1) ∷ ranks_from (rank + 1) vs)) ≡ true
    by true p q = and_from (rank == rank || rank == rank + 1) (ranks_rise rank (ranks_from rank vs)) (or_left (rank == rank) (rank == rank + 1) (eq-eqb rank rank refl)) p
    by false p q = and_from (rank + 1 == rank || rank + 1 == rank + 1) (ranks_rise (rank + 1) (ranks_from (rank + 1) vs)) (or_right (rank + 1 == rank) (rank + 1 == rank + 1) (eq-eqb (rank + 1) (rank + 1) refl)) q

ranks_count : (rank : ℕ) (vs : List ValueSyntax) → length (ranks_from rank vs) ≡ length vs
ranks_count rank [] = refl
ranks_count rank (v ∷ vs) = cond_both v.is_tied (rank ∷ ranks_from rank vs) ((rank + 1) ∷ ranks_from (rank + 1) vs) (λ l. length l ≡ suc (length vs)) (λ e. ap suc (ranks_count rank vs)) (λ e. ap suc (ranks_count (rank + 1) vs))

-- the images of a row are places of its table
place_within : (names : List (List ℕ)) (w : List ℕ) → is_place_or_none (length names) (place_of names w) ≡ true
place_within names w =
    let p = position_or_len (λ name. bytes_eq name w) names in
    cond_both (nat_lt p (length names)) (Some p) None (λ o. is_place_or_none (length names) o ≡ true) (λ e. e) (λ e. refl)

image_within : (names : List (List ℕ)) (o : Option (List ℕ)) → is_place_or_none (length names) (option_and_then (place_of names) o) ≡ true
image_within names None = refl
image_within names (Some w) = place_within names w

images_within : (names : List (List ℕ)) (ms : List MapSyntax) (ws : List (List ℕ)) → list_all (is_place_or_none (length names)) (map (image_place names ms) ws) ≡ true
images_within names ms [] = refl
images_within names ms (w ∷ ws) = and_from (is_place_or_none (length names) (image_place names ms w)) (list_all (is_place_or_none (length names)) (map (image_place names ms) ws)) (image_within names (target_of ms w)) (images_within names ms ws)

rows_within : (names : List (List ℕ)) (rows : List RowSyntax) → list_all (is_row_over (length names)) (map (row_meaning names) rows) ≡ true
rows_within names [] = refl
rows_within names (row ∷ rows) =
    and_from (is_row_over (length names) (row_meaning names row)) (list_all (is_row_over (length names)) (map (row_meaning names) rows))
    (and_from (length (row_meaning names row).images == length names) (list_all (is_place_or_none (length names)) (row_meaning names row).images)
    (eq-eqb _ _ (length-map names (image_place names (all_maps row.images)))) (images_within names (all_maps row.images) names))
    (rows_within names rows)

-- whatever the greatest number is
module _ (greatest : ℕ) where
  -- no fault stands at tokens without faults
  clean_are_clean : (ts : List Tok) → AllByRecursion (IsTextTok greatest) ts → AreClean greatest (clean ts)
  clean_are_clean [] h = tt
  clean_are_clean (t ∷ ts) h = ((refl, h.0), clean_are_clean ts h.1)

  -- nor at a part of them
  clean_front : (xs ys : List Mark) → AreClean greatest (xs ++ ys) → AreClean greatest xs
  clean_front [] ys h = tt
  clean_front (x ∷ xs) ys h = (h.0, clean_front xs ys h.1)

  clean_back : (xs ys : List Mark) → AreClean greatest (xs ++ ys) → AreClean greatest ys
  clean_back [] ys h = h
  clean_back (x ∷ xs) ys h = clean_back xs ys h.1

  lookup_formed : (ds : List Definition) (w : List ℕ) → AreFormed greatest ds → FormedOrNone greatest (lookup ds w)
  lookup_formed [] w h = tt
  lookup_formed (d ∷ ds) w h = cond_both (bytes_eq d.name w) (Some d.expression) (lookup ds w) (FormedOrNone greatest) (λ e. h.0) (λ e. lookup_formed ds w h.1)

  -- a name
  name_meets : (nodes : ℕ) (w : List ℕ) (o : Option Expression) → FormedOrNone greatest o → (name_mark nodes w o).fault ≡ None → Meets greatest nodes (known o)
  name_meets nodes w None f h = absurd (cc)
  name_meets nodes w (Some a) f h = record {
    ranges = f.0.ranges;
    carriers = f.0.carriers;
    names = f.0.names;
    bound = f.1;
    size = leb-true (nodes + node_count a) MAX_TREE_NODES (passes (word w) _ (nat_le (nodes + node_count a) MAX_TREE_NODES) h);
  }

  -- an algebra of numbers
  base_meets : (nodes : ℕ) (a : Expression) → IsBase a → is_in_range a ≡ true → ExpressionAtMost greatest a → nat_le (nodes + 1) MAX_TREE_NODES ≡ true → Meets greatest nodes a
  base_meets nodes a b r e n =
      let f = base_facts a b in
      let k : nodes + 1 ≤ MAX_TREE_NODES = leb-true (nodes + 1) MAX_TREE_NODES n in
      record { ranges = in_range_meets a b r; carriers = f.0; names = f.1; bound = e; size = rw f.2 k }

  -- what no fault at such a name tells
  own_is : (before : List (List ℕ)) (w : List ℕ) → IsClean greatest (own_name before w) → IsOwn before w
  own_is before w h =
      let p = and_parts (not (is_none w) && not (is_among before w)) (nat_le (length before + 1) MAX_TABLE_NAMES) (passes (word w) BadTable (not (is_none w) && not (is_among before w) && nat_le (length before + 1) MAX_TABLE_NAMES) h.0) in
      let q = and_parts (not (is_none w)) (not (is_among before w)) p.0 in
      record { is_text = h.1; no_none = not-true (is_none w) q.0; fresh = not-true (is_among before w) q.1; room = leb-true (length before + 1) MAX_TABLE_NAMES p.1 }

  -- the names of a table's values
  values_own : (before : List (List ℕ)) (vs : List ValueSyntax) → AreClean greatest (values_marks before vs) → AreOwn (λ name. name) before (map (λ (v : ValueSyntax). v.name) vs)
  values_own before [] h = tt
  values_own before (v ∷ vs) h = (own_is before v.name h.1.0, values_own (before ++ v.name ∷ []) vs h.1.1)

  -- and of its rows
  rows_own : (names before : List (List ℕ)) (rows : List RowSyntax) → AreClean greatest (rows_marks names before rows) → AreOwn row_name before (map (row_meaning names) rows)
  rows_own names before [] h = tt
  rows_own names before (row ∷ rows) h =
      (own_is before row.name h.1.0, rows_own names (before ++ row.name ∷ []) rows (clean_back (maps_marks names row.images) (rows_marks names (before ++ row.name ∷ []) rows) h.1.1.1))

  -- a table
  table_meets : (nodes : ℕ) (t : TableSyntax) → nat_le (nodes + 1) MAX_TREE_NODES ≡ true → AreClean greatest (table_marks t) → Meets greatest nodes (table (table_meaning t))
  table_meets nodes t n h =
      let names = value_names t in
      let rows = map (row_meaning names) (t.row ∷ t.rows) in
      let ranks = 0 ∷ ranks_from 0 t.others in
      let values = values_marks (t.first ∷ []) t.others in
      let others = rows_marks names [] (t.row ∷ t.rows) in
      let own : AreOwn (λ name. name) [] names = (own_is [] t.first h.1.0, values_own (t.first ∷ []) t.others (clean_front values (others ++ plain right_brace ∷ []) h.1.1)) in
      let row_own : AreOwn row_name [] rows = rows_own names [] (t.row ∷ t.rows) (clean_front others (plain right_brace ∷ []) (clean_back values (others ++ plain right_brace ∷ []) h.1.1)) in
      let counts : (is_table_count (length names) && is_table_count (length rows)) ≡ true =
      and_from (is_table_count (length names)) (is_table_count (length rows)) (own_count (λ name. name) t.first (map (λ (v : ValueSyntax). v.name) t.others) own) (own_count row_name (row_meaning names t.row) (map (row_meaning names) t.rows) row_own) in
      let lengths : (length ranks == length names) ≡ true = eq-eqb (length ranks) (length names) (ap suc (ranks_count 0 t.others ∙ sym (length-map t.others (λ (v : ValueSyntax). v.name)))) in
      record {
        ranges = and_from (is_table_count (length names) && is_table_count (length rows) && length ranks == length names && are_ranks ranks) (list_all (is_row_over (length names)) rows)
            (and_from (is_table_count (length names) && is_table_count (length rows) && length ranks == length names) (are_ranks ranks)
            (and_from (is_table_count (length names) && is_table_count (length rows)) (length ranks == length names) counts lengths)
            (ranks_do_rise 0 t.others))
            (rows_within names (t.row ∷ t.rows));
        carriers = tt;
        names = and_from (are_named (λ name. name) names) (are_named row_name rows) (own_named (λ name. name) names own) (own_named row_name rows row_own);
        bound = tt;
        size = leb-true (nodes + 1) MAX_TREE_NODES n;
      }

  -- the other forms
  ranged_meets : (nodes : ℕ) (k : Ranged) (top low high : ℕ) → is_in_range (ranged_meaning k top low high) ≡ true → top ≤ greatest → low ≤ greatest → high ≤ greatest → nat_le (nodes + 1) MAX_TREE_NODES ≡ true
      → Meets greatest nodes (ranged_meaning k top low high)
  ranged_meets nodes cap_head top low high r a b c n = base_meets nodes (cap top low high) tt r (a, b, c) n
  ranged_meets nodes worst_head top low high r a b c n = base_meets nodes (worst top low high) tt r (a, b, c) n
  ranged_meets nodes width_head top low high r a b c n = base_meets nodes (width top low high) tt r (a, b, c) n

  counted_meets : (nodes : ℕ) (k : Counted) (m : ℕ) → is_in_range (counted_meaning k m) ≡ true → m ≤ greatest → nat_le (nodes + 1) MAX_TREE_NODES ≡ true → Meets greatest nodes (counted_meaning k m)
  counted_meets nodes lp_head m r a n = base_meets nodes (pref m) tt r a n
  counted_meets nodes op_head m r a n = base_meets nodes (orig m) tt r a n
  counted_meets nodes seq_head m r a n = base_meets nodes (seq m) tt r a n
  counted_meets nodes simseq_head m r a n = base_meets nodes (simseq m) tt r a n
  counted_meets nodes tags_head m r a n = base_meets nodes (tags m) tt r a n
  counted_meets nodes guard_head m r a n = base_meets nodes (guard m) tt r a n

  paired_meets : (nodes : ℕ) (k : Paired) (a b : Expression) → Meets greatest (nodes + 1) a → Meets greatest (nodes + 1 + node_count a) b → (closing k a b).fault ≡ None → Meets greatest nodes (paired_meaning k a b)
  paired_meets nodes lex_head a b p q h = record { ranges = (p.ranges, q.ranges); carriers = (p.carriers, q.carriers); names = (p.names, q.names); bound = (p.bound, q.bound); size = omega (arith, q.size) }
  paired_meets nodes scoped_head a b p q h = record { ranges = (p.ranges, q.ranges); carriers = (p.carriers, q.carriers); names = (p.names, q.names); bound = (p.bound, q.bound); size = omega (arith, q.size) }
  paired_meets nodes union_head a b p q h = record { ranges = (p.ranges, q.ranges); carriers = (p.carriers, q.carriers); names = (p.names, q.names); bound = (p.bound, q.bound); size = omega (arith, q.size) }
  paired_meets nodes sum_head a b p q h = record { ranges = (p.ranges, q.ranges); carriers = (p.carriers, q.carriers); names = (p.names, q.names); bound = (p.bound, q.bound); size = omega (arith, q.size) }
  paired_meets nodes plus_head a b p q h = record {
    ranges = (p.ranges, q.ranges);
    carriers = (p.carriers, q.carriers, same_carrier (carrier_of a) (carrier_of b) (passes right_paren CarriersDiffer (is_same_carrier (carrier_of a) (carrier_of b)) h));
    names = (p.names, q.names);
    bound = (p.bound, q.bound);
    size = omega (arith, q.size);
  }

  single_meets : (nodes : ℕ) (k : Single) (a : Expression) → Meets greatest (nodes + 1) a → Meets greatest nodes (single_meaning k a)
  single_meets nodes left_head a p = record { ranges = p.ranges; carriers = p.carriers; names = p.names; bound = p.bound; size = omega (arith, p.size) }
  single_meets nodes right_head a p = record { ranges = p.ranges; carriers = p.carriers; names = p.names; bound = p.bound; size = omega (arith, p.size) }

  -- a tree without a fault, after so many nodes
  pub meets : (ds : List Definition) (nodes : ℕ) (s : Syntax) → AreFormed greatest ds → AreClean greatest (marks ds nodes s) → Meets greatest nodes (meaning ds s)
  meets ds nodes (named w) f h = name_meets nodes w (lookup ds w) (lookup_formed ds w f) h.0.0
  meets ds nodes (add_syntax low high) f h =
      base_meets nodes (add low high) tt (passes (number high) BadRange (nat_le low high) h.1.1.1.1.0.0) (h.1.1.0.1, h.1.1.1.1.0.1) (passes (word (codes "add")) TooLarge (nat_le (nodes + 1) MAX_TREE_NODES) h.0.0)
  meets ds nodes (ranged k top low high) f h =
      ranged_meets nodes k top low high (passes (number high) BadRange (is_in_range (ranged_meaning k top low high)) h.1.1.1.1.1.1.0.0) h.1.1.0.1 h.1.1.1.1.0.1 h.1.1.1.1.1.1.0.1
      (passes (word (ranged_word k)) TooLarge (nat_le (nodes + 1) MAX_TREE_NODES) h.0.0)
  meets ds nodes (counted k n) f h =
      counted_meets nodes k n (passes (number n) BadRange (is_in_range (counted_meaning k n)) h.1.1.0.0) h.1.1.0.1 (passes (word (counted_word k)) TooLarge (nat_le (nodes + 1) MAX_TREE_NODES) h.0.0)
  meets ds nodes gate_syntax f h = base_meets nodes gate tt refl tt (passes (word (codes "gate")) TooLarge (nat_le (nodes + 1) MAX_TREE_NODES) h.0.0)
  meets ds nodes (table_syntax t) f h = table_meets nodes t (passes (word (codes "table")) TooLarge (nat_le (nodes + 1) MAX_TREE_NODES) h.0.0) h.1
  meets ds nodes (paired k a b) f h =
      let first = marks ds (nodes + 1) a in
      let second = marks ds (nodes + 1 + node_count (meaning ds a)) b in
      let close = closing k (meaning ds a) (meaning ds b) in
      let after_front = (clean_back first (plain comma ∷ (second ++ close ∷ [])) h.1.1).1 in
      paired_meets nodes k (meaning ds a) (meaning ds b)
      (meets ds (nodes + 1) a f (clean_front first (plain comma ∷ (second ++ close ∷ [])) h.1.1))
      (meets ds (nodes + 1 + node_count (meaning ds a)) b f (clean_front second (close ∷ []) after_front))
      (clean_back second (close ∷ []) after_front).0.0
  meets ds nodes (single k a) f h = single_meets nodes k (meaning ds a) (meets ds (nodes + 1) a f (clean_front (marks ds (nodes + 1) a) (plain right_paren ∷ []) h.1.1))

  -- what meets the rules after no nodes is formed
  formed_of : (a : Expression) → Meets greatest 0 a → IsFormedTo greatest a
  formed_of a m = (record { ranges = m.ranges; carriers = m.carriers; size = omega (arith, m.size); names = m.names }, m.bound)

  -- a tree whose tokens have no fault means what meets the rules
  pub clean_is_formed : (ds : List Definition) (s : Syntax) (ts : List Tok) → AreFormed greatest ds → AllByRecursion (IsTextTok greatest) ts → marks ds 0 s ≡ clean ts → IsFormedTo greatest (meaning ds s)
  clean_is_formed ds s ts f h e = formed_of (meaning ds s) (meets ds 0 s f (subst (AreClean greatest) (sym e) (clean_are_clean ts h)))

  -- so does the rest of a file
  pub clean_rest_is_formed : (ds : List Definition) (ls : List LetSyntax) (main : Syntax) → AreFormed greatest ds → AreClean greatest (rest_marks ds ls main) → IsFormedTo greatest (meaning (with_lets ds ls) main)
  clean_rest_is_formed ds [] main f h = formed_of (meaning ds main) (meets ds 0 main f (clean_front (marks ds 0 main) (plain semicolon ∷ []) h.1))
  clean_rest_is_formed ds (l ∷ ls) main f h =
      let ended = marks ds 0 l.body ++ plain semicolon ∷ [] in
      let rest = rest_marks (with_let ds l) ls main in
      let body = formed_of (meaning ds l.body) (meets ds 0 l.body f (clean_front (marks ds 0 l.body) (plain semicolon ∷ []) (clean_front ended rest h.1.1.1))) in
      clean_rest_is_formed (with_let ds l) ls main (body, f) (clean_back ended rest h.1.1.1)

-- each byte of a front passes
front_passes : (p : ℕ → Bool) (cs : List ℕ) → list_all p (front p cs) ≡ true
front_passes p [] = refl
front_passes p (c ∷ cs) = cond_both (p c) (c ∷ front p cs) [] (λ l. list_all p l ≡ true) (λ e. and_from (p c) (list_all p (front p cs)) e (front_passes p cs)) (λ e. refl)

-- a letter and the bytes of a word after it are a word
word_front : (c : ℕ) (cs : List ℕ) → is_letter c ≡ true → is_word (front is_word_byte (c ∷ cs)) ≡ true
word_front c cs h =
    subst (λ b. is_word (cond b (c ∷ front is_word_byte cs) []) ≡ true) (sym (or_left (is_letter c) (is_digit c) h))
    (and_from (is_letter c) (list_all is_word_byte (front is_word_byte cs)) h (front_passes is_word_byte cs))

-- a token that was found is one of a text
abbrev IsTextStep : ℕ → Step → Type 0
IsTextStep greatest (token t rest) = IsTextTok greatest t
IsTextStep greatest _ = Unit {0}

module _ (greatest : ℕ) where
  pair_is_text : (second : ℕ) (t : Tok) (cs : List ℕ) → IsTextTok greatest t → IsTextStep greatest (pair_at second t cs)
  pair_is_text second t [] h = tt
  pair_is_text second t (c ∷ cs) h = cond_both (c == second) (token t cs) (bad lex.BadByte) (IsTextStep greatest) (λ e. h) (λ e. tt)

  mark_is_text : (c : ℕ) (cs : List ℕ) → IsTextStep greatest (mark_at c cs)
  mark_is_text c cs =
      cond_both (c == 40) (token left_paren cs) _ (IsTextStep greatest) (λ e. tt) (λ e.
      cond_both (c == 41) (token right_paren cs) _ (IsTextStep greatest) (λ e. tt) (λ e.
      cond_both (c == 123) (token left_brace cs) _ (IsTextStep greatest) (λ e. tt) (λ e.
      cond_both (c == 125) (token right_brace cs) _ (IsTextStep greatest) (λ e. tt) (λ e.
      cond_both (c == 44) (token comma cs) _ (IsTextStep greatest) (λ e. tt) (λ e.
      cond_both (c == 59) (token semicolon cs) _ (IsTextStep greatest) (λ e. tt) (λ e.
      cond_both (c == 58) (token colon cs) _ (IsTextStep greatest) (λ e. tt) (λ e.
      cond_both (c == 61) (token equals cs) _ (IsTextStep greatest) (λ e. tt) (λ e.
      cond_both (c == 60) (token less cs) _ (IsTextStep greatest) (λ e. tt) (λ e.
      cond_both (c == 46) (pair_at 46 dots cs) _ (IsTextStep greatest) (λ e. pair_is_text 46 dots cs tt) (λ e.
      cond_both (c == 45) (pair_at 62 arrow cs) (bad lex.BadByte) (IsTextStep greatest) (λ e. pair_is_text 62 arrow cs tt) (λ e. tt)))))))))))

  number_is_text : (n : ℕ) (rest : List ℕ) → IsTextStep greatest (cond (nat_le n greatest) (token (number n) rest) (bad lex.NumberTooLarge))
  number_is_text n rest = cond_both (nat_le n greatest) (token (number n) rest) (bad lex.NumberTooLarge) (IsTextStep greatest) (λ e. leb-true n greatest e) (λ e. tt)

  token_is_text : (text : List ℕ) → IsTextStep greatest (token_at greatest text)
  token_is_text [] = tt
  token_is_text (c ∷ cs) =
      cond_both (is_letter c) (token (word (front is_word_byte (c ∷ cs))) (after_front is_word_byte (c ∷ cs))) _ (IsTextStep greatest) (λ e. word_front c cs e) (λ e.
      cond_both (is_digit c) (number_at greatest (front is_digit (c ∷ cs)) (after_front is_digit (c ∷ cs))) (mark_at c cs) (IsTextStep greatest) (λ e. number_is_text (number_from 0 (front is_digit (c ∷ cs))) (after_front is_digit (c ∷ cs))) (λ e. mark_is_text c cs))

-- so the tokens are that a text begins with, where the greatest number stays the same
begun_are_text : (greatest : ℕ) (before ts : List Tok) (text rest : List ℕ) → IsSettled before → greatest_following before ≡ greatest → BeginsWith before ts text rest → AllByRecursion (IsTextTok greatest) ts
begun_are_text greatest before [] text rest s e h = tt
begun_are_text greatest before (t ∷ ts) text rest s e h = (
  subst (IsTextStep greatest) (ap (λ g. step_of g text) (sym e) ∙ h.1) (token_is_text greatest (after_gap false text)),
  begun_are_text greatest (before ++ t ∷ []) ts h.0 rest (settled_more before t s) (s (t ∷ []) ∙ e) h.2,
)

-- the word that begins a file without a header
opened_word : (ls : List LetSyntax) (main : Syntax) (t : Tok) (ts : List Tok) → t ∷ ts ≡ toks (rest_marks [] ls main) → (key : Keyword) × (t ≡ word (keyword_word key))
opened_word [] main t ts e = (k.Main, cc)
opened_word (l ∷ ls) main t ts e = (k.Let, cc)

-- the tokens of a file without a header
opened_are_text : (ls : List LetSyntax) (main : Syntax) (ts : List Tok) (text rest : List ℕ) → ts ≡ toks (rest_marks [] ls main) → BeginsWith [] ts text rest → AllByRecursion (IsTextTok MAX_NUMBER) ts
opened_are_text ls main [] text rest e h = tt
opened_are_text ls main (t ∷ ts) text rest e h =
    let w = opened_word ls main t ts e in (
      subst (IsTextStep MAX_NUMBER) h.1 (token_is_text MAX_NUMBER (after_gap false text)),
      begun_are_text MAX_NUMBER (t ∷ []) ts h.0 rest (subst (λ u. IsSettled (u ∷ [])) (sym w.1) (keyword_settled w.0)) refl h.2,
    )

-- the statements of a file whose tokens have no fault mean what meets the rules
statements_are_formed : (header : Option ℕ) (ls : List LetSyntax) (main : Syntax) (ts : List Tok) (text rest : List ℕ) → clean ts ≡ header_marks header ++ rest_marks [] ls main → BeginsWith [] ts text rest
    → IsFormedTo (greatest_number (edition_of header)) (meaning (with_lets [] ls) main)
statements_are_formed None ls main ts text rest e h =
    clean_rest_is_formed MAX_NUMBER [] ls main tt (subst (AreClean MAX_NUMBER) e (clean_are_clean MAX_NUMBER ts (opened_are_text ls main ts text rest (tokens_of ts (rest_marks [] ls main) e) h)))
statements_are_formed (Some n) ls main ts text rest e h =
    let greatest = greatest_number (edition_of (Some n)) in
    let statements = rest_marks [] ls main in
    let all = tokens_of ts (header_marks (Some n) ++ statements) e in
    let header = word (codes "raml") ∷ number n ∷ semicolon ∷ [] in
    let (a, p, (b, q, (c, r, more))) : BeginsWith [] (header ++ toks statements) text rest = subst (λ l. BeginsWith [] l text rest) all h in
    let faultless : clean (toks (header_marks (Some n) ++ statements)) ≡ header_marks (Some n) ++ statements = ap clean (sym all) ∙ e in
    let same : clean (toks statements) ≡ statements = ap following_three faultless in
    clean_rest_is_formed greatest [] ls main tt
    (subst (AreClean greatest) same (clean_are_clean greatest (toks statements) (begun_are_text greatest header (toks statements) c rest (λ z. refl) refl more)))
  where
    following_three : List Mark → List Mark
    following_three (x ∷ y ∷ z ∷ ms) = ms
    following_three _ = []

-- what a text means meets the formation rules, and its numbers are those of its edition
pub text_is_alg : (text : List ℕ) (a : PureAlg) → ExprText text a → IsAlg a
text_is_alg text a p =
    let file = p.file.syntax in
    let f = statements_are_formed file.header file.lets file.main p.tokens text p.rest p.file.marks p.lexed in
    subst IsAlg (sym p.file.means) (record { formed = f.0; bound = f.1 })
