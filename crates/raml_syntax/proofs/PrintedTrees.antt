-- The text of an algebra is that of a file, which means the algebra.
use Rattle.std.proofs.Common.{◌≡◌, ℕ, ◌+◌, ◌≤◌, true, nat_le, List, [], ◌∷◌, ◌++◌, decimal, Option, Some, None, codes, refl, ap, ap₂, sym, subst, subst₂, ◌∙◌, arith, append_assoc, append-nil}
use Rattle.std.proofs.lemmas.Bool.{cond-true, le-leb}
use Rattle.meta_base.specs.declared.limits.TheConstants.{MAX_NUMBER}
use Rattle.meta_base.specs.Bytes.{is_word}
use Rattle.raml_lex.specs.Tokens.{end, token, word, number, left_paren, right_paren, comma, semicolon, dots, step_of, Lexes}
use Rattle.raml_lex.specs.Tokens as tok
use Rattle.alg_model.specs.declared.alg.TheConstants.{MAX_TREE_NODES}
use Rattle.alg_model.specs.Expressions.{PureAlg, Expression, add, cap, worst, width, pref, orig, seq, simseq, tags, guard, gate, table, lex, scoped, union, sum, plus, left, right}
use Rattle.alg_model.specs.Carriers.{carrier_of}
use Rattle.alg_model.specs.Formation.{MeetsRanges, MeetsCarriers, MeetsNames, node_count, IsFormed, IsAlg}
use Rattle.alg_model.specs.Bounds.{ExpressionAtMost, greatest_number}
use Rattle.alg_model.specs.BoundLaws.{greatest_is_bounded}
use Rattle.alg_model.specs.declared.edition.TheConstants.{MAX_LABEL_NUMBER}
use Rattle.alg_model.specs.declared.edition.Edition.{Edition}
use Rattle.alg_model.specs.declared.edition.Edition.TheVariants.{One, Two}
use Rattle.raml_syntax.specs.declared.faults.ExprKind.TheVariants.{TooLarge, BadRange, CarriersDiffer}
use Rattle.raml_syntax.specs.Syntax.{Ranged, cap_head, worst_head, width_head, ranged_word, Counted, lp_head, op_head, seq_head, simseq_head, tags_head, guard_head, counted_word}
use Rattle.raml_syntax.specs.Syntax.{Paired, lex_head, scoped_head, union_head, sum_head, plus_head, paired_word, Single, left_head, right_head, single_word}
use Rattle.raml_syntax.specs.Syntax.{Syntax, add_syntax, ranged, counted, gate_syntax, table_syntax, paired, single, IsSyntax}
use Rattle.raml_syntax.specs.Meaning.{ranged_meaning, counted_meaning, meaning, edition_of}
use Rattle.raml_syntax.specs.Marks.{Mark, plain, plain_word, counted_to, last_number, closing, marks, rest_marks, header_marks}
use Rattle.raml_syntax.specs.Productions.{clean, toks}
use Rattle.raml_syntax.specs.Tests.{is_in_range, is_same_carrier}
use Rattle.raml_syntax.specs.Printed.{ranged_text, counted_text, paired_text, single_text, expression_text, header_text, alg_text}
use Rattle.raml_syntax.specs.declared.file.Keyword.TheVariants as k
use Rattle.raml_syntax.specs.ExprText.{greatest_following, BeginsWith, ExprText}
use Rattle.raml_syntax.proofs.Beginnings.{IsSettled, lexes_begin}
use Rattle.raml_syntax.proofs.Headers.{keyword_settled}
use Rattle.raml_syntax.proofs.TestLaws.{carrier_self, IsBase, meets_in_range}
use Rattle.raml_syntax.proofs.Printing.{IsPrinted, printed_none, mark_next, word_next, number_next, printed_then, gap_next}
use Rattle.raml_syntax.proofs.PrintedTables.{table_from, named_table, table_back}
use Rattle.raml_syntax.proofs.PrintedMarks.{are_table_rows, printed_table}

-- the tree of an algebra's text
abbrev pub syntax_of : Expression → Syntax
syntax_of (add low high) = add_syntax low high
syntax_of (cap top low high) = ranged cap_head top low high
syntax_of (worst top low high) = ranged worst_head top low high
syntax_of (width top low high) = ranged width_head top low high
syntax_of (pref top) = counted lp_head top
syntax_of (orig top) = counted op_head top
syntax_of (seq n) = counted seq_head n
syntax_of (simseq n) = counted simseq_head n
syntax_of (tags n) = counted tags_head n
syntax_of (guard n) = counted guard_head n
syntax_of gate = gate_syntax
syntax_of (table t) = table_syntax (table_from t.names t.ranks t.rows)
syntax_of (lex a b) = paired lex_head (syntax_of a) (syntax_of b)
syntax_of (scoped a b) = paired scoped_head (syntax_of a) (syntax_of b)
syntax_of (union a b) = paired union_head (syntax_of a) (syntax_of b)
syntax_of (sum a b) = paired sum_head (syntax_of a) (syntax_of b)
syntax_of (plus a b) = paired plus_head (syntax_of a) (syntax_of b)
syntax_of (left a) = single left_head (syntax_of a)
syntax_of (right a) = single right_head (syntax_of a)

-- it means the algebra
means : (a : Expression) → MeetsRanges a → MeetsNames a → meaning [] (syntax_of a) ≡ a
means (add low high) r n = refl
means (cap top low high) r n = refl
means (worst top low high) r n = refl
means (width top low high) r n = refl
means (pref top) r n = refl
means (orig top) r n = refl
means (seq k) r n = refl
means (simseq k) r n = refl
means (tags k) r n = refl
means (guard k) r n = refl
means gate r n = refl
means (table t) r n = ap table (table_back t.names t.ranks t.rows (named_table t r n))
means (lex a b) r n = ap₂ lex (means a r.0 n.0) (means b r.1 n.1)
means (scoped a b) r n = ap₂ scoped (means a r.0 n.0) (means b r.1 n.1)
means (union a b) r n = ap₂ union (means a r.0 n.0) (means b r.1 n.1)
means (sum a b) r n = ap₂ sum (means a r.0 n.0) (means b r.1 n.1)
means (plus a b) r n = ap₂ plus (means a r.0 n.0) (means b r.1 n.1)
means (left a) r n = ap left (means a r n)
means (right a) r n = ap right (means a r n)

is_syntax : (a : Expression) → MeetsRanges a → MeetsNames a → IsSyntax (syntax_of a)
is_syntax (add low high) r n = tt
is_syntax (cap top low high) r n = tt
is_syntax (worst top low high) r n = tt
is_syntax (width top low high) r n = tt
is_syntax (pref top) r n = tt
is_syntax (orig top) r n = tt
is_syntax (seq k) r n = tt
is_syntax (simseq k) r n = tt
is_syntax (tags k) r n = tt
is_syntax (guard k) r n = tt
is_syntax gate r n = tt
is_syntax (table t) r n = are_table_rows t.names t.ranks t.rows (named_table t r n)
is_syntax (lex a b) r n = (is_syntax a r.0 n.0, is_syntax b r.1 n.1)
is_syntax (scoped a b) r n = (is_syntax a r.0 n.0, is_syntax b r.1 n.1)
is_syntax (union a b) r n = (is_syntax a r.0 n.0, is_syntax b r.1 n.1)
is_syntax (sum a b) r n = (is_syntax a r.0 n.0, is_syntax b r.1 n.1)
is_syntax (plus a b) r n = (is_syntax a r.0 n.0, is_syntax b r.1 n.1)
is_syntax (left a) r n = is_syntax a r n
is_syntax (right a) r n = is_syntax a r n

-- the words of the grammar are words
ranged_is_word : (k : Ranged) → is_word (ranged_word k) ≡ true
ranged_is_word cap_head = refl
ranged_is_word worst_head = refl
ranged_is_word width_head = refl

counted_is_word : (k : Counted) → is_word (counted_word k) ≡ true
counted_is_word lp_head = refl
counted_is_word op_head = refl
counted_is_word seq_head = refl
counted_is_word simseq_head = refl
counted_is_word tags_head = refl
counted_is_word guard_head = refl

paired_is_word : (k : Paired) → is_word (paired_word k) ≡ true
paired_is_word lex_head = refl
paired_is_word scoped_head = refl
paired_is_word union_head = refl
paired_is_word sum_head = refl
paired_is_word plus_head = refl

single_is_word : (k : Single) → is_word (single_word k) ≡ true
single_is_word left_head = refl
single_is_word right_head = refl

-- no fault where there is room for the node, and where the numbers are in range
room_clear : (nodes : ℕ) (w : List ℕ) → nodes ≤ MAX_TREE_NODES → (counted_to nodes w).fault ≡ None
room_clear nodes w h = cond-true (nat_le nodes MAX_TREE_NODES) None (Some TooLarge) (le-leb nodes MAX_TREE_NODES h)

range_clear : (n : ℕ) (a : Expression) → IsBase a → MeetsRanges a → (last_number n a).fault ≡ None
range_clear n a b h = cond-true (is_in_range a) None (Some BadRange) (meets_in_range a b h)

closing_tok : (k : Paired) (a b : Expression) → (closing k a b).tok ≡ right_paren
closing_tok lex_head a b = refl
closing_tok scoped_head a b = refl
closing_tok union_head a b = refl
closing_tok sum_head a b = refl
closing_tok plus_head a b = refl

printed_ranged : (greatest : ℕ) (k : Ranged) (nodes top low high : ℕ) → greatest ≤ MAX_LABEL_NUMBER → nodes + 1 ≤ MAX_TREE_NODES → (top ≤ greatest) × (low ≤ greatest) × (high ≤ greatest) → (last_number high (ranged_meaning k top low high)).fault ≡ None
    → IsPrinted greatest (marks [] nodes (ranged k top low high)) (ranged_text k top low high)
printed_ranged greatest k nodes top low high bound room small clear =
    subst (IsPrinted greatest (marks [] nodes (ranged k top low high)))
    (sym (right_nested (ranged_word k) (decimal top) (decimal low) (decimal high)))
    (word_next (counted_to (nodes + 1) (ranged_word k)) (ranged_word k) (room_clear (nodes + 1) (ranged_word k) room) refl (ranged_is_word k) refl
    (mark_next (plain left_paren) (codes "(") refl (λ z. refl)
    (number_next (plain (tok.number top)) top refl refl bound small.0 refl
    (mark_next (plain semicolon) (codes ";") refl (λ z. refl)
    (number_next (plain (tok.number low)) low refl refl bound small.1 refl
    (mark_next (plain dots) (codes "..") refl (λ z. refl)
    (number_next (last_number high (ranged_meaning k top low high)) high clear refl bound small.2 refl
    (mark_next (plain right_paren) (codes ")") refl (λ z. refl) printed_none))))))))
  where
    right_nested : (w t l h : List ℕ) → w ++ codes "(" ++ t ++ codes ";" ++ l ++ codes ".." ++ h ++ codes ")" ≡ w ++ (codes "(" ++ (t ++ (codes ";" ++ (l ++ (codes ".." ++ (h ++ codes ")"))))))
    right_nested w t l h = simp append_assoc refl

printed_counted : (greatest : ℕ) (k : Counted) (nodes n : ℕ) → greatest ≤ MAX_LABEL_NUMBER → nodes + 1 ≤ MAX_TREE_NODES → n ≤ greatest → (last_number n (counted_meaning k n)).fault ≡ None → IsPrinted greatest (marks [] nodes (counted k n)) (counted_text k n)
printed_counted greatest k nodes n bound room small clear =
    subst (IsPrinted greatest (marks [] nodes (counted k n)))
    (sym (right_nested (counted_word k) (decimal n)))
    (word_next (counted_to (nodes + 1) (counted_word k)) (counted_word k) (room_clear (nodes + 1) (counted_word k) room) refl (counted_is_word k) refl
    (mark_next (plain left_paren) (codes "(") refl (λ z. refl)
    (number_next (last_number n (counted_meaning k n)) n clear refl bound small refl
    (mark_next (plain right_paren) (codes ")") refl (λ z. refl) printed_none))))
  where
    right_nested : (w n : List ℕ) → w ++ codes "(" ++ n ++ codes ")" ≡ w ++ (codes "(" ++ (n ++ codes ")"))
    right_nested w n = simp append_assoc refl

printed_add : (greatest : ℕ) (nodes low high : ℕ) → greatest ≤ MAX_LABEL_NUMBER → nodes + 1 ≤ MAX_TREE_NODES → (low ≤ greatest) × (high ≤ greatest) → (last_number high (add low high)).fault ≡ None
    → IsPrinted greatest (marks [] nodes (add_syntax low high)) (expression_text (add low high))
printed_add greatest nodes low high bound room small clear =
    subst (λ t. IsPrinted greatest (marks [] nodes (add_syntax low high)) (codes "add(" ++ t))
    (sym (right_nested (decimal low) (decimal high)))
    (word_next (counted_to (nodes + 1) (codes "add")) (codes "add") (room_clear (nodes + 1) (codes "add") room) refl refl refl
    (mark_next (plain left_paren) (codes "(") refl (λ z. refl)
    (number_next (plain (tok.number low)) low refl refl bound small.0 refl
    (mark_next (plain dots) (codes "..") refl (λ z. refl)
    (number_next (last_number high (add low high)) high clear refl bound small.1 refl
    (mark_next (plain right_paren) (codes ")") refl (λ z. refl) printed_none))))))
  where
    right_nested : (l h : List ℕ) → l ++ codes ".." ++ h ++ codes ")" ≡ l ++ (codes ".." ++ (h ++ codes ")"))
    right_nested l h = simp append_assoc refl

printed_paired : (greatest : ℕ) (k : Paired) (nodes : ℕ) (a : Expression) (s t : Syntax) (u v : List ℕ) → nodes + 1 ≤ MAX_TREE_NODES → meaning [] s ≡ a → (closing k (meaning [] s) (meaning [] t)).fault ≡ None
    → IsPrinted greatest (marks [] (nodes + 1) s) u → IsPrinted greatest (marks [] (nodes + 1 + node_count a) t) v → IsPrinted greatest (marks [] nodes (paired k s t)) (paired_text k u v)
printed_paired greatest k nodes a s t u v room m clear p q =
    subst (IsPrinted greatest (marks [] nodes (paired k s t)))
    (sym (right_nested (paired_word k) u v))
    (word_next (counted_to (nodes + 1) (paired_word k)) (paired_word k) (room_clear (nodes + 1) (paired_word k) room) refl (paired_is_word k) refl
    (mark_next (plain left_paren) (codes "(") refl (λ z. refl)
    (printed_then p refl
    (mark_next (plain comma) (codes ",") refl (λ z. refl)
    (printed_then (subst (λ x. IsPrinted greatest (marks [] (nodes + 1 + node_count x) t) v) (sym m) q) refl
    (mark_next (closing k (meaning [] s) (meaning [] t)) (codes ")") clear (λ z. ap (λ x. token x z) (sym (closing_tok k (meaning [] s) (meaning [] t)))) printed_none))))))
  where
    right_nested : (w u v : List ℕ) → w ++ codes "(" ++ u ++ codes "," ++ v ++ codes ")" ≡ w ++ (codes "(" ++ (u ++ (codes "," ++ (v ++ codes ")"))))
    right_nested w u v = simp append_assoc refl

printed_single : (greatest : ℕ) (k : Single) (nodes : ℕ) (s : Syntax) (u : List ℕ) → nodes + 1 ≤ MAX_TREE_NODES → IsPrinted greatest (marks [] (nodes + 1) s) u → IsPrinted greatest (marks [] nodes (single k s)) (single_text k u)
printed_single greatest k nodes s u room p =
    subst (IsPrinted greatest (marks [] nodes (single k s)))
    (sym (right_nested (single_word k) u))
    (word_next (counted_to (nodes + 1) (single_word k)) (single_word k) (room_clear (nodes + 1) (single_word k) room) refl (single_is_word k) refl
    (mark_next (plain left_paren) (codes "(") refl (λ z. refl)
    (printed_then p refl
    (mark_next (plain right_paren) (codes ")") refl (λ z. refl) printed_none))))
  where
    right_nested : (w u : List ℕ) → w ++ codes "(" ++ u ++ codes ")" ≡ w ++ (codes "(" ++ (u ++ codes ")"))
    right_nested w u = simp append_assoc refl

-- the carriers of a `plus` are the same
plus_clear : (a b : Expression) (s t : Syntax) → meaning [] s ≡ a → meaning [] t ≡ b → carrier_of a ≡ carrier_of b → (closing plus_head (meaning [] s) (meaning [] t)).fault ≡ None
plus_clear a b s t m n e =
    let same : carrier_of (meaning [] s) ≡ carrier_of (meaning [] t) = ap carrier_of m ∙ e ∙ ap carrier_of (sym n) in
    cond-true (is_same_carrier (carrier_of (meaning [] s)) (carrier_of (meaning [] t))) None (Some CarriersDiffer)
    (ap (is_same_carrier (carrier_of (meaning [] s))) (sym same) ∙ carrier_self (carrier_of (meaning [] s)))

printed : (greatest : ℕ) (a : Expression) (nodes : ℕ) → greatest ≤ MAX_LABEL_NUMBER → MeetsRanges a → MeetsCarriers a → MeetsNames a → ExpressionAtMost greatest a → nodes + node_count a ≤ MAX_TREE_NODES
    → IsPrinted greatest (marks [] nodes (syntax_of a)) (expression_text a)
printed greatest (add low high) nodes bound r c n s room = printed_add greatest nodes low high bound room s (range_clear high (add low high) tt r)
printed greatest (cap top low high) nodes bound r c n s room = printed_ranged greatest cap_head nodes top low high bound room s (range_clear high (cap top low high) tt r)
printed greatest (worst top low high) nodes bound r c n s room = printed_ranged greatest worst_head nodes top low high bound room s (range_clear high (worst top low high) tt r)
printed greatest (width top low high) nodes bound r c n s room = printed_ranged greatest width_head nodes top low high bound room s (range_clear high (width top low high) tt r)
printed greatest (pref top) nodes bound r c n s room = printed_counted greatest lp_head nodes top bound room s (range_clear top (pref top) tt r)
printed greatest (orig top) nodes bound r c n s room = printed_counted greatest op_head nodes top bound room s (range_clear top (orig top) tt r)
printed greatest (seq k) nodes bound r c n s room = printed_counted greatest seq_head nodes k bound room s (range_clear k (seq k) tt r)
printed greatest (simseq k) nodes bound r c n s room = printed_counted greatest simseq_head nodes k bound room s (range_clear k (simseq k) tt r)
printed greatest (tags k) nodes bound r c n s room = printed_counted greatest tags_head nodes k bound room s (range_clear k (tags k) tt r)
printed greatest (guard k) nodes bound r c n s room = printed_counted greatest guard_head nodes k bound room s (range_clear k (guard k) tt r)
printed greatest gate nodes bound r c n s room = word_next (counted_to (nodes + 1) (codes "gate")) (codes "gate") (room_clear (nodes + 1) (codes "gate") room) refl refl refl printed_none
printed greatest (table t) nodes bound r c n s room =
    word_next (counted_to (nodes + 1) (codes "table")) (codes "table") (room_clear (nodes + 1) (codes "table") room) refl refl refl
    (printed_table greatest t.names t.ranks t.rows (named_table t r n))
printed greatest (lex a b) nodes bound r c n s room =
    printed_paired greatest lex_head nodes a (syntax_of a) (syntax_of b) (expression_text a) (expression_text b) (omega arith) (means a r.0 n.0) refl
    (printed greatest a (nodes + 1) bound r.0 c.0 n.0 s.0 (omega arith)) (printed greatest b (nodes + 1 + node_count a) bound r.1 c.1 n.1 s.1 (omega arith))
printed greatest (scoped a b) nodes bound r c n s room =
    printed_paired greatest scoped_head nodes a (syntax_of a) (syntax_of b) (expression_text a) (expression_text b) (omega arith) (means a r.0 n.0) refl
    (printed greatest a (nodes + 1) bound r.0 c.0 n.0 s.0 (omega arith)) (printed greatest b (nodes + 1 + node_count a) bound r.1 c.1 n.1 s.1 (omega arith))
printed greatest (union a b) nodes bound r c n s room =
    printed_paired greatest union_head nodes a (syntax_of a) (syntax_of b) (expression_text a) (expression_text b) (omega arith) (means a r.0 n.0) refl
    (printed greatest a (nodes + 1) bound r.0 c.0 n.0 s.0 (omega arith)) (printed greatest b (nodes + 1 + node_count a) bound r.1 c.1 n.1 s.1 (omega arith))
printed greatest (sum a b) nodes bound r c n s room =
    printed_paired greatest sum_head nodes a (syntax_of a) (syntax_of b) (expression_text a) (expression_text b) (omega arith) (means a r.0 n.0) refl
    (printed greatest a (nodes + 1) bound r.0 c.0 n.0 s.0 (omega arith)) (printed greatest b (nodes + 1 + node_count a) bound r.1 c.1 n.1 s.1 (omega arith))
printed greatest (plus a b) nodes bound r c n s room =
    printed_paired greatest plus_head nodes a (syntax_of a) (syntax_of b) (expression_text a) (expression_text b) (omega arith) (means a r.0 n.0)
    (plus_clear a b (syntax_of a) (syntax_of b) (means a r.0 n.0) (means b r.1 n.1) c.2)
    (printed greatest a (nodes + 1) bound r.0 c.0 n.0 s.0 (omega arith)) (printed greatest b (nodes + 1 + node_count a) bound r.1 c.1 n.1 s.1 (omega arith))
printed greatest (left a) nodes bound r c n s room = printed_single greatest left_head nodes (syntax_of a) (expression_text a) (omega arith) (printed greatest a (nodes + 1) bound r c n s (omega arith))
printed greatest (right a) nodes bound r c n s room = printed_single greatest right_head nodes (syntax_of a) (expression_text a) (omega arith) (printed greatest a (nodes + 1) bound r c n s (omega arith))

-- the statements of the text
printed_main : (greatest : ℕ) (a : Expression) → greatest ≤ MAX_LABEL_NUMBER → IsFormed a → ExpressionAtMost greatest a
    → IsPrinted greatest (rest_marks [] [] (syntax_of a)) (codes "main " ++ expression_text a ++ codes ";\n")
printed_main greatest a bound f small =
    let size = f.size in
    word_next (plain_word (codes "main")) (codes "main") refl refl refl refl
    (gap_next 32 (λ x. refl)
    (printed_then (printed greatest a 0 bound f.ranges f.carriers f.names small (omega arith)) refl
    (mark_next (plain semicolon) (codes ";") refl (λ z. refl) (gap_next 10 (λ x. refl) printed_none))))

-- the header that a text of this edition is printed with
abbrev header_in : Edition → Option ℕ
header_in One = None
header_in Two = Some 2

-- the tokens of the text of an algebra of this edition
text_begins : (edition : Edition) (s : Syntax) (text : List ℕ) → Lexes (greatest_number edition) (toks (rest_marks [] [] s)) text
    → (rest : List ℕ) × BeginsWith [] (toks (header_marks (header_in edition) ++ rest_marks [] [] s)) (header_text edition ++ text) rest
    × (step_of (greatest_following (toks (header_marks (header_in edition) ++ rest_marks [] [] s))) rest ≡ end)
text_begins One s text l =
    let main = word (codes "main") in
    let others = toks (marks [] 0 s ++ plain semicolon ∷ []) in
    let settled : IsSettled (main ∷ []) = keyword_settled k.Main in
    let more = lexes_begin MAX_NUMBER (main ∷ []) others l.0 settled refl l.2 in
    (more.0, (l.0, l.1, more.1), ap (λ g. step_of g more.0) (settled others) ∙ more.2)
text_begins Two s text l =
    let header = word (codes "raml") ∷ number 2 ∷ semicolon ∷ [] in
    let more = lexes_begin MAX_LABEL_NUMBER header (toks (rest_marks [] [] s)) text (λ z. refl) refl l in
    (more.0, (codes " 2;" ++ text, refl, (codes ";" ++ text, refl, (text, refl, more.1))), more.2)

header_faultless : (edition : Edition) (ms : List Mark) → clean (toks ms) ≡ ms → clean (toks (header_marks (header_in edition) ++ ms)) ≡ header_marks (header_in edition) ++ ms
header_faultless One ms e = e
header_faultless Two ms e = ap (λ l. header_marks (Some 2) ++ l) e

edition_back : (edition : Edition) → edition_of (header_in edition) ≡ edition
edition_back One = refl
edition_back Two = refl

pub printed_means : (a : PureAlg) → IsAlg a → ExprText (alg_text a) a
printed_means a f =
    let s = syntax_of a.expression in
    let statements = rest_marks [] [] s in
    let text = codes "main " ++ expression_text a.expression ++ codes ";\n" in
    let p = printed_main (greatest_number a.edition) a.expression (greatest_is_bounded a.edition) f.formed f.bound in
    let lexed = subst₂ (Lexes (greatest_number a.edition)) (append-nil (toks statements)) (append-nil text) (p.lexes [] [] refl refl) in
    let b = text_begins a.edition s text lexed in
    let means = means a.expression f.formed.ranges f.formed.names in
    let back = edition_back a.edition in
    record {
      tokens = toks (header_marks (header_in a.edition) ++ statements);
      file = record {
        syntax = record { header = header_in a.edition; lets = []; main = s };
        is_file = record { lets = tt; main = is_syntax a.expression f.formed.ranges f.formed.names };
        means = λ i. record { expression = sym means i; edition = sym back i };
        marks = header_faultless a.edition statements p.faultless;
      };
      rest = b.0;
      lexed = subst (λ x. BeginsWith [] (toks (header_marks (header_in a.edition) ++ statements)) x b.0) (text_of a.edition (expression_text a.expression)) b.1;
      ended = b.2;
    }
  where
    text_of : (edition : Edition) (e : List ℕ) → header_text edition ++ (codes "main " ++ e ++ codes ";\n") ≡ header_text edition ++ codes "main " ++ e ++ codes ";\n"
    text_of One e = refl
    text_of Two e = refl
