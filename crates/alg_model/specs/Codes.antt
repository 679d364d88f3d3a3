-- How expressions, values and labels are stored as values of a model.
use Rattle.std.specs.Prelude.{◌≡◌, ℕ, zero, suc, List, Option, refl}
use Rattle.std.proofs.Common.{ap, arith}
use Rattle.std.specs.Coded.{Coded, code_by, coded×, coded_list, coded_option, coded_ℕ}
use base.Stored.{Gv, gnil, gnum, gcons}
use Rattle.alg_model.specs.declared.tree.TableSpec.{TableSpec}
use Rattle.alg_model.specs.declared.tree.TableRow.{TableRow}
use Rattle.alg_model.specs.declared.edition.Edition.{Edition}
use Rattle.alg_model.specs.declared.edition.Edition.TheVariants.{One, Two}
use Rattle.alg_model.specs.Expressions.{PureAlg}
use Rattle.alg_model.specs.Expressions.{Expression, add, cap, worst, width, pref, orig, seq, simseq, tags, guard, gate, table, lex, scoped, union, sum, plus, left, right}
use Rattle.alg_model.specs.Expressions.{PureValue, number, symbols, marks, unit, name, pair, first, second}
use Rattle.alg_model.specs.Expressions.{PureLabel, number_label, keep, symbol_label, mark, unmark, need, bar, allow, deny, row_label, pair_label, both_label, first_label, second_label, const_label, outer, inner}

abbrev pub coded_text : Coded (List ℕ)
coded_text = coded_list coded_ℕ

abbrev pub coded_row : Coded TableRow
coded_row =
    code_by (List ℕ × List (Option ℕ)) (coded× coded_text (coded_list (coded_option coded_ℕ)))
    (λ r. (r.name, r.images)) (λ p. record { name = p.0; images = p.1 }) (λ _. refl)

abbrev pub coded_table : Coded TableSpec
coded_table =
    code_by (List (List ℕ) × (List ℕ × List TableRow)) (coded× (coded_list coded_text) (coded× coded_text (coded_list coded_row)))
    (λ t. (t.names, (t.ranks, t.rows))) (λ p. record { names = p.0; ranks = p.1.0; rows = p.1.1 }) (λ _. refl)

-- the number that a code begins with
abbrev kind_of : Gv → ℕ
kind_of gnil = 0
kind_of (gnum n) = n
kind_of (gcons (gnum n) g) = n
kind_of (gcons _ g) = 0

abbrev one_number : ℕ → ℕ → Gv
one_number kind n = gcons (gnum kind) (gnum n)

abbrev two_numbers : ℕ → ℕ → ℕ → Gv
two_numbers kind m n = gcons (gnum kind) (gcons (gnum m) (gnum n))

abbrev three_numbers : ℕ → ℕ → ℕ → ℕ → Gv
three_numbers kind k m n = gcons (gnum kind) (gcons (gnum k) (gcons (gnum m) (gnum n)))

abbrev two_parts : ℕ → Gv → Gv → Gv
two_parts kind a b = gcons (gnum kind) (gcons a b)

pub code : Expression → Gv
code (add low high) = two_numbers 0 low high
code (cap top low high) = three_numbers 1 top low high
code (worst top low high) = three_numbers 2 top low high
code (width top low high) = three_numbers 3 top low high
code (pref top) = one_number 4 top
code (orig top) = one_number 5 top
code (seq n) = one_number 6 n
code (simseq n) = one_number 7 n
code (tags n) = one_number 8 n
code (guard n) = one_number 9 n
code gate = gnum 10
code (table t) = gcons (gnum 11) (coded_table.code t)
code (lex a b) = two_parts 12 (code a) (code b)
code (scoped a b) = two_parts 13 (code a) (code b)
code (union a b) = two_parts 14 (code a) (code b)
code (sum a b) = two_parts 15 (code a) (code b)
code (plus a b) = two_parts 16 (code a) (code b)
code (left a) = gcons (gnum 17) (code a)
code (right a) = gcons (gnum 18) (code a)

pub code_inj : (a b : Expression) → code a ≡ code b → a ≡ b
unfolding code
code_inj (add m n) (add x y) e = cc
code_inj (cap k m n) (cap x y z) e = cc
code_inj (worst k m n) (worst x y z) e = cc
code_inj (width k m n) (width x y z) e = cc
code_inj (pref n) (pref x) e = cc
code_inj (orig n) (orig x) e = cc
code_inj (seq n) (seq x) e = cc
code_inj (simseq n) (simseq x) e = cc
code_inj (tags n) (tags x) e = cc
code_inj (guard n) (guard x) e = cc
code_inj gate gate e = cc
code_inj (table t) (table u) e = let f = coded_table.inj t u (cc) in cc
code_inj (lex a b) (lex c d) e = let f = code_inj a c (cc) in let g = code_inj b d (cc) in cc
code_inj (scoped a b) (scoped c d) e = let f = code_inj a c (cc) in let g = code_inj b d (cc) in cc
code_inj (union a b) (union c d) e = let f = code_inj a c (cc) in let g = code_inj b d (cc) in cc
code_inj (sum a b) (sum c d) e = let f = code_inj a c (cc) in let g = code_inj b d (cc) in cc
code_inj (plus a b) (plus c d) e = let f = code_inj a c (cc) in let g = code_inj b d (cc) in cc
code_inj (left a) (left b) e = let f = code_inj a b (cc) in cc
code_inj (right a) (right b) e = let f = code_inj a b (cc) in cc
code_inj _ _ e = absurd (let k = ap kind_of e in omega arith)

abbrev pub coded_expression : Coded Expression
coded_expression = record { code = code; inj = code_inj }

abbrev edition_number : Edition → ℕ
edition_number One = 0
edition_number Two = 1

abbrev edition_numbered : ℕ → Edition
edition_numbered zero = One
edition_numbered (suc n) = Two

pub edition_kept : (e : Edition) → edition_numbered (edition_number e) ≡ e
edition_kept One = refl
edition_kept Two = refl

abbrev pub coded_edition : Coded Edition
coded_edition = code_by ℕ coded_ℕ edition_number edition_numbered edition_kept

abbrev pub coded_alg : Coded PureAlg
coded_alg =
    code_by (Expression × Edition) (coded× coded_expression coded_edition)
    (λ a. (a.expression, a.edition)) (λ p. record { expression = p.0; edition = p.1 }) (λ _. refl)

pub code_value : PureValue → Gv
code_value (number n) = one_number 0 n
code_value (symbols ns) = gcons (gnum 1) (coded_text.code ns)
code_value (marks n) = one_number 2 n
code_value unit = gnum 3
code_value (name n) = one_number 4 n
code_value (pair u v) = two_parts 5 (code_value u) (code_value v)
code_value (first u) = gcons (gnum 6) (code_value u)
code_value (second v) = gcons (gnum 7) (code_value v)

pub code_value_inj : (u v : PureValue) → code_value u ≡ code_value v → u ≡ v
unfolding code_value
code_value_inj (number n) (number x) e = cc
code_value_inj (marks n) (marks x) e = cc
code_value_inj unit unit e = cc
code_value_inj (name n) (name x) e = cc
code_value_inj (symbols ms) (symbols ns) e = let f = coded_text.inj ms ns (cc) in cc
code_value_inj (pair u v) (pair x y) e = let f = code_value_inj u x (cc) in let g = code_value_inj v y (cc) in cc
code_value_inj (first u) (first x) e = let f = code_value_inj u x (cc) in cc
code_value_inj (second v) (second y) e = let f = code_value_inj v y (cc) in cc
code_value_inj _ _ e = absurd (let k = ap kind_of e in omega arith)

abbrev pub coded_value : Coded PureValue
coded_value = record { code = code_value; inj = code_value_inj }

pub code_label : PureLabel → Gv
code_label (number_label n) = one_number 0 n
code_label keep = gnum 1
code_label (symbol_label n) = one_number 2 n
code_label (mark k) = one_number 3 k
code_label (unmark k) = one_number 4 k
code_label (need k) = one_number 5 k
code_label (bar k) = one_number 6 k
code_label allow = gnum 7
code_label deny = gnum 8
code_label (row_label r) = one_number 9 r
code_label (pair_label l m) = two_parts 10 (code_label l) (code_label m)
code_label (both_label l m) = two_parts 11 (code_label l) (code_label m)
code_label (first_label l) = gcons (gnum 12) (code_label l)
code_label (second_label m) = gcons (gnum 13) (code_label m)
code_label (const_label v) = gcons (gnum 14) (code_value v)
code_label (outer l v) = two_parts 15 (code_label l) (code_value v)
code_label (inner m) = gcons (gnum 16) (code_label m)

pub code_label_inj : (k l : PureLabel) → code_label k ≡ code_label l → k ≡ l
unfolding code_label
code_label_inj (number_label n) (number_label x) e = cc
code_label_inj keep keep e = cc
code_label_inj (symbol_label n) (symbol_label x) e = cc
code_label_inj (mark n) (mark x) e = cc
code_label_inj (unmark n) (unmark x) e = cc
code_label_inj (need n) (need x) e = cc
code_label_inj (bar n) (bar x) e = cc
code_label_inj allow allow e = cc
code_label_inj deny deny e = cc
code_label_inj (row_label n) (row_label x) e = cc
code_label_inj (pair_label a b) (pair_label c d) e = let f = code_label_inj a c (cc) in let g = code_label_inj b d (cc) in cc
code_label_inj (both_label a b) (both_label c d) e = let f = code_label_inj a c (cc) in let g = code_label_inj b d (cc) in cc
code_label_inj (first_label a) (first_label b) e = let f = code_label_inj a b (cc) in cc
code_label_inj (second_label a) (second_label b) e = let f = code_label_inj a b (cc) in cc
code_label_inj (const_label u) (const_label v) e = let f = code_value_inj u v (cc) in cc
code_label_inj (outer a u) (outer b v) e = let f = code_label_inj a b (cc) in let g = code_value_inj u v (cc) in cc
code_label_inj (inner a) (inner b) e = let f = code_label_inj a b (cc) in cc
code_label_inj _ _ e = absurd (let k = ap kind_of e in omega arith)

abbrev pub coded_label : Coded PureLabel
coded_label = record { code = code_label; inj = code_label_inj }
