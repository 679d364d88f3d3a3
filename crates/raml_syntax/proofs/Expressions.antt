-- Tokens that begin with an expression determine it.
use Rattle.std.proofs.Common.{◌≡◌, ◌⊎◌, inl, inr, ℕ, ◌+◌, List, [], ◌∷◌, ◌++◌, false, if◌then◌else◌, bytes_eq, codes, map, Option, Some, None, refl, sym, ap, ap₂, subst₂, ◌∙◌}
use Rattle.std.proofs.lemmas.Bool.{or_parts, cond-false}
use Rattle.raml_lex.specs.Tokens.{Tok, word, left_paren, right_paren, left_brace, right_brace, comma, semicolon, colon, dots}
use Rattle.raml_lex.specs.Tokens as tok
use Rattle.alg_model.specs.Expressions.{Expression, add}
use Rattle.alg_model.specs.Formation.{node_count}
use Rattle.raml_syntax.specs.Syntax.{Ranged, cap_head, worst_head, width_head, Counted, lp_head, op_head, seq_head, simseq_head, tags_head, guard_head, Paired, lex_head, scoped_head, union_head, sum_head, plus_head, Single, left_head, right_head}
use Rattle.raml_syntax.specs.Syntax.{ranged_word, counted_word, paired_word, single_word, is_among, IsSyntax, Syntax, named, add_syntax, ranged, counted, gate_syntax, table_syntax, paired, single}
use Rattle.raml_syntax.specs.Meaning.{Definition, lookup, ranged_meaning, counted_meaning, meaning}
use Rattle.raml_syntax.specs.Marks.{Mark, plain, counted_to, name_mark, last_number, closing, marks}
use Rattle.raml_syntax.specs.Productions.{toks}
use Rattle.raml_syntax.specs.Sequences.{IsDetermined}
use Rattle.raml_syntax.specs.Trees.{Expr}
use Rattle.raml_syntax.proofs.Compare.{Diverges, here, Compared, same, apart, diverging_differ, compared_map, compared_next, compared_one, compared_last, compared_then, compared_joined, compared_whole, which_word, which_number}
use Rattle.raml_syntax.proofs.Tables.{compare_tables}

-- which form of expression a first word begins
pub data Head : Type 0 where
  for_name : Head
  for_add : Head
  for_ranged : Ranged → Head
  for_counted : Counted → Head
  for_gate : Head
  for_table : Head
  for_paired : Paired → Head
  for_single : Single → Head

-- the words of the grammar, each with the form that it begins
abbrev pub heads : List (List ℕ × Head)
heads =
    (codes "add", for_add) ∷ (codes "cap", for_ranged cap_head) ∷ (codes "worst", for_ranged worst_head) ∷ (codes "width", for_ranged width_head) ∷
    (codes "lp", for_counted lp_head) ∷ (codes "op", for_counted op_head) ∷ (codes "seq", for_counted seq_head) ∷ (codes "simseq", for_counted simseq_head) ∷
    (codes "tags", for_counted tags_head) ∷ (codes "guard", for_counted guard_head) ∷ (codes "gate", for_gate) ∷ (codes "table", for_table) ∷
    (codes "lex", for_paired lex_head) ∷ (codes "scoped", for_paired scoped_head) ∷ (codes "union", for_paired union_head) ∷ (codes "sum", for_paired sum_head) ∷
    (codes "plus", for_paired plus_head) ∷ (codes "left", for_single left_head) ∷ (codes "right", for_single right_head) ∷ []

-- the form that a word begins; a word of none of these is a name
abbrev pub head_in : List (List ℕ × Head) → List ℕ → Head
head_in [] w = for_name
head_in (e ∷ es) w = if bytes_eq e.0 w then e.1 else head_in es w

-- a word that is none of them begins none of their forms
head_none : (es : List (List ℕ × Head)) (w : List ℕ) → is_among (map (λ (e : List ℕ × Head). e.0) es) w ≡ false → head_in es w ≡ for_name
head_none [] w h = refl
head_none (e ∷ es) w h =
    let p = or_parts (bytes_eq e.0 w) (is_among (map (λ (e : List ℕ × Head). e.0) es) w) h in
    cond-false (bytes_eq e.0 w) e.1 (head_in es w) p.0 ∙ head_none es w p.1

-- the word with which a tree begins
abbrev pub first_word : Syntax → List ℕ
first_word (named w) = w
first_word (add_syntax low high) = codes "add"
first_word (ranged k top low high) = ranged_word k
first_word (counted k n) = counted_word k
first_word gate_syntax = codes "gate"
first_word (table_syntax t) = codes "table"
first_word (paired k a b) = paired_word k
first_word (single k a) = single_word k

-- the form of a tree
abbrev pub head_of : Syntax → Head
head_of (named w) = for_name
head_of (add_syntax low high) = for_add
head_of (ranged k top low high) = for_ranged k
head_of (counted k n) = for_counted k
head_of gate_syntax = for_gate
head_of (table_syntax t) = for_table
head_of (paired k a b) = for_paired k
head_of (single k a) = for_single k

-- each word of the grammar tells its form
ranged_first : (k : Ranged) → head_in heads (ranged_word k) ≡ for_ranged k
ranged_first cap_head = refl
ranged_first worst_head = refl
ranged_first width_head = refl

counted_first : (k : Counted) → head_in heads (counted_word k) ≡ for_counted k
counted_first lp_head = refl
counted_first op_head = refl
counted_first seq_head = refl
counted_first simseq_head = refl
counted_first tags_head = refl
counted_first guard_head = refl

paired_first : (k : Paired) → head_in heads (paired_word k) ≡ for_paired k
paired_first lex_head = refl
paired_first scoped_head = refl
paired_first union_head = refl
paired_first sum_head = refl
paired_first plus_head = refl

single_first : (k : Single) → head_in heads (single_word k) ≡ for_single k
single_first left_head = refl
single_first right_head = refl

-- a tree's first word tells its form
pub head_first : (s : Syntax) → IsSyntax s → head_in heads (first_word s) ≡ head_of s
head_first (named w) p = head_none heads w p
head_first (add_syntax low high) p = refl
head_first (ranged k top low high) p = ranged_first k
head_first (counted k n) p = counted_first k
head_first gate_syntax p = refl
head_first (table_syntax t) p = refl
head_first (paired k a b) p = paired_first k
head_first (single k a) p = single_first k

-- and its form tells which word it is
which_ranged : (k l : Ranged) → (k ≡ l) ⊎ (word (ranged_word k) ≡ word (ranged_word l) → ⊥)
which_ranged k l = by (which_word (ranged_word k) (ranged_word l))
  where
    by : (ranged_word k ≡ ranged_word l) ⊎ (word (ranged_word k) ≡ word (ranged_word l) → ⊥) → (k ≡ l) ⊎ (word (ranged_word k) ≡ word (ranged_word l) → ⊥)
    by (inl e) = inl (let h : for_ranged k ≡ for_ranged l = sym (ranged_first k) ∙ ap (head_in heads) e ∙ ranged_first l in cc)
    by (inr n) = inr n

which_counted : (k l : Counted) → (k ≡ l) ⊎ (word (counted_word k) ≡ word (counted_word l) → ⊥)
which_counted k l = by (which_word (counted_word k) (counted_word l))
  where
    by : (counted_word k ≡ counted_word l) ⊎ (word (counted_word k) ≡ word (counted_word l) → ⊥) → (k ≡ l) ⊎ (word (counted_word k) ≡ word (counted_word l) → ⊥)
    by (inl e) = inl (let h : for_counted k ≡ for_counted l = sym (counted_first k) ∙ ap (head_in heads) e ∙ counted_first l in cc)
    by (inr n) = inr n

which_paired : (k l : Paired) → (k ≡ l) ⊎ (word (paired_word k) ≡ word (paired_word l) → ⊥)
which_paired k l = by (which_word (paired_word k) (paired_word l))
  where
    by : (paired_word k ≡ paired_word l) ⊎ (word (paired_word k) ≡ word (paired_word l) → ⊥) → (k ≡ l) ⊎ (word (paired_word k) ≡ word (paired_word l) → ⊥)
    by (inl e) = inl (let h : for_paired k ≡ for_paired l = sym (paired_first k) ∙ ap (head_in heads) e ∙ paired_first l in cc)
    by (inr n) = inr n

which_single : (k l : Single) → (k ≡ l) ⊎ (word (single_word k) ≡ word (single_word l) → ⊥)
which_single k l = by (which_word (single_word k) (single_word l))
  where
    by : (single_word k ≡ single_word l) ⊎ (word (single_word k) ≡ word (single_word l) → ⊥) → (k ≡ l) ⊎ (word (single_word k) ≡ word (single_word l) → ⊥)
    by (inl e) = inl (let h : for_single k ≡ for_single l = sym (single_first k) ∙ ap (head_in heads) e ∙ single_first l in cc)
    by (inr n) = inr n

-- a name's token is its word, whatever it stands for
name_tok : (nodes : ℕ) (w : List ℕ) (o : Option Expression) → (name_mark nodes w o).tok ≡ word w
name_tok nodes w None = refl
name_tok nodes w (Some a) = refl

-- the first token of a tree is its first word
pub starts : (ds : List Definition) (nodes : ℕ) (s : Syntax) → (m : Mark) × (rest : List Mark) × (marks ds nodes s ≡ m ∷ rest) × (m.tok ≡ word (first_word s))
starts ds nodes (named w) = (_, _, refl, name_tok nodes w (lookup ds w))
starts ds nodes (add_syntax low high) = (_, _, refl, refl)
starts ds nodes (ranged k top low high) = (_, _, refl, refl)
starts ds nodes (counted k n) = (_, _, refl, refl)
starts ds nodes gate_syntax = (_, _, refl, refl)
starts ds nodes (table_syntax t) = (_, _, refl, refl)
starts ds nodes (paired k a b) = (_, _, refl, refl)
starts ds nodes (single k a) = (_, _, refl, refl)

-- trees of different forms diverge at once
heads_differ : (ds : List Definition) (nodes : ℕ) (s t : Syntax) (xs ys : List Mark) → IsSyntax s → IsSyntax t → (head_of s ≡ head_of t → ⊥) → Compared (s ≡ t) (marks ds nodes s ++ xs) (marks ds nodes t ++ ys)
heads_differ ds nodes s t xs ys p q n =
    let a = starts ds nodes s in
    let b = starts ds nodes t in
    let no : a.0.tok ≡ b.0.tok → ⊥ = λ h.
    let e : word (first_word s) ≡ word (first_word t) = sym a.3 ∙ h ∙ b.3 in
    let f : first_word s ≡ first_word t = cc in
    n (sym (head_first s p) ∙ ap (head_in heads) f ∙ head_first t q) in
    apart (subst₂ (λ u v. Diverges (u ++ xs) (v ++ ys)) (sym a.2) (sym b.2) (here no))

-- two expressions
pub compare : (ds : List Definition) (nodes : ℕ) (s t : Syntax) (xs ys : List Mark) → IsSyntax s → IsSyntax t → Compared (s ≡ t) (marks ds nodes s ++ xs) (marks ds nodes t ++ ys)
compare ds nodes (named w) (named v) xs ys p q =
    compared_map (ap named) (compared_last (λ x. name_mark nodes x (lookup ds x)) w v (by (which_word w v)))
  where
    by : (w ≡ v) ⊎ (word w ≡ word v → ⊥) → (w ≡ v) ⊎ ((name_mark nodes w (lookup ds w)).tok ≡ (name_mark nodes v (lookup ds v)).tok → ⊥)
    by (inl e) = inl e
    by (inr n) = inr (λ h. n (sym (name_tok nodes w (lookup ds w)) ∙ h ∙ name_tok nodes v (lookup ds v)))
compare ds nodes (add_syntax l h) (add_syntax m i) xs ys p q =
    compared_map (λ e. ap₂ add_syntax e.0 e.1)
    (compared_next (compared_next
    (compared_one (λ x. plain (tok.number x)) (λ x. plain dots ∷ last_number i (add x i) ∷ plain right_paren ∷ ys) l m (which_number l m)
    (compared_next
    (compared_last (λ x. last_number x (add l x)) h i (which_number h i))))))
compare ds nodes (ranged k t l h) (ranged j u m i) xs ys p q =
    compared_map (λ e. ap₂ (λ x y. ranged x y l h) e.0 e.1.0 ∙ ap₂ (λ x y. ranged j u x y) e.1.1.0 e.1.1.1)
    (compared_one (λ x. counted_to (nodes + 1) (ranged_word x)) (λ x. plain left_paren ∷ plain (tok.number u) ∷ plain semicolon ∷ plain (tok.number m) ∷ plain dots ∷ last_number i (ranged_meaning x u m i) ∷ plain right_paren ∷ ys) k j (which_ranged k j)
    (compared_next
    (compared_one (λ x. plain (tok.number x)) (λ x. plain semicolon ∷ plain (tok.number m) ∷ plain dots ∷ last_number i (ranged_meaning k x m i) ∷ plain right_paren ∷ ys) t u (which_number t u)
    (compared_next
    (compared_one (λ x. plain (tok.number x)) (λ x. plain dots ∷ last_number i (ranged_meaning k t x i) ∷ plain right_paren ∷ ys) l m (which_number l m)
    (compared_next
    (compared_last (λ x. last_number x (ranged_meaning k t l x)) h i (which_number h i))))))))
compare ds nodes (counted k n) (counted j m) xs ys p q =
    compared_map (λ e. ap₂ counted e.0 e.1)
    (compared_one (λ x. counted_to (nodes + 1) (counted_word x)) (λ x. plain left_paren ∷ last_number m (counted_meaning x m) ∷ plain right_paren ∷ ys) k j (which_counted k j)
    (compared_next
    (compared_last (λ x. last_number x (counted_meaning k x)) n m (which_number n m))))
compare ds nodes gate_syntax gate_syntax xs ys p q = same refl
compare ds nodes (table_syntax t) (table_syntax u) xs ys p q = compared_map (ap table_syntax) (compared_next (compare_tables t u xs ys p.0 p.1 q.0 q.1))
compare ds nodes (paired k a b) (paired j c d) xs ys p q =
    compared_map (λ e. ap (λ x. paired x a b) e.0 ∙ ap₂ (paired j) e.1.0 e.1.1)
    (compared_one (λ x. counted_to (nodes + 1) (paired_word x))
    (λ x. plain left_paren ∷ ((marks ds (nodes + 1) c ++ plain comma ∷ (marks ds (nodes + 1 + node_count (meaning ds c)) d ++ closing x (meaning ds c) (meaning ds d) ∷ [])) ++ ys)) k j (which_paired k j)
    (compared_next
    (compared_then (marks ds (nodes + 1)) (λ x. plain comma ∷ (marks ds (nodes + 1 + node_count (meaning ds x)) d ++ closing k (meaning ds x) (meaning ds d) ∷ []))
    (plain comma ∷ (marks ds (nodes + 1 + node_count (meaning ds a)) b ++ closing k (meaning ds a) (meaning ds b) ∷ [])) xs ys a c
    (compare ds (nodes + 1) a c _ _ p.0 q.0)
    (compared_next
    (compared_joined (marks ds (nodes + 1 + node_count (meaning ds a)) b) (closing k (meaning ds a) (meaning ds b) ∷ []) xs (marks ds (nodes + 1 + node_count (meaning ds a)) d) (closing k (meaning ds a) (meaning ds d) ∷ []) ys
    (compare ds (nodes + 1 + node_count (meaning ds a)) b d _ _ p.1 q.1))))))
compare ds nodes (single k a) (single j b) xs ys p q =
    compared_map (λ e. ap₂ single e.0 e.1)
    (compared_one (λ x. counted_to (nodes + 1) (single_word x)) (λ x. plain left_paren ∷ ((marks ds (nodes + 1) b ++ plain right_paren ∷ []) ++ ys)) k j (which_single k j)
    (compared_next
    (compared_joined (marks ds (nodes + 1) a) (plain right_paren ∷ []) xs (marks ds (nodes + 1) b) (plain right_paren ∷ []) ys
    (compare ds (nodes + 1) a b _ _ p q))))
compare ds nodes s t xs ys p q = heads_differ ds nodes s t xs ys p q (λ h. cc)

-- tokens that begin with an expression determine it
pub expr_determined : (ds : List Definition) (nodes : ℕ) → IsDetermined (Expr ds nodes)
expr_determined ds nodes r s xs ys y z p q h = by (compared_whole (marks ds nodes p.syntax) (marks ds nodes q.syntax) (compare ds nodes p.syntax q.syntax [] [] p.is_syntax q.is_syntax))
  where
    by : Compared (p.syntax ≡ q.syntax) (marks ds nodes p.syntax) (marks ds nodes q.syntax) → (r ≡ s) × (xs ≡ ys)
    by (same e) = (p.means ∙ ap (meaning ds) e ∙ sym q.means, p.marks ∙ ap (marks ds nodes) e ∙ sym q.marks)
    by (apart d) = absurd (diverging_differ d y z (ap (λ l. toks l ++ y) (sym p.marks) ∙ h ∙ ap (λ l. toks l ++ z) q.marks))
