-- A text is that of at most one file.
use Rattle.std.proofs.Common.{◌≡◌, ◌⊎◌, inl, inr, ℕ, List, [], ◌∷◌, ◌++◌, Option, Some, None, codes, refl, sym, ap, ap₂, ◌∙◌}
use Rattle.std.specs.List.{AllByRecursion}
use Rattle.raml_lex.specs.Tokens.{end, token, semicolon, equals}
use Rattle.alg_model.specs.Expressions.{PureAlg}
use Rattle.raml_syntax.specs.Syntax.{IsSyntax, Syntax, LetSyntax, FileSyntax, IsFile}
use Rattle.raml_syntax.specs.Meaning.{Definition, meaning, with_let, file_meaning}
use Rattle.raml_syntax.specs.Marks.{Mark, plain, marks, let_name, rest_marks, header_number, header_marks, file_marks}
use Rattle.raml_syntax.specs.Productions.{clean, toks}
use Rattle.raml_syntax.specs.Sequences.{IsDetermined}
use Rattle.raml_syntax.specs.Trees.{File}
use Rattle.raml_syntax.specs.ExprText.{ExprText}
use Rattle.raml_syntax.proofs.Beginnings.{GoesBeyond, two_begin}
use Rattle.raml_syntax.proofs.Compare.{here, Compared, same, apart, diverging_differ, compared_map, compared_next, compared_one, compared_then, compared_joined, compared_whole, which_word, which_number, words_apart}
use Rattle.raml_syntax.proofs.Expressions.{compare}

-- each body is a tree of the grammar
abbrev pub AreLets : List LetSyntax → Type 0
AreLets ls = AllByRecursion (λ (l : LetSyntax). IsSyntax l.body) ls

-- an expression and its semicolon
compare_ended : (ds : List Definition) (s t : Syntax) (xs ys : List Mark) → IsSyntax s → IsSyntax t → Compared (s ≡ t) ((marks ds 0 s ++ plain semicolon ∷ []) ++ xs) ((marks ds 0 t ++ plain semicolon ∷ []) ++ ys)
compare_ended ds s t xs ys p q = compared_joined (marks ds 0 s) (plain semicolon ∷ []) xs (marks ds 0 t) (plain semicolon ∷ []) ys (compare ds 0 s t _ _ p q)

-- the rests of two files
compare_rests : (ds : List Definition) (ls : List LetSyntax) (s : Syntax) (ks : List LetSyntax) (t : Syntax) (xs ys : List Mark) → AreLets ls → IsSyntax s → AreLets ks → IsSyntax t
    → Compared ((ls ≡ ks) × (s ≡ t)) (rest_marks ds ls s ++ xs) (rest_marks ds ks t ++ ys)
compare_rests ds [] s [] t xs ys p i q j = compared_map (λ e. (refl, e)) (compared_next (compare_ended ds s t xs ys i j))
compare_rests ds [] s (k ∷ ks) t xs ys p i q j = apart (here (words_apart (codes "main") (codes "let") refl))
compare_rests ds (l ∷ ls) s [] t xs ys p i q j = apart (here (words_apart (codes "let") (codes "main") refl))
compare_rests ds (l ∷ ls) s (k ∷ ks) t xs ys p i q j =
    compared_map (λ e. (ap₂ (λ x r. x ∷ r) (ap₂ (λ n b. record { name = n; body = b }) e.0 e.1.0) e.1.1.0, e.1.1.1))
    (compared_next
    (compared_one (let_name ds) (λ n. plain equals ∷ (((marks ds 0 k.body ++ plain semicolon ∷ []) ++ rest_marks (record { name = n; expression = meaning ds k.body } ∷ ds) ks t) ++ ys)) l.name k.name (which_word l.name k.name)
    (compared_next
    (compared_then (λ b. marks ds 0 b ++ plain semicolon ∷ []) (λ b. rest_marks (record { name = l.name; expression = meaning ds b } ∷ ds) ks t) (rest_marks (with_let ds l) ls s) xs ys l.body k.body
    (compare_ended ds l.body k.body _ _ p.0 q.0)
    (compare_rests (with_let ds l) ls s ks t xs ys p.1 i q.1 j)))))

-- the rests of two files, each after a header if it has one
compare_headed : (h : Option ℕ) (ls : List LetSyntax) (s : Syntax) (k : Option ℕ) (ks : List LetSyntax) (t : Syntax) (xs ys : List Mark) → AreLets ls → IsSyntax s → AreLets ks → IsSyntax t
    → Compared ((h ≡ k) × ((ls ≡ ks) × (s ≡ t))) ((header_marks h ++ rest_marks [] ls s) ++ xs) ((header_marks k ++ rest_marks [] ks t) ++ ys)
compare_headed None ls s None ks t xs ys p i q j = compared_map (λ e. (refl, e)) (compare_rests [] ls s ks t xs ys p i q j)
compare_headed None [] s (Some n) ks t xs ys p i q j = apart (here (words_apart (codes "main") (codes "raml") refl))
compare_headed None (l ∷ ls) s (Some n) ks t xs ys p i q j = apart (here (words_apart (codes "let") (codes "raml") refl))
compare_headed (Some m) ls s None [] t xs ys p i q j = apart (here (words_apart (codes "raml") (codes "main") refl))
compare_headed (Some m) ls s None (k ∷ ks) t xs ys p i q j = apart (here (words_apart (codes "raml") (codes "let") refl))
compare_headed (Some m) ls s (Some n) ks t xs ys p i q j =
    compared_map (λ e. (ap Some e.0, e.1))
    (compared_next
    (compared_one header_number (λ x. plain semicolon ∷ (rest_marks [] ks t ++ ys)) m n (which_number m n)
    (compared_next (compare_rests [] ls s ks t xs ys p i q j))))

same_file : (f g : FileSyntax) → (f.header ≡ g.header) × ((f.lets ≡ g.lets) × (f.main ≡ g.main)) → f ≡ g
same_file f g e = λ i. record { header = e.0 i; lets = e.1.0 i; main = e.1.1 i }

-- two files
pub compare_files : (f g : FileSyntax) → IsFile f → IsFile g → Compared (f ≡ g) (file_marks f) (file_marks g)
compare_files f g p q =
    compared_map (same_file f g) (compared_whole (file_marks f) (file_marks g) (compare_headed f.header f.lets f.main g.header g.lets g.main [] [] p.lets p.main q.lets q.main))

-- tokens that begin with a file determine it
pub file_determined : IsDetermined File
file_determined r s xs ys y z p q h = by (compare_files p.syntax q.syntax p.is_file q.is_file)
  where
    by : Compared (p.syntax ≡ q.syntax) (file_marks p.syntax) (file_marks q.syntax) → (r ≡ s) × (xs ≡ ys)
    by (same e) = (p.means ∙ ap file_meaning e ∙ sym q.means, p.marks ∙ ap file_marks e ∙ sym q.marks)
    by (apart d) = absurd (diverging_differ d y z (ap (λ l. toks l ++ y) (sym p.marks) ∙ h ∙ ap (λ l. toks l ++ z) q.marks))

-- one text means at most one algebra
pub one_text : (text : List ℕ) (a b : PureAlg) → ExprText text a → ExprText text b → a ≡ b
one_text text a b p q = by (two_begin [] p.tokens q.tokens text p.rest q.rest p.lexed q.lexed)
  where
    by : ((p.tokens ≡ q.tokens) × (p.rest ≡ q.rest)) ⊎ (GoesBeyond [] p.tokens p.rest q.tokens ⊎ GoesBeyond [] q.tokens q.rest p.tokens) → a ≡ b
    by (inl e) = (file_determined a b (clean p.tokens) (clean q.tokens) [] [] p.file q.file (ap (λ ts. toks (clean ts) ++ []) e.0)).0
    by (inr (inl g)) = absurd (let k : end ≡ token g.0 g.1 = sym p.ended ∙ g.4 in cc)
    by (inr (inr g)) = absurd (let k : end ≡ token g.0 g.1 = sym q.ended ∙ g.4 in cc)
