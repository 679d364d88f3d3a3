-- A text has at most one fault, and none if it means an algebra.
use Rattle.std.proofs.Common.{◌≡◌, ◌⊎◌, inl, inr, ℕ, false, List, [], ◌∷◌, ◌++◌, length, Some, None, refl, sym, ap, ap₂, subst, ◌∙◌, append_assoc, append-nil, length-append, arith}
use Rattle.raml_lex.specs.declared.token.LexKind.TheVariants as lex
use Rattle.raml_lex.specs.Gaps.{gap_of}
use Rattle.raml_lex.specs.Places.{place_after}
use Rattle.raml_lex.specs.Tokens.{Tok, number, Step, end, bad, token, step_of}
use Rattle.alg_model.specs.Expressions.{PureAlg}
use Rattle.raml_syntax.specs.declared.faults.ExprFault.{ExprFault}
use Rattle.raml_syntax.specs.declared.faults.ExprKind.{ExprKind}
use Rattle.raml_syntax.specs.declared.faults.ExprKind.TheVariants.{BadByte, Unexpected, NumberTooLarge}
use Rattle.raml_syntax.specs.Marks.{Mark, plain, file_marks}
use Rattle.raml_syntax.specs.Productions.{clean, toks, Begins, TakesNumber, Refuses}
use Rattle.raml_syntax.specs.Trees.{File}
use Rattle.raml_syntax.specs.ExprText.{greatest_following, ExprText, Stands, IsExprFault}
use Rattle.raml_syntax.proofs.Sequences.{toks-append, clean-append, toks-clean}
use Rattle.raml_syntax.proofs.Compare.{Diverges, here, next, Compared, same, apart}
use Rattle.raml_syntax.proofs.Beginnings.{GoesBeyond, two_begin}
use Rattle.raml_syntax.proofs.Files.{compare_files, file_determined}

-- after the same marks stand the same token and the same fault, where the tokens agree
agree : {xs ys : List Mark} → Diverges xs ys → (front : List Mark) (x y : Mark) (more others : List Mark) → xs ≡ front ++ x ∷ more → ys ≡ front ++ y ∷ others → x.tok ≡ y.tok → x ≡ y
agree (here {x = u} {y = v} n) [] x y more others e f h =
    let a : u ≡ x = cc in
    let b : v ≡ y = cc in
    absurd (n (ap (λ (m : Mark). m.tok) a ∙ h ∙ ap (λ (m : Mark). m.tok) (sym b)))
agree (here {x = u} {y = v} n) (p ∷ front) x y more others e f h =
    let a : u ≡ p = cc in
    let b : v ≡ p = cc in
    absurd (n (ap (λ (m : Mark). m.tok) (a ∙ sym b)))
agree (next {x = u} d) [] x y more others e f h =
    let a : u ≡ x = cc in
    let b : u ≡ y = cc in
    sym a ∙ b
agree (next d) (p ∷ front) x y more others e f h = agree d front x y more others (cc) (cc) h

-- what stands after the same marks is the same
cancel_marks : (front xs ys : List Mark) → front ++ xs ≡ front ++ ys → xs ≡ ys
cancel_marks [] xs ys e = e
cancel_marks (m ∷ front) xs ys e = cancel_marks front xs ys cc

-- two files with the same marks up to a place, and the same token there, have the same fault there
files_agree : (a b : PureAlg) (front : List Mark) (x y : Mark) (more others : List Mark) → File a (front ++ x ∷ more) → File b (front ++ y ∷ others) → x.tok ≡ y.tok → x ≡ y
files_agree a b front x y more others p q h = by (compare_files p.syntax q.syntax p.is_file q.is_file)
  where
    by : Compared (p.syntax ≡ q.syntax) (file_marks p.syntax) (file_marks q.syntax) → x ≡ y
    by (same e) =
        let k : x ∷ more ≡ y ∷ others = cancel_marks front (x ∷ more) (y ∷ others) (p.marks ∙ ap file_marks e ∙ sym q.marks) in
        cc
    by (apart d) = agree d front x y more others (sym p.marks) (sym q.marks) h

-- the tokens of marks after a front
toks_following : (front : List Tok) (m : Mark) (more : List Mark) → toks (clean front ++ m ∷ more) ++ [] ≡ front ++ m.tok ∷ toks more
toks_following front m more = append-nil (toks (clean front ++ m ∷ more)) ∙ toks-append (clean front) (m ∷ more) ∙ ap (λ l. l ++ m.tok ∷ toks more) (toks-clean front)

-- after a whole file nothing goes on
whole_ends : (front : List Tok) (a b : PureAlg) (m : Mark) (more : List Mark) → File a (clean front) → File b (clean front ++ m ∷ more) → ⊥
whole_ends front a b m more p q =
    let e = file_determined a b (clean front) (clean front ++ m ∷ more) (m.tok ∷ toks more) [] p q (sym (toks-append (clean front) (m ∷ more)) ∙ sym (append-nil (toks (clean front ++ m ∷ more)))) in
    let k : [] ≡ m ∷ more = cancel_marks (clean front) [] (m ∷ more) (append-nil (clean front) ∙ e.1) in
    cc

-- what is refused is in no file
refused : (front : List Tok) (t : Tok) (a : PureAlg) (m : Mark) (more : List Mark) → Refuses File front t → m.tok ≡ t → File a (clean front ++ m ∷ more) → ⊥
refused front t a m more refuses e p = refuses a (clean front ++ m ∷ more) [] (toks more) p (toks_following front m more ∙ ap (λ u. front ++ u ∷ toks more) e)

-- no fault of meaning stands where a file has none
no_fault : (front : List Tok) (t : Tok) (rest : List ℕ) (k : ExprKind) (a : PureAlg) (more : List Mark) → File a (clean front ++ plain t ∷ more) → Stands front (token t rest) k → ⊥
no_fault front t rest k a more p (inl (inl s)) =
    let e = files_agree s.0 a (clean front) (record { tok = t; fault = Some k }) (plain t) s.1 more s.2 p refl in
    let f : Some k ≡ None = ap (λ (m : Mark). m.fault) e in
    cc
no_fault front t rest k a more p (inl (inr s)) = refused front t a (plain t) more s.2 refl p
no_fault front t rest k a more p (inr s) = whole_ends front s.0.0 a (plain t) more s.0.1 p

-- the front is that of a file
abbrev Goes : List Tok → Type 0
Goes front = (a : PureAlg) × (more : List Mark) × File a (clean front ++ more)

fault_goes : (front : List Tok) (step : Step) (k : ExprKind) → Stands front step k → Goes front
fault_goes front step k (inr s) = (s.0.0, [], subst (File s.0.0) (sym (append-nil (clean front))) s.0.1)
fault_goes front end k (inl s) = (s.1.0, s.1.1 ∷ s.1.2, s.1.3)
fault_goes front (bad lex.BadByte) k (inl s) = (s.1.0, s.1.1 ∷ s.1.2, s.1.3)
fault_goes front (bad lex.NumberTooLarge) k (inl (inl s)) = (s.1.0, s.1.2 ∷ s.1.3, s.1.5)
fault_goes front (bad lex.NumberTooLarge) k (inl (inr s)) = (s.1.0, s.1.1 ∷ s.1.2, s.1.3)
fault_goes front (token t rest) k (inl (inl s)) = (s.0, record { tok = t; fault = Some k } ∷ s.1, s.2)
fault_goes front (token t rest) k (inl (inr s)) = (s.1.0, s.1.1 ∷ s.1.2, s.1.3)

-- so a front that is taken further has no fault after it
no_fault_within : (front all more : List Tok) (t : Tok) (rest : List ℕ) (k : ExprKind) → all ≡ front ++ t ∷ more → Goes all → Stands front (token t rest) k → ⊥
no_fault_within front all more t rest k e g s =
    let marks : clean all ++ g.1 ≡ clean front ++ plain t ∷ (clean more ++ g.1) =
    ap (λ l. clean l ++ g.1) e ∙ ap (λ l. l ++ g.1) (clean-append front (t ∷ more)) ∙ append_assoc (clean front) (plain t ∷ clean more) g.1 in
    no_fault front t rest k g.0 (clean more ++ g.1) (subst (File g.0) marks g.2) s

-- at one place stands one fault
bad_byte : (front : List Tok) (k : ExprKind) → Stands front (bad lex.BadByte) k → k ≡ BadByte
bad_byte front k (inl s) = s.0
bad_byte front k (inr s) = s.1

-- a number can't both be taken and be refused
too_large_refused : (front : List Tok) (k l : ExprKind) → (k ≡ NumberTooLarge) × TakesNumber File front → (l ≡ Unexpected) × Begins File front × ((n : ℕ) → Refuses File front (number n)) → ⊥
too_large_refused front k l s u = refused front (number s.1.1) s.1.0 s.1.2 s.1.3 (u.2 s.1.1) s.1.4 s.1.5

-- the same step after the same front has one fault
same_kind : (front : List Tok) (step : Step) (k l : ExprKind) → Stands front step k → Stands front step l → k ≡ l
same_kind front end k l (inl s) (inl u) = s.0 ∙ sym u.0
same_kind front end k l (inl s) (inr u) = absurd u.1
same_kind front end k l (inr s) u = absurd s.1
same_kind front (bad lex.BadByte) k l s u = bad_byte front k s ∙ sym (bad_byte front l u)
same_kind front (bad lex.NumberTooLarge) k l (inl (inl s)) (inl (inl u)) = s.0 ∙ sym u.0
same_kind front (bad lex.NumberTooLarge) k l (inl (inl s)) (inl (inr u)) = absurd (too_large_refused front k l s u)
same_kind front (bad lex.NumberTooLarge) k l (inl (inr s)) (inl (inl u)) = absurd (too_large_refused front l k u s)
same_kind front (bad lex.NumberTooLarge) k l (inl (inr s)) (inl (inr u)) = s.0 ∙ sym u.0
same_kind front (bad lex.NumberTooLarge) k l (inl (inl s)) (inr u) = s.0 ∙ sym u.1
same_kind front (bad lex.NumberTooLarge) k l (inl (inr s)) (inr u) = absurd (whole_ends front u.0.0 s.1.0 s.1.1 s.1.2 u.0.1 s.1.3)
same_kind front (bad lex.NumberTooLarge) k l (inr s) (inl (inl u)) = s.1 ∙ sym u.0
same_kind front (bad lex.NumberTooLarge) k l (inr s) (inl (inr u)) = absurd (whole_ends front s.0.0 u.1.0 u.1.1 u.1.2 s.0.1 u.1.3)
same_kind front (bad lex.NumberTooLarge) k l (inr s) (inr u) = s.1 ∙ sym u.1
same_kind front (token t rest) k l (inl (inl s)) (inl (inl u)) =
    let e = files_agree s.0 u.0 (clean front) (record { tok = t; fault = Some k }) (record { tok = t; fault = Some l }) s.1 u.1 s.2 u.2 refl in
    let f : Some k ≡ Some l = ap (λ (m : Mark). m.fault) e in
    cc
same_kind front (token t rest) k l (inl (inl s)) (inl (inr u)) = absurd (refused front t s.0 (record { tok = t; fault = Some k }) s.1 u.2 refl s.2)
same_kind front (token t rest) k l (inl (inr s)) (inl (inl u)) = absurd (refused front t u.0 (record { tok = t; fault = Some l }) u.1 s.2 refl u.2)
same_kind front (token t rest) k l (inl (inr s)) (inl (inr u)) = s.0 ∙ sym u.0
same_kind front (token t rest) k l (inl (inl s)) (inr u) = absurd (whole_ends front u.0.0 s.0 (record { tok = t; fault = Some k }) s.1 u.0.1 s.2)
same_kind front (token t rest) k l (inl (inr s)) (inr u) = absurd (whole_ends front u.0.0 s.1.0 s.1.1 s.1.2 u.0.1 s.1.3)
same_kind front (token t rest) k l (inr s) (inl (inl u)) = absurd (whole_ends front s.0.0 u.0 (record { tok = t; fault = Some l }) u.1 s.0.1 u.2)
same_kind front (token t rest) k l (inr s) (inl (inr u)) = absurd (whole_ends front s.0.0 u.1.0 u.1.1 u.1.2 s.0.1 u.1.3)
same_kind front (token t rest) k l (inr s) (inr u) = s.1 ∙ sym u.1

-- what stands before the same end is the same
cancel_end : (xs ys z : List ℕ) → xs ++ z ≡ ys ++ z → xs ≡ ys
cancel_end [] [] z e = refl
cancel_end [] (y ∷ ys) z e = absurd (omega (arith, ap length e, length-append (y ∷ ys) z))
cancel_end (x ∷ xs) [] z e = absurd (omega (arith, ap length e, length-append (x ∷ xs) z))
cancel_end (x ∷ xs) (y ∷ ys) z e =
    let a : x ≡ y = cc in
    let b : xs ≡ ys = cancel_end xs ys z cc in
    ap₂ (λ n ns. n ∷ ns) a b

-- one text has at most one fault
pub one_fault : (text : List ℕ) (f g : ExprFault) → IsExprFault text f → IsExprFault text g → f ≡ g
one_fault text f g p q = by (two_begin [] p.front q.front text p.rest q.rest p.lexed q.lexed)
  where
    by : ((p.front ≡ q.front) × (p.rest ≡ q.rest)) ⊎ (GoesBeyond [] p.front p.rest q.front ⊎ GoesBeyond [] q.front q.rest p.front) → f ≡ g
    by (inl e) =
        let passed : p.passed ≡ q.passed = cancel_end p.passed q.passed q.rest (ap (λ l. p.passed ++ l) (sym e.1) ∙ sym p.split ∙ q.split) in
        let place : f.place ≡ g.place = p.place ∙ ap₂ (λ x y. place_after (x ++ gap_of false y)) passed e.1 ∙ sym q.place in
        let shows : Stands p.front (step_of (greatest_following p.front) p.rest) g.kind =
        subst (λ l. Stands l (step_of (greatest_following l) p.rest) g.kind) (sym e.0) (subst (λ x. Stands q.front (step_of (greatest_following q.front) x) g.kind) (sym e.1) q.shows) in
        let kind : f.kind ≡ g.kind = same_kind p.front (step_of (greatest_following p.front) p.rest) f.kind g.kind p.shows shows in
        λ i. record { place = place i; kind = kind i }
    by (inr (inl k)) = absurd (no_fault_within p.front q.front k.2 k.0 k.1 f.kind k.3 (fault_goes q.front _ g.kind q.shows) (subst (λ x. Stands p.front x f.kind) k.4 p.shows))
    by (inr (inr k)) = absurd (no_fault_within q.front p.front k.2 k.0 k.1 g.kind k.3 (fault_goes p.front _ f.kind p.shows) (subst (λ x. Stands q.front x g.kind) k.4 q.shows))

-- a text that means an algebra has no fault
pub no_text_fault : (text : List ℕ) (a : PureAlg) (f : ExprFault) → ExprText text a → IsExprFault text f → ⊥
no_text_fault text a f p q = by (two_begin [] p.tokens q.front text p.rest q.rest p.lexed q.lexed)
  where
    ended : (k : ExprKind) → File a (clean q.front) → Stands q.front end k → ⊥
    ended k w (inl s) = whole_ends q.front a s.1.0 s.1.1 s.1.2 w s.1.3
    ended k w (inr s) = s.1

    by : ((p.tokens ≡ q.front) × (p.rest ≡ q.rest)) ⊎ (GoesBeyond [] p.tokens p.rest q.front ⊎ GoesBeyond [] q.front q.rest p.tokens) → ⊥
    by (inl e) =
        let none : step_of (greatest_following q.front) q.rest ≡ end = subst (λ l. step_of (greatest_following l) q.rest ≡ end) e.0 (subst (λ x. step_of (greatest_following p.tokens) x ≡ end) e.1 p.ended) in
        ended f.kind (subst (λ ts. File a (clean ts)) e.0 p.file) (subst (λ x. Stands q.front x f.kind) none q.shows)
    by (inr (inl g)) = let k : end ≡ token g.0 g.1 = sym p.ended ∙ g.4 in absurd (cc)
    by (inr (inr g)) =
        no_fault_within q.front p.tokens g.2 g.0 g.1 f.kind g.3 (a, [], subst (File a) (sym (append-nil (clean p.tokens))) p.file) (subst (λ x. Stands q.front x f.kind) g.4 q.shows)
