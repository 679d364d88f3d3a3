-- A file is read statement by statement.
use Rattle.std.proofs.Common.{◌≡◌, ℕ, List, [], ◌∷◌, ◌++◌, Bool, true, false, not, ◌&&◌, ◌||◌, if◌then◌else◌, Option, Some, None, is_some, MatchOption, Result, Ok, Err, codes, length, ◌<◌, arith, true≢false, refl, sym, ap, ap₂, subst, ◌∙◌, append-nil}
use Rattle.meta_base.specs.declared.ids.Place.{Place}
use Rattle.raml_lex.specs.Tokens.{Tok, word, number, semicolon, equals, step_of}
use Rattle.raml_lex.specs.Lexers.{Lexer}
use Rattle.alg_model.specs.Expressions.{Expression, gate}
use Rattle.raml_syntax.specs.declared.faults.ExprKind.TheVariants.{Unexpected, NameTwice}
use Rattle.raml_syntax.specs.declared.faults.AlgError.{AlgError}
use Rattle.raml_syntax.specs.declared.faults.AlgError.TheVariants.{Bad, NoMemory}
use Rattle.raml_syntax.specs.declared.file.Keyword.{Keyword}
use Rattle.raml_syntax.specs.declared.file.Keyword.TheVariants as k
use Rattle.raml_syntax.specs.declared.heads.Ranged.TheVariants as r
use Rattle.raml_syntax.specs.declared.heads.Counted.TheVariants as c
use Rattle.raml_syntax.specs.declared.heads.Paired.TheVariants as p
use Rattle.raml_syntax.specs.declared.heads.Single.TheVariants as s
use Rattle.raml_syntax.specs.declared.heads.Head.{Head}
use Rattle.raml_syntax.specs.declared.heads.Head.TheVariants as h
use Rattle.raml_syntax.specs.Heads.{head_word}
use Rattle.raml_syntax.specs.Definitions.{names_of}
use Rattle.raml_syntax.specs.Syntax.{is_among, is_expression_word, IsSyntax, Syntax, gate_syntax, LetSyntax}
use Rattle.raml_syntax.specs.Meaning.{Definition, meaning, with_let, with_lets}
use Rattle.raml_syntax.specs.Marks.{Mark, plain, plain_word, marks, let_name, rest_marks}
use Rattle.raml_syntax.specs.Productions.{clean}
use Rattle.raml_syntax.specs.Reading.{Takes}
use Rattle.raml_syntax.specs.Leaves.{TakesAt, Misses}
use Rattle.raml_syntax.specs.Sequences.{Nothing, One, Then, Reads, IsDetermined, IsPossible}
use Rattle.raml_syntax.specs.Forms.{After}
use Rattle.raml_syntax.specs.Trees.{Expr, Rest}
use Rattle.raml_syntax.specs.Statements.{is_keyword, is_reserved, keyword_word, Opens, Body, Let, Statement, Leads}
use Rattle.raml_syntax.proofs.Sequences.{fault_inside, reads_not_first, reads_then, one_determined, nothing_determined, then_determined, then_possible}
use Rattle.raml_syntax.proofs.OneToken.{one_misses}
use Rattle.raml_syntax.proofs.After.{following_determined, following_possible, nothing_possible}
use Rattle.raml_syntax.proofs.Shorter.{takes_shorter, takes_no_longer}
use Rattle.raml_syntax.proofs.Expressions.{expr_determined}
use Rattle.raml_syntax.proofs.Files.{AreLets}

-- productions that take the same are read alike
pub reads_as : {R : Type 0} (P Q : R → List Mark → Type 0) (old new : Lexer) (result : Result R AlgError)
    → ((r : R) (ms : List Mark) → P r ms → Q r ms) → ((r : R) (ms : List Mark) → Q r ms → P r ms) → Reads P old result new → Reads Q old result new
reads_as P Q old new (Ok r) to from x = (x.0, to r (clean x.0) x.1, x.2)
reads_as P Q old new (Err (Bad f)) to from x = record {
  front = x.front;
  at = x.at;
  taken = x.taken;
  place = x.place;
  shows = fault_inside P Q (λ r. r) [] x.front (step_of x.at.greatest x.at.rest) f.kind to (λ s ms y z q h. (s, ms, from s ms q, refl)) x.shows;
}
reads_as P Q old new (Err NoMemory) to from x = tt

-- a token was taken that is none of the wanted
pub one_other : {R : Type 0} (f : R → Mark) (r : R) (t : Tok) (p : Place) (old mid new : Lexer)
    → ((r : R) (n : ℕ) → number n ≡ (f r).tok → ⊥) → ((r : R) → (f r).tok ≡ t → ⊥) → TakesAt t p old mid
    → Reads (One f) old (Err (Bad (record { kind = Unexpected; place = p }))) new
one_other {R} f r t p old mid new no_number other takes =
    let W : Tok → Type 0 = λ u. (r : R) × ((f r).tok ≡ u) in
    one_misses f r W (Bad (record { kind = Unexpected; place = p })) old new (λ r. (r, refl)) (λ n w. no_number w.0 n (sym w.1))
    (takes.place, subst (λ s. Misses W s Unexpected) (sym takes.takes.step) (refl, λ w. other w.0 w.1))

-- an expression and its semicolon

pub ended_possible : (a : Expression) → IsPossible (After semicolon (Nothing a))
ended_possible a = following_possible semicolon (Nothing a) (nothing_possible a)

pub body_determined : (ds : List Definition) → IsDetermined (Body ds)
body_determined ds = then_determined (Expr ds 0) (λ a. After semicolon (Nothing a)) (expr_determined ds 0) (λ a. following_determined semicolon (Nothing a) (nothing_determined a))

body_from : (ds : List Definition) (s : Syntax) → IsSyntax s → Body ds (meaning ds s) (marks ds 0 s ++ plain semicolon ∷ [])
body_from ds s i =
    (meaning ds s, marks ds 0 s, plain semicolon ∷ [], record { syntax = s; is_syntax = i; means = refl; marks = refl }, (tt, plain semicolon ∷ [], [], refl, (refl, refl), refl), refl)

body_marks : (ds : List Definition) (a : Expression) (ms : List Mark) → Body ds a ms → (s : Syntax) × IsSyntax s × (a ≡ meaning ds s) × (ms ≡ marks ds 0 s ++ plain semicolon ∷ [])
body_marks ds a ms (b, ps, qs, p, (u, ss, ts, s, n, e2), e) =
    (p.syntax, p.is_syntax, n.0 ∙ p.means, e ∙ ap₂ (λ x y. x ++ y) p.marks (e2 ∙ ap₂ (λ x y. x ++ y) s n.1))

pub body_possible : (ds : List Definition) → IsPossible (Body ds)
body_possible ds = (gate, marks ds 0 gate_syntax ++ plain semicolon ∷ [], body_from ds gate_syntax tt)

-- a `let` after its word

-- what the definition of this name comes to
abbrev pub defined : List Definition → List ℕ → Expression → List Definition
defined ds name a = record { name = name; expression = a } ∷ ds

-- the expression of a `let` of this name, and the definitions with its own
abbrev pub Defined : List Definition → List ℕ → List Definition → List Mark → Type 0
Defined ds name = Then (Body ds) (λ a. Nothing (defined ds name a))

pub name_determined : (ds : List Definition) → IsDetermined (One (let_name ds))
name_determined ds = one_determined (let_name ds) (λ v w h. cc)

pub defined_possible : (ds : List Definition) (name : List ℕ) → IsPossible (Defined ds name)
defined_possible ds name = then_possible (Body ds) (λ a. Nothing (defined ds name a)) (body_possible ds) (λ a. nothing_possible (defined ds name a))

pub let_determined : (ds : List Definition) → IsDetermined (Let ds)
let_determined ds =
    then_determined (One (let_name ds)) (λ name. After equals (Defined ds name)) (name_determined ds)
    (λ name. following_determined equals (Defined ds name) (then_determined (Body ds) (λ a. Nothing (defined ds name a)) (body_determined ds) (λ a. nothing_determined (defined ds name a))))

let_from : (ds : List Definition) (l : LetSyntax) → IsSyntax l.body → Let ds (with_let ds l) (let_name ds l.name ∷ plain equals ∷ (marks ds 0 l.body ++ plain semicolon ∷ []))
let_from ds l i =
    let body = marks ds 0 l.body ++ plain semicolon ∷ [] in (
      l.name,
      let_name ds l.name ∷ [],
      plain equals ∷ body,
      refl,
      (tt, plain equals ∷ [], body, refl, (meaning ds l.body, body, [], body_from ds l.body i, (refl, refl), sym (append-nil body)), refl),
      refl,
    )

let_marks_of : (ds es : List Definition) (ms : List Mark) → Let ds es ms
    → (l : LetSyntax) × IsSyntax l.body × (es ≡ with_let ds l) × (ms ≡ let_name ds l.name ∷ plain equals ∷ (marks ds 0 l.body ++ plain semicolon ∷ []))
let_marks_of ds es ms (name, ns, ws, n, (u, cs, vs, c, (a, bs, zs, body, d, e3), e2), e) =
    let b = body_marks ds a bs body in (
      record { name = name; body = b.0 },
      b.1,
      d.0 ∙ ap (defined ds name) b.2,
      e ∙ ap₂ (λ x y. x ++ y) n (e2 ∙ ap₂ (λ x y. x ++ y) c (e3 ∙ ap₂ (λ x y. x ++ y) b.3 d.1 ∙ append-nil (marks ds 0 b.0 ++ plain semicolon ∷ []))),
    )

pub let_possible : (ds : List Definition) → IsPossible (Let ds)
let_possible ds =
    (with_let ds (record { name = []; body = gate_syntax }), let_name ds [] ∷ plain equals ∷ (marks ds 0 gate_syntax ++ plain semicolon ∷ []), let_from ds (record { name = []; body = gate_syntax }) tt)

-- statements

keyword_says : (x y : Keyword) → (plain_word (keyword_word x)).tok ≡ (plain_word (keyword_word y)).tok → x ≡ y
keyword_says k.Let k.Let h = refl
keyword_says k.Let k.Main h = absurd (cc)
keyword_says k.Main k.Let h = absurd (cc)
keyword_says k.Main k.Main h = refl

pub begun_determined : IsDetermined Opens
begun_determined = one_determined (λ key. plain_word (keyword_word key)) keyword_says

pub rest_possible : (ds : List Definition) → IsPossible (Rest ds)
rest_possible ds = (gate, rest_marks ds [] gate_syntax, record { lets = []; main = gate_syntax; are_lets = tt; is_main = tt; means = refl; marks = refl })

pub statement_possible : (ds : List Definition) (key : Keyword) → IsPossible (Statement ds key)
statement_possible ds k.Let = then_possible (Let ds) Rest (let_possible ds) rest_possible
statement_possible ds k.Main = body_possible ds

-- a statement and what follows it are the rest of a file
pub rest_from : (ds : List Definition) (a : Expression) (ms : List Mark) → Then Opens (Statement ds) a ms → Rest ds a ms
rest_from ds a ms (k.Let, xs, ys, b, (es, us, vs, lt, rest, e2), e) =
    let l = let_marks_of ds es us lt in
    let r : Rest (with_let ds l.0) a vs = subst (λ x. Rest x a vs) l.2 rest in
    record {
      lets = l.0 ∷ r.lets;
      main = r.main;
      are_lets = (l.1, r.are_lets);
      is_main = r.is_main;
      means = r.means;
      marks = e ∙ ap₂ (λ x y. x ++ y) b (e2 ∙ ap₂ (λ x y. x ++ y) l.3 r.marks);
    }
rest_from ds a ms (k.Main, xs, ys, b, body, e) =
    let p = body_marks ds a ys body in
    record { lets = []; main = p.0; are_lets = tt; is_main = p.1; means = p.2; marks = e ∙ ap₂ (λ x y. x ++ y) b p.3 }

pub rest_to : (ds : List Definition) (a : Expression) (ms : List Mark) → Rest ds a ms → Then Opens (Statement ds) a ms
rest_to ds a ms p = by p.lets p.main p.are_lets p.is_main p.means p.marks
  where
    by : (ls : List LetSyntax) (main : Syntax) → AreLets ls → IsSyntax main → a ≡ meaning (with_lets ds ls) main → ms ≡ rest_marks ds ls main → Then Opens (Statement ds) a ms
    by [] main al i m e =
        (k.Main, plain_word (codes "main") ∷ [], marks ds 0 main ++ plain semicolon ∷ [], refl, subst (λ x. Body ds x (marks ds 0 main ++ plain semicolon ∷ [])) (sym m) (body_from ds main i), e)
    by (l ∷ ls) main al i m e =
        let first = let_name ds l.name ∷ plain equals ∷ (marks ds 0 l.body ++ plain semicolon ∷ []) in
        let others = rest_marks (with_let ds l) ls main in (
          k.Let,
          plain_word (codes "let") ∷ [],
          first ++ others,
          refl,
          (with_let ds l, first, others, let_from ds l al.0, record { lets = ls; main = main; are_lets = al.1; is_main = i; means = m; marks = refl }, refl),
          e,
        )

pub rest_read : (ds : List Definition) (old new : Lexer) (result : Result Expression AlgError) → Reads (Then Opens (Statement ds)) old result new → Reads (Rest ds) old result new
rest_read ds old new result x = reads_as (Then Opens (Statement ds)) (Rest ds) old new result (rest_from ds) (rest_to ds) x

-- words

pub no_keyword : (w : List ℕ) → is_keyword w ≡ false → (key : Keyword) → word (keyword_word key) ≡ word w → ⊥
no_keyword w n k.Let e = let p : codes "let" ≡ w = cc in true≢false (ap is_keyword p ∙ n)
no_keyword w n k.Main e = let p : codes "main" ≡ w = cc in true≢false (ap is_keyword p ∙ n)

keyword_is_one : (key : Keyword) → is_keyword (keyword_word key) ≡ true
keyword_is_one k.Let = refl
keyword_is_one k.Main = refl

pub is_some_keyword : (o : Option Keyword) (w : List ℕ) → MatchOption o (is_keyword w ≡ false) (λ key. keyword_word key ≡ w) → is_some o ≡ is_keyword w
is_some_keyword None w h = sym h
is_some_keyword (Some key) w h = sym (keyword_is_one key) ∙ ap is_keyword h

head_is_one : (head : Head) → is_expression_word (head_word head) ≡ true
head_is_one h.Add = refl
head_is_one (h.Ranged r.Cap) = refl
head_is_one (h.Ranged r.Worst) = refl
head_is_one (h.Ranged r.Width) = refl
head_is_one (h.Counted c.Pref) = refl
head_is_one (h.Counted c.Orig) = refl
head_is_one (h.Counted c.Seq) = refl
head_is_one (h.Counted c.SimSeq) = refl
head_is_one (h.Counted c.Tags) = refl
head_is_one (h.Counted c.Guard) = refl
head_is_one h.Gate = refl
head_is_one h.Table = refl
head_is_one (h.Paired p.Lex) = refl
head_is_one (h.Paired p.Scoped) = refl
head_is_one (h.Paired p.Union) = refl
head_is_one (h.Paired p.Sum) = refl
head_is_one (h.Paired p.Plus) = refl
head_is_one (h.Single s.Left) = refl
head_is_one (h.Single s.Right) = refl

pub is_some_head : (o : Option Head) (w : List ℕ) → MatchOption o (is_expression_word w ≡ false) (λ head. head_word head ≡ w) → is_some o ≡ is_expression_word w
is_some_head None w h = sym h
is_some_head (Some head) w h = sym (head_is_one head) ∙ ap is_expression_word h

-- the fault at the name of a `let`
name_fault : (a b c : Bool) → (if not a && not b && not c then None else Some NameTwice) ≡ (if (a || b) || c then Some NameTwice else None)
name_fault true b c = refl
name_fault false true c = refl
name_fault false false true = refl
name_fault false false false = refl

pub name_taken : (ds : List Definition) (w : List ℕ) → (is_reserved w || is_among (names_of ds) w) ≡ true → (let_name ds w).fault ≡ Some NameTwice
name_taken ds w h = name_fault (is_expression_word w) (is_keyword w) (is_among (names_of ds) w) ∙ ap (λ b. if b then Some NameTwice else None) h

pub name_free : (ds : List Definition) (w : List ℕ) → (is_reserved w || is_among (names_of ds) w) ≡ false → (let_name ds w).fault ≡ None
name_free ds w h = name_fault (is_expression_word w) (is_keyword w) (is_among (names_of ds) w) ∙ ap (λ b. if b then Some NameTwice else None) h

-- what stood before leads here

-- a `let` was read, and then a word that begins a statement
pub leads_on : (first key : Keyword) (old now mid new : Lexer) (ds es : List Definition)
    → Leads first old ds k.Let now → Reads (Let ds) now (Ok es) mid → Reads Opens mid (Ok key) new → Leads first old es key new
leads_on first key old now mid new ds es leads x y result last z =
    leads result last (reads_then (Let ds) Rest now mid last es result (let_determined ds) x (rest_read es mid last result (reads_then Opens (Statement es) mid new last key result begun_determined y z)))

-- a `let` was read, and no statement begins after it
pub leads_missing : (first : Keyword) (old now mid new : Lexer) (ds es : List Definition) (e : AlgError)
    → Leads first old ds k.Let now → Reads (Let ds) now (Ok es) mid → Reads Opens mid (Err e) new → Reads (Statement [] first) old (Err e) new
leads_missing first old now mid new ds es e leads x y =
    leads (Err e) new (reads_then (Let ds) Rest now mid new es (Err e) (let_determined ds) x (rest_read es mid new (Err e) (reads_not_first Opens (Statement es) mid new e (statement_possible es) y)))

-- a `let` was not read
pub leads_broken : (first : Keyword) (old now new : Lexer) (ds : List Definition) (e : AlgError) → Leads first old ds k.Let now → Reads (Let ds) now (Err e) new → Reads (Statement [] first) old (Err e) new
leads_broken first old now new ds e leads x = leads (Err e) new (reads_not_first (Let ds) Rest now new e rest_possible x)

-- the word that begins a statement makes the text shorter
pub begun_shorter : (key : Keyword) (old new : Lexer) → Reads Opens old (Ok key) new → length new.rest < length old.rest
begun_shorter key old new x = by x.0 x.1 x.2
  where
    by : (ts : List Tok) → clean ts ≡ plain_word (keyword_word key) ∷ [] → Takes ts old new → length new.rest < length old.rest
    by [] e p = absurd (cc)
    by (t ∷ ts) e p =
        let first = takes_shorter t old p.0 p.1 in
        let others = takes_no_longer ts p.0 new p.2 in
        omega arith
