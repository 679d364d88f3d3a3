-- A file is read as its header, if it has one, and then its statements.
use Rattle.std.proofs.Common.{◌≡◌, inl, inr, ℕ, ◌+◌, ◌≤◌, List, [], ◌∷◌, ◌++◌, length, true, false, Option, Some, None, Result, Ok, Err, codes, bytes_eq, arith, true≢false, refl, sym, ap, ap₂, subst, ◌∙◌, append_assoc, length-append}
use Rattle.std.proofs.lemmas.Bool.{cond-true, cond-false}
use Rattle.std.proofs.lemmas.List.{length-map}
use Rattle.meta_base.specs.declared.limits.TheConstants.{MAX_NUMBER}
use Rattle.meta_base.specs.declared.ids.Place.{Place}
use Rattle.raml_lex.specs.declared.token.LexKind.TheVariants as lex
use Rattle.raml_lex.specs.Tokens.{Tok, word, number, semicolon, Step, end, bad, token, step_of}
use Rattle.raml_lex.specs.Lexers.{Lexer, next_place}
use Rattle.alg_model.specs.declared.edition.Edition.{Edition}
use Rattle.alg_model.specs.declared.edition.Edition.TheVariants as profile
use Rattle.alg_model.specs.Bounds.{greatest_number}
use Rattle.alg_model.specs.Expressions.{Expression, PureAlg}
use Rattle.raml_syntax.specs.declared.faults.ExprKind.{ExprKind}
use Rattle.raml_syntax.specs.declared.faults.ExprKind.TheVariants.{UnknownProfile}
use Rattle.raml_syntax.specs.declared.faults.ExprFault.{ExprFault}
use Rattle.raml_syntax.specs.declared.faults.AlgError.{AlgError}
use Rattle.raml_syntax.specs.declared.faults.AlgError.TheVariants.{Bad, NoMemory}
use Rattle.raml_syntax.specs.declared.file.Keyword.{Keyword}
use Rattle.raml_syntax.specs.declared.file.Keyword.TheVariants as k
use Rattle.raml_syntax.specs.declared.file.Opening.{Opening}
use Rattle.raml_syntax.specs.declared.file.Opening.TheVariants as o
use Rattle.raml_syntax.specs.Meaning.{edition_of}
use Rattle.raml_syntax.specs.Marks.{Mark, plain, plain_word, header_number, header_marks, is_profile, rest_marks}
use Rattle.raml_syntax.specs.Productions.{clean, toks, FaultAt}
use Rattle.raml_syntax.specs.Reading.{TakesOne, Takes}
use Rattle.raml_syntax.specs.Leaves.{TakesAt, MissesNumber, IsRefusal}
use Rattle.raml_syntax.specs.Sequences.{Nothing, One, Then, Reads, IsDetermined, IsPossible, map_ok}
use Rattle.raml_syntax.specs.Forms.{After}
use Rattle.raml_syntax.specs.Trees.{Rest, File}
use Rattle.raml_syntax.specs.ExprText.{header_from, greatest_following, BeginsWith, IsExprFault}
use Rattle.raml_syntax.specs.Statements.{keyword_word, start, Opens, Statement, IsAlgError}
use Rattle.raml_syntax.specs.Headers.{is_opening, opening_word, Starts, Profile, InEdition, Opened, HasTaken, ReadsText, alg_in, LeadsText}
use Rattle.raml_syntax.proofs.Sequences.{clean-append, toks-clean, takes-append, fault_first, fault_second, fault_inside, reads_not_first, reads_then, one_determined, nothing_determined, then_determined, then_possible}
use Rattle.raml_syntax.proofs.Compare.{words_apart}
use Rattle.raml_syntax.proofs.OneToken.{one_good, one_bad, one_misses_number}
use Rattle.raml_syntax.proofs.After.{following_determined, following_possible, nothing_possible}
use Rattle.raml_syntax.proofs.Beginnings.{IsSettled, settled_more, begins_append}
use Rattle.raml_syntax.proofs.Statements.{begun_determined, statement_possible, rest_possible, rest_read, rest_from, rest_to}

-- words

opening_says : (x y : Opening) → (plain_word (opening_word x)).tok ≡ (plain_word (opening_word y)).tok → x ≡ y
opening_says o.Header o.Header h = refl
opening_says o.Header (o.Statement k.Let) h = absurd (words_apart (codes "raml") (codes "let") refl h)
opening_says o.Header (o.Statement k.Main) h = absurd (words_apart (codes "raml") (codes "main") refl h)
opening_says (o.Statement k.Let) o.Header h = absurd (words_apart (codes "let") (codes "raml") refl h)
opening_says (o.Statement k.Let) (o.Statement k.Let) h = refl
opening_says (o.Statement k.Let) (o.Statement k.Main) h = absurd (words_apart (codes "let") (codes "main") refl h)
opening_says (o.Statement k.Main) o.Header h = absurd (words_apart (codes "main") (codes "raml") refl h)
opening_says (o.Statement k.Main) (o.Statement k.Let) h = absurd (words_apart (codes "main") (codes "let") refl h)
opening_says (o.Statement k.Main) (o.Statement k.Main) h = refl

pub no_opening : (w : List ℕ) → is_opening w ≡ false → (x : Opening) → word (opening_word x) ≡ word w → ⊥
no_opening w n o.Header e = let p : codes "raml" ≡ w = cc in true≢false (ap is_opening p ∙ n)
no_opening w n (o.Statement k.Let) e = let p : codes "let" ≡ w = cc in true≢false (ap is_opening p ∙ n)
no_opening w n (o.Statement k.Main) e = let p : codes "main" ≡ w = cc in true≢false (ap is_opening p ∙ n)

starts_determined : IsDetermined Starts
starts_determined = one_determined (λ x. plain_word (opening_word x)) opening_says

-- the number of a header and its semicolon

-- what follows the number
abbrev pub Ended : ℕ → Edition → List Mark → Type 0
Ended n = After semicolon (Nothing (edition_of (Some n)))

pub ended_possible : (n : ℕ) → IsPossible (Ended n)
ended_possible n = following_possible semicolon (Nothing (edition_of (Some n))) (nothing_possible (edition_of (Some n)))

number_determined : IsDetermined (One header_number)
number_determined = one_determined header_number (λ m n h. cc)

profile_determined : IsDetermined Profile
profile_determined =
    then_determined (One header_number) Ended number_determined
    (λ n. following_determined semicolon (Nothing (edition_of (Some n))) (nothing_determined (edition_of (Some n))))

profile_possible : IsPossible Profile
profile_possible = then_possible (One header_number) Ended (1, header_number 1 ∷ [], refl) ended_possible

-- its marks
profile_marks : (edition : Edition) (ms : List Mark) → Profile edition ms → (n : ℕ) × (edition ≡ edition_of (Some n)) × (ms ≡ header_number n ∷ plain semicolon ∷ [])
profile_marks edition ms (n, ns, ws, hn, (u, cs, vs, c, d, e2), e) =
    (n, d.0, e ∙ ap₂ (λ x y. x ++ y) hn (e2 ∙ ap₂ (λ x y. x ++ y) c d.1))

profile_from : (n : ℕ) → Profile (edition_of (Some n)) (header_number n ∷ plain semicolon ∷ [])
profile_from n = (n, header_number n ∷ [], plain semicolon ∷ [], refl, (tt, plain semicolon ∷ [], [], refl, (refl, refl), refl), refl)

-- no number stands after the word
pub profile_misses : (old new : Lexer) (e : AlgError) → IsRefusal MissesNumber old e → Reads Profile old (Err e) new
profile_misses old new e l = reads_not_first (One header_number) Ended old new e ended_possible (one_misses_number header_number 0 0 e old new refl (λ n. (n, refl)) l)

-- no profile has the number
pub profile_unknown : (n : ℕ) (p : Place) (old mid new : Lexer) → is_profile n ≡ false → TakesAt (number n) p old mid → Reads Profile old (Err (Bad (record { kind = UnknownProfile; place = p }))) new
profile_unknown n p old mid new h takes =
    reads_not_first (One header_number) Ended old new (Bad (record { kind = UnknownProfile; place = p })) ended_possible
    (one_bad header_number n (number n) UnknownProfile p old mid new refl (cond-false (is_profile n) None (Some UnknownProfile) h) takes)

-- the number was taken
pub profile_then : (n : ℕ) (old mid new : Lexer) (result : Result Edition AlgError) → is_profile n ≡ true → TakesOne (number n) old mid → Reads (Ended n) mid result new → Reads Profile old result new
profile_then n old mid new result h takes x =
    reads_then (One header_number) Ended old mid new n result number_determined
    (one_good header_number n (number n) old mid refl (cond-true (is_profile n) None (Some UnknownProfile) h) takes) x

-- a file is its first word and what follows that

same_alg : (a : PureAlg) (e : Expression) (edition : Edition) → a.expression ≡ e → a.edition ≡ edition → a ≡ alg_in edition e
same_alg a e edition p q = λ i. record { expression = p i; edition = q i }

file_from : (a : PureAlg) (ms : List Mark) → Then Starts Opened a ms → File a ms
file_from a ms (o.Header, xs, ys, b, (edition, us, vs, prof, (ed, rest), e2), e) =
    let p = profile_marks edition us prof in
    record {
      syntax = record { header = Some p.0; lets = rest.lets; main = rest.main };
      is_file = record { lets = rest.are_lets; main = rest.is_main };
      means = same_alg a _ _ rest.means (ed ∙ p.1);
      marks = e ∙ ap₂ (λ x y. x ++ y) b (e2 ∙ ap₂ (λ x y. x ++ y) p.2 rest.marks);
    }
file_from a ms (o.Statement key, xs, ys, b, (ed, statement), e) =
    let rest = rest_from [] a.expression ms (key, xs, ys, b, statement, e) in
    record {
      syntax = record { header = None; lets = rest.lets; main = rest.main };
      is_file = record { lets = rest.are_lets; main = rest.is_main };
      means = same_alg a _ _ rest.means ed;
      marks = rest.marks;
    }

file_to : (a : PureAlg) (ms : List Mark) → File a ms → Then Starts Opened a ms
file_to a ms p =
    by p.syntax.header (ap (λ (x : PureAlg). x.edition) p.means) p.marks
  where
    rest : Rest [] a.expression (rest_marks [] p.syntax.lets p.syntax.main)
    rest = record {
      lets = p.syntax.lets;
      main = p.syntax.main;
      are_lets = p.is_file.lets;
      is_main = p.is_file.main;
      means = ap (λ (x : PureAlg). x.expression) p.means;
      marks = refl;
    }

    by : (header : Option ℕ) → a.edition ≡ edition_of header → ms ≡ header_marks header ++ rest_marks [] p.syntax.lets p.syntax.main → Then Starts Opened a ms
    by None ed e =
        let r = rest_to [] a.expression ms (subst (Rest [] a.expression) (sym e) rest) in
        (o.Statement r.0, r.1, r.2, r.3, (ed, r.4), r.5)
    by (Some n) ed e = (
      o.Header,
      plain_word (codes "raml") ∷ [],
      header_number n ∷ plain semicolon ∷ rest_marks [] p.syntax.lets p.syntax.main,
      refl,
      (edition_of (Some n), header_number n ∷ plain semicolon ∷ [], rest_marks [] p.syntax.lets p.syntax.main, profile_from n, (ed, rest), refl),
      e,
    )

in_possible : (edition : Edition) (P : Expression → List Mark → Type 0) → IsPossible P → IsPossible (InEdition edition P)
in_possible edition P p = (alg_in edition p.0, p.1, (refl, p.2))

opened_possible : (x : Opening) → IsPossible (Opened x)
opened_possible o.Header = then_possible Profile (λ edition. InEdition edition (Rest [])) profile_possible (λ edition. in_possible edition (Rest []) (rest_possible []))
opened_possible (o.Statement key) = in_possible profile.One (Statement [] key) (statement_possible [] key)

-- faults of parts are faults of the file

fault_in_file : (front : List Tok) (step : Step) (k : ExprKind) → FaultAt (Then Starts Opened) front step k → FaultAt File front step k
fault_in_file front step k f = fault_inside (Then Starts Opened) File (λ a. a) [] front step k file_from (λ s ms y z q h. (s, ms, file_to s ms q, refl)) f

fault_in_edition : (edition : Edition) (P : Expression → List Mark → Type 0) (front : List Tok) (step : Step) (k : ExprKind) → FaultAt P front step k → FaultAt (InEdition edition P) front step k
fault_in_edition edition P front step k f =
    fault_inside P (InEdition edition P) (alg_in edition) [] front step k (λ r ms p. (refl, p)) (λ s ms y z q h. (s.expression, ms, q.1, refl)) f

-- after the first word
fault_opened : (x : Opening) (ts front : List Tok) (step : Step) (k : ExprKind) → Starts x (clean ts) → FaultAt (Opened x) front step k → FaultAt File (ts ++ front) step k
fault_opened x ts front step k s f = fault_in_file (ts ++ front) step k (fault_second Starts Opened x ts front step k starts_determined s f)

-- in a header
fault_header : (ts front : List Tok) (step : Step) (k : ExprKind) → Starts o.Header (clean ts) → FaultAt Profile front step k → FaultAt File (ts ++ front) step k
fault_header ts front step k s f =
    fault_opened o.Header ts front step k s
    (fault_first Profile (λ edition. InEdition edition (Rest [])) front step k (λ edition. in_possible edition (Rest []) (rest_possible [])) f)

-- after a header
fault_headed : (edition : Edition) (ts us front : List Tok) (step : Step) (k : ExprKind) → Starts o.Header (clean ts) → Profile edition (clean us) → FaultAt (Rest []) front step k
    → FaultAt File (ts ++ (us ++ front)) step k
fault_headed edition ts us front step k s p f =
    fault_opened o.Header ts (us ++ front) step k s
    (fault_second Profile (λ e. InEdition e (Rest [])) edition us front step k profile_determined p (fault_in_edition edition (Rest []) front step k f))

-- taking tokens

takes_split : (ts : List Tok) (old new : Lexer) → Takes ts old new → old.before ++ old.rest ≡ new.before ++ new.rest
takes_split [] old new p = ap (λ (x : Lexer). x.before ++ x.rest) p
takes_split (t ∷ ts) old new p =
    ap (λ l. old.before ++ l) p.1.rest ∙ sym (append_assoc old.before p.1.passed p.0.rest) ∙ ap (λ l. l ++ p.0.rest) (sym p.1.before) ∙ takes_split ts p.0 new p.2

takes_greatest : (ts : List Tok) (old new : Lexer) → Takes ts old new → new.greatest ≡ old.greatest
takes_greatest [] old new p = ap (λ (x : Lexer). x.greatest) (sym p)
takes_greatest (t ∷ ts) old new p = takes_greatest ts p.0 new p.2 ∙ p.1.greatest

takes_begin : (before ts : List Tok) (old new : Lexer) → IsSettled before → old.greatest ≡ greatest_following before → Takes ts old new → BeginsWith before ts old.rest new.rest
takes_begin before [] old new s e p = ap (λ (x : Lexer). x.rest) p
takes_begin before (t ∷ ts) old new s e p = (
  p.0.rest,
  ap (λ g. step_of g old.rest) (sym e) ∙ p.1.step,
  takes_begin (before ++ t ∷ []) ts p.0 new (settled_more before t s) (p.1.greatest ∙ e ∙ sym (s (t ∷ []))) p.2,
)

-- more tokens were taken, where the greatest number stays the same
taken_more : (text : List ℕ) (ts us : List Tok) (old new : Lexer) → HasTaken text ts old → IsSettled ts → Takes us old new → HasTaken text (ts ++ us) new
taken_more text ts us old new h s p = record {
  split = h.split ∙ takes_split us old new p;
  lexed = begins_append [] ts us text old.rest new.rest h.lexed (takes_begin ts us old new s h.greatest p);
  greatest = takes_greatest us old new p ∙ h.greatest ∙ sym (s us);
}

-- up to its semicolon a header has the greatest number of profile 1, whatever its number
header_begins : (ts : List Tok) (old new : Lexer) → length ts ≤ 3 → old.greatest ≡ MAX_NUMBER → Takes ts old new → BeginsWith [] ts old.rest new.rest
header_begins [] old new few e p = ap (λ (x : Lexer). x.rest) p
header_begins (t ∷ []) old new few e p = (p.0.rest, ap (λ g. step_of g old.rest) (sym e) ∙ p.1.step, ap (λ (x : Lexer). x.rest) p.2)
header_begins (t ∷ u ∷ []) old new few e (a, p, (b, q, r)) =
    (a.rest, ap (λ g. step_of g old.rest) (sym e) ∙ p.step, (b.rest, ap (λ g. step_of g a.rest) (sym (p.greatest ∙ e)) ∙ q.step, ap (λ (x : Lexer). x.rest) r))
header_begins (t ∷ u ∷ v ∷ []) old new few e (a, p, (b, q, (c, r, z))) = (
  a.rest,
  ap (λ g. step_of g old.rest) (sym e) ∙ p.step,
  (
    b.rest,
    ap (λ g. step_of g a.rest) (sym (p.greatest ∙ e)) ∙ q.step,
    (c.rest, ap (λ g. step_of g b.rest) (sym (q.greatest ∙ p.greatest ∙ e)) ∙ r.step, ap (λ (x : Lexer). x.rest) z),
  ),
)
header_begins (t ∷ u ∷ v ∷ w ∷ ts) old new few e p = absurd (omega arith)

two_greatest : (ts : List Tok) → length ts ≤ 2 → greatest_following ts ≡ MAX_NUMBER
two_greatest [] few = refl
two_greatest (t ∷ []) few = refl
two_greatest (t ∷ u ∷ []) few = refl
two_greatest (t ∷ u ∷ v ∷ ts) few = absurd (omega arith)

header_taken : (text : List ℕ) (ts : List Tok) (old at : Lexer) → old ≡ start text → length ts ≤ 2 → Takes ts old at → HasTaken text ts at
header_taken text ts old at s few p =
    let e : old.greatest ≡ MAX_NUMBER = ap (λ (x : Lexer). x.greatest) s in
    record {
      split = ap (λ (x : Lexer). x.before ++ x.rest) (sym s) ∙ takes_split ts old at p;
      lexed = subst (λ x. BeginsWith [] ts x at.rest) (ap (λ (x : Lexer). x.rest) s) (header_begins ts old at (omega arith) e p);
      greatest = takes_greatest ts old at p ∙ e ∙ sym (two_greatest ts few);
    }

-- a fault where these tokens were taken
fault_taken : (text : List ℕ) (front : List Tok) (at : Lexer) (f : ExprFault) → HasTaken text front at → f.place ≡ next_place at → FaultAt File front (step_of at.greatest at.rest) f.kind → IsExprFault text f
fault_taken text front at f h p s = record {
  front = front;
  passed = at.before;
  rest = at.rest;
  split = h.split;
  lexed = h.lexed;
  place = p;
  shows = inl (subst (λ g. FaultAt File front (step_of g at.rest) f.kind) h.greatest s);
}

-- a front after which a fault stands is shorter than what the production takes
front_shorter : {R : Type 0} (P : R → List Mark → Type 0) (n : ℕ) (front : List Tok) (step : Step) (k : ExprKind) → ((r : R) (ms : List Mark) → P r ms → length ms ≡ n) → FaultAt P front step k → length front + 1 ≤ n
front_shorter {R} P n front step k long = by step
  where
    within : (r : R) (m : Mark) (more : List Mark) → P r (clean front ++ m ∷ more) → length front + 1 ≤ n
    within r m more p =
        let e = long r (clean front ++ m ∷ more) p in
        let a = length-append (clean front) (m ∷ more) in
        let b = length-map front plain in
        omega arith

    by : (step : Step) → FaultAt P front step k → length front + 1 ≤ n
    by end f = within f.1.0 f.1.1 f.1.2 f.1.3
    by (bad lex.BadByte) f = within f.1.0 f.1.1 f.1.2 f.1.3
    by (bad lex.NumberTooLarge) (inl f) = within f.1.0 f.1.2 f.1.3 f.1.5
    by (bad lex.NumberTooLarge) (inr f) = within f.1.0 f.1.1 f.1.2 f.1.3
    by (token t rest) (inl f) = within f.0 (record { tok = t; fault = Some k }) f.1 f.2
    by (token t rest) (inr f) = within f.1.0 f.1.1 f.1.2 f.1.3

starts_long : (x : Opening) (ms : List Mark) → Starts x ms → length ms ≡ 1
starts_long x ms s = ap length s

profile_long : (edition : Edition) (ms : List Mark) → Profile edition ms → length ms ≡ 2
profile_long edition ms p = ap length (profile_marks edition ms p).2

-- what was read makes the text

-- no file begins here
pub opening_misses : (text : List ℕ) (e : AlgError) (old new : Lexer) → old ≡ start text → Reads Starts old (Err e) new → IsAlgError text e
opening_misses text (Bad f) old new s x =
    let step = step_of x.at.greatest x.at.rest in
    let few = front_shorter Starts 1 x.front step f.kind starts_long x.shows in
    fault_taken text x.front x.at f (header_taken text x.front old x.at s (omega arith) x.taken) x.place
    (fault_in_file x.front step f.kind (fault_first Starts Opened x.front step f.kind opened_possible x.shows))
opening_misses text NoMemory old new s x = tt

-- the header is at fault
pub header_broken : (text : List ℕ) (e : AlgError) (old mid new : Lexer) → old ≡ start text → Reads Starts old (Ok o.Header) mid → Reads Profile mid (Err e) new → IsAlgError text e
header_broken text (Bad f) old mid new s x y =
    let step = step_of y.at.greatest y.at.rest in
    let few = front_shorter Profile 2 y.front step f.kind profile_long y.shows in
    let first = starts_long o.Header (clean x.0) x.1 in
    let one = length-map x.0 plain in
    let all = length-append x.0 y.front in
    fault_taken text (x.0 ++ y.front) y.at f (header_taken text (x.0 ++ y.front) old y.at s (omega arith) (takes-append x.0 y.front old mid y.at x.2 y.taken)) y.place
    (fault_header x.0 y.front step f.kind x.1 y.shows)
header_broken text NoMemory old mid new s x y = tt

-- statements were read after these tokens, or not
reads_on : (text : List ℕ) (edition : Edition) (P : Expression → List Mark → Type 0) (ts : List Tok) (now new : Lexer) (result : Result Expression AlgError)
    → HasTaken text ts now → IsSettled ts
    → ((a : Expression) (us : List Tok) → P a (clean us) → File (alg_in edition a) (clean (ts ++ us)))
    → ((front : List Tok) (step : Step) (k : ExprKind) → FaultAt P front step k → FaultAt File (ts ++ front) step k)
    → Reads P now result new → ReadsText text (map_ok (alg_in edition) result) new
reads_on text edition P ts now new (Ok a) h s file fault x = (ts ++ x.0, file a x.0 x.1, taken_more text ts x.0 now new h s x.2)
reads_on text edition P ts now new (Err (Bad f)) h s file fault x =
    fault_taken text (ts ++ x.front) x.at f (taken_more text ts x.front now x.at h s x.taken) x.place (fault x.front (step_of x.at.greatest x.at.rest) f.kind x.shows)
reads_on text edition P ts now new (Err NoMemory) h s file fault x = tt

-- a word other than `raml` begins no header
no_header : (w : List ℕ) (u v : Tok) → bytes_eq w (codes "raml") ≡ false → header_from (word w) u v ≡ None
no_header w (number n) semicolon e = cond-false (bytes_eq w (codes "raml")) (Some n) None e
no_header w _ _ e = refl

pub keyword_settled : (key : Keyword) → IsSettled (word (keyword_word key) ∷ [])
keyword_settled key [] = refl
keyword_settled key (u ∷ []) = refl
keyword_settled key (u ∷ v ∷ ts) = ap (λ h. greatest_number (edition_of h)) (no_header (keyword_word key) u v (other key))
  where
    other : (key : Keyword) → bytes_eq (keyword_word key) (codes "raml") ≡ false
    other k.Let = refl
    other k.Main = refl

-- the tokens of clean marks
pub tokens_of : (ts : List Tok) (ms : List Mark) → clean ts ≡ ms → ts ≡ toks ms
tokens_of ts ms e = sym (toks-clean ts) ∙ ap toks e

-- the file begins with a statement
pub statement_leads : (text : List ℕ) (key : Keyword) (old now : Lexer) → old ≡ start text → Reads Starts old (Ok (o.Statement key)) now → LeadsText text profile.One key now
statement_leads text key old now s x result new y =
    let first = starts_long (o.Statement key) (clean x.0) x.1 in
    let one = length-map x.0 plain in
    let is = tokens_of x.0 (plain_word (keyword_word key) ∷ []) x.1 in
    reads_on text profile.One (Statement [] key) x.0 now new result
    (header_taken text x.0 old now s (omega arith) x.2)
    (subst IsSettled (sym is) (keyword_settled key))
    (λ a us p. file_from (alg_in profile.One a) (clean (x.0 ++ us)) (o.Statement key, clean x.0, clean us, x.1, (refl, p), clean-append x.0 us))
    (λ front step k f. fault_opened (o.Statement key) x.0 front step k x.1 (fault_in_edition profile.One (Statement [] key) front step k f))
    y

-- a header was read, and then the bound of its edition was set
headed_taken : (text : List ℕ) (edition : Edition) (old mid now : Lexer) (ts us : List Tok) → old ≡ start text → Starts o.Header (clean ts) → Takes ts old mid → Profile edition (clean us) → Takes us mid now
    → HasTaken text (ts ++ us) (record now { greatest = greatest_number edition }) × IsSettled (ts ++ us)
headed_taken text edition old mid now ts us s x p y q =
    let n = profile_marks edition (clean us) y in
    let is : ts ++ us ≡ word (codes "raml") ∷ number n.0 ∷ semicolon ∷ [] = ap₂ (λ a b. a ++ b) (tokens_of ts (plain_word (codes "raml") ∷ []) x) (tokens_of us (header_number n.0 ∷ plain semicolon ∷ []) n.2) in
    let all : Takes (ts ++ us) old now = takes-append ts us old mid now p q in
    let long : length (ts ++ us) ≡ 3 = ap length is in (
      record {
        split = ap (λ (x : Lexer). x.before ++ x.rest) (sym s) ∙ takes_split (ts ++ us) old now all;
        lexed = subst (λ x. BeginsWith [] (ts ++ us) x now.rest) (ap (λ (x : Lexer). x.rest) s) (header_begins (ts ++ us) old now (omega arith) (ap (λ (x : Lexer). x.greatest) s) all);
        greatest = ap greatest_number n.1 ∙ sym (ap greatest_following is);
      },
      subst IsSettled (sym is) (λ z. refl),
    )

-- and then the rest of the file was read, or not
headed_reads : (text : List ℕ) (edition : Edition) (old mid now new : Lexer) (result : Result Expression AlgError) → old ≡ start text → Reads Starts old (Ok o.Header) mid → Reads Profile mid (Ok edition) now
    → Reads (Rest []) (record now { greatest = greatest_number edition }) result new → ReadsText text (map_ok (alg_in edition) result) new
headed_reads text edition old mid now new result s x y z =
    let h = headed_taken text edition old mid now x.0 y.0 s x.1 x.2 y.1 y.2 in
    reads_on text edition (Rest []) (x.0 ++ y.0) (record now { greatest = greatest_number edition }) new result h.0 h.1
    (λ a us p. file_from (alg_in edition a) (clean ((x.0 ++ y.0) ++ us)) (
      o.Header,
      clean x.0,
      clean y.0 ++ clean us,
      x.1,
      (edition, clean y.0, clean us, y.1, (refl, p), refl),
      ap clean (append_assoc x.0 y.0 us) ∙ clean-append x.0 (y.0 ++ us) ∙ ap (λ l. clean x.0 ++ l) (clean-append y.0 us),
    ))
    (λ front step k f. subst (λ l. FaultAt File l step k) (sym (append_assoc x.0 y.0 front)) (fault_headed edition x.0 y.0 front step k x.1 y.1 f))
    z

-- no statement begins after the header
pub headed_misses : (text : List ℕ) (edition : Edition) (e : AlgError) (old mid now new : Lexer) → old ≡ start text → Reads Starts old (Ok o.Header) mid → Reads Profile mid (Ok edition) now
    → Reads Opens (record now { greatest = greatest_number edition }) (Err e) new → IsAlgError text e
headed_misses text edition e old mid now new s x y z =
    headed_reads text edition old mid now new (Err e) s x y
    (rest_read [] (record now { greatest = greatest_number edition }) new (Err e) (reads_not_first Opens (Statement []) (record now { greatest = greatest_number edition }) new e (statement_possible []) z))

-- a statement begins after the header
pub headed_leads : (text : List ℕ) (edition : Edition) (key : Keyword) (old mid now at : Lexer) → old ≡ start text → Reads Starts old (Ok o.Header) mid → Reads Profile mid (Ok edition) now
    → Reads Opens (record now { greatest = greatest_number edition }) (Ok key) at → LeadsText text edition key at
headed_leads text edition key old mid now at s x y z result new w =
    headed_reads text edition old mid now new result s x y
    (rest_read [] (record now { greatest = greatest_number edition }) new result (reads_then Opens (Statement []) (record now { greatest = greatest_number edition }) at new key result begun_determined z w))
