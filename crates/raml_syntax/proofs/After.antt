-- Reading a token that leads to the rest of a production.
use Rattle.std.proofs.Common.{◌≡◌, ℕ, List, [], ◌∷◌, true, false, if◌then◌else◌, Some, None, Result, Ok, Err, refl, ap}
use Rattle.meta_base.specs.declared.ids.Place.{Place}
use Rattle.raml_lex.specs.Tokens.{Tok, number, right_paren}
use Rattle.raml_lex.specs.Lexers.{Lexer}
use Rattle.raml_lex.specs.Views.{tok_of}
use Rattle.raml_lex.specs.declared.token.TokenKind.{TokenKind}
use Rattle.raml_lex.specs.declared.token.TokenKind.TheVariants as kind
use Rattle.alg_model.specs.Expressions.{Expression}
use Rattle.raml_syntax.specs.declared.faults.ExprKind.TheVariants.{BadRange}
use Rattle.raml_syntax.specs.declared.faults.AlgError.{AlgError}
use Rattle.raml_syntax.specs.declared.faults.AlgError.TheVariants.{Bad}
use Rattle.raml_syntax.specs.Marks.{Mark, plain, last_number}
use Rattle.raml_syntax.specs.Tests.{is_in_range}
use Rattle.raml_syntax.specs.Reading.{TakesOne}
use Rattle.raml_syntax.specs.Leaves.{TakesAt, Misses, MissesNumber, IsRefusal, IsTok, IsMark}
use Rattle.raml_syntax.specs.Sequences.{Nothing, One, Reads, IsDetermined, IsPossible}
use Rattle.raml_syntax.specs.Forms.{After, NumberBefore, Last}
use Rattle.raml_syntax.proofs.Sequences.{reads_not_first, reads_then, one_determined, nothing_determined, then_determined, then_possible}
use Rattle.raml_syntax.proofs.OneToken.{one_good, one_bad, one_misses, one_misses_number}

-- nothing is left to read
pub reads_nothing : {R : Type 0} (r : R) (old : Lexer) → Reads (Nothing r) old (Ok r) old
reads_nothing r old = ([], (refl, refl), refl)

pub nothing_possible : {R : Type 0} (r : R) → IsPossible (Nothing r)
nothing_possible r = (r, [], (refl, refl))

pub mark_no_number : (k : TokenKind) → IsMark k → (n : ℕ) → number n ≡ tok_of k [] → ⊥
mark_no_number kind.Word m n e = m
mark_no_number (kind.Number i) m n e = m
mark_no_number _ m n e = cc

pub following_determined : {R : Type 0} (t : Tok) (P : R → List Mark → Type 0) → IsDetermined P → IsDetermined (After t P)
following_determined t P d = then_determined (One (λ (u : Unit {0}). plain t)) (λ (u : Unit {0}). P) (one_determined (λ (u : Unit {0}). plain t) (λ u v h. refl)) (λ u. d)

pub following_possible : {R : Type 0} (t : Tok) (P : R → List Mark → Type 0) → IsPossible P → IsPossible (After t P)
following_possible t P p = (p.0, plain t ∷ p.1, (tt, plain t ∷ [], p.1, refl, p.2, refl))

-- the token was taken
pub following_taken : {R : Type 0} (t : Tok) (P : R → List Mark → Type 0) (old mid new : Lexer) (result : Result R AlgError) → TakesOne t old mid → Reads P mid result new → Reads (After t P) old result new
following_taken t P old mid new result takes x =
    reads_then (One (λ (u : Unit {0}). plain t)) (λ (u : Unit {0}). P) old mid new tt result
    (one_determined (λ (u : Unit {0}). plain t) (λ u v h. refl)) (one_good (λ (u : Unit {0}). plain t) tt t old mid refl refl takes) x

-- the token was taken, and was the last
pub following_last : {R : Type 0} (t : Tok) (r : R) (old new : Lexer) → TakesOne t old new → Reads (After t (Nothing r)) old (Ok r) new
following_last t r old new takes = following_taken t (Nothing r) old new new (Ok r) takes (reads_nothing r new)

-- another stands there
pub following_misses : {R : Type 0} (t : Tok) (P : R → List Mark → Type 0) (old new : Lexer) (e : AlgError) → IsPossible P → ((n : ℕ) → number n ≡ t → ⊥) → IsRefusal (Misses (IsTok t)) old e
    → Reads (After t P) old (Err e) new
following_misses t P old new e possible no_number l =
    reads_not_first (One (λ (u : Unit {0}). plain t)) (λ (u : Unit {0}). P) old new e (λ u. possible)
    (one_misses (λ (u : Unit {0}). plain t) tt (IsTok t) e old new (λ u. refl) no_number l)

pub plain_number_determined : IsDetermined (One (λ n. plain (number n)))
plain_number_determined = one_determined (λ n. plain (number n)) (λ m n h. cc)

pub number_before_determined : (t : Tok) → IsDetermined (NumberBefore t)
number_before_determined t = then_determined (One (λ n. plain (number n))) (λ n. After t (Nothing n)) plain_number_determined (λ n. following_determined t (Nothing n) (nothing_determined n))

pub number_before_possible : (t : Tok) → IsPossible (NumberBefore t)
number_before_possible t = then_possible (One (λ n. plain (number n))) (λ n. After t (Nothing n)) (0, plain (number 0) ∷ [], refl) (λ n. following_possible t (Nothing n) (nothing_possible n))

-- no number stands there
pub number_before_misses : (t : Tok) (old new : Lexer) (e : AlgError) → IsRefusal MissesNumber old e → Reads (NumberBefore t) old (Err e) new
number_before_misses t old new e l =
    reads_not_first (One (λ n. plain (number n))) (λ n. After t (Nothing n)) old new e (λ n. following_possible t (Nothing n) (nothing_possible n))
    (one_misses_number (λ n. plain (number n)) 0 0 e old new refl (λ n. (n, refl)) l)

-- a number was taken
pub number_before_then : (t : Tok) (n : ℕ) (old mid new : Lexer) (result : Result ℕ AlgError) → TakesOne (number n) old mid → Reads (After t (Nothing n)) mid result new → Reads (NumberBefore t) old result new
number_before_then t n old mid new result takes x =
    reads_then (One (λ n. plain (number n))) (λ n. After t (Nothing n)) old mid new n result plain_number_determined (one_good (λ n. plain (number n)) n (number n) old mid refl refl takes) x

pub last_possible : (f : ℕ → Expression) → IsPossible (Last f)
last_possible f = then_possible (One (λ n. last_number n (f n))) (λ n. After right_paren (Nothing (f n))) (0, last_number 0 (f 0) ∷ [], refl) (λ n. following_possible right_paren (Nothing (f n)) (nothing_possible (f n)))

last_determined : (f : ℕ → Expression) → IsDetermined (One (λ n. last_number n (f n)))
last_determined f = one_determined (λ n. last_number n (f n)) (λ m n h. cc)

-- no last number stands there
pub last_misses : (f : ℕ → Expression) (old new : Lexer) (e : AlgError) → IsRefusal MissesNumber old e → Reads (Last f) old (Err e) new
last_misses f old new e l =
    reads_not_first (One (λ n. last_number n (f n))) (λ n. After right_paren (Nothing (f n))) old new e (λ n. following_possible right_paren (Nothing (f n)) (nothing_possible (f n)))
    (one_misses_number (λ n. last_number n (f n)) 0 0 e old new refl (λ n. (n, refl)) l)

-- the last number breaks the rule on ranges
pub last_breaks : (f : ℕ → Expression) (n : ℕ) (p : Place) (old mid new : Lexer) → is_in_range (f n) ≡ false → TakesAt (number n) p old mid → Reads (Last f) old (Err (Bad (record { kind = BadRange; place = p }))) new
last_breaks f n p old mid new breaks takes =
    reads_not_first (One (λ n. last_number n (f n))) (λ n. After right_paren (Nothing (f n))) old new (Bad (record { kind = BadRange; place = p })) (λ n. following_possible right_paren (Nothing (f n)) (nothing_possible (f n)))
    (one_bad (λ n. last_number n (f n)) n (number n) BadRange p old mid new refl (ap (λ b. if b then None else Some BadRange) breaks) takes)

-- the last number was taken
pub last_then : (f : ℕ → Expression) (n : ℕ) (old mid new : Lexer) (result : Result Expression AlgError) → is_in_range (f n) ≡ true → TakesOne (number n) old mid → Reads (After right_paren (Nothing (f n))) mid result new
    → Reads (Last f) old result new
last_then f n old mid new result meets takes x =
    reads_then (One (λ n. last_number n (f n))) (λ n. After right_paren (Nothing (f n))) old mid new n result (last_determined f)
    (one_good (λ n. last_number n (f n)) n (number n) old mid refl (ap (λ b. if b then None else Some BadRange) meets) takes) x
