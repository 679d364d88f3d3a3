-- Reading one token, as a production of one mark.
use Rattle.std.proofs.Common.{◌≡◌, inl, inr, ℕ, [], ◌∷◌, ◌++◌, Option, Some, None, Ok, Err, refl, sym, ap, subst, ◌∙◌}
use Rattle.meta_base.specs.declared.ids.Place.{Place}
use Rattle.raml_lex.specs.declared.token.LexKind.TheVariants as lex
use Rattle.raml_lex.specs.Tokens.{Tok, number, Step, end, bad, token, step_of}
use Rattle.raml_lex.specs.Lexers.{Lexer}
use Rattle.raml_syntax.specs.declared.faults.ExprKind.{ExprKind}
use Rattle.raml_syntax.specs.declared.faults.AlgError.{AlgError}
use Rattle.raml_syntax.specs.declared.faults.AlgError.TheVariants.{Bad, NoMemory}
use Rattle.raml_syntax.specs.Marks.{Mark}
use Rattle.raml_syntax.specs.Productions.{toks, Begins, Refuses, FaultAt}
use Rattle.raml_syntax.specs.Reading.{TakesOne}
use Rattle.raml_syntax.specs.Leaves.{TakesAt, Misses, MissesNumber, IsRefusal}
use Rattle.raml_syntax.specs.Sequences.{One, Reads}

-- a mark is its token and its fault
mark_is : (m : Mark) (t : Tok) (fault : Option ExprKind) → m.tok ≡ t → m.fault ≡ fault → record { tok = t; fault = fault } ≡ m
mark_is m t fault e f = rw (← e, ← f) refl

-- the token was taken, and is what the mark has
pub one_good : {R : Type 0} (f : R → Mark) (r : R) (t : Tok) (old new : Lexer) → (f r).tok ≡ t → (f r).fault ≡ None → TakesOne t old new → Reads (One f) old (Ok r) new
one_good f r t old new e none takes = (t ∷ [], ap (λ m. m ∷ []) (mark_is (f r) t None e none), (new, takes, refl))

-- the token was taken, and a fault stands at it
pub one_bad : {R : Type 0} (f : R → Mark) (r : R) (t : Tok) (k : ExprKind) (p : Place) (old mid new : Lexer) → (f r).tok ≡ t → (f r).fault ≡ Some k → TakesAt t p old mid
    → Reads (One f) old (Err (Bad (record { kind = k; place = p }))) new
one_bad f r t k p old mid new e fault takes = record {
  front = [];
  at = old;
  taken = refl;
  place = takes.place;
  shows = subst (λ s. FaultAt (One f) [] s k) (sym takes.takes.step) (inl (r, [], ap (λ m. m ∷ []) (mark_is (f r) t (Some k) e fault)));
}

-- something may be read
one_begins : {R : Type 0} (f : R → Mark) → R → Begins (One f) []
one_begins f r = (r, f r, [], refl)

-- what no mark has is refused
one_refuses : {R : Type 0} (f : R → Mark) (W : Tok → Type 0) (t : Tok) → ((r : R) → W (f r).tok) → (W t → ⊥) → Refuses (One f) [] t
one_refuses f W t all misses r ms y z p h =
    let e : toks (f r ∷ []) ++ y ≡ t ∷ z = ap (λ l. toks l ++ y) (sym p) ∙ h in
    let same : (f r).tok ≡ t = cc in
    misses (subst W same (all r))

missing : {R : Type 0} (f : R → Mark) (r : R) (W : Tok → Type 0) (s : Step) (k : ExprKind) → ((r : R) → W (f r).tok) → ((n : ℕ) → W (number n) → ⊥) → Misses W s k → FaultAt (One f) [] s k
missing f r W end k all no_number l = (l, one_begins f r)
missing f r W (bad lex.BadByte) k all no_number l = (l, one_begins f r)
missing f r W (bad lex.NumberTooLarge) k all no_number l = inr (l, one_begins f r, λ n. one_refuses f W (number n) all (no_number n))
missing f r W (token t rest) k all no_number l = inr (l.0, one_begins f r, one_refuses f W t all l.1)

-- what stands next is no token that a mark may have
pub one_misses : {R : Type 0} (f : R → Mark) (r : R) (W : Tok → Type 0) (e : AlgError) (old new : Lexer) → ((r : R) → W (f r).tok) → ((n : ℕ) → W (number n) → ⊥)
    → IsRefusal (Misses W) old e → Reads (One f) old (Err e) new
one_misses f r W (Bad fault) old new all no_number l = record {
  front = [];
  at = old;
  taken = refl;
  place = l.0;
  shows = missing f r W (step_of old.greatest old.rest) fault.kind all no_number l.1;
}
one_misses f r W NoMemory old new all no_number l = absurd l

missing_number : {R : Type 0} (f : R → Mark) (r : R) (n : ℕ) (s : Step) (k : ExprKind) → (f r).tok ≡ number n → ((r : R) → (n : ℕ) × ((f r).tok ≡ number n)) → MissesNumber s k → FaultAt (One f) [] s k
missing_number f r n end k e all l = (l, one_begins f r)
missing_number f r n (bad lex.BadByte) k e all l = (l, one_begins f r)
missing_number f r n (bad lex.NumberTooLarge) k e all l = inl (l, (r, n, f r, [], e, refl))
missing_number f r n (token t rest) k e all l = inr (l.0, one_begins f r, one_refuses f (λ t. (n : ℕ) × (t ≡ number n)) t all (λ x. l.1 x.0 x.1))

-- what stands next is no number
pub one_misses_number : {R : Type 0} (f : R → Mark) (r : R) (n : ℕ) (e : AlgError) (old new : Lexer) → (f r).tok ≡ number n → ((r : R) → (n : ℕ) × ((f r).tok ≡ number n))
    → IsRefusal MissesNumber old e → Reads (One f) old (Err e) new
one_misses_number f r n (Bad fault) old new is all l = record {
  front = [];
  at = old;
  taken = refl;
  place = l.0;
  shows = missing_number f r n (step_of old.greatest old.rest) fault.kind is all l.1;
}
one_misses_number f r n NoMemory old new is all l = absurd l
