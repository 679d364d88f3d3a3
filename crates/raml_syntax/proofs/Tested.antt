-- Reading single marks of a table.
use Rattle.std.proofs.Common.{◌≡◌, ℕ, Bool, true, false, List, [], Result, Ok, Err, refl, sym, ap, subst, ◌∙◌}
use Rattle.meta_base.specs.declared.ids.Place.{Place}
use Rattle.raml_lex.specs.declared.token.LexKind.TheVariants as lex
use Rattle.raml_lex.specs.declared.token.TokenKind.{TokenKind}
use Rattle.raml_lex.specs.declared.token.TokenKind.TheVariants as kind
use Rattle.raml_lex.specs.Tokens.{Tok, word, number, Step, end, bad, token, step_of}
use Rattle.raml_lex.specs.Tokens as tok
use Rattle.raml_lex.specs.Lexers.{Lexer}
use Rattle.raml_lex.specs.Views.{tok_of}
use Rattle.raml_syntax.specs.declared.faults.ExprKind.{ExprKind}
use Rattle.raml_syntax.specs.declared.faults.ExprKind.TheVariants.{Unexpected, BadTable}
use Rattle.raml_syntax.specs.declared.faults.AlgError.{AlgError}
use Rattle.raml_syntax.specs.declared.faults.AlgError.TheVariants.{Bad, NoMemory}
use Rattle.raml_syntax.specs.Marks.{Mark, plain, tested}
use Rattle.raml_syntax.specs.Reading.{TakesOne}
use Rattle.raml_syntax.specs.Leaves.{TakesAt, EndsWith, Misses, IsRefusal, IsTok, IsWord}
use Rattle.raml_syntax.specs.Sequences.{Nothing, One, Then, Reads, IsDetermined, IsPossible, map_ok}
use Rattle.raml_syntax.specs.Tested.{Tested, ReadsFollowing}
use Rattle.raml_syntax.proofs.Sequences.{reads_inside, reads_then, reads_not_first}
use Rattle.raml_syntax.proofs.OneToken.{one_good, one_bad, one_misses}

map_ok_same : {R E : Type 0} (result : Result R E) → map_ok (λ r. r) result ≡ result
map_ok_same (Ok r) = refl
map_ok_same (Err e) = refl

-- a production was read, so one that takes the same was
pub reads_same : {R : Type 0} (P W : R → List Mark → Type 0) (old new : Lexer) (result : Result R AlgError)
    → ((r : R) (ms : List Mark) → P r ms → W r ms) → ((r : R) (ms : List Mark) → W r ms → P r ms) → Reads P old result new → Reads W old result new
reads_same P W old new result put back x =
    subst (λ r. Reads W old r new) (map_ok_same result) (reads_inside P W (λ r. r) [] old old new result refl put (λ s ms y z w e. (s, ms, back s ms w, refl)) x)

-- the same under other names
pub reads_at : {A R : Type 0} (P : A → R → List Mark → Type 0) (a b : A) (old new : Lexer) (result : Result R AlgError) → a ≡ b → Reads (P a) old result new → Reads (P b) old result new
reads_at P a b old new result e x = subst (λ q. Reads (P q) old result new) e x

pub reads_ok : {R : Type 0} (P : R → List Mark → Type 0) (r s : R) (old new : Lexer) → r ≡ s → Reads P old (Ok r) new → Reads P old (Ok s) new
reads_ok P r s old new e x = subst (λ q. Reads P old (Ok q) new) e x

pub reads_nothing : {R : Type 0} (r : R) (old : Lexer) → Reads (Nothing r) old (Ok r) old
reads_nothing r old = ([], (refl, refl), refl)

-- a name was read, and tested
pub one_tested : {R : Type 0} (f : R → Mark) (r : R) (t : Tok) (test : Bool) (p : Place) (old new : Lexer) (result : Result R AlgError)
    → f r ≡ tested t BadTable test → TakesAt t p old new → Tested test p r result → Reads (One f) old result new
one_tested f r t test p old new (Err NoMemory) e takes x = tt
one_tested f r t true p old new (Ok s) e takes x = subst (λ q. Reads (One f) old (Ok q) new) (sym x) (one_good f r t old new (ap (λ (m : Mark). m.tok) e) (ap (λ (m : Mark). m.fault) e) takes.takes)
one_tested f r t true p old new (Err (Bad g)) e takes x = absurd x
one_tested f r t false p old new (Ok s) e takes x = absurd x
one_tested f r t false p old new (Err (Bad g)) e takes x =
    subst (λ q. Reads (One f) old (Err (Bad q)) new) (sym x) (one_bad f r t BadTable p old new new (ap (λ (m : Mark). m.tok) e) (ap (λ (m : Mark). m.fault) e) takes)

-- a name was read and tested, and then what follows it
pub reads_tested : {R S : Type 0} (f : R → Mark) (Q : R → S → List Mark → Type 0) (r : R) (t : Tok) (test : Bool) (p : Place) (old mid new : Lexer) (result : Result S AlgError)
    → IsDetermined (One f) → ((r : R) → IsPossible (Q r)) → f r ≡ tested t BadTable test → TakesAt t p old mid → ReadsFollowing test p (Q r) mid result new → Reads (Then (One f) Q) old result new
reads_tested f Q r t true p old mid new result determined possible e takes x =
    reads_then (One f) Q old mid new r result determined (one_good f r t old mid (ap (λ (m : Mark). m.tok) e) (ap (λ (m : Mark). m.fault) e) takes.takes) x
reads_tested f Q r t false p old mid new result determined possible e takes x =
    subst (λ q. Reads (Then (One f) Q) old q new) (sym x)
    (reads_not_first (One f) Q old new (Bad (record { kind = BadTable; place = p })) possible (one_bad f r t BadTable p old mid new (ap (λ (m : Mark). m.tok) e) (ap (λ (m : Mark). m.fault) e) takes))

pub following_then : {R S : Type 0} (P : R → List Mark → Type 0) (Q : R → S → List Mark → Type 0) (test : Bool) (p : Place) (old mid new : Lexer) (r : R) (result : Result S AlgError)
    → IsDetermined P → ReadsFollowing test p P old (Ok r) mid → Reads (Q r) mid result new → ReadsFollowing test p (Then P Q) old result new
following_then P Q true p old mid new r result determined x y = reads_then P Q old mid new r result determined x y
following_then P Q false p old mid new r result determined x y = absurd (cc)

pub following_not_first : {R S : Type 0} (P : R → List Mark → Type 0) (Q : R → S → List Mark → Type 0) (test : Bool) (p : Place) (old new : Lexer) (e : AlgError)
    → ((r : R) → IsPossible (Q r)) → ReadsFollowing test p P old (Err e) new → ReadsFollowing test p (Then P Q) old (Err e) new
following_not_first P Q true p old new e possible x = reads_not_first P Q old new e possible x
following_not_first P Q false p old new e possible x = let same : e ≡ Bad (record { kind = BadTable; place = p }) = cc in ap Err same

-- want of memory is no fault
pub following_no_memory : {R : Type 0} (P : R → List Mark → Type 0) (p : Place) (old new : Lexer) (e : AlgError) → e ≡ NoMemory → Reads P old (Err e) new
following_no_memory P p old new e same = subst (λ x. Reads P old (Err x) new) (sym same) tt

-- what isn't a word has no name
pub one_no_word : (f : List ℕ → Mark) (e : AlgError) (old new : Lexer) → ((w : List ℕ) → (f w).tok ≡ word w) → IsRefusal (Misses IsWord) old e → Reads (One f) old (Err e) new
one_no_word f e old new words x = one_misses f [] IsWord e old new (λ w. (w, words w)) (λ n w. absurd (let k : number n ≡ word w.0 = w.1 in cc)) x

pub words_determined : (f : List ℕ → Mark) → ((w : List ℕ) → (f w).tok ≡ word w) → (v w : List ℕ) → (f v).tok ≡ (f w).tok → v ≡ w
words_determined f words v w e = let k : word v ≡ word w = sym (words v) ∙ e ∙ words w in cc

ends_misses : (W : Tok → Type 0) (s : Step) (k : ExprKind) → EndsWith s k → Misses W s k
ends_misses W end k e = e
ends_misses W (bad lex.BadByte) k e = e
ends_misses W (bad lex.NumberTooLarge) k e = e
ends_misses W (token t rest) k e = absurd e

ends_refused : (W : Tok → Type 0) (old : Lexer) (e : AlgError) → IsRefusal EndsWith old e → IsRefusal (Misses W) old e
ends_refused W old (Bad f) x = (x.0, ends_misses W (step_of old.greatest old.rest) f.kind x.1)
ends_refused W old NoMemory x = absurd x

-- nothing stands where one of several marks is wanted
pub one_ends : {R : Type 0} (f : R → Mark) (r : R) (e : AlgError) (old new : Lexer) → ((r : R) (n : ℕ) → (f r).tok ≡ number n → ⊥) → IsRefusal EndsWith old e → Reads (One f) old (Err e) new
one_ends {R} f r e old new no_number x =
    let W : Tok → Type 0 = λ t. (r : R) × ((f r).tok ≡ t) in
    one_misses f r W e old new (λ r. (r, refl)) (λ n w. no_number w.0 n w.1) (ends_refused W old e x)

-- another token stands there
pub one_other : {R : Type 0} (f : R → Mark) (r : R) (t : Tok) (p : Place) (old mid new : Lexer) → ((r : R) (n : ℕ) → (f r).tok ≡ number n → ⊥) → ((r : R) → (f r).tok ≡ t → ⊥) → TakesAt t p old mid
    → Reads (One f) old (Err (Bad (record { kind = Unexpected; place = p }))) new
one_other {R} f r t p old mid new no_number other takes =
    let W : Tok → Type 0 = λ t. (r : R) × ((f r).tok ≡ t) in
    let misses : Misses W (step_of old.greatest old.rest) Unexpected = subst (λ s. Misses W s Unexpected) (sym takes.takes.step) (refl, λ w. other w.0 w.1) in
    one_misses f r W (Bad (record { kind = Unexpected; place = p })) old new (λ r. (r, refl)) (λ n w. no_number w.0 n w.1) (takes.place, misses)

-- the mark of a kind stands there
pub one_kind : {R : Type 0} (f : R → Mark) (r : R) (k wanted : TokenKind) (text : List ℕ) (p : Place) (old new : Lexer) → f r ≡ plain (tok_of wanted text) → k ≡ wanted → TakesAt (tok_of k text) p old new
    → Reads (One f) old (Ok r) new
one_kind f r k wanted text p old new e same takes =
    one_good f r (tok_of k text) old new (ap (λ (m : Mark). m.tok) e ∙ ap (λ k. tok_of k text) (sym same)) (ap (λ (m : Mark). m.fault) e) takes.takes

abbrev pub kind_of : Tok → TokenKind
kind_of (word w) = kind.Word
kind_of (number n) = kind.Number n
kind_of tok.left_paren = kind.LeftParen
kind_of tok.right_paren = kind.RightParen
kind_of tok.left_brace = kind.LeftBrace
kind_of tok.right_brace = kind.RightBrace
kind_of tok.comma = kind.Comma
kind_of tok.semicolon = kind.Semicolon
kind_of tok.colon = kind.Colon
kind_of tok.dots = kind.Dots
kind_of tok.equals = kind.Equals
kind_of tok.less = kind.Less
kind_of tok.arrow = kind.Arrow

kind_same : (k : TokenKind) (text : List ℕ) → kind_of (tok_of k text) ≡ k
kind_same kind.Word text = refl
kind_same (kind.Number n) text = refl
kind_same _ text = refl

-- tokens of one kind have it
pub same_kind : (t : Tok) (k : TokenKind) (text : List ℕ) → t ≡ tok_of k text → k ≡ kind_of t
same_kind t k text e = sym (kind_same k text) ∙ ap kind_of (sym e)

-- a mark that stands for itself
pub one_mark : (f : Unit {0} → Mark) (t : Tok) (old new : Lexer) → ((u : Unit {0}) → f u ≡ plain t) → TakesOne t old new → Reads (One f) old (Ok tt) new
one_mark f t old new is takes = one_good f tt t old new (ap (λ (m : Mark). m.tok) (is tt)) (ap (λ (m : Mark). m.fault) (is tt)) takes

pub one_no_mark : (f : Unit {0} → Mark) (t : Tok) (e : AlgError) (old new : Lexer) → ((u : Unit {0}) → f u ≡ plain t) → ((n : ℕ) → t ≡ number n → ⊥) → IsRefusal (Misses (IsTok t)) old e → Reads (One f) old (Err e) new
one_no_mark f t e old new is no_number x = one_misses f tt (IsTok t) e old new (λ u. ap (λ (m : Mark). m.tok) (is u)) (λ n k. no_number n (sym k)) x

-- what of the one production is read from here on makes a reading of the other
abbrev pub Leads : {R : Type 0} → (R → List Mark → Type 0) → Lexer → (R → List Mark → Type 0) → Lexer → Type 0
Leads {R} W old P now = (result : Result R AlgError) (new : Lexer) → Reads P now result new → Reads W old result new
