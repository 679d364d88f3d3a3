-- What is known of productions of parts.
use Rattle.std.proofs.Common.{◌≡◌, ⊎_elim, inl, inr, List, [], ◌∷◌, ◌++◌, Result, Ok, Err, Some, refl, sym, ap, subst, ◌∙◌, append_assoc}
use Rattle.raml_lex.specs.declared.token.LexKind.TheVariants as lex
use Rattle.raml_lex.specs.Tokens.{Tok, number, Step, end, bad, token, step_of}
use Rattle.raml_lex.specs.Lexers.{Lexer}
use Rattle.raml_syntax.specs.declared.faults.ExprKind.{ExprKind}
use Rattle.raml_syntax.specs.declared.faults.AlgError.{AlgError}
use Rattle.raml_syntax.specs.declared.faults.AlgError.TheVariants.{Bad, NoMemory}
use Rattle.raml_syntax.specs.Marks.{Mark, plain}
use Rattle.raml_syntax.specs.Productions.{clean, toks, Begins, TakesNumber, Shows, Refuses, FaultAt}
use Rattle.raml_syntax.specs.Reading.{Takes}
use Rattle.raml_syntax.specs.Sequences.{Nothing, One, Then, Reads, IsDetermined, IsPossible, map_ok}

pub toks-append : (xs ys : List Mark) → toks (xs ++ ys) ≡ toks xs ++ toks ys
toks-append [] ys = refl
toks-append (x ∷ xs) ys = ap (λ z. x.tok ∷ z) (toks-append xs ys)

pub clean-append : (ts us : List Tok) → clean (ts ++ us) ≡ clean ts ++ clean us
clean-append [] us = refl
clean-append (t ∷ ts) us = ap (λ z. plain t ∷ z) (clean-append ts us)

pub toks-clean : (ts : List Tok) → toks (clean ts) ≡ ts
toks-clean [] = refl
toks-clean (t ∷ ts) = ap (λ z. t ∷ z) (toks-clean ts)

pub takes-append : (ts us : List Tok) (a b c : Lexer) → Takes ts a b → Takes us b c → Takes (ts ++ us) a c
takes-append [] us a b c p q = subst (λ x. Takes us x c) (sym p) q
takes-append (t ∷ ts) us a b c p q = (p.0, p.1, takes-append ts us p.0 b c p.2 q)

-- what stands after the same front is the same
pub cancel : (ts y z : List Tok) → ts ++ y ≡ ts ++ z → y ≡ z
cancel [] y z e = e
cancel (t ∷ ts) y z e = cancel ts y z (cc)

-- marks that begin a text of P and go on as ys do begin one of P and then Q
fault_begins : {R S : Type 0} (P : R → List Mark → Type 0) (Q : R → S → List Mark → Type 0) (front : List Tok)
    → ((r : R) → IsPossible (Q r)) → Begins P front → Begins (Then P Q) front
fault_begins P Q front possible b =
    let q = possible b.0 in
    (q.0, b.1, b.2 ++ q.1, (b.0, clean front ++ b.1 ∷ b.2, q.1, b.3, q.2, sym (append_assoc (clean front) (b.1 ∷ b.2) q.1)))

first_refuses : {R S : Type 0} (P : R → List Mark → Type 0) (Q : R → S → List Mark → Type 0) (front : List Tok) (t : Tok)
    → Refuses P front t → Refuses (Then P Q) front t
first_refuses P Q front t refuses s ms y z (r, xs, ys, p, q, e) h =
    refuses r xs (toks ys ++ y) z p (sym (append_assoc (toks xs) (toks ys) y) ∙ ap (λ l. l ++ y) (sym (toks-append xs ys)) ∙ ap (λ l. toks l ++ y) (sym e) ∙ h)

first_takes_number : {R S : Type 0} (P : R → List Mark → Type 0) (Q : R → S → List Mark → Type 0) (front : List Tok)
    → ((r : R) → IsPossible (Q r)) → TakesNumber P front → TakesNumber (Then P Q) front
first_takes_number P Q front possible (r, n, m, more, e, p) =
    let q = possible r in
    (q.0, n, m, more ++ q.1, e, (r, clean front ++ m ∷ more, q.1, p, q.2, sym (append_assoc (clean front) (m ∷ more) q.1)))

first_shows : {R S : Type 0} (P : R → List Mark → Type 0) (Q : R → S → List Mark → Type 0) (front : List Tok) (t : Tok) (k : ExprKind)
    → ((r : R) → IsPossible (Q r)) → Shows P front t k → Shows (Then P Q) front t k
first_shows P Q front t k possible (r, more, p) =
    let q = possible r in
    (q.0, more ++ q.1, (r, clean front ++ record { tok = t; fault = Some k } ∷ more, q.1, p, q.2, sym (append_assoc (clean front) (record { tok = t; fault = Some k } ∷ more) q.1)))

-- a fault in place of the first part
pub fault_first : {R S : Type 0} (P : R → List Mark → Type 0) (Q : R → S → List Mark → Type 0) (front : List Tok) (next : Step) (k : ExprKind)
    → ((r : R) → IsPossible (Q r)) → FaultAt P front next k → FaultAt (Then P Q) front next k
fault_first P Q front end k possible f = (f.0, fault_begins P Q front possible f.1)
fault_first P Q front (bad lex.BadByte) k possible f = (f.0, fault_begins P Q front possible f.1)
fault_first P Q front (bad lex.NumberTooLarge) k possible f =
    ⊎_elim
    (λ g. inl (g.0, first_takes_number P Q front possible g.1))
    (λ g. inr (g.0, fault_begins P Q front possible g.1, λ n. first_refuses P Q front (number n) (g.2 n)))
    f
fault_first P Q front (token t rest) k possible f =
    ⊎_elim
    (λ g. inl (first_shows P Q front t k possible g))
    (λ g. inr (g.0, fault_begins P Q front possible g.1, first_refuses P Q front t g.2))
    f

-- what follows a first part follows its tokens
after_first : {R S : Type 0} (P : R → List Mark → Type 0) (Q : R → S → List Mark → Type 0) (r : R) (ts front : List Tok) (s : S) (ms : List Mark)
    → P r (clean ts) → Q r s (clean front ++ ms) → Then P Q s (clean (ts ++ front) ++ ms)
after_first P Q r ts front s ms p q =
    (r, clean ts, clean front ++ ms, p, q, ap (λ l. l ++ ms) (clean-append ts front) ∙ append_assoc (clean ts) (clean front) ms)

second_begins : {R S : Type 0} (P : R → List Mark → Type 0) (Q : R → S → List Mark → Type 0) (r : R) (ts front : List Tok)
    → P r (clean ts) → Begins (Q r) front → Begins (Then P Q) (ts ++ front)
second_begins P Q r ts front p b = (b.0, b.1, b.2, after_first P Q r ts front b.0 (b.1 ∷ b.2) p b.3)

second_refuses : {R S : Type 0} (P : R → List Mark → Type 0) (Q : R → S → List Mark → Type 0) (r : R) (ts front : List Tok) (t : Tok)
    → IsDetermined P → P r (clean ts) → Refuses (Q r) front t → Refuses (Then P Q) (ts ++ front) t
second_refuses P Q r ts front t determined p refuses s ms y z (q, xs, ys, px, qy, e) h =
    let split : toks xs ++ (toks ys ++ y) ≡ ts ++ (front ++ t ∷ z) =
    sym (append_assoc (toks xs) (toks ys) y) ∙ ap (λ l. l ++ y) (sym (toks-append xs ys)) ∙ ap (λ l. toks l ++ y) (sym e) ∙ h ∙ append_assoc ts front (t ∷ z) in
    let same = determined q r xs (clean ts) (toks ys ++ y) (front ++ t ∷ z) px p (split ∙ ap (λ l. l ++ (front ++ t ∷ z)) (sym (toks-clean ts))) in
    let first : toks xs ≡ ts = ap toks same.1 ∙ toks-clean ts in
    refuses s ys y z (subst (λ x. Q x s ys) same.0 qy) (cancel ts (toks ys ++ y) (front ++ t ∷ z) (ap (λ l. l ++ (toks ys ++ y)) (sym first) ∙ split))

second_takes_number : {R S : Type 0} (P : R → List Mark → Type 0) (Q : R → S → List Mark → Type 0) (r : R) (ts front : List Tok)
    → P r (clean ts) → TakesNumber (Q r) front → TakesNumber (Then P Q) (ts ++ front)
second_takes_number P Q r ts front p (s, n, m, more, e, q) = (s, n, m, more, e, after_first P Q r ts front s (m ∷ more) p q)

-- a fault in place of the second part
pub fault_second : {R S : Type 0} (P : R → List Mark → Type 0) (Q : R → S → List Mark → Type 0) (r : R) (ts front : List Tok) (next : Step) (k : ExprKind)
    → IsDetermined P → P r (clean ts) → FaultAt (Q r) front next k → FaultAt (Then P Q) (ts ++ front) next k
fault_second P Q r ts front end k determined p f = (f.0, second_begins P Q r ts front p f.1)
fault_second P Q r ts front (bad lex.BadByte) k determined p f = (f.0, second_begins P Q r ts front p f.1)
fault_second P Q r ts front (bad lex.NumberTooLarge) k determined p f =
    ⊎_elim
    (λ g. inl (g.0, second_takes_number P Q r ts front p g.1))
    (λ g. inr (g.0, second_begins P Q r ts front p g.1, λ n. second_refuses P Q r ts front (number n) determined p (g.2 n)))
    f
fault_second P Q r ts front (token t rest) k determined p f =
    ⊎_elim
    (λ g. inl (g.0, g.1, after_first P Q r ts front g.0 (record { tok = t; fault = Some k } ∷ g.1) p g.2))
    (λ g. inr (g.0, second_begins P Q r ts front p g.1, second_refuses P Q r ts front t determined p g.2))
    f

-- the first part can't be read, so the whole can't
pub reads_not_first : {R S : Type 0} (P : R → List Mark → Type 0) (Q : R → S → List Mark → Type 0) (old new : Lexer) (e : AlgError)
    → ((r : R) → IsPossible (Q r)) → Reads P old (Err e) new → Reads (Then P Q) old (Err e) new
reads_not_first P Q old new (Bad f) possible x = record {
  front = x.front;
  at = x.at;
  taken = x.taken;
  place = x.place;
  shows = fault_first P Q x.front (step_of x.at.greatest x.at.rest) f.kind possible x.shows;
}
reads_not_first P Q old new NoMemory possible x = tt

-- the first part was read, and then the rest was or wasn't
pub reads_then : {R S : Type 0} (P : R → List Mark → Type 0) (Q : R → S → List Mark → Type 0) (old mid new : Lexer) (r : R) (result : Result S AlgError)
    → IsDetermined P → Reads P old (Ok r) mid → Reads (Q r) mid result new → Reads (Then P Q) old result new
reads_then P Q old mid new r (Ok s) determined x y =
    (x.0 ++ y.0, (r, clean x.0, clean y.0, x.1, y.1, clean-append x.0 y.0), takes-append x.0 y.0 old mid new x.2 y.2)
reads_then P Q old mid new r (Err (Bad f)) determined x y = record {
  front = x.0 ++ y.front;
  at = y.at;
  taken = takes-append x.0 y.front old mid y.at x.2 y.taken;
  place = y.place;
  shows = fault_second P Q r x.0 y.front (step_of y.at.greatest y.at.rest) f.kind determined x.1 y.shows;
}
reads_then P Q old mid new r (Err NoMemory) determined x y = tt

-- one mark is determined where its token says what it means
pub one_determined : {R : Type 0} (f : R → Mark) → ((r s : R) → (f r).tok ≡ (f s).tok → r ≡ s) → IsDetermined (One f)
one_determined f says r s xs ys y z p q h =
    let e : (f r).tok ≡ (f s).tok = cc in
    let same = says r s e in
    (same, p ∙ ap (λ x. f x ∷ []) same ∙ sym q)

pub nothing_determined : {R : Type 0} (meant : R) → IsDetermined (Nothing meant)
nothing_determined meant r s xs ys y z p q h = (p.0 ∙ sym q.0, p.1 ∙ sym q.1)

pub then_determined : {R S : Type 0} (P : R → List Mark → Type 0) (Q : R → S → List Mark → Type 0) → IsDetermined P → ((r : R) → IsDetermined (Q r)) → IsDetermined (Then P Q)
then_determined P Q first second s u ms ns y z (r, xs, ys, px, qy, e) (v, xs2, ys2, px2, qy2, e2) h =
    let split : toks xs ++ (toks ys ++ y) ≡ toks xs2 ++ (toks ys2 ++ z) =
    sym (append_assoc (toks xs) (toks ys) y) ∙ ap (λ l. l ++ y) (sym (toks-append xs ys)) ∙ ap (λ l. toks l ++ y) (sym e) ∙ h
    ∙ ap (λ l. toks l ++ z) e2 ∙ ap (λ l. l ++ z) (toks-append xs2 ys2) ∙ append_assoc (toks xs2) (toks ys2) z in
    let a = first r v xs xs2 (toks ys ++ y) (toks ys2 ++ z) px px2 split in
    let rest : toks ys ++ y ≡ toks ys2 ++ z = cancel (toks xs) (toks ys ++ y) (toks ys2 ++ z) (split ∙ ap (λ l. toks l ++ (toks ys2 ++ z)) (sym a.1)) in
    let b = second v s u ys ys2 y z (subst (λ x. Q x s ys) a.0 qy) qy2 rest in
    (b.0, e ∙ ap (λ l. l ++ ys) a.1 ∙ ap (λ l. xs2 ++ l) b.1 ∙ sym e2)

pub then_possible : {R S : Type 0} (P : R → List Mark → Type 0) (Q : R → S → List Mark → Type 0) → IsPossible P → ((r : R) → IsPossible (Q r)) → IsPossible (Then P Q)
then_possible P Q p q = let s = q p.0 in (s.0, p.1 ++ s.1, (p.0, p.1, s.1, p.2, s.2, refl))

put_refuses : {R S : Type 0} (P : R → List Mark → Type 0) (W : S → List Mark → Type 0) (ts front : List Tok) (t : Tok)
    → ((s : S) (ms : List Mark) (y z : List Tok) → W s ms → toks ms ++ y ≡ ts ++ z → (r : R) × (xs : List Mark) × P r xs × (toks ms ≡ ts ++ toks xs))
    → Refuses P front t → Refuses W (ts ++ front) t
put_refuses P W ts front t parts refuses s ms y z w h =
    let all : toks ms ++ y ≡ ts ++ (front ++ t ∷ z) = h ∙ append_assoc ts front (t ∷ z) in
    let p = parts s ms y (front ++ t ∷ z) w all in
    refuses p.0 p.1 y z p.2 (cancel ts (toks p.1 ++ y) (front ++ t ∷ z) (sym (append_assoc ts (toks p.1) y) ∙ ap (λ l. l ++ y) (sym p.3) ∙ all))

-- a fault after tokens that lead from one production into another, and into no third
pub fault_inside : {R S : Type 0} (P : R → List Mark → Type 0) (W : S → List Mark → Type 0) (give : R → S) (ts front : List Tok) (next : Step) (k : ExprKind)
    → ((r : R) (ms : List Mark) → P r ms → W (give r) (clean ts ++ ms))
    → ((s : S) (ms : List Mark) (y z : List Tok) → W s ms → toks ms ++ y ≡ ts ++ z → (r : R) × (xs : List Mark) × P r xs × (toks ms ≡ ts ++ toks xs))
    → FaultAt P front next k → FaultAt W (ts ++ front) next k
fault_inside {R} {S} P W give ts front next k put parts = by next
  where
    at : (r : R) (ms : List Mark) → P r (clean front ++ ms) → W (give r) (clean (ts ++ front) ++ ms)
    at r ms p = subst (λ l. W (give r) l) (sym (ap (λ l. l ++ ms) (clean-append ts front) ∙ append_assoc (clean ts) (clean front) ms)) (put r (clean front ++ ms) p)

    begins : Begins P front → Begins W (ts ++ front)
    begins b = (give b.0, b.1, b.2, at b.0 (b.1 ∷ b.2) b.3)

    by : (next : Step) → FaultAt P front next k → FaultAt W (ts ++ front) next k
    by end f = (f.0, begins f.1)
    by (bad lex.BadByte) f = (f.0, begins f.1)
    by (bad lex.NumberTooLarge) f =
        ⊎_elim
        (λ g. inl (g.0, (give g.1.0, g.1.1, g.1.2, g.1.3, g.1.4, at g.1.0 (g.1.2 ∷ g.1.3) g.1.5)))
        (λ g. inr (g.0, begins g.1, λ n. put_refuses P W ts front (number n) parts (g.2 n)))
        f
    by (token t rest) f =
        ⊎_elim
        (λ g. inl (give g.0, g.1, at g.0 (record { tok = t; fault = Some k } ∷ g.1) g.2))
        (λ g. inr (g.0, begins g.1, put_refuses P W ts front t parts g.2))
        f

-- the tokens were taken, and lead from one production into another, which was read or not
pub reads_inside : {R S : Type 0} (P : R → List Mark → Type 0) (W : S → List Mark → Type 0) (give : R → S) (ts : List Tok) (old mid new : Lexer) (result : Result R AlgError)
    → Takes ts old mid
    → ((r : R) (ms : List Mark) → P r ms → W (give r) (clean ts ++ ms))
    → ((s : S) (ms : List Mark) (y z : List Tok) → W s ms → toks ms ++ y ≡ ts ++ z → (r : R) × (xs : List Mark) × P r xs × (toks ms ≡ ts ++ toks xs))
    → Reads P mid result new → Reads W old (map_ok give result) new
reads_inside P W give ts old mid new (Ok r) takes put parts x =
    (ts ++ x.0, subst (λ l. W (give r) l) (sym (clean-append ts x.0)) (put r (clean x.0) x.1), takes-append ts x.0 old mid new takes x.2)
reads_inside P W give ts old mid new (Err (Bad f)) takes put parts x = record {
  front = ts ++ x.front;
  at = x.at;
  taken = takes-append ts x.front old mid x.at takes x.taken;
  place = x.place;
  shows = fault_inside P W give ts x.front (step_of x.at.greatest x.at.rest) f.kind put parts x.shows;
}
reads_inside P W give ts old mid new (Err NoMemory) takes put parts x = tt
