-- The tokens that a text begins with.
use Rattle.std.proofs.Common.{◌≡◌, ◌⊎◌, ⊎_elim, inl, inr, ℕ, List, [], ◌∷◌, ◌++◌, refl, sym, ap, ap₂, subst, ◌∙◌, append_assoc, append-nil}
use Rattle.raml_lex.specs.Tokens.{Tok, end, token, step_of, Lexes}
use Rattle.raml_syntax.specs.ExprText.{greatest_following, BeginsWith}

-- whatever follows these tokens, the greatest number stays the same
abbrev pub IsSettled : List Tok → Type 0
IsSettled before = (ts : List Tok) → greatest_following (before ++ ts) ≡ greatest_following before

pub settled_more : (before : List Tok) (t : Tok) → IsSettled before → IsSettled (before ++ t ∷ [])
settled_more before t s ts = ap greatest_following (append_assoc before (t ∷ []) ts) ∙ s (t ∷ ts) ∙ sym (s (t ∷ []))

-- tokens, and then more
pub begins_append : (before ts us : List Tok) (text mid rest : List ℕ) → BeginsWith before ts text mid → BeginsWith (before ++ ts) us mid rest → BeginsWith before (ts ++ us) text rest
begins_append before [] us text mid rest p q = subst (λ b. BeginsWith b us text rest) (append-nil before) (subst (λ x. BeginsWith (before ++ []) us x rest) (sym p) q)
begins_append before (t ∷ ts) us text mid rest p q =
    (p.0, p.1, begins_append (before ++ t ∷ []) ts us p.0 mid rest p.2 (subst (λ b. BeginsWith b us mid rest) (sym (append_assoc before (t ∷ []) ts)) q))

-- all tokens of a text, where the greatest number stays the same
pub lexes_begin : (greatest : ℕ) (before ts : List Tok) (text : List ℕ) → IsSettled before → greatest_following before ≡ greatest → Lexes greatest ts text
    → (rest : List ℕ) × BeginsWith before ts text rest × (step_of greatest rest ≡ end)
lexes_begin greatest before [] text s e l = (text, refl, l)
lexes_begin greatest before (t ∷ ts) text s e l =
    let more = lexes_begin greatest (before ++ t ∷ []) ts l.0 (settled_more before t s) (s (t ∷ []) ∙ e) l.2 in
    (more.0, (l.0, ap (λ g. step_of g text) e ∙ l.1, more.1), more.2)

-- the second list goes on after the first, which ends here
abbrev pub GoesBeyond : List Tok → List Tok → List ℕ → List Tok → Type 0
GoesBeyond before ts at us = (t : Tok) × (rest : List ℕ) × (more : List Tok) × (us ≡ ts ++ t ∷ more) × (step_of (greatest_following (before ++ ts)) at ≡ token t rest)

-- the same with one token more in front
beyond_more : (before : List Tok) (t u : Tok) (ts us : List Tok) (at : List ℕ) → t ≡ u → GoesBeyond (before ++ t ∷ []) ts at us → GoesBeyond before (t ∷ ts) at (u ∷ us)
beyond_more before t u ts us at e g = (g.0, g.1, g.2, ap₂ (λ x l. x ∷ l) (sym e) g.3, ap (λ b. step_of (greatest_following b) at) (sym (append_assoc before (t ∷ []) ts)) ∙ g.4)

-- of two lists of tokens that a text begins with one goes beyond the other, or they are the same
pub two_begin : (before ts us : List Tok) (text at to : List ℕ) → BeginsWith before ts text at → BeginsWith before us text to
    → ((ts ≡ us) × (at ≡ to)) ⊎ (GoesBeyond before ts at us ⊎ GoesBeyond before us to ts)
two_begin before [] [] text at to p q = inl (refl, sym p ∙ q)
two_begin before [] (u ∷ us) text at to p q = inr (inl (u, q.0, us, refl, ap₂ (λ b x. step_of (greatest_following b) x) (append-nil before) (sym p) ∙ q.1))
two_begin before (t ∷ ts) [] text at to p q = inr (inr (t, p.0, ts, refl, ap₂ (λ b x. step_of (greatest_following b) x) (append-nil before) (sym q) ∙ p.1))
two_begin before (t ∷ ts) (u ∷ us) text at to p q =
    let k : token t p.0 ≡ token u q.0 = sym p.1 ∙ q.1 in
    let a : t ≡ u = cc in
    let rest : q.0 ≡ p.0 = cc in
    let others : BeginsWith (before ++ t ∷ []) us p.0 to = subst (λ x. BeginsWith (before ++ x ∷ []) us p.0 to) (sym a) (subst (λ x. BeginsWith (before ++ u ∷ []) us x to) rest q.2) in
    ⊎_elim
    (λ e. inl (ap₂ (λ x l. x ∷ l) a e.0, e.1))
    (λ e. inr (⊎_elim (λ g. inl (beyond_more before t u ts us at a g)) (λ g. inr (beyond_more before u t us ts to (sym a) (subst (λ x. GoesBeyond (before ++ x ∷ []) us to ts) a g))) e))
    (two_begin (before ++ t ∷ []) ts us p.0 at to p.2 others)
