-- Lists of tokens of one text.
use Rattle.std.proofs.Common.{◌≡◌, ℕ, List, [], ◌∷◌, refl, sym, ◌∙◌, subst}
use Rattle.raml_lex.specs.Tokens.{Tok, token, end, Lexes}

-- no text has two of them
pub Lexes_same : (greatest : ℕ) (text : List ℕ) (ts us : List Tok) → Lexes greatest ts text → Lexes greatest us text → ts ≡ us
Lexes_same greatest text [] [] a b = refl
Lexes_same greatest text [] (u ∷ us) a b = absurd (let k : end ≡ token u b.0 = sym a ∙ b.1 in cc)
Lexes_same greatest text (t ∷ ts) [] a b = absurd (let k : end ≡ token t a.0 = sym b ∙ a.1 in cc)
Lexes_same greatest text (t ∷ ts) (u ∷ us) a b =
    let k : token t a.0 ≡ token u b.0 = sym a.1 ∙ b.1 in
    let first : t ≡ u = cc in
    let rest : b.0 ≡ a.0 = cc in
    let P : List ℕ → Type 0 = λ x. Lexes greatest us x in
    let others : ts ≡ us = Lexes_same greatest a.0 ts us a.2 (subst P rest b.2) in
    cc
