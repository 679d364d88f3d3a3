-- The names of nodes and destinations, with the spaces round them.
use Rattle.std.proofs.Common.{◌≡◌, ℕ, ◌+◌, ◌<◌, List, [], ◌∷◌, ◌++◌, length, get_or, drop, map, arith, sym, ap, ◌∙◌, append_assoc}
use Rattle.std.proofs.lemmas.List.{at_drop_more, get_or-map, length-map, map-append}
use Rattle.word_text.specs.declared.line.PathName.{PathName}
use Rattle.word_text.specs.PathNames.{after_space, between_spaces, name_text}

-- one name more is prepared, where each is made so
prepared_more : (make : List ℕ → List ℕ) (names : List PathName) (name : PathName) (nodes : List (List ℕ)) (i : ℕ) (whole : List (List ℕ)) → i < length nodes → name_text name ≡ make (get_or nodes i [])
    → map name_text names ++ map make (drop i nodes) ≡ whole → map name_text (names ++ name ∷ []) ++ map make (drop (i + 1) nodes) ≡ whole
prepared_more make names name nodes i whole h e before =
    let rest = map make (drop (i + 1) nodes) in
    ap (λ l. l ++ rest) (map-append name_text names (name ∷ []))
    ∙ append_assoc (map name_text names) (name_text name ∷ []) rest
    ∙ ap (λ x. map name_text names ++ x ∷ rest) e
    ∙ ap (λ l. map name_text names ++ l) (sym (at_drop_more (map make) nodes i [] h))
    ∙ before

pub names_more : (names : List PathName) (name : PathName) (nodes : List (List ℕ)) (i : ℕ) (whole : List (List ℕ)) → i < length nodes → name_text name ≡ after_space (get_or nodes i [])
    → map name_text names ++ map after_space (drop i nodes) ≡ whole → map name_text (names ++ name ∷ []) ++ map after_space (drop (i + 1) nodes) ≡ whole
names_more = prepared_more after_space

pub dests_more : (names : List PathName) (name : PathName) (dests : List (List ℕ)) (i : ℕ) (whole : List (List ℕ)) → i < length dests → name_text name ≡ between_spaces (get_or dests i [])
    → map name_text names ++ map between_spaces (drop i dests) ≡ whole → map name_text (names ++ name ∷ []) ++ map between_spaces (drop (i + 1) dests) ≡ whole
dests_more = prepared_more between_spaces

-- a name by its number
pub text_at : (names : List PathName) (i : ℕ) (name : PathName) → i < length names → name ≡ get_or names i name → name_text name ≡ get_or (map name_text names) i []
text_at names i name h is = ap name_text is ∙ sym (get_or-map name_text names i name [] h)

pub name_at : (make : List ℕ → List ℕ) (texts names : List (List ℕ)) (i : ℕ) → texts ≡ map make names → i < length names → get_or texts i [] ≡ make (get_or names i [])
name_at make texts names i e h = ap (λ l. get_or l i []) e ∙ get_or-map make names i [] [] h
