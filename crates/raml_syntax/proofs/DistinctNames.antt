-- Names of values and sources of maps, no two of which are the same.
use Rattle.std.proofs.Common.{◌≡◌, ℕ, ◌+◌, ◌<◌, zero, suc, Bool, true, false, not, ◌&&◌, ◌||◌, nat_le, List, [], ◌∷◌, ◌++◌, map, length, take, drop, get_or, Some, None, refl, ap, ap₂, sym, subst, ◌∙◌, arith, append_assoc, append-nil}
use Rattle.std.specs.List.{AllByRecursion, find}
use Rattle.std.specs.Str.{bytes_eq}
use Rattle.std.proofs.lemmas.Bool.{and_parts, and_from, or_parts, or_left, or_right, not_from_false, cond-true, cond-false}
use Rattle.std.proofs.lemmas.List.{get_or-drop, length-drop}
use Rattle.std.proofs.lemmas.List.Quantifiers.{position-Some}
use Rattle.raml_lex.specs.Tokens.{Tok, word, semicolon}
use Rattle.alg_model.specs.Names.{place_of}
use Rattle.alg_model.specs.Numbers.{max_table_names}
use Rattle.raml_syntax.specs.declared.faults.ExprKind.TheVariants.{BadTable}
use Rattle.raml_syntax.specs.declared.maps.AfterRow.{AfterRow}
use Rattle.raml_syntax.specs.declared.values.ValueList.{ValueList}
use Rattle.raml_syntax.specs.Differing.{differ}
use Rattle.raml_syntax.specs.Syntax.{ValueSyntax, MapSyntax, is_among, is_none}
use Rattle.raml_syntax.specs.Marks.{Mark, plain, own_name, values_marks, more_map_marks}
use Rattle.raml_syntax.specs.Productions.{clean}
use Rattle.raml_syntax.specs.Values.{Values}
use Rattle.raml_syntax.specs.Maps.{after_row, sources, is_new_source, source_mark, FollowingFirst, Maps}
use Rattle.raml_syntax.proofs.Formed.{passes}
use Rattle.raml_syntax.proofs.TestLaws.{bytes_same}
use Rattle.raml_syntax.proofs.Printing.{off}
use Rattle.raml_syntax.proofs.PrintedNames.{bytes_differ, first_apart, other_apart, not_pushed, at_among, place_at}

-- no fault stands at any of the marks
abbrev AreClean : List Mark → Type 0
AreClean ms = AllByRecursion (λ (m : Mark). m.fault ≡ None) ms

tokens_clean : (ts : List Tok) → AreClean (clean ts)
tokens_clean [] = tt
tokens_clean (t ∷ ts) = (refl, tokens_clean ts)

clean_after : (xs ys : List Mark) → AreClean (xs ++ ys) → AreClean ys
clean_after [] ys h = h
clean_after (x ∷ xs) ys h = clean_after xs ys h.1

differ_push : (before : List (List ℕ)) (w : List ℕ) → differ before ≡ true → is_among before w ≡ false → differ (before ++ w ∷ []) ≡ true
differ_push [] w d h = refl
differ_push (b ∷ bs) w d h =
    let p = first_apart b bs d in
    let q = or_parts (bytes_eq b w) (is_among bs w) h in
    and_from (not (is_among (bs ++ w ∷ []) b)) (differ (bs ++ w ∷ []))
    (not_from_false (is_among (bs ++ w ∷ []) b) (not_pushed bs w b p.0 (bytes_differ b w q.0))) (differ_push bs w p.1 q.1)

own_fresh : (before : List (List ℕ)) (w : List ℕ) → (own_name before w).fault ≡ None → is_among before w ≡ false
own_fresh before w h =
    let p = and_parts (not (is_none w) && not (is_among before w)) (nat_le (length before + 1) max_table_names) (passes (word w) BadTable (not (is_none w) && not (is_among before w) && nat_le (length before + 1) max_table_names) h) in
    off (is_among before w) (and_parts (not (is_none w)) (not (is_among before w)) p.0).1

more_names : (before : List (List ℕ)) (vs : List ValueSyntax) (rest : List Mark) → differ before ≡ true → AreClean (values_marks before vs ++ rest) → differ (before ++ map (λ (v : ValueSyntax). v.name) vs) ≡ true
more_names before [] rest d h = ap differ (append-nil before) ∙ d
more_names before (v ∷ vs) rest d h =
    ap differ (sym (append_assoc before (v.name ∷ []) (map (λ (v : ValueSyntax). v.name) vs)))
    ∙ more_names (before ++ v.name ∷ []) vs rest (differ_push before v.name d (own_fresh before v.name h.1.0)) h.1.1

-- the names of values that were read differ
pub values_differ : (values : ValueList) (ts : List Tok) → Values values (clean ts) → differ values.names ≡ true
values_differ values ts (first, xs, ys, p, (more, means, marks), e) =
    let h : AreClean ys = clean_after xs ys (subst AreClean e (tokens_clean ts)) in
    ap (λ (v : ValueList). differ v.names) means ∙ more_names (first ∷ []) more (plain semicolon ∷ []) refl (subst AreClean marks h)

source_fresh : (names before : List (List ℕ)) (w : List ℕ) → (source_mark names before w).fault ≡ None → is_among before w ≡ false
source_fresh names before w h = off (is_among before w) (and_parts (is_among names w) (not (is_among before w)) (passes (word w) BadTable (is_new_source names before w) h)).1

more_sources : (names before : List (List ℕ)) (ms : List MapSyntax) (rest : List Mark) → differ before ≡ true → AreClean (more_map_marks names before ms ++ rest) → differ (before ++ sources ms) ≡ true
more_sources names before [] rest d h = ap differ (append-nil before) ∙ d
more_sources names before (m ∷ ms) rest d h =
    ap differ (sym (append_assoc before (m.source ∷ []) (sources ms)))
    ∙ more_sources names (before ++ m.source ∷ []) ms rest (differ_push before m.source d (source_fresh names before m.source h.1.0)) h.1.1.1.1

following_differ : (names : List (List ℕ)) (w : List ℕ) (b : Bool) (r : List MapSyntax × AfterRow) (ys : List Mark) → AreClean ys → FollowingFirst names w b r ys → differ (sources r.0) ≡ true
following_differ names w true r ys h (after, xs, zs, p, q, e) = ap (λ (x : List MapSyntax × AfterRow). differ (sources x.0)) q.0
following_differ names w false r ys h (m, xs, zs, p, (more, means, marks), e) =
    let left : AreClean zs = clean_after xs zs (subst AreClean e h) in
    ap (λ ms. differ (sources ms)) means ∙ more_sources names (m.source ∷ []) more (after_row r.1 ∷ []) refl (subst AreClean marks left)

-- the sources of maps that were read differ
pub maps_differ : (names : List (List ℕ)) (r : List MapSyntax × AfterRow) (ts : List Tok) → Maps names r (clean ts) → differ (sources r.0) ≡ true
maps_differ names r ts (w, xs, ys, p, q, e) = following_differ names w (is_none w) r ys (clean_after xs ys (subst AreClean e (tokens_clean ts))) q

not_before : (names : List (List ℕ)) (k : ℕ) → differ names ≡ true → k < length names → is_among (take k names) (get_or names k []) ≡ false
not_before [] k d h = absurd (omega arith)
not_before (n ∷ names) zero d h = refl
not_before (n ∷ names) (suc k) d h =
    let apart = first_apart n names d in
    ap₂ (λ x y. x || y) (other_apart n (get_or names k []) names apart.0 (at_among names k (omega arith))) (not_before names k apart.1 (omega arith))

-- the next of the names may be the source of a map after those of the names before
pub next_source : (names before : List (List ℕ)) (k : ℕ) (w : List ℕ) → differ names ≡ true → k < length names → get_or names k [] ≡ w → before ≡ take k names → is_new_source names before w ≡ true
next_source names before k w d h e f =
    let among : is_among names w ≡ true = ap (is_among names) (sym e) ∙ at_among names k h in
    let fresh : is_among before w ≡ false = ap₂ is_among f (sym e) ∙ not_before names k d h in
    and_from (is_among names w) (not (is_among before w)) among (not_from_false (is_among before w) fresh)

-- the place of a name, which was found after so many
pub place_found : (names : List (List ℕ)) (w : List ℕ) (k p : ℕ) → differ names ≡ true → place_of (drop k names) w ≡ Some p → place_of names w ≡ Some (k + p)
place_found names w k p d e =
    let at = position-Some (λ name. bytes_eq name w) (drop k names) p [] e in
    let same : get_or names (k + p) [] ≡ w = sym (get_or-drop k names p []) ∙ bytes_same (get_or (drop k names) p []) w at.1 in
    let within : k + p < length names = omega (arith, at.0, length-drop k names) in
    ap (place_of names) (sym same) ∙ place_at names (k + p) d within

source_among : (ms : List MapSyntax) (k : ℕ) (w : List ℕ) (d : MapSyntax) → k < length ms → bytes_eq (get_or ms k d).source w ≡ true → is_among (sources ms) w ≡ true
source_among [] k w d h e = absurd (omega arith)
source_among (m ∷ ms) zero w d h e = or_left (bytes_eq m.source w) (is_among (sources ms) w) e
source_among (m ∷ ms) (suc k) w d h e = or_right (bytes_eq m.source w) (is_among (sources ms) w) (source_among ms k w d (omega arith) e)

-- a map of a source is the only one
pub map_found : (ms : List MapSyntax) (k : ℕ) (w : List ℕ) (d : MapSyntax) → differ (sources ms) ≡ true → k < length ms → bytes_eq (get_or ms k d).source w ≡ true
    → Some (get_or ms k d) ≡ find (λ (m : MapSyntax). bytes_eq m.source w) ms
map_found [] k w d differs h e = absurd (omega arith)
map_found (m ∷ ms) zero w d differs h e = sym (cond-true (bytes_eq m.source w) _ _ e)
map_found (m ∷ ms) (suc k) w d differs h e =
    let apart = first_apart m.source (sources ms) differs in
    let other = other_apart m.source w (sources ms) apart.0 (source_among ms k w d (omega arith) e) in
    map_found ms k w d apart.1 (omega arith) e ∙ sym (cond-false (bytes_eq m.source w) _ _ other)
