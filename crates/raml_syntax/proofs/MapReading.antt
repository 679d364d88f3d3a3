-- Reading the maps of a row.
use Rattle.std.proofs.Common.{◌≡◌, ℕ, Bool, true, false, not, ◌&&◌, None, List, [], ◌∷◌, ◌++◌, Result, Ok, Err, refl, sym, ap, subst, ◌∙◌, append_assoc, append-nil}
use Rattle.meta_base.specs.declared.ids.Place.{Place}
use Rattle.raml_lex.specs.declared.token.TokenKind.{TokenKind}
use Rattle.raml_lex.specs.declared.token.TokenKind.TheVariants as kind
use Rattle.raml_lex.specs.Tokens.{Tok, word, number, right_brace, comma, semicolon, arrow}
use Rattle.raml_lex.specs.Lexers.{Lexer}
use Rattle.raml_lex.specs.Views.{tok_of}
use Rattle.raml_syntax.specs.declared.faults.AlgError.{AlgError}
use Rattle.raml_syntax.specs.declared.maps.AfterRow.{AfterRow}
use Rattle.raml_syntax.specs.declared.maps.AfterRow.TheVariants.{Row, End}
use Rattle.raml_syntax.specs.declared.maps.AfterMap.{AfterMap}
use Rattle.raml_syntax.specs.declared.maps.AfterMap.TheVariants as after
use Rattle.raml_syntax.specs.Syntax.{MapSyntax, is_among, is_none}
use Rattle.raml_syntax.specs.Marks.{Mark, plain, more_map_marks}
use Rattle.raml_syntax.specs.Productions.{toks}
use Rattle.raml_syntax.specs.Reading.{TakesOne}
use Rattle.raml_syntax.specs.Leaves.{TakesAt, Misses, IsRefusal, IsTok, IsWord}
use Rattle.raml_syntax.specs.Tested.{ReadsFollowing}
use Rattle.raml_syntax.specs.Sequences.{Nothing, One, Then, Reads, IsDetermined, IsPossible}
use Rattle.raml_syntax.specs.Maps.{after_row, after_map, arrow_mark, sources, source_mark, target_mark, first_mark, Target, MoreMaps, NoMaps, FirstMap, FollowingFirst, Maps}
use Rattle.raml_syntax.proofs.Sequences.{reads_then, reads_not_first, one_determined, nothing_determined, then_determined, then_possible}
use Rattle.raml_syntax.proofs.Tested.{reads_same, reads_nothing, reads_tested, following_then, following_not_first, same_kind, words_determined, one_no_word, one_mark, one_no_mark, Leads}
use Rattle.raml_syntax.proofs.OneToken.{one_good}

pub row_no_number : (a : AfterRow) (n : ℕ) → (after_row a).tok ≡ number n → ⊥
row_no_number Row n e = absurd (cc)
row_no_number End n e = absurd (cc)

pub row_no_other : (k : TokenKind) (text : List ℕ) → (k ≡ kind.Semicolon → ⊥) → (k ≡ kind.RightBrace → ⊥) → (a : AfterRow) → (after_row a).tok ≡ tok_of k text → ⊥
row_no_other k text f g Row e = f (same_kind semicolon k text e)
row_no_other k text f g End e = g (same_kind right_brace k text e)

pub map_no_number : (a : AfterMap) (n : ℕ) → (after_map a).tok ≡ number n → ⊥
map_no_number after.Map n e = absurd (cc)
map_no_number (after.After a) n e = row_no_number a n e

pub map_no_other : (k : TokenKind) (text : List ℕ) → (k ≡ kind.Comma → ⊥) → (k ≡ kind.Semicolon → ⊥) → (k ≡ kind.RightBrace → ⊥) → (a : AfterMap) → (after_map a).tok ≡ tok_of k text → ⊥
map_no_other k text f g h after.Map e = f (same_kind comma k text e)
map_no_other k text f g h (after.After a) e = row_no_other k text g h a e

row_same : (a b : AfterRow) → (after_row a).tok ≡ (after_row b).tok → a ≡ b
row_same Row Row e = refl
row_same Row End e = absurd (cc)
row_same End Row e = absurd (cc)
row_same End End e = refl

row_no_comma : (a : AfterRow) → (after_row a).tok ≡ comma → ⊥
row_no_comma Row e = absurd (cc)
row_no_comma End e = absurd (cc)

map_same : (a b : AfterMap) → (after_map a).tok ≡ (after_map b).tok → a ≡ b
map_same after.Map after.Map e = refl
map_same after.Map (after.After b) e = absurd (row_no_comma b (sym e))
map_same (after.After a) after.Map e = absurd (row_no_comma a e)
map_same (after.After a) (after.After b) e = ap after.After (row_same a b e)

pub row_determined : IsDetermined (One after_row)
row_determined = one_determined after_row row_same

pub map_determined : IsDetermined (One after_map)
map_determined = one_determined after_map map_same

pub source_determined : (names before : List (List ℕ)) → IsDetermined (One (source_mark names before))
source_determined names before = one_determined (source_mark names before) (words_determined (source_mark names before) (λ w. refl))

pub target_name_determined : (names : List (List ℕ)) → IsDetermined (One (target_mark names))
target_name_determined names = one_determined (target_mark names) (words_determined (target_mark names) (λ w. refl))

pub arrow_determined : IsDetermined (One arrow_mark)
arrow_determined = one_determined arrow_mark (λ r s e. refl)

first_is : (names : List (List ℕ)) (w : List ℕ) (b : Bool) → is_none w ≡ b → (first_mark names w).tok ≡ word w
first_is names w true e = rw e refl
first_is names w false e = rw e refl

pub first_word : (names : List (List ℕ)) (w : List ℕ) → (first_mark names w).tok ≡ word w
first_word names w = first_is names w (is_none w) refl

pub first_determined : (names : List (List ℕ)) → IsDetermined (One (first_mark names))
first_determined names = one_determined (first_mark names) (words_determined (first_mark names) (first_word names))

pub target_determined : (names : List (List ℕ)) (source : List ℕ) → IsDetermined (Target names source)
target_determined names source =
    then_determined (One arrow_mark) _ arrow_determined (λ _. then_determined (One (target_mark names)) _ (target_name_determined names) (λ target. nothing_determined (record { source = source; target = target })))

pub target_possible : (names : List (List ℕ)) (source : List ℕ) → IsPossible (Target names source)
target_possible names source =
    then_possible (One arrow_mark) _ (tt, arrow_mark tt ∷ [], refl)
    (λ _. then_possible (One (target_mark names)) _ ([], target_mark names [] ∷ [], refl) (λ target. (record { source = source; target = target }, [], (refl, refl))))

syntax_same : (m n : MapSyntax) → m.source ≡ n.source → m.target ≡ n.target → m ≡ n
syntax_same m n e f =
    let make : List ℕ → List ℕ → MapSyntax = λ source target. record { source = source; target = target } in
    ap (λ s. make s m.target) e ∙ ap (λ t. make n.source t) f

-- no maps begin others
maps_same : (names before : List (List ℕ)) (ms ns : List MapSyntax) (a b : AfterRow) (y z : List Tok)
    → toks (more_map_marks names before ms ++ after_row a ∷ []) ++ y ≡ toks (more_map_marks names before ns ++ after_row b ∷ []) ++ z → (ms ≡ ns) × (a ≡ b)
maps_same names before [] [] a b y z h =
    let k : (after_row a).tok ∷ y ≡ (after_row b).tok ∷ z = h in
    (refl, row_same a b (cc))
maps_same names before [] (n ∷ ns) a b y z h =
    let k : (after_row a).tok ∷ y ≡ comma ∷ (word n.source ∷ arrow ∷ word n.target ∷ (toks (more_map_marks names (before ++ n.source ∷ []) ns ++ after_row b ∷ []) ++ z)) = h in
    absurd (row_no_comma a (cc))
maps_same names before (m ∷ ms) [] a b y z h =
    let k : comma ∷ (word m.source ∷ arrow ∷ word m.target ∷ (toks (more_map_marks names (before ++ m.source ∷ []) ms ++ after_row a ∷ []) ++ y)) ≡ (after_row b).tok ∷ z = h in
    absurd (row_no_comma b (cc))
maps_same names before (m ∷ ms) (n ∷ ns) a b y z h =
    let k : comma ∷ (word m.source ∷ arrow ∷ word m.target ∷ (toks (more_map_marks names (before ++ m.source ∷ []) ms ++ after_row a ∷ []) ++ y))
    ≡ comma ∷ (word n.source ∷ arrow ∷ word n.target ∷ (toks (more_map_marks names (before ++ n.source ∷ []) ns ++ after_row b ∷ []) ++ z)) = h in
    let source : m.source ≡ n.source = cc in
    let target : m.target ≡ n.target = cc in
    let more : toks (more_map_marks names (before ++ m.source ∷ []) ms ++ after_row a ∷ []) ++ y ≡ toks (more_map_marks names (before ++ n.source ∷ []) ns ++ after_row b ∷ []) ++ z = cc in
    let rest = maps_same names (before ++ m.source ∷ []) ms ns a b y z (more ∙ ap (λ w. toks (more_map_marks names (before ++ w ∷ []) ns ++ after_row b ∷ []) ++ z) (sym source)) in
    let first : m ≡ n = syntax_same m n source target in
    (ap (λ x. x ∷ ms) first ∙ ap (λ l. n ∷ l) rest.0, rest.1)

pub pair_same : (r s : List MapSyntax × AfterRow) → r.0 ≡ s.0 → r.1 ≡ s.1 → r ≡ s
pair_same r s e f =
    let make : List MapSyntax → AfterRow → List MapSyntax × AfterRow = λ ms a. (ms, a) in
    ap (λ x. make x r.1) e ∙ ap (λ a. make s.0 a) f

pub more_determined : (names : List (List ℕ)) (done : List MapSyntax) → IsDetermined (MoreMaps names done)
more_determined names done r s xs ys y z p q h =
    let e = maps_same names (sources done) p.0 q.0 r.1 s.1 y z (ap (λ l. toks l ++ y) (sym p.2) ∙ h ∙ ap (λ l. toks l ++ z) q.2) in (
      pair_same r s (p.1 ∙ ap (λ l. done ++ l) e.0 ∙ sym q.1) e.1,
      p.2 ∙ ap (λ ms. more_map_marks names (sources done) ms ++ after_row r.1 ∷ []) e.0 ∙ ap (λ a. more_map_marks names (sources done) q.0 ++ after_row a ∷ []) e.1 ∙ sym q.2,
    )

pub more_possible : (names : List (List ℕ)) (done : List MapSyntax) → IsPossible (MoreMaps names done)
more_possible names done = ((done ++ [], End), after_row End ∷ [], ([], refl, refl))

pub no_maps_determined : IsDetermined NoMaps
no_maps_determined = then_determined (One after_row) _ row_determined (λ a. nothing_determined ([], a))

pub no_maps_possible : IsPossible NoMaps
no_maps_possible = (([], End), after_row End ∷ [], (End, after_row End ∷ [], [], refl, (refl, refl), refl))

pub first_map_determined : (names : List (List ℕ)) (source : List ℕ) → IsDetermined (FirstMap names source)
first_map_determined names source = then_determined (Target names source) _ (target_determined names source) (λ m. more_determined names (m ∷ []))

pub first_map_possible : (names : List (List ℕ)) (source : List ℕ) → IsPossible (FirstMap names source)
first_map_possible names source = then_possible (Target names source) _ (target_possible names source) (λ m. more_possible names (m ∷ []))

following_first_determined : (names : List (List ℕ)) (w : List ℕ) (b : Bool) → IsDetermined (FollowingFirst names w b)
following_first_determined names w true = no_maps_determined
following_first_determined names w false = first_map_determined names w

pub following_first_possible : (names : List (List ℕ)) (w : List ℕ) (b : Bool) → IsPossible (FollowingFirst names w b)
following_first_possible names w true = no_maps_possible
following_first_possible names w false = first_map_possible names w

pub maps_determined : (names : List (List ℕ)) → IsDetermined (Maps names)
maps_determined names = then_determined (One (first_mark names)) _ (first_determined names) (λ w. following_first_determined names w (is_none w))

pub maps_possible : (names : List (List ℕ)) → IsPossible (Maps names)
maps_possible names = then_possible (One (first_mark names)) _ ([], first_mark names [] ∷ [], refl) (λ w. following_first_possible names w (is_none w))

-- what follows a mark after a map
abbrev pub FollowingMap : List (List ℕ) → List MapSyntax → AfterMap → List MapSyntax × AfterRow → List Mark → Type 0
FollowingMap names done after.Map = Then (One (source_mark names (sources done))) (λ w. Then (Target names w) (λ m. MoreMaps names (done ++ m ∷ [])))
FollowingMap names done (after.After a) = Nothing (done, a)

pub sources-append : (ms ns : List MapSyntax) → sources (ms ++ ns) ≡ sources ms ++ sources ns
sources-append [] ns = refl
sources-append (m ∷ ms) ns = ap (λ l. m.source ∷ l) (sources-append ms ns)

pub target_is : (names : List (List ℕ)) (w : List ℕ) (m : MapSyntax) (ms : List Mark) → Target names w m ms → (m.source ≡ w) × (ms ≡ plain arrow ∷ target_mark names m.target ∷ [])
target_is names w m ms (u, a, b, pa, (target, c, d, pc, (pm, pd), e), f) =
    let t : m.target ≡ target = ap (λ (x : MapSyntax). x.target) pm in
    (ap (λ (x : MapSyntax). x.source) pm, rw (f, e, pa, pc, pd, t) refl)

pub target_from : (names : List (List ℕ)) (m : MapSyntax) → Target names m.source m (plain arrow ∷ target_mark names m.target ∷ [])
target_from names m = (tt, plain arrow ∷ [], target_mark names m.target ∷ [], refl, (m.target, target_mark names m.target ∷ [], [], refl, (refl, refl), refl), refl)

more_put : (names : List (List ℕ)) (done : List MapSyntax) (r : List MapSyntax × AfterRow) (ms : List Mark) → Then (One after_map) (FollowingMap names done) r ms → MoreMaps names done r ms
more_put names done r ms (after.Map, xs, ys, p, (w, us, vs, pw, (m, ts, zs, tm, (more, means, marks), e), f), g) =
    let t = target_is names w m ts tm in (
      m ∷ more,
      means ∙ append_assoc done (m ∷ []) more,
      rw (g, p, f, pw, e, t.1, marks, sources-append done (m ∷ []), t.0) refl,
    )
more_put names done r ms (after.After a, xs, ys, p, q, g) =
    ([], ap (λ (x : List MapSyntax × AfterRow). x.0) q.0 ∙ sym (append-nil done), rw (g, p, q.1, q.0) refl)

more_back : (names : List (List ℕ)) (done : List MapSyntax) (r : List MapSyntax × AfterRow) (ms : List Mark) → MoreMaps names done r ms → Then (One after_map) (FollowingMap names done) r ms
more_back names done r ms ([], means, marks) =
    (after.After r.1, after_row r.1 ∷ [], [], refl, (pair_same r (done, r.1) (means ∙ append-nil done) refl, refl), marks)
more_back names done r ms (m ∷ more, means, marks) =
    let rest = more_map_marks names (sources done ++ m.source ∷ []) more ++ after_row r.1 ∷ [] in
    let target = plain arrow ∷ target_mark names m.target ∷ [] in
    let source = source_mark names (sources done) m.source in (
      after.Map,
      plain comma ∷ [],
      source ∷ (target ++ rest),
      refl,
      (
        m.source,
        source ∷ [],
        target ++ rest,
        refl,
        (m, target, rest, target_from names m, (more, means ∙ sym (append_assoc done (m ∷ []) more), ap (λ l. more_map_marks names l more ++ after_row r.1 ∷ []) (sym (sources-append done (m ∷ [])))), refl),
        refl,
      ),
      marks,
    )

following_possible : (names : List (List ℕ)) (done : List MapSyntax) (a : AfterMap) → IsPossible (FollowingMap names done a)
following_possible names done after.Map =
    then_possible (One (source_mark names (sources done))) _ ([], source_mark names (sources done) [] ∷ [], refl)
    (λ w. then_possible (Target names w) _ (target_possible names w) (λ m. more_possible names (done ++ m ∷ [])))
following_possible names done (after.After a) = ((done, a), [], (refl, refl))

-- no mark stands after a map
pub more_no_mark : (names : List (List ℕ)) (done : List MapSyntax) (old new : Lexer) (e : AlgError) → Reads (One after_map) old (Err e) new → Reads (MoreMaps names done) old (Err e) new
more_no_mark names done old new e x =
    reads_same _ (MoreMaps names done) old new (Err e) (more_put names done) (more_back names done) (reads_not_first (One after_map) (FollowingMap names done) old new e (following_possible names done) x)

pub more_following : (names : List (List ℕ)) (done : List MapSyntax) (old mid new : Lexer) (a : AfterMap) (result : Result (List MapSyntax × AfterRow) AlgError)
    → Reads (One after_map) old (Ok a) mid → Reads (FollowingMap names done a) mid result new → Reads (MoreMaps names done) old result new
more_following names done old mid new a result x y =
    reads_same _ (MoreMaps names done) old new result (more_put names done) (more_back names done) (reads_then (One after_map) (FollowingMap names done) old mid new a result map_determined x y)

-- the maps are over
pub more_end : (names : List (List ℕ)) (done : List MapSyntax) (old new : Lexer) (a : AfterRow) → Reads (One after_map) old (Ok (after.After a)) new → Reads (MoreMaps names done) old (Ok (done, a)) new
more_end names done old new a x = more_following names done old new new (after.After a) (Ok (done, a)) x (reads_nothing (done, a) new)

pub maps_no_word : (names : List (List ℕ)) (old new : Lexer) (e : AlgError) → IsRefusal (Misses IsWord) old e → Reads (Maps names) old (Err e) new
maps_no_word names old new e x =
    reads_not_first (One (first_mark names)) _ old new e (λ w. following_first_possible names w (is_none w)) (one_no_word (first_mark names) e old new (first_word names) x)

maps_following_none : (names : List (List ℕ)) (w : List ℕ) (old mid new : Lexer) (result : Result (List MapSyntax × AfterRow) AlgError)
    → is_none w ≡ true → TakesOne (word w) old mid → Reads NoMaps mid result new → Reads (Maps names) old result new
maps_following_none names w old mid new result e takes x =
    let none : (first_mark names w).fault ≡ None = rw e refl in
    reads_then (One (first_mark names)) _ old mid new w result (first_determined names) (one_good (first_mark names) w (word w) old mid (first_word names w) none takes)
    (subst (λ b. Reads (FollowingFirst names w b) mid result new) (sym e) x)

-- what no maps mean
abbrev pub NothingThen : AfterRow → List MapSyntax × AfterRow → List Mark → Type 0
NothingThen a = Nothing ([], a)

-- there are no maps
pub maps_none : (names : List (List ℕ)) (w : List ℕ) (old mid new : Lexer) (a : AfterRow)
    → is_none w ≡ true → TakesOne (word w) old mid → Reads (One after_row) mid (Ok a) new → Reads (Maps names) old (Ok ([], a)) new
maps_none names w old mid new a e takes x =
    maps_following_none names w old mid new (Ok ([], a)) e takes
    (reads_then (One after_row) NothingThen mid new new a (Ok ([], a)) row_determined x ([], (refl, refl), refl))

-- and no mark after the row
pub maps_none_bad : (names : List (List ℕ)) (w : List ℕ) (old mid new : Lexer) (e : AlgError)
    → is_none w ≡ true → TakesOne (word w) old mid → Reads (One after_row) mid (Err e) new → Reads (Maps names) old (Err e) new
maps_none_bad names w old mid new e none takes x =
    maps_following_none names w old mid new (Err e) none takes (reads_not_first (One after_row) NothingThen mid new e (λ a. (([], a), [], (refl, refl))) x)

maps_following : (names : List (List ℕ)) (w : List ℕ) (p : Place) (old mid new : Lexer) (result : Result (List MapSyntax × AfterRow) AlgError)
    → is_none w ≡ false → TakesAt (word w) p old mid → ReadsFollowing (is_among names w && not (is_among [] w)) p (FirstMap names w) mid result new → Reads (Maps names) old result new
maps_following names w p old mid new result e takes x =
    reads_tested (first_mark names) (λ w. FollowingFirst names w (is_none w)) w (word w) (is_among names w && not (is_among [] w)) p old mid new result
    (first_determined names) (λ w. following_first_possible names w (is_none w)) (rw e refl) takes
    (subst (λ b. ReadsFollowing (is_among names w && not (is_among [] w)) p (FollowingFirst names w b) mid result new) (sym e) x)

-- a first map was read
pub maps_first : (names : List (List ℕ)) (w : List ℕ) (p : Place) (old mid next : Lexer) (m : MapSyntax)
    → is_none w ≡ false → TakesAt (word w) p old mid → ReadsFollowing (is_among names w && not (is_among [] w)) p (Target names w) mid (Ok m) next
    → Leads (Maps names) old (MoreMaps names (m ∷ [])) next
maps_first names w p old mid next m e takes x result new y =
    maps_following names w p old mid new result e takes
    (following_then (Target names w) _ (is_among names w && not (is_among [] w)) p mid next new m result (target_determined names w) x y)

-- a first map is at fault
pub maps_first_bad : (names : List (List ℕ)) (w : List ℕ) (p : Place) (old mid new : Lexer) (e : AlgError)
    → is_none w ≡ false → TakesAt (word w) p old mid → ReadsFollowing (is_among names w && not (is_among [] w)) p (Target names w) mid (Err e) new
    → Reads (Maps names) old (Err e) new
maps_first_bad names w p old mid new e none takes x =
    maps_following names w p old mid new (Err e) none takes
    (following_not_first (Target names w) _ (is_among names w && not (is_among [] w)) p mid new e (λ m. more_possible names (m ∷ [])) x)

source_possible : (names : List (List ℕ)) (done : List MapSyntax) (w : List ℕ) → IsPossible (Then (Target names w) (λ m. MoreMaps names (done ++ m ∷ [])))
source_possible names done w = then_possible (Target names w) _ (target_possible names w) (λ m. more_possible names (done ++ m ∷ []))

-- no word stands after a comma
pub more_no_source : (names : List (List ℕ)) (done : List MapSyntax) (old mid new : Lexer) (e : AlgError)
    → Reads (One after_map) old (Ok after.Map) mid → IsRefusal (Misses IsWord) mid e → Reads (MoreMaps names done) old (Err e) new
more_no_source names done old mid new e x y =
    more_following names done old mid new after.Map (Err e) x
    (reads_not_first (One (source_mark names (sources done))) _ mid new e (source_possible names done)
    (one_no_word (source_mark names (sources done)) e mid new (λ w. refl) y))

more_following_source : (names : List (List ℕ)) (done : List MapSyntax) (w : List ℕ) (p : Place) (old mid next new : Lexer) (result : Result (List MapSyntax × AfterRow) AlgError)
    → Reads (One after_map) old (Ok after.Map) mid → TakesAt (word w) p mid next
    → ReadsFollowing (is_among names w && not (is_among (sources done) w)) p (Then (Target names w) (λ m. MoreMaps names (done ++ m ∷ []))) next result new
    → Reads (MoreMaps names done) old result new
more_following_source names done w p old mid next new result x takes y =
    more_following names done old mid new after.Map result x
    (reads_tested (source_mark names (sources done)) _ w (word w) (is_among names w && not (is_among (sources done) w)) p mid next new result
    (source_determined names (sources done)) (source_possible names done) refl takes y)

-- one map more was read
pub more_next : (names : List (List ℕ)) (done : List MapSyntax) (w : List ℕ) (p : Place) (old mid next last : Lexer) (m : MapSyntax)
    → Reads (One after_map) old (Ok after.Map) mid → TakesAt (word w) p mid next
    → ReadsFollowing (is_among names w && not (is_among (sources done) w)) p (Target names w) next (Ok m) last
    → Leads (MoreMaps names done) old (MoreMaps names (done ++ m ∷ [])) last
more_next names done w p old mid next last m x takes y result new z =
    more_following_source names done w p old mid next new result x takes
    (following_then (Target names w) _ (is_among names w && not (is_among (sources done) w)) p next last new m result (target_determined names w) y z)

-- one map more is at fault
pub more_bad : (names : List (List ℕ)) (done : List MapSyntax) (w : List ℕ) (p : Place) (old mid next new : Lexer) (e : AlgError)
    → Reads (One after_map) old (Ok after.Map) mid → TakesAt (word w) p mid next
    → ReadsFollowing (is_among names w && not (is_among (sources done) w)) p (Target names w) next (Err e) new
    → Reads (MoreMaps names done) old (Err e) new
more_bad names done w p old mid next new e x takes y =
    more_following_source names done w p old mid next new (Err e) x takes
    (following_not_first (Target names w) _ (is_among names w && not (is_among (sources done) w)) p next new e (λ m. more_possible names (done ++ m ∷ [])) y)

-- what the target of a map means
abbrev pub MapTo : List ℕ → List ℕ → MapSyntax → List Mark → Type 0
MapTo source target = Nothing (record { source = source; target = target })

abbrev pub TargetName : List (List ℕ) → List ℕ → MapSyntax → List Mark → Type 0
TargetName names source = Then (One (target_mark names)) (MapTo source)

map_possible : (source target : List ℕ) → IsPossible (MapTo source target)
map_possible source target = (record { source = source; target = target }, [], (refl, refl))

-- no arrow stands after a source
pub target_no_arrow : (names : List (List ℕ)) (source : List ℕ) (old new : Lexer) (e : AlgError) → IsRefusal (Misses (IsTok arrow)) old e → Reads (Target names source) old (Err e) new
target_no_arrow names source old new e x =
    reads_not_first (One arrow_mark) (λ _. TargetName names source) old new e
    (λ _. then_possible (One (target_mark names)) (MapTo source) ([], target_mark names [] ∷ [], refl) (map_possible source))
    (one_no_mark arrow_mark arrow e old new (λ u. refl) (λ n (k : arrow ≡ number n). absurd (cc)) x)

target_then : (names : List (List ℕ)) (source : List ℕ) (old mid new : Lexer) (result : Result MapSyntax AlgError)
    → TakesOne arrow old mid → Reads (TargetName names source) mid result new → Reads (Target names source) old result new
target_then names source old mid new result takes x =
    reads_then (One arrow_mark) (λ _. TargetName names source) old mid new tt result arrow_determined (one_mark arrow_mark arrow old mid (λ u. refl) takes) x

-- the target is at fault
pub target_bad : (names : List (List ℕ)) (source : List ℕ) (old mid new : Lexer) (e : AlgError)
    → TakesOne arrow old mid → Reads (One (target_mark names)) mid (Err e) new → Reads (Target names source) old (Err e) new
target_bad names source old mid new e takes x =
    target_then names source old mid new (Err e) takes (reads_not_first (One (target_mark names)) (MapTo source) mid new e (map_possible source) x)

-- the target was read
pub target_good : (names : List (List ℕ)) (source target : List ℕ) (old mid new : Lexer)
    → TakesOne arrow old mid → Reads (One (target_mark names)) mid (Ok target) new → Reads (Target names source) old (Ok (record { source = source; target = target })) new
target_good names source target old mid new takes x =
    let m : MapSyntax = record { source = source; target = target } in
    target_then names source old mid new (Ok m) takes (reads_then (One (target_mark names)) (MapTo source) mid new new target (Ok m) (target_name_determined names) x (reads_nothing m new))

-- what reading a map after these ones says
abbrev pub IsRead : List (List ℕ) → List ℕ → Place → Lexer → Result MapSyntax AlgError → Lexer → List MapSyntax → Type 0
IsRead names w p old result new ms = ReadsFollowing (is_among names w && not (is_among (sources ms) w)) p (Target names w) old result new

pub read_following : (names : List (List ℕ)) (w : List ℕ) (p : Place) (old new : Lexer) (result : Result MapSyntax AlgError) (ms ns : List MapSyntax)
    → ms ≡ ns → IsRead names w p old result new ms → IsRead names w p old result new ns
read_following names w p old new result ms ns e x = subst (IsRead names w p old result new) e x
