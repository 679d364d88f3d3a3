-- Reading the rows of a table.
use Rattle.std.proofs.Common.{◌≡◌, ℕ, Bool, true, false, Option, List, [], ◌∷◌, ◌++◌, map, Result, Ok, Err, refl, sym, ap, subst, ◌∙◌, append_assoc, append-nil, codes}
use Rattle.std.proofs.lemmas.List.{map-append}
use Rattle.std.proofs.lemmas.Slice.Eq.{bytes_eq-Decides}
use Rattle.raml_lex.specs.Tokens.{number, right_brace, semicolon, colon, arrow}
use Rattle.raml_lex.specs.Lexers.{Lexer}
use Rattle.alg_model.specs.declared.tree.TableRow.{TableRow}
use Rattle.raml_syntax.specs.declared.faults.AlgError.{AlgError}
use Rattle.raml_syntax.specs.declared.maps.AfterRow.{AfterRow}
use Rattle.raml_syntax.specs.declared.maps.AfterRow.TheVariants.{Row, End}
use Rattle.raml_syntax.specs.Syntax.{MapSyntax, MapsSyntax, no_maps, maps, RowSyntax, is_none, AreMaps, IsRow}
use Rattle.raml_syntax.specs.Meaning.{all_maps, image_place, row_meaning}
use Rattle.raml_syntax.specs.Marks.{Mark, plain, plain_word, own_name, more_map_marks, maps_marks, rows_marks}
use Rattle.raml_syntax.specs.Productions.{toks}
use Rattle.raml_syntax.specs.Reading.{TakesOne}
use Rattle.raml_syntax.specs.Leaves.{Misses, IsRefusal, IsTok}
use Rattle.raml_syntax.specs.Sequences.{Nothing, One, Then, Reads, IsDetermined, IsPossible}
use Rattle.raml_syntax.specs.Maps.{after_row, source_mark, target_mark, first_mark, FollowingFirst, Maps}
use Rattle.raml_syntax.specs.Rows.{row_names, colon_mark, row_of, OneRow, MoreRows}
use Rattle.raml_syntax.proofs.Sequences.{reads_then, reads_not_first, one_determined, nothing_determined, then_determined, then_possible}
use Rattle.raml_syntax.proofs.Tested.{Leads, reads_at, reads_same, one_mark, one_no_mark}
use Rattle.raml_syntax.proofs.ValueReading.{name_determined}
use Rattle.raml_syntax.proofs.MapReading.{pair_same, target_is, target_from, maps_determined, maps_possible}

-- what follows the maps of a row means the row
abbrev pub NamedRow : List (List ℕ) → List ℕ → List MapSyntax × AfterRow → TableRow × AfterRow → List Mark → Type 0
NamedRow names name r = Nothing (row_of names name r.0, r.1)

abbrev pub FollowingColon : List (List ℕ) → List ℕ → TableRow × AfterRow → List Mark → Type 0
FollowingColon names name = Then (Maps names) (NamedRow names name)

abbrev pub FollowingName : List (List ℕ) → List ℕ → TableRow × AfterRow → List Mark → Type 0
FollowingName names name = Then (One colon_mark) (λ _. FollowingColon names name)

named_possible : (names : List (List ℕ)) (name : List ℕ) (r : List MapSyntax × AfterRow) → IsPossible (NamedRow names name r)
named_possible names name r = ((row_of names name r.0, r.1), [], (refl, refl))

colon_possible : (names : List (List ℕ)) (name : List ℕ) → IsPossible (FollowingColon names name)
colon_possible names name = then_possible (Maps names) (NamedRow names name) (maps_possible names) (named_possible names name)

name_possible : (names : List (List ℕ)) (name : List ℕ) → IsPossible (FollowingName names name)
name_possible names name = then_possible (One colon_mark) (λ _. FollowingColon names name) (tt, colon_mark tt ∷ [], refl) (λ _. colon_possible names name)

colon_determined : IsDetermined (One colon_mark)
colon_determined = one_determined colon_mark (λ r s e. refl)

row_determined : (names before : List (List ℕ)) → IsDetermined (OneRow names before)
row_determined names before =
    then_determined (One (own_name before)) (FollowingName names) (name_determined before)
    (λ name. then_determined (One colon_mark) (λ _. FollowingColon names name) colon_determined
    (λ _. then_determined (Maps names) (NamedRow names name) (maps_determined names) (λ r. nothing_determined (row_of names name r.0, r.1))))

-- no name stands first
pub row_no_name : (names before : List (List ℕ)) (old new : Lexer) (e : AlgError) → Reads (One (own_name before)) old (Err e) new → Reads (OneRow names before) old (Err e) new
row_no_name names before old new e x = reads_not_first (One (own_name before)) (FollowingName names) old new e (name_possible names) x

row_named : (names before : List (List ℕ)) (old mid new : Lexer) (name : List ℕ) (result : Result (TableRow × AfterRow) AlgError)
    → Reads (One (own_name before)) old (Ok name) mid → Reads (FollowingName names name) mid result new → Reads (OneRow names before) old result new
row_named names before old mid new name result x y = reads_then (One (own_name before)) (FollowingName names) old mid new name result (name_determined before) x y

-- and no colon
pub row_no_colon : (names before : List (List ℕ)) (old mid new : Lexer) (name : List ℕ) (e : AlgError)
    → Reads (One (own_name before)) old (Ok name) mid → IsRefusal (Misses (IsTok colon)) mid e → Reads (OneRow names before) old (Err e) new
row_no_colon names before old mid new name e x y =
    row_named names before old mid new name (Err e) x
    (reads_not_first (One colon_mark) (λ _. FollowingColon names name) mid new e (λ _. colon_possible names name)
    (one_no_mark colon_mark colon e mid new (λ u. refl) (λ n (k : colon ≡ number n). absurd (cc)) y))

row_following : (names before : List (List ℕ)) (old mid next new : Lexer) (name : List ℕ) (result : Result (TableRow × AfterRow) AlgError)
    → Reads (One (own_name before)) old (Ok name) mid → TakesOne colon mid next → Reads (FollowingColon names name) next result new → Reads (OneRow names before) old result new
row_following names before old mid next new name result x takes y =
    row_named names before old mid new name result x
    (reads_then (One colon_mark) (λ _. FollowingColon names name) mid next new tt result colon_determined (one_mark colon_mark colon mid next (λ u. refl) takes) y)

-- and no maps
pub row_no_maps : (names before : List (List ℕ)) (old mid next new : Lexer) (name : List ℕ) (e : AlgError)
    → Reads (One (own_name before)) old (Ok name) mid → TakesOne colon mid next → Reads (Maps names) next (Err e) new → Reads (OneRow names before) old (Err e) new
row_no_maps names before old mid next new name e x takes y =
    row_following names before old mid next new name (Err e) x takes (reads_not_first (Maps names) (NamedRow names name) next new e (named_possible names name) y)

-- the row was read
pub row_read : (names before : List (List ℕ)) (old mid next new : Lexer) (name : List ℕ) (ms : List MapSyntax) (after : AfterRow) (images : List (Option ℕ))
    → images ≡ map (image_place names ms) names → Reads (One (own_name before)) old (Ok name) mid → TakesOne colon mid next → Reads (Maps names) next (Ok (ms, after)) new
    → Reads (OneRow names before) old (Ok (record { name = name; images = images }, after)) new
row_read names before old mid next new name ms after images e x takes y =
    subst (λ l. Reads (OneRow names before) old (Ok (record { name = name; images = l }, after)) new) (sym e)
    (row_following names before old mid next new name (Ok (row_of names name ms, after)) x takes
    (reads_then (Maps names) (NamedRow names name) next new new (ms, after) (Ok (row_of names name ms, after)) (maps_determined names) y ([], (refl, refl), refl)))

-- the same, by what stands in the text
abbrev pub MapsAre : List (List ℕ) → List MapSyntax × AfterRow → List Mark → Type 0
MapsAre names r ms = (images : MapsSyntax) × AreMaps images × (r.0 ≡ all_maps images) × (ms ≡ maps_marks names images ++ after_row r.1 ∷ [])

none_is : (w : List ℕ) → is_none w ≡ true → w ≡ codes "none"
none_is w e = (bytes_eq-Decides w (codes "none")).0 e

maps_are : (names : List (List ℕ)) (r : List MapSyntax × AfterRow) (ms : List Mark) → Maps names r ms → MapsAre names r ms
maps_are names r ms (w, xs, ys, p, q, e) = by (is_none w) refl q
  where
    by : (b : Bool) → is_none w ≡ b → FollowingFirst names w b r ys → MapsAre names r ms
    by true k (a, us, vs, pu, (pr, pv), f) =
        let plainly : first_mark names w ≡ plain_word w = rw k refl in
        let first : first_mark names w ≡ plain_word (codes "none") = plainly ∙ ap plain_word (none_is w k) in
        (no_maps, tt, ap (λ (x : List MapSyntax × AfterRow). x.0) pr, rw (e, p, f, pu, pv, first, pr) refl)
    by false k (m, us, vs, t, (more, means, marks), f) =
        let first : first_mark names w ≡ source_mark names [] w = rw k refl in
        let target = target_is names w m us t in
        (maps m more, ap is_none target.0 ∙ k, means, rw (e, p, first, f, target.1, marks, target.0) refl)

maps_from : (names : List (List ℕ)) (r : List MapSyntax × AfterRow) (ms : List Mark) → MapsAre names r ms → Maps names r ms
maps_from names r ms (no_maps, are, means, marks) =
    (codes "none", plain_word (codes "none") ∷ [], after_row r.1 ∷ [], refl, (r.1, after_row r.1 ∷ [], [], refl, (pair_same r ([], r.1) means refl, refl), refl), marks)
maps_from names r ms (maps m more, are, means, marks) =
    let first : first_mark names m.source ≡ source_mark names [] m.source = rw are refl in
    let rest = more_map_marks names (m.source ∷ []) more ++ after_row r.1 ∷ [] in
    let target = plain arrow ∷ target_mark names m.target ∷ [] in (
      m.source,
      source_mark names [] m.source ∷ [],
      target ++ rest,
      ap (λ x. x ∷ []) (sym first),
      subst (λ b. FollowingFirst names m.source b r (target ++ rest)) (sym are) (m, target, rest, target_from names m, (more, means, refl), refl),
      marks,
    )

abbrev pub RowIs : List (List ℕ) → List (List ℕ) → TableRow × AfterRow → List Mark → Type 0
RowIs names before r ms = (s : RowSyntax) × IsRow s × (r.0 ≡ row_meaning names s) × (ms ≡ own_name before s.name ∷ plain colon ∷ (maps_marks names s.images ++ after_row r.1 ∷ []))

row_marks_are : (o c : Mark) (cs ds xs ys us vs ms inner : List Mark) (a b : AfterRow)
    → xs ≡ o ∷ [] → ys ≡ us ++ vs → us ≡ c ∷ [] → vs ≡ cs ++ ds → ds ≡ [] → cs ≡ inner ++ after_row a ∷ [] → b ≡ a → ms ≡ xs ++ ys → ms ≡ o ∷ c ∷ (inner ++ after_row b ∷ [])
row_marks_are o c cs ds xs ys us vs ms inner a b p f pu e pd i q g = rw (g, p, f, pu, e, pd, append-nil cs, i, q) refl

pub pair_of : (r s : TableRow × AfterRow) → r.0 ≡ s.0 → r.1 ≡ s.1 → r ≡ s
pair_of r s e f =
    let make : TableRow → AfterRow → TableRow × AfterRow = λ row a. (row, a) in
    ap (λ x. make x r.1) e ∙ ap (λ a. make s.0 a) f

row_is : (names before : List (List ℕ)) (r : TableRow × AfterRow) (ms : List Mark) → OneRow names before r ms → RowIs names before r ms
row_is names before r ms (name, xs, ys, p, (u, us, vs, pu, (got, cs, ds, pm, (pr, pd), e), f), g) =
    let i = maps_are names got cs pm in
    let s : RowSyntax = record { name = name; images = i.0 } in (
      s,
      i.1,
      ap (λ (x : TableRow × AfterRow). x.0) pr ∙ ap (λ l. row_of names name l) i.2,
      row_marks_are (own_name before name) (plain colon) cs ds xs ys us vs ms (maps_marks names i.0) got.1 r.1 p f pu e pd i.3 (ap (λ (x : TableRow × AfterRow). x.1) pr) g,
    )

row_from : (names before : List (List ℕ)) (r : TableRow × AfterRow) (ms : List Mark) → RowIs names before r ms → OneRow names before r ms
row_from names before r ms (s, is_row, means, marks) =
    let cs = maps_marks names s.images ++ after_row r.1 ∷ [] in (
      s.name,
      own_name before s.name ∷ [],
      plain colon ∷ cs,
      refl,
      (
        tt,
        plain colon ∷ [],
        cs,
        refl,
        ((all_maps s.images, r.1), cs, [], maps_from names (all_maps s.images, r.1) cs (s.images, is_row, refl, refl), (pair_of r (row_meaning names s, r.1) means refl, refl), sym (append-nil cs)),
        refl,
      ),
      marks,
    )

-- what follows a row and a mark after it
abbrev pub FollowingRow : List (List ℕ) → List TableRow → TableRow → AfterRow → List TableRow → List Mark → Type 0
FollowingRow names done row Row = MoreRows names (done ++ row ∷ [])
FollowingRow names done row End = Nothing (done ++ row ∷ [])

marks_next : (o c : Mark) (inner rows tail xs ys ms : List Mark) (a : AfterRow)
    → xs ≡ o ∷ c ∷ (inner ++ after_row a ∷ []) → a ≡ Row → plain semicolon ∷ ys ≡ rows ++ tail → ms ≡ xs ++ ys → plain semicolon ∷ ms ≡ plain semicolon ∷ o ∷ c ∷ ((inner ++ rows) ++ tail)
marks_next o c inner rows tail xs ys ms a p k m e =
    rw (e, p, k) (ap (λ l. plain semicolon ∷ o ∷ c ∷ l) (append_assoc inner (plain semicolon ∷ []) ys ∙ ap (λ l. inner ++ l) m ∙ sym (append_assoc inner rows tail)))

marks_last : (o c : Mark) (inner xs ys ms : List Mark) (a : AfterRow)
    → xs ≡ o ∷ c ∷ (inner ++ after_row a ∷ []) → a ≡ End → ys ≡ [] → ms ≡ xs ++ ys → plain semicolon ∷ ms ≡ plain semicolon ∷ o ∷ c ∷ ((inner ++ []) ++ plain right_brace ∷ [])
marks_last o c inner xs ys ms a p k m e =
    rw (e, p, k, m) (ap (λ l. plain semicolon ∷ o ∷ c ∷ l) (append-nil (inner ++ plain right_brace ∷ []) ∙ ap (λ l. l ++ plain right_brace ∷ []) (sym (append-nil inner))))

-- the names of these rows and one more
names_more : (names : List (List ℕ)) (done : List TableRow) (row : TableRow) (s : RowSyntax) → row ≡ row_meaning names s → row_names (done ++ row ∷ []) ≡ row_names done ++ s.name ∷ []
names_more names done row s e = map-append (λ (row : TableRow). row.name) done (row ∷ []) ∙ ap (λ (r : TableRow). row_names done ++ r.name ∷ []) e

rows_put : (names : List (List ℕ)) (done r : List TableRow) (ms : List Mark) → Then (OneRow names (row_names done)) (λ x. FollowingRow names done x.0 x.1) r ms → MoreRows names done r ms
rows_put names done r ms (x, xs, ys, p, q, e) = by x.1 refl q
  where
    by : (a : AfterRow) → x.1 ≡ a → FollowingRow names done x.0 a r ys → MoreRows names done r ms
    by Row k (more, all, means, marks) =
        let i = row_is names (row_names done) x xs p in
        let s = i.0 in (
          s ∷ more,
          (i.1, all),
          means ∙ append_assoc done (x.0 ∷ []) (map (row_meaning names) more) ∙ ap (λ y. done ++ y ∷ map (row_meaning names) more) i.2,
          marks_next (own_name (row_names done) s.name) (plain colon) (maps_marks names s.images) (rows_marks names (row_names done ++ s.name ∷ []) more) (plain right_brace ∷ []) xs ys ms x.1
              i.3 k (marks ∙ ap (λ l. rows_marks names l more ++ plain right_brace ∷ []) (names_more names done x.0 s i.2)) e,
        )
    by End k (means, none) =
        let i = row_is names (row_names done) x xs p in
        let s = i.0 in (
          s ∷ [],
          (i.1, tt),
          means ∙ ap (λ y. done ++ y ∷ []) i.2,
          marks_last (own_name (row_names done) s.name) (plain colon) (maps_marks names s.images) xs ys ms x.1 i.3 k none e,
        )

tail_same : (a b : Mark) (xs ys : List Mark) → a ∷ xs ≡ b ∷ ys → xs ≡ ys
tail_same a b xs ys e = cc

rows_back : (names : List (List ℕ)) (done r : List TableRow) (ms : List Mark) → MoreRows names done r ms → Then (OneRow names (row_names done)) (λ x. FollowingRow names done x.0 x.1) r ms
rows_back names done r ms ([], all, means, marks) = absurd (let k : semicolon ∷ toks ms ≡ right_brace ∷ [] = ap toks marks in cc)
rows_back names done r ms (s ∷ [], all, means, marks) =
    let inner = maps_marks names s.images in
    let o = own_name (row_names done) s.name in
    let xs = o ∷ plain colon ∷ (inner ++ plain right_brace ∷ []) in (
      (row_meaning names s, End),
      xs,
      [],
      row_from names (row_names done) (row_meaning names s, End) xs (s, all.0, refl, refl),
      (means, refl),
      tail_same (plain semicolon) (plain semicolon) ms (xs ++ []) (marks ∙ sym (marks_last o (plain colon) inner xs [] (xs ++ []) End refl refl refl refl)),
    )
rows_back names done r ms (s ∷ next ∷ more, all, means, marks) =
    let inner = maps_marks names s.images in
    let o = own_name (row_names done) s.name in
    let row = row_meaning names s in
    let here = row_names (done ++ row ∷ []) in
    let xs = o ∷ plain colon ∷ (inner ++ plain semicolon ∷ []) in
    let ys = own_name here next.name ∷ plain colon ∷ ((maps_marks names next.images ++ rows_marks names (here ++ next.name ∷ []) more) ++ plain right_brace ∷ []) in (
      (row, Row),
      xs,
      ys,
      row_from names (row_names done) (row, Row) xs (s, all.0, refl, refl),
      (next ∷ more, all.1, means ∙ sym (append_assoc done (row ∷ []) (map (row_meaning names) (next ∷ more))), refl),
      tail_same (plain semicolon) (plain semicolon) ms (xs ++ ys)
          (marks ∙ ap (λ l. plain semicolon ∷ o ∷ plain colon ∷ ((inner ++ rows_marks names l (next ∷ more)) ++ plain right_brace ∷ [])) (sym (names_more names done row s refl))
          ∙ sym (marks_next o (plain colon) inner (rows_marks names here (next ∷ more)) (plain right_brace ∷ []) xs ys (xs ++ ys) Row refl refl refl refl)),
    )

pub rows_possible : (names : List (List ℕ)) (done : List TableRow) → IsPossible (MoreRows names done)
rows_possible names done =
    let s : RowSyntax = record { name = []; images = no_maps } in
    (done ++ row_meaning names s ∷ [], own_name (row_names done) [] ∷ plain colon ∷ ((maps_marks names no_maps ++ []) ++ plain right_brace ∷ []), (s ∷ [], (tt, tt), refl, refl))

following_possible : (names : List (List ℕ)) (done : List TableRow) (row : TableRow) (a : AfterRow) → IsPossible (FollowingRow names done row a)
following_possible names done row Row = rows_possible names (done ++ row ∷ [])
following_possible names done row End = (done ++ row ∷ [], [], (refl, refl))

-- no row was read
pub rows_no_row : (names : List (List ℕ)) (done : List TableRow) (before : List TableRow) (old new : Lexer) (e : AlgError)
    → before ≡ done → Reads (OneRow names (row_names before)) old (Err e) new → Reads (MoreRows names done) old (Err e) new
rows_no_row names done before old new e same x =
    reads_same _ (MoreRows names done) old new (Err e) (rows_put names done) (rows_back names done)
    (reads_not_first (OneRow names (row_names done)) (λ r. FollowingRow names done r.0 r.1) old new e (λ r. following_possible names done r.0 r.1)
    (reads_at (λ b. OneRow names (row_names b)) before done old new (Err e) same x))

rows_after : (names : List (List ℕ)) (done before : List TableRow) (old mid new : Lexer) (row : TableRow) (a : AfterRow) (result : Result (List TableRow) AlgError)
    → before ≡ done → Reads (OneRow names (row_names before)) old (Ok (row, a)) mid → Reads (FollowingRow names done row a) mid result new → Reads (MoreRows names done) old result new
rows_after names done before old mid new row a result same x y =
    reads_same _ (MoreRows names done) old new result (rows_put names done) (rows_back names done)
    (reads_then (OneRow names (row_names done)) (λ r. FollowingRow names done r.0 r.1) old mid new (row, a) result (row_determined names (row_names done))
    (reads_at (λ b. OneRow names (row_names b)) before done old mid (Ok (row, a)) same x) y)

-- the last row was read
pub rows_end : (names : List (List ℕ)) (done before rows : List TableRow) (old new : Lexer) (row : TableRow) (a : AfterRow)
    → before ≡ done → rows ≡ done ++ row ∷ [] → a ≡ End → Reads (OneRow names (row_names before)) old (Ok (row, a)) new → Reads (MoreRows names done) old (Ok rows) new
rows_end names done before rows old new row a same e last x =
    rows_after names done before old new new row a (Ok rows) same x
    (subst (λ b. Reads (FollowingRow names done row b) new (Ok rows) new) (sym last) ([], (e, refl), refl))

-- a row was read, and more follow
pub rows_next : (names : List (List ℕ)) (done before rows : List TableRow) (old mid : Lexer) (row : TableRow) (a : AfterRow)
    → before ≡ done → rows ≡ done ++ row ∷ [] → a ≡ Row → Reads (OneRow names (row_names before)) old (Ok (row, a)) mid → Leads (MoreRows names done) old (MoreRows names rows) mid
rows_next names done before rows old mid row a same e next x result new z =
    rows_after names done before old mid new row a result same x
    (subst (λ b. Reads (FollowingRow names done row b) mid result new) (sym next) (reads_at (MoreRows names) rows (done ++ row ∷ []) mid new result e z))
