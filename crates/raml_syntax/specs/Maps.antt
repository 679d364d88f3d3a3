-- Productions of a row's maps.
use Rattle.std.specs.Prelude.{◌≡◌, ℕ, List, [], ◌∷◌, ◌++◌, map, Bool, true, false, not, ◌&&◌, ◌||◌, if◌then◌else◌}
use Rattle.raml_lex.specs.Tokens.{word, right_brace, comma, semicolon, arrow}
use Rattle.raml_syntax.specs.declared.faults.ExprKind.TheVariants.{BadTable}
use Rattle.raml_syntax.specs.declared.maps.AfterRow.{AfterRow}
use Rattle.raml_syntax.specs.declared.maps.AfterRow.TheVariants.{Row, End}
use Rattle.raml_syntax.specs.declared.maps.AfterMap.{AfterMap}
use Rattle.raml_syntax.specs.declared.maps.AfterMap.TheVariants as after
use Rattle.raml_syntax.specs.Syntax.{MapSyntax, is_among, is_none}
use Rattle.raml_syntax.specs.Marks.{Mark, plain, plain_word, tested, more_map_marks}
use Rattle.raml_syntax.specs.Sequences.{Nothing, One, Then}

-- the mark after a row
abbrev pub after_row : AfterRow → Mark
after_row Row = plain semicolon
after_row End = plain right_brace

-- the mark after a map
abbrev pub after_map : AfterMap → Mark
after_map after.Map = plain comma
after_map (after.After row) = after_row row

abbrev pub arrow_mark : Unit {0} → Mark
arrow_mark _ = plain arrow

abbrev pub sources : List MapSyntax → List (List ℕ)
sources ms = map (λ (m : MapSyntax). m.source) ms

-- the word names a value, and isn't the source of a map before
abbrev pub is_new_source : List (List ℕ) → List (List ℕ) → List ℕ → Bool
is_new_source names before w = is_among names w && not (is_among before w)

-- the source of a map after those of these sources
abbrev pub source_mark : List (List ℕ) → List (List ℕ) → List ℕ → Mark
source_mark names before w = tested (word w) BadTable (is_new_source names before w)

abbrev pub target_mark : List (List ℕ) → List ℕ → Mark
target_mark names w = tested (word w) BadTable (is_none w || is_among names w)

-- the word after a row's colon: `none`, or the source of the first map
abbrev pub first_mark : List (List ℕ) → List ℕ → Mark
first_mark names w = if is_none w then plain_word w else source_mark names [] w

-- the rest of a map of this source
abbrev pub Target : List (List ℕ) → List ℕ → MapSyntax → List Mark → Type 0
Target names source = Then (One arrow_mark) (λ _. Then (One (target_mark names)) (λ target. Nothing (record { source = source; target = target })))

-- what follows these maps, and the mark after the row; it means all maps
abbrev pub MoreMaps : List (List ℕ) → List MapSyntax → List MapSyntax × AfterRow → List Mark → Type 0
MoreMaps names done r ms = (more : List MapSyntax) × (r.0 ≡ done ++ more) × (ms ≡ more_map_marks names (sources done) more ++ after_row r.1 ∷ [])

-- no maps, and the mark after the row
abbrev pub NoMaps : List MapSyntax × AfterRow → List Mark → Type 0
NoMaps = Then (One after_row) (λ after. Nothing ([], after))

-- a first map, of this source, and those after it
abbrev pub FirstMap : List (List ℕ) → List ℕ → List MapSyntax × AfterRow → List Mark → Type 0
FirstMap names source = Then (Target names source) (λ m. MoreMaps names (m ∷ []))

-- what stands after that first word, which is `none` or not
abbrev pub FollowingFirst : List (List ℕ) → List ℕ → Bool → List MapSyntax × AfterRow → List Mark → Type 0
FollowingFirst names w true = NoMaps
FollowingFirst names w false = FirstMap names w

-- what stands after a row's colon, and the mark after the row
abbrev pub Maps : List (List ℕ) → List MapSyntax × AfterRow → List Mark → Type 0
Maps names = Then (One (first_mark names)) (λ w. FollowingFirst names w (is_none w))
