-- What stands between two tokens: spaces, and comments. A comment runs from a `#` to the line feed that
-- ends its line, or to the end of the text, and may hold any bytes. The first argument says whether a
-- comment is open.
use Rattle.std.specs.Prelude.{◌≡◌, ◌⊎◌, ◌<◌, ◌≤◌, ℕ, List, [], ◌∷◌, ◌++◌, take, drop, length, slice_index, Bool, true, false, not, ◌==◌, ◌||◌, IsTrue, if◌then◌else◌}
use Rattle.meta_base.specs.Bytes.{is_space, is_line_feed}

-- the spaces and comments at the front
abbrev pub gap_of : Bool → List ℕ → List ℕ
gap_of in_comment [] = []
gap_of true (c ∷ cs) = c ∷ gap_of (not (is_line_feed c)) cs
gap_of false (c ∷ cs) = if c == 35 then c ∷ gap_of true cs else (if is_space c then c ∷ gap_of false cs else [])

-- what comes after them
abbrev pub after_gap : Bool → List ℕ → List ℕ
after_gap in_comment [] = []
after_gap true (c ∷ cs) = after_gap (not (is_line_feed c)) cs
after_gap false (c ∷ cs) = if c == 35 then after_gap true cs else (if is_space c then after_gap false cs else c ∷ cs)

-- the spaces of most long gaps
abbrev pub is_plain_space : ℕ → Bool
is_plain_space c = c == 32 || c == 10

-- all that stands before a place, and the gap there
abbrev pub passed_at : List ℕ → ℕ → List ℕ
passed_at source at = take at source ++ gap_of false (drop at source)

-- so many bytes stand before the first line feed, or all of them
pub record IsLine (text : List ℕ) (count : ℕ) : Type 0 where
  pub within : count ≤ length text
  pub in_line : (k : ℕ) → k < count → is_line_feed (slice_index text k) ≡ false
  pub ends : count < length text → is_line_feed (slice_index text count) ≡ true

-- the first list holds only spaces and whole comments, where the second comes after it: a comment that
-- no line feed ends has nothing after it
abbrev pub IsGap : Bool → List ℕ → List ℕ → Type 0
IsGap false [] rest = Unit {0}
IsGap true [] rest = rest ≡ []
IsGap true (c ∷ cs) rest = IsGap (not (is_line_feed c)) cs rest
IsGap false (c ∷ cs) rest = ((c ≡ 35) × IsGap true cs rest) ⊎ (IsTrue (is_space c) × IsGap false cs rest)
