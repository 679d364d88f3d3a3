-- Order code: how two rows are compared that are read side by side from the front.
use Rattle.std.specs.Prelude.{◌≢◌, ℕ, zero, suc, List, [], ◌∷◌, ◌&&◌, length, drop, Option, Some, None, if◌then◌else◌, nat_le, nat_lt, slice_index}
use Rattle.std.specs.Ordering.{nat_cmp}
use Rattle.std.specs.declared.cmp.Ordering.{Ordering}
use Rattle.std.specs.declared.cmp.Ordering.TheVariants.{Less, Equal, Greater}
use Rattle.label_code.specs.declared.operations.OrdOp.{OrdOp}
use Rattle.label_code.specs.declared.operations.OrdOp.TheVariants as op

-- what an operation finds
pub data Finding : Type 0 where
  -- which row is preferred
  decides : Ordering → Finding
  -- equal so far, with these words left of each row, and a jump over so many operations
  ties : List ℕ → List ℕ → ℕ → Finding
  -- it isn't defined on the rows
  misses : Finding

-- decided, unless the words are equal
abbrev pub by_words : Ordering → List ℕ → List ℕ → Finding
by_words Less v w = decides Less
by_words Greater v w = decides Greater
by_words Equal v w = ties v w 0

-- what two sides tell
abbrev pub by_sides : ℕ → ℕ → List ℕ → List ℕ → ℕ → Finding
by_sides zero zero v w jump = ties v w 0
by_sides zero (suc zero) v w jump = decides Less
by_sides (suc zero) zero v w jump = decides Greater
by_sides (suc zero) (suc zero) v w jump = ties v w jump
by_sides _ _ v w jump = misses

abbrev pub finding : OrdOp → List ℕ → List ℕ → Finding
finding op.Less (m ∷ v) (n ∷ w) = by_words (nat_cmp m n) v w
finding op.Less _ _ = misses
finding op.More (m ∷ v) (n ∷ w) = by_words (nat_cmp n m) v w
finding op.More _ _ = misses
finding op.Length (m ∷ v) (n ∷ w) = if nat_le m (length v) && nat_le n (length w) then by_words (nat_cmp m n) (drop m v) (drop n w) else misses
finding op.Length _ _ = misses
finding op.Pass (m ∷ v) (n ∷ w) = ties v w 0
finding op.Pass _ _ = misses
finding (op.Rank ranks) (m ∷ v) (n ∷ w) = if nat_lt m (length ranks) && nat_lt n (length ranks) then by_words (nat_cmp (slice_index ranks m) (slice_index ranks n)) v w else misses
finding (op.Rank ranks) _ _ = misses
finding (op.Sides jump) (m ∷ v) (n ∷ w) = by_sides m n v w jump
finding (op.Sides jump) _ _ = misses
finding (op.Leap jump) v w = ties v w jump

-- what comes of a finding, where the rest of the code makes of a jump and two rows what `next` says
abbrev pub found : Finding → (ℕ → List ℕ → List ℕ → Option Ordering) → Option Ordering
found (decides o) next = Some o
found (ties v w jump) next = next jump v w
found misses next = None

-- how the code compares two rows, once it has jumped over so many operations; none where it doesn't fit them
abbrev pub compare_over : ℕ → List OrdOp → List ℕ → List ℕ → Option Ordering
compare_over zero [] v w = Some Equal
compare_over (suc n) [] v w = None
compare_over zero (op ∷ code) v w = found (finding op v w) (λ jump x y. compare_over jump code x y)
compare_over (suc n) (op ∷ code) v w = compare_over n code v w

-- how the code compares two rows: `Less` where the first is preferred
abbrev pub RunOrder : List OrdOp → List ℕ → List ℕ → Option Ordering
RunOrder code v w = compare_over 0 code v w

-- the code fits the rows: no word and no rank is ever missing, each side is one of two, and no jump passes the end
abbrev pub FitsBoth : List OrdOp → List ℕ → List ℕ → Type 0
FitsBoth code v w = RunOrder code v w ≢ None
