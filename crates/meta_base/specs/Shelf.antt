-- What a shelf shows, and what its calls do to that.
use Rattle.std.specs.Prelude.{◌≡◌, ℕ, ◌<◌, ◌≤◌, ◌⊎◌, ◌++◌, List, [], length, take, drop, Bool, true, false, IsTrue, Option, Some, None, Result, Ok, Err}
use Rattle.meta_base.specs.Count.{raised, HasRisen}
use Rattle.meta_base.specs.declared.errors.Failed.{Failed}

-- what a shelf shows at one moment
pub record Moment : Type 0 where
  -- whether it tells the next two
  pub reports : Bool
  -- the bytes of the file of a name, if there is one
  pub file : List ℕ → Option (List ℕ)
  -- the bytes left of the file that was begun
  pub rest : List ℕ
  -- how many bytes were taken since the last begin, and whether the end was found since
  pub taken : ℕ
  pub ended : Bool
  -- how many files were begun, or tried
  pub begun : ℕ
  -- the count of faults
  pub faults : ℕ

-- the shelf tells that it has no file of that name
abbrev pub IsAbsent : Moment → List ℕ → Type 0
IsAbsent m name = IsTrue m.reports × (m.file name ≡ None)

-- no call changes the files or whether they are shown, and the counts never fall
pub record Keeps (old new : Moment) : Type 0 where
  pub reports : new.reports ≡ old.reports
  pub file : (name : List ℕ) → new.file name ≡ old.file name
  pub faults : old.faults ≤ new.faults
  pub begun : old.begun ≤ new.begun

-- a call that doesn't fail leaves the count of faults
abbrev pub KeepsFaults : {A E : Type 0} → Moment → Result A E → Moment → Type 0
KeepsFaults old (Ok _) new = new.faults ≡ old.faults
KeepsFaults old (Err _) new = Unit {0}

-- the file is there and all of it is left; or no file is begun, with the cause of that
abbrev pub HasBegun : {A : Type 0} → Moment → List ℕ → Moment → Result A Failed → Type 0
HasBegun old name new (Ok _) = IsTrue old.reports → old.file name ≡ Some new.rest
HasBegun old name new (Err _) = (IsTrue old.reports → new.rest ≡ []) × (HasRisen old.faults new.faults ⊎ IsAbsent old name)

-- what begin does, whatever it answers
pub record Begins {A : Type 0} (old : Moment) (name : List ℕ) (new : Moment) (result : Result A Failed) : Type 0 where
  pub keeps : Keeps old new
  pub taken : new.taken ≡ 0
  pub ended : new.ended ≡ false
  pub has_begun : HasBegun old name new result
  pub begun : new.begun ≡ raised old.begun 1
  pub no_fault : KeepsFaults old result new

-- the first n bytes of what was left stand at the front of the buffer
pub record Moved (old : Moment) (before : List ℕ) (n : ℕ) (new : Moment) (after : List ℕ) : Type 0 where
  pub left : n ≤ length old.rest
  pub buffer : after ≡ take n old.rest ++ drop n before
  pub rest : new.rest ≡ drop n old.rest
  -- no byte for a buffer that isn't empty: nothing was left
  pub end : n ≡ 0 → 0 < length before → old.rest ≡ []

-- what a read of n bytes does
pub record Read (old : Moment) (before : List ℕ) (n : ℕ) (new : Moment) (after : List ℕ) : Type 0 where
  pub fits : n ≤ length before
  pub begun : new.begun ≡ old.begun
  pub no_fault : new.faults ≡ old.faults
  pub taken : new.taken ≡ raised old.taken n
  pub found : n ≡ 0 → 0 < length before → new.ended ≡ true
  pub not_found : 0 < n ⊎ (length before ≡ 0) → new.ended ≡ old.ended
  pub moved : IsTrue old.reports → Moved old before n new after

-- what a read that failed does
pub record NotRead (old new : Moment) : Type 0 where
  pub risen : HasRisen old.faults new.faults
  pub begun : new.begun ≡ old.begun
  pub taken : new.taken ≡ old.taken
  pub ended : new.ended ≡ old.ended
  pub rest : IsTrue old.reports → new.rest ≡ old.rest

abbrev pub HasRead : Moment → List ℕ → Result ℕ Failed → Moment → List ℕ → Type 0
HasRead old before (Ok n) new after = Read old before n new after
HasRead old before (Err _) new after = NotRead old new
