-- What a sink shows, and what writes do to that.
use Rattle.std.specs.Prelude.{◌≡◌, ℕ, ◌<◌, ◌≤◌, ◌++◌, List, length, take, Bool, IsTrue, Result, Ok, Err}
use Rattle.meta_base.specs.Count.{HasRisen}
use Rattle.meta_base.specs.declared.errors.Failed.{Failed}

-- what a sink shows at one moment
pub record Held : Type 0 where
  -- whether it tells the bytes
  pub reports : Bool
  -- the bytes that it took
  pub bytes : List ℕ
  -- the count of faults
  pub faults : ℕ
  -- whether nothing of what it took waits to be handed on
  pub is_handed_on : Bool

-- the first n bytes of the piece were taken
pub record Took (old : Held) (piece : List ℕ) (n : ℕ) (new : Held) : Type 0 where
  pub fits : n ≤ length piece
  pub some : 0 < length piece → 0 < n
  pub faults : new.faults ≡ old.faults
  pub reports : new.reports ≡ old.reports
  pub bytes : IsTrue old.reports → new.bytes ≡ old.bytes ++ take n piece

-- nothing was taken of a piece that isn't empty
pub record Refused (old : Held) (piece : List ℕ) (new : Held) : Type 0 where
  pub some : 0 < length piece
  pub risen : HasRisen old.faults new.faults
  pub faults : old.faults ≤ new.faults
  pub reports : new.reports ≡ old.reports
  pub bytes : IsTrue old.reports → new.bytes ≡ old.bytes

abbrev pub HasWritten : Held → List ℕ → Result ℕ Failed → Held → Type 0
HasWritten old piece (Ok n) new = Took old piece n new
HasWritten old piece (Err _) new = Refused old piece new

-- the whole piece was appended, and no write failed
pub record Appended (old : Held) (piece : List ℕ) (new : Held) : Type 0 where
  pub faults : new.faults ≡ old.faults
  pub reports : new.reports ≡ old.reports
  pub bytes : IsTrue old.reports → new.bytes ≡ old.bytes ++ piece

-- a front of the piece that isn't all of it was appended, and the count rose
pub record AppendedPart (old : Held) (piece : List ℕ) (new : Held) : Type 0 where
  pub risen : HasRisen old.faults new.faults
  pub faults : old.faults ≤ new.faults
  pub reports : new.reports ≡ old.reports
  pub bytes : IsTrue old.reports → (n : ℕ) × (n < length piece) × (new.bytes ≡ old.bytes ++ take n piece)

abbrev pub Puts : {A : Type 0} → Held → List ℕ → Result A Failed → Held → Type 0
Puts old piece (Ok _) new = Appended old piece new
Puts old piece (Err _) new = AppendedPart old piece new

-- what was taken before is handed on, and all else that is shown stays
pub record Flushed (old new : Held) : Type 0 where
  pub handed_on : IsTrue new.is_handed_on
  pub faults : new.faults ≡ old.faults
  pub reports : new.reports ≡ old.reports
  pub bytes : IsTrue old.reports → new.bytes ≡ old.bytes

-- what was taken before could not be handed on: the count rose, and what is shown of the bytes stays
pub record FlushFailed (old new : Held) : Type 0 where
  pub risen : HasRisen old.faults new.faults
  pub faults : old.faults ≤ new.faults
  pub reports : new.reports ≡ old.reports
  pub bytes : IsTrue old.reports → new.bytes ≡ old.bytes

abbrev pub HasFlushed : {A : Type 0} → Held → Result A Failed → Held → Type 0
HasFlushed old (Ok _) new = Flushed old new
HasFlushed old (Err _) new = FlushFailed old new

-- the first n bytes of the piece have been appended, and no write failed
pub record HasFront (old : Held) (piece : List ℕ) (n : ℕ) (new : Held) : Type 0 where
  pub within : n ≤ length piece
  pub faults : new.faults ≡ old.faults
  pub reports : new.reports ≡ old.reports
  pub bytes : IsTrue old.reports → new.bytes ≡ old.bytes ++ take n piece
