-- What the program ends with.
use Rattle.std.specs.Prelude.{◌≡◌, ℕ, ◌⊎◌, List, codes}
use Rattle.meta_base.specs.Shelf.{Moment}
use Rattle.meta_base.specs.Sink.{Held, Appended, AppendedPart, Flushed, FlushFailed}
use Rattle.metacli.specs.Answers.{status_of}
use Rattle.metacli.specs.Runs.{Runs}
use Rattle.metacli.specs.declared.ended.Ended.{Ended}

-- the top call carried the words out, and the status is that of its answer
pub record IsCarriedOut (words : List (List ℕ)) (old new : Moment) (before after : Held) (status : ℕ) : Type 0 where
  pub ended : Ended
  pub runs : Runs words old new before after ended
  pub is_status : status ≡ status_of ended.answer

-- the line that refuses words that aren't UTF-8
abbrev pub unread_line : List ℕ
unread_line = codes "words refused: C2\n"

-- all of the text was written and handed on
abbrev pub IsWrittenOut : Held → List ℕ → Held → Type 0
IsWrittenOut before text after = (now : Held) × Appended before text now × Flushed now after

-- a part of the text is missing, or all of it was written and was not handed on, since the sink failed
abbrev pub IsUnwritten : Held → List ℕ → Held → Type 0
IsUnwritten before text after = AppendedPart before text after ⊎ ((now : Held) × Appended before text now × FlushFailed now after)

-- that line was written and handed on, and the status is that of refused words; or the sink failed, and the status is that of a
-- write fault
abbrev pub IsRefusedUnread : Held → Held → ℕ → Type 0
IsRefusedUnread before after status = ((status ≡ 1) × IsWrittenOut before unread_line after) ⊎ ((status ≡ 6) × IsUnwritten before unread_line after)
