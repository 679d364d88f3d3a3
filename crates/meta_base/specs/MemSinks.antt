-- What a sink in memory shows.
use Rattle.std.specs.Prelude.{ℕ, ◌-◌, List, length, take, min, Bool, true, ◌==◌, ◌||◌, if◌then◌else◌, vec_len}
use Rattle.std.specs.List.{list_any}
use Rattle.meta_base.specs.Count.{raised}
use Rattle.meta_base.specs.Sink.{Held}
use Rattle.meta_base.specs.declared.mem_sink.MemSink.{MemSink}

-- how many bytes it can take in all
abbrev pub room_of : MemSink → ℕ
room_of s = vec_len s.buffer

-- how many bytes one write takes at most
abbrev pub bite_of : MemSink → ℕ
bite_of s = s.bite

-- the numbers of the writes that fail
abbrev pub failing_of : MemSink → List ℕ
failing_of s = s.calls.failing

-- how many writes there were of pieces that aren't empty
abbrev pub writes_of : MemSink → ℕ
writes_of s = s.calls.made

-- the bytes that it took
abbrev pub taken_by : MemSink → List ℕ
taken_by s = take s.len s.buffer.items

-- the next write of a piece that isn't empty fails
abbrev pub refuses_now : MemSink → Bool
refuses_now s = vec_len s.buffer - s.len == 0 || list_any (λ n. n == s.calls.made) s.calls.failing

-- how many faults, and how many writes, there are after the next write of so many bytes; an empty piece is no
-- write
abbrev pub faults_next : ℕ → MemSink → ℕ
faults_next n s = if n == 0 then s.calls.faults else (if refuses_now s then raised s.calls.faults 1 else s.calls.faults)

abbrev pub writes_next : ℕ → MemSink → ℕ
writes_next n s = if n == 0 then s.calls.made else raised s.calls.made 1

-- how many bytes the next write of so many takes, unless it fails
abbrev pub amount_next : ℕ → MemSink → ℕ
amount_next n s = min (min n s.bite) (room_of s - length (taken_by s))

abbrev pub held_by : MemSink → Held
held_by s = record { reports = true; bytes = taken_by s; faults = s.calls.faults; is_handed_on = true }
