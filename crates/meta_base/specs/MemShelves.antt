-- What a shelf in memory shows.
use Rattle.std.specs.Prelude.{ℕ, List, [], drop, Bool, true, ◌==◌, if◌then◌else◌}
use Rattle.std.specs.List.{list_any}
use Rattle.std.specs.Option.{option_map_or}
use Rattle.meta_base.specs.Count.{raised}
use Rattle.meta_base.specs.Shelf.{Moment}
use Rattle.meta_base.specs.MemFiles.{bytes_at, bytes_named}
use Rattle.meta_base.specs.declared.mem_shelf.MemFile.{MemFile}
use Rattle.meta_base.specs.declared.mem_shelf.MemShelf.{MemShelf}

abbrev pub files_of : MemShelf → List MemFile
files_of s = s.files

-- the numbers of the calls that fail
abbrev pub failing_of : MemShelf → List ℕ
failing_of s = s.calls.failing

-- how many calls there were
abbrev pub calls_of : MemShelf → ℕ
calls_of s = s.calls.made

-- how many bytes a read gives at most
abbrev pub bite_of : MemShelf → ℕ
bite_of s = s.bite

-- the next call fails
abbrev pub fails_now : MemShelf → Bool
fails_now s = list_any (λ n. n == s.calls.made) s.calls.failing

-- the count of faults after the next call
abbrev pub faults_next : MemShelf → ℕ
faults_next s = if fails_now s then raised s.calls.faults 1 else s.calls.faults

abbrev pub moment_of : MemShelf → Moment
moment_of s = record {
  reports = true;
  file = λ name. bytes_named name s.files;
  rest = drop s.at (option_map_or (bytes_at s.files) s.begun []);
  taken = s.taken;
  ended = s.ended;
  begun = s.tries;
  faults = s.calls.faults;
}
