use Rattle.std.proofs.Common.{◌≡◌, drop}
use Rattle.meta_base.specs.MemFiles.{bytes_named}
use Rattle.meta_base.proofs.mem_shelf.place_of.Given as goal

-- none of the files so far has the name
abbrev pub invariant-loop-place : goal.invariant-loop-place
invariant-loop-place l = bytes_named l.name (drop l.place l.files) ≡ bytes_named l.name l.files
