-- Files in memory by name and by place.
use Rattle.std.proofs.Common.{◌≡◌, ℕ, ◌+◌, ◌<◌, List, Some, true, cond, length, get_or, drop, ap, sym, ◌∙◌}
use Rattle.std.proofs.lemmas.List.{at_drop_more}
use Rattle.std.specs.Str.{bytes_eq}
use Rattle.meta_base.specs.declared.mem_shelf.MemFile.{MemFile}
use Rattle.meta_base.specs.MemFiles.{bytes_named}

-- a file of the name is the first of those from its place on
pub bytes_named-drop : (name : List ℕ) (fs : List MemFile) (i : ℕ) (f : MemFile) → i < length fs → f ≡ get_or fs i f → bytes_eq f.name name ≡ true → bytes_named name (drop i fs) ≡ Some f.bytes
bytes_named-drop name fs i f h e t =
    at_drop_more (bytes_named name) fs i f h
    ∙ ap (λ (g : MemFile). cond (bytes_eq g.name name) (Some g.bytes) (bytes_named name (drop (i + 1) fs))) (sym e)
    ∙ ap (λ b. cond b (Some f.bytes) (bytes_named name (drop (i + 1) fs))) t
