use Rattle.std.proofs.Common.{◌≡◌, ◌<◌, ◌∙◌, length, refl, sym, true, arith}
use Rattle.std.proofs.lemmas.Option.{slice_get_read}
use Rattle.std.specs.Str.{bytes_eq}
use Rattle.meta_base.proofs.Files.{bytes_named-drop}
use Rattle.meta_base.proofs.mem_shelf.place_of.Goals as goal

pub returns-then-eq : goal.returns-then-eq
returns-then-eq c =
    let files = c.args.files.now in
    let name = c.args.name.now in
    let file = c.index-files-place.result in
    let within : c.loop-place.place < length files = omega arith in
    let named : bytes_eq file.name name ≡ true = rw (← c.as_str.ensures, ← c.eq.ensures) c.if-eq.true in
    let is = slice_get_read files (length files) c.loop-place.place file refl within c.index-files-place.is in
    rw is (sym (bytes_named-drop name files c.loop-place.place file within c.index-files-place.is named) ∙ c.loop-place.invariant)
