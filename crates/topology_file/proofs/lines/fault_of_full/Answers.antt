use Rattle.std.proofs.Common.{◌≡◌, ◌||◌, true, false, arith}
use Rattle.std.specs.List.{list_any}
use Rattle.std.specs.Str.{bytes_eq}
use Rattle.topology_file.specs.Texts.{words_of}
use Rattle.topology_file.specs.NetText.{names_twice}
use Rattle.topology_file.proofs.NameLists.{full_twice, full_once}
use Rattle.topology_file.proofs.lines.fault_of_full.Goals as goal
use Rattle.topology_file.proofs.lines.fault_of_full.Goals.{then-has_word, else-has_word}

pub returns-then-has_twice : goal.returns-then-has_twice
returns-then-has_twice c =
    let words = words_of c.args.others.now in
    let twice : (list_any (λ w. bytes_eq w c.args.name.now) words || names_twice c.args.draft.now.nodes words) ≡ true =
    elim c.if-has_word.branch [ then-has_word w ↦ grind arith | else-has_word w ↦ grind arith ] in
    rw c.fault_after.ensures (full_twice c.args.draft.now c.args.name.now words c.requires.name c.requires.absent twice)

pub returns-else-has_twice : goal.returns-else-has_twice
returns-else-has_twice c =
    let words = words_of c.args.others.now in
    let once : (list_any (λ w. bytes_eq w c.args.name.now) words || names_twice c.args.draft.now.nodes words) ≡ false =
    elim c.if-has_word.branch [ then-has_word w ↦ grind arith | else-has_word w ↦ grind arith ] in
    rw c.fault_after-else-has_twice.ensures (full_once c.args.draft.now c.args.name.now words c.requires.name c.requires.absent c.requires.full once)
