use Rattle.std.proofs.Common.{◌≡◌, length}
use Rattle.std.specs.List.{list_any}
use Rattle.std.specs.Str.{bytes_eq}
use Rattle.topology_file.specs.Texts.{words_of}
use Rattle.topology_file.proofs.names.has_word.Given as goal

abbrev pub invariant-loop-word : goal.invariant-loop-word
invariant-loop-word l = list_any (λ w. bytes_eq w l.wanted) (words_of l.text) ≡ list_any (λ w. bytes_eq w l.wanted) (words_of l.rest)

abbrev pub decreases-loop-word : goal.decreases-loop-word
decreases-loop-word l = length l.rest
