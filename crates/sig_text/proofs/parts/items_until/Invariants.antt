use Rattle.std.proofs.Common.{◌≡◌, [], length}
use Rattle.sig_text.specs.Reading.{items_until}
use Rattle.sig_text.specs.Sequences.{parts_of}
use Rattle.sig_text.proofs.parts.items_until.Given as goal

-- the numbers so far are taken
abbrev pub invariant-loop-numbers : goal.invariant-loop-numbers
invariant-loop-numbers l = items_until l.greatest l.closing [] (parts_of l.fn.text) ≡ items_until l.greatest l.closing l.numbers.items (parts_of l.text)

abbrev pub decreases-loop-numbers : goal.decreases-loop-numbers
decreases-loop-numbers l = length (parts_of l.text)
