-- What a step of the machine tells of an effect.
use Rattle.std.specs.Prelude.{◌≡◌, ℕ, List, [], ◌++◌, Bool, true, false, Option, Some, None, Result, Ok, Err, if◌then◌else◌}
use Rattle.label_code.specs.declared.operations.Op.{Op}
use Rattle.label_code.specs.declared.operations.Op.TheVariants as op
use Rattle.label_code.specs.declared.in_place.InPlace.{InPlace}
use Rattle.label_code.specs.declared.in_place.InPlace.TheVariants.{Writes, Prohibits, Other}
use Rattle.label_code.specs.declared.machine.Next.{Next}
use Rattle.label_code.specs.declared.machine.Halt.{Halt}
use Rattle.label_code.specs.declared.machine.Halt.TheVariants.{Prohibited, NoMemory}
use Rattle.label_code.specs.declared.fixed.Replacing.{Replacing}
use Rattle.label_code.specs.declared.fixed.Replacing.TheVariants as replaces
use Rattle.label_code.specs.Effects.{Effect, goes_on, writes, denies, misses, effect}

-- the operation reads a word, and writes one in its place or prohibits
abbrev pub writes_in_place : Op → Bool
writes_in_place (op.Add n) = true
writes_in_place (op.Cap n k) = true
writes_in_place (op.Max n) = true
writes_in_place (op.Min n) = true
writes_in_place op.Copy = true
writes_in_place op.Drop = false
writes_in_place op.CopySeq = false
writes_in_place op.DropSeq = false
writes_in_place (op.Emit n) = false
writes_in_place (op.Append s) = false
writes_in_place (op.Fresh s) = false
writes_in_place (op.SetBit k) = true
writes_in_place (op.ClearBit k) = true
writes_in_place (op.NeedBit k) = true
writes_in_place (op.BarBit k) = true
writes_in_place (op.Look entries) = true
writes_in_place op.Deny = false
writes_in_place (op.Fork n) = false
writes_in_place (op.Test n) = false
writes_in_place (op.Skip n) = false

-- the effect of such an operation
abbrev pub effect_in_place : Op → List ℕ → Option Effect
effect_in_place o row = if writes_in_place o then Some (effect o row) else None

-- the effect, if one is defined
abbrev pub effect_of : InPlace → Option Effect
effect_of (Writes word rest) = Some (writes word rest.now)
effect_of Prohibits = Some denies
effect_of Other = None

-- what an effect leaves after words that stood there before: the words, the row, and the jump
abbrev pub left_by : List ℕ → Effect → Option (List ℕ × (List ℕ × ℕ))
left_by old (goes_on written row jump) = Some (old ++ written, (row, jump))
left_by old denies = None
left_by old misses = None

-- the step left what the effect leaves, or prohibited where that is nothing; nothing is said of one that got no memory
abbrev pub Does : Result Next Halt → List ℕ → List ℕ → Effect → Type 0
Does (Ok next) old new e = Some (new, (next.row.now, next.jump)) ≡ left_by old e
Does (Err Prohibited) old new e = left_by old e ≡ None
Does (Err NoMemory) old new e = Unit {0}

-- the operation does what its effect is, where it is one of those that replace words by others
abbrev pub IsReplacing : Replacing → Effect → Type 0
IsReplacing (replaces.Writes word rest) e = e ≡ writes word rest.now
IsReplacing (replaces.Drops rest) e = e ≡ goes_on [] rest.now 0
IsReplacing replaces.Other e = Unit {0}
