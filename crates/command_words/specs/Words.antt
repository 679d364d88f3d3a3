-- What the words of a command line mean.
use Rattle.std.specs.Prelude.{ℕ, ◌-◌, ◌^◌, ◌<◌, ◌≤◌, length, List, [], ◌∷◌, Bool, not, ◌||◌, ◌&&◌, nat_lt, nat_le, Option, Some, None, IfSome, option_map, option_and_then, Result, Ok, Err, if◌then◌else◌, find, count_by, slice_get, slice_index}
use Rattle.std.specs.Option.{ok_or}
use Rattle.std.specs.List.{list_any, filter}
use Rattle.meta_base.specs.Numbers.{max_workers, max_turns, min_demo_nodes, max_demo_nodes}
use Rattle.command_words.specs.declared.command.Command.{Command}
use Rattle.command_words.specs.declared.command.Command.TheVariants.{Check, Code, Route, Settle, Stable, Run, Trace, Flood, Distance, Verify, Hops, Gadget, Demo}
use Rattle.command_words.specs.declared.command.Required.{Required}
use Rattle.command_words.specs.declared.command.WordsFault.{WordsFault}
use Rattle.command_words.specs.declared.command.WordsFault.TheVariants.{NoCommand, UnknownCommand, WrongCount, BadNumber, BadFlag, BadList}
use Rattle.command_words.specs.declared.usage.Kind.{Kind}
use Rattle.command_words.specs.declared.usage.Kind.TheVariants as kind
use Rattle.command_words.specs.declared.usage.Flag.{Flag}
use Rattle.command_words.specs.declared.usage.Flag.TheVariants.{Number, Require}
use Rattle.command_words.specs.declared.usage.NumberFlag.{NumberFlag}
use Rattle.command_words.specs.declared.usage.NumberFlag.TheVariants.{Workers, Turns}
use Rattle.command_words.specs.Usages.{PureUsage, usage_of, limits_of, has_word, kinds}
use Rattle.command_words.specs.Parts.{PurePart, parts_from, places, word_of, is_argument, value_of, misses_value, gives, is_unknown}
use Rattle.command_words.specs.Numbers.{number_within}
use Rattle.command_words.specs.Lists.{nothing_required, required_of}

-- the flag is given more than once
abbrev pub is_repeated : List PurePart → Flag → Bool
is_repeated parts f = nat_lt 1 (count_by (gives f) parts)

-- a flag is none of these, or one of these is given more than once
abbrev pub has_bad_flag : List Flag → List PurePart → Bool
has_bad_flag flags parts = list_any (is_unknown flags) parts || list_any (is_repeated parts) flags

-- a flag has no value, or the arguments are too few or too many
abbrev pub has_wrong_count : PureUsage → List PurePart → Bool
has_wrong_count usage parts =
    let count = length (places parts) in
    list_any misses_value parts || not (nat_le usage.least count && nat_le count usage.most)

-- the value of the flag among these parts, if it is given
abbrev pub value_given : Flag → List PurePart → Option (List ℕ)
value_given f parts = option_and_then value_of (find (gives f) parts)

-- the number of a flag with this value, or of one that isn't given, if it is good
abbrev pub number_given : NumberFlag → Option (List ℕ) → Option ℕ
number_given f None = Some (limits_of f).default
number_given f (Some word) = number_within (limits_of f).least (limits_of f).greatest word

-- the number of the flag among these parts
abbrev pub number_of : NumberFlag → List PurePart → Option ℕ
number_of f parts = number_given f (value_given (Number f) parts)

-- what `--require` with this list asks for, if the list is good; where it isn't given, nothing
abbrev pub required_given : Option (List ℕ) → Option Required
required_given None = Some nothing_required
required_given (Some list) = required_of list

-- what `--require` among these parts asks for
abbrev pub required_in : List PurePart → Option Required
required_in parts = required_given (value_given Require parts)

-- the numbers of workers and turns among these parts, with what they make
abbrev pub with_numbers : {X : Type 0} → (ℕ → ℕ → X) → List PurePart → Option X
with_numbers make parts = option_and_then (λ workers. option_map (make workers) (number_of Turns parts)) (number_of Workers parts)

-- the greatest seed of a generated network
abbrev pub greatest_seed : ℕ
greatest_seed = 2 ^ 64 - 1

-- the argument with this number, from 0, as a number of that range, if it is there and good
abbrev pub argument_number : ℕ → ℕ → ℕ → List PurePart → Option ℕ
argument_number least greatest number parts =
    option_and_then (λ part. number_within least greatest (word_of part)) (slice_get (filter is_argument parts) number)

-- the command that these parts make, with as many arguments as it takes, or the fault of a number or a list among them
abbrev pub command_of : Kind → List PurePart → Result Command WordsFault
command_of kind.Check parts =
    ok_or (option_map (Check (slice_index (places parts) 0) (slice_get (places parts) 1)) (required_in parts)) BadList
command_of kind.Code parts = Ok (Code (slice_index (places parts) 0) (slice_get (places parts) 1))
command_of kind.Route parts =
    ok_or (option_map (Route (slice_index (places parts) 0) (slice_index (places parts) 1)) (number_of Workers parts)) BadNumber
command_of kind.Settle parts = Ok (Settle (slice_index (places parts) 0) (slice_index (places parts) 1))
command_of kind.Stable parts = Ok (Stable (slice_index (places parts) 0) (slice_index (places parts) 1))
command_of kind.Run parts = ok_or (with_numbers (Run (slice_index (places parts) 0) (slice_index (places parts) 1)) parts) BadNumber
command_of kind.Trace parts = ok_or (with_numbers (Trace (slice_index (places parts) 0) (slice_index (places parts) 1)) parts) BadNumber
command_of kind.Flood parts = ok_or (with_numbers (Flood (slice_index (places parts) 0) (slice_index (places parts) 1)) parts) BadNumber
command_of kind.Distance parts = ok_or (with_numbers (Distance (slice_index (places parts) 0) (slice_index (places parts) 1)) parts) BadNumber
command_of kind.Verify parts = Ok (Verify (slice_index (places parts) 0) (slice_index (places parts) 1) (slice_index (places parts) 2))
command_of kind.Hops parts = Ok (Hops (slice_index (places parts) 0) (slice_index (places parts) 1))
command_of kind.Gadget parts = Ok (Gadget (slice_index (places parts) 0))
command_of kind.Demo parts =
    ok_or (option_and_then (λ seed. option_map (Demo seed) (argument_number min_demo_nodes max_demo_nodes 1 parts)) (argument_number 0 greatest_seed 0 parts)) BadNumber

-- the command of this kind with these parts, or their first fault
abbrev pub meaning_of : Option Kind → List PurePart → Result Command WordsFault
meaning_of None parts = Err UnknownCommand
meaning_of (Some k) parts =
    if has_bad_flag (usage_of k).flags parts then Err BadFlag else
    (if has_wrong_count (usage_of k) parts then Err WrongCount else command_of k parts)

-- the command of the words, or the first fault in them
unfoldable pub Words : List (List ℕ) → Result Command WordsFault
Words [] = Err NoCommand
Words (word ∷ rest) = meaning_of (find (has_word word) kinds) (parts_from 1 rest)

-- so many workers there may be
abbrev pub AreWorkers : ℕ → Type 0
AreWorkers workers = (1 ≤ workers) × (workers ≤ max_workers)

-- and so many turns
abbrev pub AreTurns : ℕ → Type 0
AreTurns turns = turns ≤ max_turns

-- and so many nodes
abbrev pub AreDemoNodes : ℕ → Type 0
AreDemoNodes nodes = (min_demo_nodes ≤ nodes) × (nodes ≤ max_demo_nodes)

-- the files of the command are words, and there may be so many workers, turns and nodes
abbrev pub HasItsWords : List (List ℕ) → Command → Type 0
HasItsWords words (Check file net require) = (file < length words) × IfSome net (λ net. net < length words)
HasItsWords words (Code file net) = (file < length words) × IfSome net (λ net. net < length words)
HasItsWords words (Route file net workers) = (file < length words) × (net < length words) × AreWorkers workers
HasItsWords words (Settle file net) = (file < length words) × (net < length words)
HasItsWords words (Stable file net) = (file < length words) × (net < length words)
HasItsWords words (Run file net workers turns) = (file < length words) × (net < length words) × AreWorkers workers × AreTurns turns
HasItsWords words (Trace file net workers turns) = (file < length words) × (net < length words) × AreWorkers workers × AreTurns turns
HasItsWords words (Flood file net workers turns) = (file < length words) × (net < length words) × AreWorkers workers × AreTurns turns
HasItsWords words (Distance file net workers turns) = (file < length words) × (net < length words) × AreWorkers workers × AreTurns turns
HasItsWords words (Verify file net report) = (file < length words) × (net < length words) × (report < length words)
HasItsWords words (Hops file net) = (file < length words) × (net < length words)
HasItsWords words (Gadget file) = file < length words
HasItsWords words (Demo seed nodes) = AreDemoNodes nodes

-- the number that stands after the C of a printed fault
abbrev pub words_fault_number : WordsFault → ℕ
words_fault_number NoCommand = 1
words_fault_number UnknownCommand = 2
words_fault_number WrongCount = 3
words_fault_number BadNumber = 4
words_fault_number BadFlag = 5
words_fault_number BadList = 6
