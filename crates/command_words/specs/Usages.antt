-- The table of commands and that of flags.
use Rattle.std.specs.Prelude.{ℕ, List, [], ◌∷◌, Bool, codes}
use Rattle.std.specs.Str.{bytes_eq}
use Rattle.meta_base.specs.Numbers.{max_workers, max_turns}
use Rattle.command_words.specs.declared.usage.Kind.{Kind}
use Rattle.command_words.specs.declared.usage.Kind.TheVariants.{Check, Code, Route, Settle, Stable, Run, Trace, Flood, Distance, Verify, Hops, Gadget, Demo}
use Rattle.command_words.specs.declared.usage.Flag.{Flag}
use Rattle.command_words.specs.declared.usage.Flag.TheVariants.{Number, Require}
use Rattle.command_words.specs.declared.usage.NumberFlag.{NumberFlag}
use Rattle.command_words.specs.declared.usage.NumberFlag.TheVariants.{Workers, Turns}
use Rattle.command_words.specs.declared.usage.Limits.{Limits}
use Rattle.command_words.specs.declared.usage.Usage.{Usage}

-- how a command is used: its word, how many arguments it takes at least and at most, and which flags it has
pub record PureUsage : Type 0 where
  pub word : List ℕ
  pub least : ℕ
  pub most : ℕ
  pub flags : List Flag

-- the usage without where its word and flags lie in memory
abbrev pub pure_usage : Usage → PureUsage
pure_usage u = record { word = u.word.now; least = u.least; most = u.most; flags = u.flags.now }

-- the table of commands
abbrev pub usage_of : Kind → PureUsage
usage_of Check = record { word = codes "check"; least = 1; most = 2; flags = Require ∷ [] }
usage_of Code = record { word = codes "code"; least = 1; most = 2; flags = [] }
usage_of Route = record { word = codes "route"; least = 2; most = 2; flags = Number Workers ∷ [] }
usage_of Settle = record { word = codes "settle"; least = 2; most = 2; flags = [] }
usage_of Stable = record { word = codes "stable"; least = 2; most = 2; flags = [] }
usage_of Run = record { word = codes "run"; least = 2; most = 2; flags = Number Workers ∷ Number Turns ∷ [] }
usage_of Trace = record { word = codes "trace"; least = 2; most = 2; flags = Number Workers ∷ Number Turns ∷ [] }
usage_of Flood = record { word = codes "flood"; least = 2; most = 2; flags = Number Workers ∷ Number Turns ∷ [] }
usage_of Distance = record { word = codes "distance"; least = 2; most = 2; flags = Number Workers ∷ Number Turns ∷ [] }
usage_of Verify = record { word = codes "verify"; least = 3; most = 3; flags = [] }
usage_of Hops = record { word = codes "hops"; least = 2; most = 2; flags = [] }
usage_of Gadget = record { word = codes "gadget"; least = 1; most = 1; flags = [] }
usage_of Demo = record { word = codes "demo"; least = 2; most = 2; flags = [] }

-- all commands
abbrev pub kinds : List Kind
kinds = Check ∷ Code ∷ Route ∷ Settle ∷ Stable ∷ Run ∷ Trace ∷ Flood ∷ Distance ∷ Verify ∷ Hops ∷ Gadget ∷ Demo ∷ []

-- it is the command of this word
abbrev pub has_word : List ℕ → Kind → Bool
has_word word kind = bytes_eq (usage_of kind).word word

-- the word of a flag
abbrev pub flag_word : Flag → List ℕ
flag_word (Number Workers) = codes "--workers"
flag_word (Number Turns) = codes "--turns"
flag_word Require = codes "--require"

-- the least and the greatest number that the flag may have, and the number where it isn't given
abbrev pub limits_of : NumberFlag → Limits
limits_of Workers = record { least = 1; greatest = max_workers; default = 4 }
limits_of Turns = record { least = 0; greatest = max_turns; default = 100000 }
