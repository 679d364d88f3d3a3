-- The places of a command are places of words.
use Rattle.std.proofs.Common.{◌≡◌, refl, nat_le, ◌&&◌, lit≤, ℕ, zero, suc, ◌<◌, ◌≤◌, ◌+◌, List, [], ◌∷◌, length, Bool, true, false, Option, Some, None, IfSome, Result, Err, IfOk, if◌then◌else◌, arith, slice_get, slice_index}
use Rattle.std.specs.Prelude.{find}
use Rattle.std.specs.List.{filter}
use Rattle.std.specs.Option.{option_map, option_and_then, ok_or}
use Rattle.std.proofs.lemmas.Bool.Decides.{nat_tests}
use Rattle.meta_base.specs.Bytes.{number_from}
use Rattle.command_words.specs.Numbers.{is_number, number_within}
use Rattle.command_words.specs.declared.command.Command.{Command}
use Rattle.command_words.specs.declared.usage.Kind.{Kind}
use Rattle.command_words.specs.declared.usage.Kind.TheVariants as kind
use Rattle.command_words.specs.declared.command.Command.TheVariants.{Check, Route, Run, Trace, Flood, Distance, Demo}
use Rattle.command_words.specs.declared.command.WordsFault.TheVariants.{BadFlag, WrongCount, BadNumber, BadList}
use Rattle.command_words.specs.declared.command.WordsFault.{WordsFault}
use Rattle.command_words.specs.declared.command.Required.{Required}
use Rattle.command_words.specs.declared.usage.Flag.TheVariants.{Number}
use Rattle.command_words.specs.declared.usage.NumberFlag.TheVariants.{Workers, Turns}
use Rattle.command_words.specs.Usages.{usage_of, has_word, kinds}
use Rattle.command_words.specs.Parts.{PurePart, argument, flag, is_flag, is_argument, word_of, parts_from, places}
use Rattle.meta_base.specs.Numbers.{min_demo_nodes, max_demo_nodes}
use Rattle.command_words.specs.Words.{Words, HasItsWords, AreDemoNodes, AreWorkers, AreTurns, argument_number, greatest_seed, with_numbers, has_bad_flag, has_wrong_count, number_given, number_of, required_in, value_given, command_of, meaning_of}

-- each place is below the bound
abbrev AllBelow : ℕ → List ℕ → Type 0
AllBelow bound [] = Unit {0}
AllBelow bound (place ∷ rest) = (place < bound) × AllBelow bound rest

-- the parts of words that end before the bound
places_below : (bound place : ℕ) (words : List (List ℕ)) → place + length words ≤ bound → AllBelow bound (places (parts_from place words))
places_below bound place [] h = tt
places_below bound place (word ∷ []) h =
    elim (is_flag word) as (λ b. AllBelow bound (places (if b then flag word None ∷ [] else argument place word ∷ []))) [ true ↦ tt | false ↦ (omega arith, tt) ]
places_below bound place (word ∷ next ∷ rest) h =
    elim (is_flag word) as (λ b. AllBelow bound (places (if b then flag word (Some next) ∷ parts_from (place + 2) rest else argument place word ∷ parts_from (place + 1) (next ∷ rest))))
    [ true ↦ places_below bound (place + 2) rest (omega arith) | false ↦ (omega arith, places_below bound (place + 1) (next ∷ rest) (omega arith)) ]

-- past the end the place is 0, which is below the bound too
below_at : (bound : ℕ) (ps : List ℕ) (k : ℕ) → 0 < bound → AllBelow bound ps → slice_index ps k < bound
below_at bound [] k some h = some
below_at bound (p ∷ ps) zero some h = h.0
below_at bound (p ∷ ps) (suc k) some h = below_at bound ps k some h.1

below_get : (bound : ℕ) (ps : List ℕ) (k : ℕ) → AllBelow bound ps → IfSome (slice_get ps k) (λ p. p < bound)
below_get bound [] k h = tt
below_get bound (p ∷ ps) zero h = h.0
below_get bound (p ∷ ps) (suc k) h = below_get bound ps k h.1

number_bounded : (least greatest : ℕ) (word : List ℕ) → IfSome (number_within least greatest word) (λ n. (least ≤ n) × (n ≤ greatest))
number_bounded least greatest word =
    let n = number_from 0 word in
    by n (is_number word) (nat_le least n) (nat_le n greatest) (λ e. grind (arith, nat_tests)) (λ e. grind (arith, nat_tests))
  where
    by : (n : ℕ) (b c d : Bool) → (c ≡ true → least ≤ n) → (d ≡ true → n ≤ greatest) → IfSome (if b && c && d then Some n else None) (λ n. (least ≤ n) × (n ≤ greatest))
    by n true true true f g = (f refl, g refl)
    by n true true false f g = tt
    by n true false d f g = tt
    by n false c d f g = tt

given_bounded : (value : Option (List ℕ)) → IfSome (number_given Workers value) AreWorkers
given_bounded None = (lit≤ tt, lit≤ tt)
given_bounded (Some word) = number_bounded 1 16 word

turns_bounded : (value : Option (List ℕ)) → IfSome (number_given Turns value) AreTurns
turns_bounded None = lit≤ tt
turns_bounded (Some word) = of (number_within 0 1000000 word) (number_bounded 0 1000000 word)
  where
    of : (n : Option ℕ) → IfSome n (λ n. (0 ≤ n) × (n ≤ 1000000)) → IfSome n AreTurns
    of None h = tt
    of (Some n) h = h.1

nodes_bounded : (parts : List PurePart) → IfSome (argument_number min_demo_nodes max_demo_nodes 1 parts) AreDemoNodes
nodes_bounded parts = of (slice_get (filter is_argument parts) 1)
  where
    of : (part : Option PurePart) → IfSome (option_and_then (λ part. number_within min_demo_nodes max_demo_nodes (word_of part)) part) AreDemoNodes
    of None = tt
    of (Some part) = number_bounded min_demo_nodes max_demo_nodes (word_of part)

-- what holds of all that is made of good numbers holds of what these parts make
with_good_numbers : {X : Type 0} (make : ℕ → ℕ → X) (P : X → Type 0) (parts : List PurePart) → ((workers turns : ℕ) → AreWorkers workers → AreTurns turns → P (make workers turns)) → IfSome (with_numbers make parts) P
with_good_numbers {X = X} make P parts all =
    by (number_of Workers parts) (number_of Turns parts) (given_bounded (value_given (Number Workers) parts)) (turns_bounded (value_given (Number Turns) parts))
  where
    by : (w t : Option ℕ) → IfSome w AreWorkers → IfSome t AreTurns → IfSome (option_and_then (λ workers. option_map (make workers) t) w) P
    by None t h i = tt
    by (Some w) None h i = tt
    by (Some w) (Some t) h i = all w t h i

-- what holds of a value holds of it too where a fault stands for the one that is missing
or_fault : {X : Type 0} (o : Option X) (P : X → Type 0) (fault : WordsFault) → IfSome o P → IfOk (ok_or o fault) P
or_fault None P fault h = tt
or_fault (Some x) P fault h = h

command_of_below : (words : List (List ℕ)) (k : Kind) (parts : List PurePart) → 0 < length words → AllBelow (length words) (places parts) → IfOk (command_of k parts) (HasItsWords words)
command_of_below words kind.Check parts some below =
    by (required_in parts)
  where
    by : (o : Option Required) → IfOk (ok_or (option_map (Check (slice_index (places parts) 0) (slice_get (places parts) 1)) o) BadList) (HasItsWords words)
    by None = tt
    by (Some require) = (below_at (length words) (places parts) 0 some below, below_get (length words) (places parts) 1 below)
command_of_below words kind.Code parts some below = (below_at (length words) (places parts) 0 some below, below_get (length words) (places parts) 1 below)
command_of_below words kind.Route parts some below =
    by (number_of Workers parts) (given_bounded (value_given (Number Workers) parts))
  where
    by : (n : Option ℕ) → IfSome n AreWorkers → IfOk (ok_or (option_map (Route (slice_index (places parts) 0) (slice_index (places parts) 1)) n) BadNumber) (HasItsWords words)
    by None h = tt
    by (Some n) h = (below_at (length words) (places parts) 0 some below, below_at (length words) (places parts) 1 some below, h)
command_of_below words kind.Settle parts some below = (below_at (length words) (places parts) 0 some below, below_at (length words) (places parts) 1 some below)
command_of_below words kind.Stable parts some below = (below_at (length words) (places parts) 0 some below, below_at (length words) (places parts) 1 some below)
command_of_below words kind.Run parts some below =
    or_fault _ (HasItsWords words) BadNumber (with_good_numbers (Run (slice_index (places parts) 0) (slice_index (places parts) 1)) (HasItsWords words) parts
    (λ workers turns h i. (below_at (length words) (places parts) 0 some below, below_at (length words) (places parts) 1 some below, h, i)))
command_of_below words kind.Trace parts some below =
    or_fault _ (HasItsWords words) BadNumber (with_good_numbers (Trace (slice_index (places parts) 0) (slice_index (places parts) 1)) (HasItsWords words) parts
    (λ workers turns h i. (below_at (length words) (places parts) 0 some below, below_at (length words) (places parts) 1 some below, h, i)))
command_of_below words kind.Flood parts some below =
    or_fault _ (HasItsWords words) BadNumber (with_good_numbers (Flood (slice_index (places parts) 0) (slice_index (places parts) 1)) (HasItsWords words) parts
    (λ workers turns h i. (below_at (length words) (places parts) 0 some below, below_at (length words) (places parts) 1 some below, h, i)))
command_of_below words kind.Distance parts some below =
    or_fault _ (HasItsWords words) BadNumber (with_good_numbers (Distance (slice_index (places parts) 0) (slice_index (places parts) 1)) (HasItsWords words) parts
    (λ workers turns h i. (below_at (length words) (places parts) 0 some below, below_at (length words) (places parts) 1 some below, h, i)))
command_of_below words kind.Verify parts some below =
    (below_at (length words) (places parts) 0 some below, below_at (length words) (places parts) 1 some below, below_at (length words) (places parts) 2 some below)
command_of_below words kind.Hops parts some below = (below_at (length words) (places parts) 0 some below, below_at (length words) (places parts) 1 some below)
command_of_below words kind.Gadget parts some below = below_at (length words) (places parts) 0 some below
command_of_below words kind.Demo parts some below =
    by (argument_number 0 greatest_seed 0 parts) (argument_number min_demo_nodes max_demo_nodes 1 parts) (nodes_bounded parts)
  where
    by : (seed nodes : Option ℕ) → IfSome nodes AreDemoNodes → IfOk (ok_or (option_and_then (λ s. option_map (Demo s) nodes) seed) BadNumber) (HasItsWords words)
    by None nodes h = tt
    by (Some s) None h = tt
    by (Some s) (Some n) h = h

meaning_of_below : (words : List (List ℕ)) (k : Option Kind) (parts : List PurePart) → 0 < length words → AllBelow (length words) (places parts) → IfOk (meaning_of k parts) (HasItsWords words)
meaning_of_below words None parts some below = tt
meaning_of_below words (Some k) parts some below =
    by (has_bad_flag (usage_of k).flags parts) (has_wrong_count (usage_of k) parts) (command_of k parts) (command_of_below words k parts some below)
  where
    by : (bad wrong : Bool) (r : Result Command WordsFault) → IfOk r (HasItsWords words) → IfOk (if bad then Err BadFlag else (if wrong then Err WrongCount else r)) (HasItsWords words)
    by true wrong r h = tt
    by false true r h = tt
    by false false r h = h

pub words_have_places : (words : List (List ℕ)) → IfOk (Words words) (HasItsWords words)
unfolding Words
words_have_places [] = tt
words_have_places (word ∷ rest) = meaning_of_below (word ∷ rest) (find (has_word word) kinds) (parts_from 1 rest) (omega arith) (places_below _ 1 rest (omega arith))
