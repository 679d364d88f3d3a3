-- The first part of words.
use Rattle.std.proofs.Common.{◌≡◌, ℕ, ◌+◌, List, [], ◌∷◌, true, false, Option, Some, None, Bor, MatchOption, refl, arith, length, ◌≤◌, if◌then◌else◌}
use Rattle.std.specs.Option.{option_map, OnSome}
use Rattle.command_words.specs.Parts.{argument, flag, is_flag, parts_from}

pub first_argument : (place : ℕ) (word : List ℕ) (rest : List (List ℕ)) → is_flag word ≡ false → parts_from place (word ∷ rest) ≡ argument place word ∷ parts_from (place + 1) rest
first_argument place word [] e = rw e refl
first_argument place word (next ∷ rest) e = rw e refl

-- after a flag its value is taken, if there is one
pub first_flag : (place between after : ℕ) (word : List ℕ) (words rest later : List (List ℕ)) (value : Option (Bor (List ℕ))) → words ≡ word ∷ rest → is_flag word ≡ true → between ≡ place + 1
    → MatchOption value ((rest ≡ []) × (later ≡ [])) (λ v. rest ≡ v.now ∷ later) → OnSome value (after ≡ between + 1)
    → parts_from place words ≡ flag word (option_map (λ v. v.now) value) ∷ parts_from after later
first_flag place between after word words rest later None s e m empty moved = rw (s, empty.0, empty.1, e) refl
first_flag place between after word words rest later (Some v) s e m split moved =
    let two : after ≡ place + 2 = omega arith in rw (s, split, two, e) refl

-- each part takes a word or two
pub parts_within : (place : ℕ) (words : List (List ℕ)) → length (parts_from place words) ≤ length words
parts_within place [] = omega arith
parts_within place (word ∷ []) = elim (is_flag word) as (λ b. length (if b then flag word None ∷ [] else argument place word ∷ []) ≤ 1) [ true ↦ omega arith | false ↦ omega arith ]
parts_within place (word ∷ next ∷ rest) =
    let one = parts_within (place + 1) (next ∷ rest) in
    let two = parts_within (place + 2) rest in
    elim (is_flag word) as (λ b. length (if b then flag word (Some next) ∷ parts_from (place + 2) rest else argument place word ∷ parts_from (place + 1) (next ∷ rest)) ≤ length (word ∷ next ∷ rest)) [ true ↦ omega arith | false ↦ omega arith ]
