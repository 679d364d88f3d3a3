-- What texts name, where it is noted.
use Rattle.std.specs.Prelude.{◌≡◌, ℕ, List, Option, Some, None, IfSome, replicate, set, slice_get}
use Rattle.std.specs.List.{AllByRecursion}

-- nothing is noted at these spots
abbrev pub IsBlank : {T : Type 0} → List (Option (List ℕ × T)) → Type 0
IsBlank spots = (count : ℕ) × (spots ≡ replicate count None)

-- the text is noted at one of these spots, with what it names
abbrev pub IsNoted : {T : Type 0} → List (Option (List ℕ × T)) → List ℕ → T → Type 0
IsNoted spots text named = (spot : ℕ) × (slice_get spots spot ≡ Some (Some (text, named)))

-- the text is noted more, if there are spots
abbrev pub IsNotedMore : {T : Type 0} → List (Option (List ℕ × T)) → List ℕ → T → List (Option (List ℕ × T)) → Type 0
IsNotedMore old text named new = (spot : ℕ) × (new ≡ set old spot (Some (text, named)))

-- each text that is noted names what is noted with it
abbrev pub AreNoted : {T : Type 0} → (List ℕ → T → Type 0) → List (Option (List ℕ × T)) → Type 0
AreNoted {T} Names spots = AllByRecursion (λ (spot : Option (List ℕ × T)). IfSome spot (λ noted. Names noted.0 noted.1)) spots
