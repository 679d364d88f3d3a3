-- Which of the facts hold, and which their witnesses refute.
use Rattle.std.proofs.Common.{◌≡◌, ℕ, ◌≤◌, refl, Bool, true, false}
use Rattle.alg_model.specs.Expressions.{PureCarrier, PureValue, number, whole, up_to, down_from}
use Rattle.alg_model.specs.Carriers.{In}
use Rattle.alg_classes.specs.declared.profile.Profile.{Profile}
use Rattle.alg_classes.specs.declared.fact.Fact.{Fact}
use Rattle.alg_classes.specs.Facts.{Action, Holds, PureExample, Refutes}
use Rattle.alg_classes.specs.Profiles.{bit}
use Rattle.alg_classes.specs.Classes.{Settles, IsSettledBy}
use Rattle.base_classes.specs.Witnesses.{Witness, unless, failing}

-- by the bit, the fact holds or the witness refutes it
abbrev pub Reports : PureCarrier → Action → Fact → Bool → PureExample → Type 0
Reports c f k b e = (b ≡ true → Holds c f k) × (b ≡ false → Refutes c f k e)

abbrev pub Reported : PureCarrier → Action → Profile → Witness → Type 0
Reported c f p w = (k : Fact) → Reports c f k (bit p k) (w k)

settled : (c : PureCarrier) (f : Action) (k : Fact) (b : Bool) (e : PureExample) → Reports c f k b e → Settles c f k b (unless b e)
settled c f k true e t = t.0 refl
settled c f k false e t = t.1 refl

-- such facts are settled
pub stated_settles : (c : PureCarrier) (f : Action) (p : Profile) (w : Witness) → Reported c f p w → IsSettledBy c f p (failing p w)
stated_settles c f p w t k = settled c f k (bit p k) (w k) (t k)

-- a fact that always holds, and one that never does
pub always : {H R : Type 0} → H → (true ≡ true → H) × (true ≡ false → R)
always h = (λ e. h, λ e. absurd (cc))

pub never : {H R : Type 0} → R → (false ≡ true → H) × (false ≡ false → R)
never r = (λ e. absurd (cc), λ e. r)

-- what holds of each number of a carrier holds of its members
pub on_whole : (P : PureValue → Type 0) → ((n : ℕ) → P (number n)) → (v : PureValue) → In whole v → P v
on_whole P f (number n) i = f n
on_whole P f _ i = absurd i

pub on_up : (top : ℕ) (P : PureValue → Type 0) → ((n : ℕ) → n ≤ top → P (number n)) → (v : PureValue) → In (up_to top) v → P v
on_up top P f (number n) i = f n i
on_up top P f _ i = absurd i

pub on_down : (top : ℕ) (P : PureValue → Type 0) → ((n : ℕ) → n ≤ top → P (number n)) → (v : PureValue) → In (down_from top) v → P v
on_down top P f (number n) i = f n i
on_down top P f _ i = absurd i

-- and of two
pub on_two_whole : (P : PureValue → PureValue → Type 0) → ((m n : ℕ) → P (number m) (number n)) → (u v : PureValue) → In whole u → In whole v → P u v
on_two_whole P f u v i j = on_whole (λ x. P x v) (λ m. on_whole (λ y. P (number m) y) (f m) v j) u i

pub on_two_up : (top : ℕ) (P : PureValue → PureValue → Type 0) → ((m n : ℕ) → m ≤ top → n ≤ top → P (number m) (number n)) → (u v : PureValue) → In (up_to top) u → In (up_to top) v → P u v
on_two_up top P f u v i j = on_up top (λ x. P x v) (λ m a. on_up top (λ y. P (number m) y) (λ n b. f m n a b) v j) u i

pub on_two_down : (top : ℕ) (P : PureValue → PureValue → Type 0) → ((m n : ℕ) → m ≤ top → n ≤ top → P (number m) (number n)) → (u v : PureValue) → In (down_from top) u → In (down_from top) v → P u v
on_two_down top P f u v i j = on_down top (λ x. P x v) (λ m a. on_down top (λ y. P (number m) y) (λ n b. f m n a b) v j) u i
