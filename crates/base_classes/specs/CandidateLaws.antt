-- Each profile of a label of a base algebra is that of a candidate, and the label's numbers are bounded. Lemmas, so that
-- proofs of other crates may cite them.
use Rattle.std.proofs.Common.{◌≡◌, ℕ, ◌<◌, ◌≤◌, ◌==◌, refl, sym, subst, ◌∙◌, ⊎_elim, Bool, true, false, arith}
use Rattle.std.proofs.lemmas.Bool.{cases_lt}
use Rattle.std.proofs.lemmas.Bool.Decides.{nat_tests}
use Rattle.std.specs.Prelude.{nat_le, nat_lt}
use Rattle.alg_model.specs.Expressions.{Expression, PureCarrier, add, cap, worst, width, pref, orig, seq, simseq, tags, guard, gate}
use Rattle.alg_model.specs.Expressions.{PureLabel, number_label, keep, symbol_label, mark, unmark, need, bar, allow, deny}
use Rattle.alg_model.specs.Carriers.{carrier_of}
use Rattle.alg_model.specs.Application.{IsLabel, App}
use Rattle.alg_model.specs.Bounds.{ExpressionAtMost, LabelAtMost}
use Rattle.alg_model.specs.Formation.{MeetsRanges}
use Rattle.alg_model.specs.Forms.{IsBase}
use Rattle.alg_classes.specs.declared.profile.Profile.{Profile}
use Rattle.alg_classes.specs.declared.fact.Fact.{Fact}
use Rattle.alg_classes.specs.declared.fact.Fact.TheVariants.{Total, Dead, Monotone, Strict, Isotone, Cancellative, Condensed, Narrow}
use Rattle.alg_classes.specs.Facts.{Action, Holds}
use Rattle.alg_classes.specs.Profiles.{bit, IsProfile, ProfileOf}
use Rattle.base_classes.specs.Profiles.{base_profile_of, add_profile, cap_profile, worst_profile, width_profile, pref_profile}
use Rattle.base_classes.specs.Lists.{candidate_number, candidate}
use Rattle.base_classes.specs.BaseLaws.{base_is_profile}

-- two numbers compare alike with 0 and the top
abbrev Alike : ℕ → ℕ → ℕ → Type 0
Alike top c n = ((c == 0) ≡ (n == 0)) × ((c == top) ≡ (n == top)) × (nat_lt top c ≡ nat_lt top n) × (nat_le top c ≡ nat_le top n)

-- a candidate in the range compares alike
abbrev Found : ℕ → ℕ → ℕ → ℕ → Type 0
Found low top high n =
    (p : ℕ) × (p < 4) × (low ≤ candidate_number p low top high) × (candidate_number p low top high ≤ high) × Alike top (candidate_number p low top high) n

alike_same : (top c n : ℕ) → c ≡ n → Alike top c n
alike_same top c n e = subst (λ m. Alike top c m) e (refl, refl, refl, refl)

alike_above : (top c n : ℕ) → top < c → top < n → Alike top c n
alike_above top c n h i = (grind (arith, nat_tests), grind (arith, nat_tests), grind (arith, nat_tests), grind (arith, nat_tests))

alike_between : (top c n : ℕ) → 0 < c → c < top → 0 < n → n < top → Alike top c n
alike_between top c n a h b i = (grind (arith, nat_tests), grind (arith, nat_tests), grind (arith, nat_tests), grind (arith, nat_tests))

found_below : (low top high n : ℕ) → low ≤ n → n ≤ high → n < top → Found low top high n
found_below low top high n a b h = ⊎_elim
    (λ some. ⊎_elim
    (λ positive. (0, omega arith, omega arith, omega arith, alike_between top low n positive (omega arith) some h))
    (λ z. (1, omega arith, omega arith, omega arith, alike_between top 1 n (omega arith) (omega arith) some h))
    (cases_lt 0 low))
    (λ z. (0, omega arith, omega arith, omega arith, alike_same top low n (omega arith)))
    (cases_lt 0 n)

found : (low top high n : ℕ) → low ≤ n → n ≤ high → Found low top high n
found low top high n a b = ⊎_elim
    (found_below low top high n a b)
    (λ h. ⊎_elim
    (λ over. (3, omega arith, omega arith, omega arith, alike_above top high n (omega arith) over))
    (λ e. (2, omega arith, omega arith, omega arith, alike_same top top n (omega arith)))
    (cases_lt top n))
    (cases_lt n top)

-- numbers that compare alike have one profile
add_alike : (top c n : ℕ) → Alike top c n → add_profile c ≡ add_profile n
add_alike top c n e = rw (e.0) refl

cap_alike : (top c n : ℕ) → Alike top c n → cap_profile top c ≡ cap_profile top n
cap_alike top c n e = rw (e.0, e.2, e.3) refl

worst_alike : (top c n : ℕ) → Alike top c n → worst_profile top c ≡ worst_profile top n
worst_alike top c n e = rw (e.0, e.1) refl

width_alike : (top c n : ℕ) → Alike top c n → width_profile top c ≡ width_profile top n
width_alike top c n e = rw (e.0, e.1) refl

pref_alike : (top c n : ℕ) → Alike top c n → pref_profile top c ≡ pref_profile top n
pref_alike top c n e = rw (e.0) refl

-- of a candidate that is a label the table tells what it tells of this one
abbrev Has : Expression → PureLabel → Type 0
Has a l = (p : ℕ) × (p < 4) × IsLabel a (candidate a p) × (base_profile_of a (candidate a p) ≡ base_profile_of a l)

has_alike : (a : Expression) (l : PureLabel) → IsBase a → MeetsRanges a → IsLabel a l → Has a l
has_alike (add low high) (number_label n) b r i = let f = found low low high n i.0 i.1 in (f.0, f.1, (f.2, f.3), add_alike low (candidate_number f.0 low low high) n f.4)
has_alike (cap top low high) (number_label n) b r i = let f = found low top high n i.0 i.1 in (f.0, f.1, (f.2, f.3), cap_alike top (candidate_number f.0 low top high) n f.4)
has_alike (worst top low high) (number_label n) b r i = let f = found low top high n i.0 i.1 in (f.0, f.1, (f.2, f.3), worst_alike top (candidate_number f.0 low top high) n f.4)
has_alike (width top low high) (number_label n) b r i = let f = found low top high n i.0 i.1 in (f.0, f.1, (f.2, f.3), width_alike top (candidate_number f.0 low top high) n f.4)
has_alike (pref top) (number_label n) b r i = let f = found 0 top top n (omega arith) i in (f.0, f.1, f.3, pref_alike top (candidate_number f.0 0 top top) n f.4)
has_alike (orig top) keep b r i = (0, omega arith, tt, refl)
has_alike (seq k) (symbol_label n) b r i = (0, omega arith, omega (arith, i), refl)
has_alike (simseq k) (symbol_label n) b r i = (0, omega arith, omega (arith, i), refl)
has_alike (tags k) l b r i = (0, omega arith, tt, refl)
has_alike (guard k) l b r i = (0, omega arith, omega (arith, r.0), refl)
has_alike gate allow b r i = (0, omega arith, tt, refl)
has_alike gate deny b r i = (1, omega arith, tt, refl)
has_alike (add low high) l b r i = absurd i
has_alike (cap top low high) l b r i = absurd i
has_alike (worst top low high) l b r i = absurd i
has_alike (width top low high) l b r i = absurd i
has_alike (pref top) l b r i = absurd i
has_alike (orig top) l b r i = absurd i
has_alike (seq k) l b r i = absurd i
has_alike (simseq k) l b r i = absurd i
has_alike gate l b r i = absurd i
has_alike a l b r i = absurd b

-- an action has one profile
one_bit : (b c : Bool) (H : Type 0) → (b ≡ true → H) × (H → b ≡ true) → (c ≡ true → H) × (H → c ≡ true) → b ≡ c
one_bit true c H s t = sym (t.1 (s.0 refl))
one_bit false true H s t = s.1 (t.0 refl)
one_bit false false H s t = refl

abbrev of_bits : (Fact → Bool) → Profile
of_bits b = record {
  total = b Total;
  dead = b Dead;
  mono = b Monotone;
  strict = b Strict;
  iso = b Isotone;
  canc = b Cancellative;
  cond = b Condensed;
  narrow = b Narrow;
}

same_bits : (b c : Fact → Bool) → ((k : Fact) → b k ≡ c k) → of_bits b ≡ of_bits c
same_bits b c e = rw (e Total, e Dead, e Monotone, e Strict, e Isotone, e Cancellative, e Condensed, e Narrow) refl

one_profile : (c : PureCarrier) (f : Action) (p q : Profile) → IsProfile c f p → IsProfile c f q → p ≡ q
one_profile c f p q s t = same_bits (bit p) (bit q) (λ k. one_bit (bit p k) (bit q k) (Holds c f k) (s k) (t k))

-- labels of which the table tells the same have one profile
also_profile : (a : Expression) (c l : PureLabel) (q : Profile) → IsBase a → MeetsRanges a → IsLabel a c → IsLabel a l
    → base_profile_of a c ≡ base_profile_of a l → ProfileOf a c q → ProfileOf a l q
also_profile a c l q b r i j e is =
    let same : base_profile_of a l ≡ q = sym (one_profile (carrier_of a) (App a c) q (base_profile_of a c) is (base_is_profile a c b r i) ∙ e) in
    subst (ProfileOf a l) same (base_is_profile a l b r j)

-- a label's profile is that of some candidate
pub has_candidate : (a : Expression) (l : PureLabel) → IsBase a → MeetsRanges a → IsLabel a l
    → (p : ℕ) × (p < 4) × IsLabel a (candidate a p) × ((q : Profile) → ProfileOf a (candidate a p) q → ProfileOf a l q)
has_candidate a l b r i =
    let f = has_alike a l b r i in
    (f.0, f.1, f.2, λ q. also_profile a (candidate a f.0) l q b r f.2 i f.3)

-- the numbers of a label aren't above those of its algebra
pub label_bounded : (n : ℕ) (a : Expression) (l : PureLabel) → IsBase a → ExpressionAtMost n a → IsLabel a l → LabelAtMost n l
label_bounded n (add low high) (number_label m) b e i = omega (arith, e.1, i.1)
label_bounded n (cap top low high) (number_label m) b e i = omega (arith, e.2, i.1)
label_bounded n (worst top low high) (number_label m) b e i = omega (arith, e.2, i.1)
label_bounded n (width top low high) (number_label m) b e i = omega (arith, e.2, i.1)
label_bounded n (pref top) (number_label m) b e i = omega (arith, e, i)
label_bounded n (orig top) keep b e i = tt
label_bounded n (seq k) (symbol_label m) b e i = omega (arith, e, i)
label_bounded n (simseq k) (symbol_label m) b e i = omega (arith, e, i)
label_bounded n (tags k) keep b e i = tt
label_bounded n (tags k) (mark j) b e i = tt
label_bounded n (tags k) (unmark j) b e i = tt
label_bounded n (guard k) (need j) b e i = tt
label_bounded n (guard k) (bar j) b e i = tt
label_bounded n gate allow b e i = tt
label_bounded n gate deny b e i = tt
label_bounded n (add low high) l b e i = absurd i
label_bounded n (cap top low high) l b e i = absurd i
label_bounded n (worst top low high) l b e i = absurd i
label_bounded n (width top low high) l b e i = absurd i
label_bounded n (pref top) l b e i = absurd i
label_bounded n (orig top) l b e i = absurd i
label_bounded n (seq k) l b e i = absurd i
label_bounded n (simseq k) l b e i = absurd i
label_bounded n (tags k) l b e i = absurd i
label_bounded n (guard k) l b e i = absurd i
label_bounded n gate l b e i = absurd i
label_bounded n a l b e i = absurd b
