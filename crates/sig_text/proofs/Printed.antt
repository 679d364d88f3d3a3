-- Lists of numbers, as they are printed one after another.
use Rattle.std.proofs.Common.{◌≡◌, ℕ, ◌+◌, ◌-◌, ◌<◌, suc, Bool, true, false, List, [], ◌∷◌, ◌++◌, length, get_or, drop, refl, sym, ap, ◌∙◌, arith, append_assoc}
use Rattle.std.specs.Prelude.{codes, decimal, if◌then◌else◌}
use Rattle.std.proofs.lemmas.List.{at_drop_more}
use Rattle.alg_model.specs.Application.{has_mark}
use Rattle.alg_model.specs.Texts.{more_numbers, numbers_text, members_from}
use Rattle.sig_text.specs.Listed.{listed}

pub listed_first : (ns : List ℕ) → listed [] ns ≡ numbers_text ns
listed_first [] = refl
listed_first (n ∷ ns) = refl

listed_more : (ns : List ℕ) → listed (codes ",") ns ≡ more_numbers ns
listed_more [] = refl
listed_more (n ∷ ns) = sym (append_assoc (codes ",") (decimal n) (more_numbers ns))

listed_after : (separator : List ℕ) (n : ℕ) (ns : List ℕ) → listed separator (n ∷ ns) ≡ separator ++ (decimal n ++ listed (codes ",") ns)
listed_after separator n ns = ap (λ more. separator ++ (decimal n ++ more)) (sym (listed_more ns))

-- one number more is printed
pub listed_step : (separator : List ℕ) (n : ℕ) (ns out : List ℕ) → out ++ listed separator (n ∷ ns) ≡ ((out ++ separator) ++ decimal n) ++ listed (codes ",") ns
listed_step separator n ns out = ap (λ more. out ++ more) (listed_after separator n ns) ∙ regroup out separator (decimal n) (listed (codes ",") ns)
  where
    regroup : (a b c d : List ℕ) → a ++ (b ++ (c ++ d)) ≡ ((a ++ b) ++ c) ++ d
    regroup a b c d = sym (append_assoc (a ++ b) c d ∙ append_assoc a b (c ++ d))

pub listed_at : (separator ns out : List ℕ) (i : ℕ) → i < length ns → out ++ listed separator (drop i ns) ≡ ((out ++ separator) ++ decimal (get_or ns i 0)) ++ listed (codes ",") (drop (i + 1) ns)
listed_at separator ns out i h = ap (λ more. out ++ more) (at_drop_more (listed separator) ns i 0 h) ∙ listed_step separator (get_or ns i 0) (drop (i + 1) ns) out

members_suc : (k left m : ℕ) (b : Bool) → has_mark m k ≡ b → members_from k (suc left) m ≡ (if b then k ∷ members_from (k + 1) left m else members_from (k + 1) left m)
members_suc k left m b h = rw h refl

left_is : (k count : ℕ) → k < count → count - k ≡ suc (count - (k + 1))
left_is k count h = omega arith

-- a number is there, or not
pub members_there : (k count m : ℕ) → k < count → has_mark m k ≡ true → members_from k (count - k) m ≡ k ∷ members_from (k + 1) (count - (k + 1)) m
members_there k count m h t = ap (λ left. members_from k left m) (left_is k count h) ∙ members_suc k (count - (k + 1)) m true t

pub members_not : (k count m : ℕ) → k < count → has_mark m k ≡ false → members_from k (count - k) m ≡ members_from (k + 1) (count - (k + 1)) m
members_not k count m h t = ap (λ left. members_from k left m) (left_is k count h) ∙ members_suc k (count - (k + 1)) m false t
