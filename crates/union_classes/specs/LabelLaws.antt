-- What a label of a sum, a union or a plus does, and its profile and class from those of its parts.
use Rattle.std.proofs.Common.{◌≡◌, refl, sym, subst}
use Rattle.std.proofs.Math.Path.{fun_ext}
use Rattle.alg_model.specs.Expressions.{Expression, union, sum, plus, sides}
use Rattle.alg_model.specs.Expressions.{PureValue, number, symbols, marks, unit, name, pair, first, second}
use Rattle.alg_model.specs.Expressions.{PureLabel, both_label, first_label, second_label}
use Rattle.alg_model.specs.Carriers.{carrier_of, In}
use Rattle.alg_model.specs.Application.{IsLabel, App}
use Rattle.alg_model.specs.Formation.{IsFormed}
use Rattle.alg_model.specs.Laws.{formed_union, formed_sum}
use Rattle.alg_classes.specs.declared.profile.Profile.{Profile}
use Rattle.alg_classes.specs.Profiles.{IsProfile, ProfileOf}
use Rattle.alg_classes.specs.Classes.{PureExamples, IsSettledBy}
use Rattle.alg_classes.specs.ClassLaws.{images_kept, composed_profile, composed_profile_of_two}
use Rattle.alg_classes.specs.Inhabited.{carrier_inhabited}
use Rattle.alg_classes.specs.Constants.{denied, denied_examples}
use Rattle.union_classes.specs.Sums.{beside, beside_profile, first_profile, second_profile, beside_examples}
use Rattle.union_classes.specs.SumLaws.{beside_settled, first_settled, second_settled}

sum_acts : (a b : Expression) (l m : PureLabel) (v : PureValue) → App (sum a b) (both_label l m) v ≡ beside (App a l) (App b m) v
sum_acts a b l m (number n) = refl
sum_acts a b l m (symbols ns) = refl
sum_acts a b l m (marks n) = refl
sum_acts a b l m unit = refl
sum_acts a b l m (name n) = refl
sum_acts a b l m (pair u v) = refl
sum_acts a b l m (first u) = refl
sum_acts a b l m (second v) = refl

first_acts : (a b : Expression) (l : PureLabel) (v : PureValue) → App (union a b) (first_label l) v ≡ beside (App a l) denied v
first_acts a b l (number n) = refl
first_acts a b l (symbols ns) = refl
first_acts a b l (marks n) = refl
first_acts a b l unit = refl
first_acts a b l (name n) = refl
first_acts a b l (pair u v) = refl
first_acts a b l (first u) = refl
first_acts a b l (second v) = refl

second_acts : (a b : Expression) (m : PureLabel) (v : PureValue) → App (union a b) (second_label m) v ≡ beside denied (App b m) v
second_acts a b m (number n) = refl
second_acts a b m (symbols ns) = refl
second_acts a b m (marks n) = refl
second_acts a b m unit = refl
second_acts a b m (name n) = refl
second_acts a b m (pair u v) = refl
second_acts a b m (first u) = refl
second_acts a b m (second v) = refl

-- a sum's label does on each side what its part does, and a union's denies the other side
pub sum_action : (a b : Expression) (l m : PureLabel) → App (sum a b) (both_label l m) ≡ beside (App a l) (App b m)
sum_action a b l m = fun_ext (sum_acts a b l m)

pub first_action : (a b : Expression) (l : PureLabel) → App (union a b) (first_label l) ≡ beside (App a l) denied
first_action a b l = fun_ext (first_acts a b l)

pub second_action : (a b : Expression) (m : PureLabel) → App (union a b) (second_label m) ≡ beside denied (App b m)
second_action a b m = fun_ext (second_acts a b m)

-- settled facts of composed labels
pub sum_settled : (a b : Expression) (l m : PureLabel) (p q : Profile) (x y : PureExamples)
    → IsSettledBy (carrier_of a) (App a l) p x → IsSettledBy (carrier_of b) (App b m) q y
    → IsSettledBy (carrier_of (sum a b)) (App (sum a b) (both_label l m)) (beside_profile p q) (beside_examples x y)
sum_settled a b l m p q x y s t =
    subst (λ h. IsSettledBy (sides (carrier_of a) (carrier_of b)) h (beside_profile p q) (beside_examples x y)) (sym (sum_action a b l m))
    (beside_settled (carrier_of a) (carrier_of b) (App a l) (App b m) p q x y s t)

pub union_first_settled : (a b : Expression) (l : PureLabel) (p : Profile) (x : PureExamples) (v : PureValue) → In (carrier_of b) v
    → IsSettledBy (carrier_of a) (App a l) p x
    → IsSettledBy (carrier_of (union a b)) (App (union a b) (first_label l)) (first_profile p) (beside_examples x (denied_examples v))
union_first_settled a b l p x v i s =
    subst (λ h. IsSettledBy (sides (carrier_of a) (carrier_of b)) h (first_profile p) (beside_examples x (denied_examples v))) (sym (first_action a b l))
    (first_settled (carrier_of a) (carrier_of b) (App a l) p x v i s)

pub union_second_settled : (a b : Expression) (m : PureLabel) (q : Profile) (y : PureExamples) (u : PureValue) → In (carrier_of a) u
    → IsSettledBy (carrier_of b) (App b m) q y
    → IsSettledBy (carrier_of (union a b)) (App (union a b) (second_label m)) (second_profile q) (beside_examples (denied_examples u) y)
union_second_settled a b m q y u i t =
    subst (λ h. IsSettledBy (sides (carrier_of a) (carrier_of b)) h (second_profile q) (beside_examples (denied_examples u) y)) (sym (second_action a b m))
    (second_settled (carrier_of a) (carrier_of b) (App b m) q y u i t)

pub plus_first_settled : (a b : Expression) (l : PureLabel) (p : Profile) (x : PureExamples)
    → IsSettledBy (carrier_of a) (App a l) p x → IsSettledBy (carrier_of (plus a b)) (App (plus a b) (first_label l)) p x
plus_first_settled a b l p x s = s

pub plus_second_settled : (a b : Expression) (m : PureLabel) (p : Profile) (x : PureExamples) → carrier_of a ≡ carrier_of b
    → IsSettledBy (carrier_of b) (App b m) p x → IsSettledBy (carrier_of (plus a b)) (App (plus a b) (second_label m)) p x
plus_second_settled a b m p x e s = subst (λ c. IsSettledBy c (App b m) p x) (sym e) s

-- profiles of composed labels
pub sum_profile_of : (a b : Expression) (l m : PureLabel) (p q : Profile) → IsFormed (sum a b) → IsLabel a l → IsLabel b m
    → ProfileOf a l p → ProfileOf b m q → ProfileOf (sum a b) (both_label l m) (beside_profile p q)
sum_profile_of a b l m p q formed is_l is_m is_p is_q =
    let parts = formed_sum a b formed in
    composed_profile_of_two (carrier_of a) (carrier_of b) (carrier_of (sum a b)) (App a l) (App b m) (App (sum a b) (both_label l m))
    (images_kept a l parts.0 is_l) (images_kept b m parts.1 is_m) (images_kept (sum a b) (both_label l m) formed (is_l, is_m))
    p q (beside_profile p q) (λ x y s t. (beside_examples x y, sum_settled a b l m p q x y s t)) is_p is_q

pub first_profile_of : (a b : Expression) (l : PureLabel) (p : Profile) → IsFormed (union a b) → IsLabel a l
    → ProfileOf a l p → ProfileOf (union a b) (first_label l) (first_profile p)
first_profile_of a b l p formed is_l is_p =
    let parts = formed_union a b formed in
    let v = carrier_inhabited b parts.1 in
    composed_profile (carrier_of a) (carrier_of (union a b)) (App a l) (App (union a b) (first_label l))
    (images_kept a l parts.0 is_l) (images_kept (union a b) (first_label l) formed is_l)
    p (first_profile p) (λ x s. (beside_examples x (denied_examples v.0), union_first_settled a b l p x v.0 v.1 s)) is_p

pub second_profile_of : (a b : Expression) (m : PureLabel) (q : Profile) → IsFormed (union a b) → IsLabel b m
    → ProfileOf b m q → ProfileOf (union a b) (second_label m) (second_profile q)
second_profile_of a b m q formed is_m is_q =
    let parts = formed_union a b formed in
    let u = carrier_inhabited a parts.0 in
    composed_profile (carrier_of b) (carrier_of (union a b)) (App b m) (App (union a b) (second_label m))
    (images_kept b m parts.1 is_m) (images_kept (union a b) (second_label m) formed is_m)
    q (second_profile q) (λ y t. (beside_examples (denied_examples u.0) y, union_second_settled a b m q y u.0 u.1 t)) is_q

pub plus_first_profile_of : (a b : Expression) (l : PureLabel) (p : Profile) → ProfileOf a l p → ProfileOf (plus a b) (first_label l) p
plus_first_profile_of a b l p is = is

pub plus_second_profile_of : (a b : Expression) (m : PureLabel) (p : Profile) → carrier_of a ≡ carrier_of b
    → ProfileOf b m p → ProfileOf (plus a b) (second_label m) p
plus_second_profile_of a b m p e is = subst (λ c. IsProfile c (App b m) p) (sym e) is
