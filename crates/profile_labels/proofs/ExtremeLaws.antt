-- The laws of the constants at the ends of a carrier.
use Rattle.std.proofs.Common.{◌≡◌, refl, sym, ap, ◌∙◌, Bool, true, false, not, ◌&&◌, Option, Some, None, option_map}
use Rattle.alg_model.specs.Application.{both}
use Rattle.alg_model.specs.Carriers.{In, carrier_of}
use Rattle.alg_model.specs.Expressions.{PureCarrier, PureValue, whole, up_to, down_from, seqs, simseqs, sets, one, named, pairs, sides}
use Rattle.alg_model.specs.Expressions.{second}
use Rattle.alg_model.specs.Bounds.{AtMost, ExpressionAtMost, greatest_number}
use Rattle.alg_model.specs.CarrierLaws.{carriers_are}
use Rattle.alg_model.specs.Expressions.{Expression}
use Rattle.alg_model.specs.Formation.{IsCarrier, IsFormed}
use Rattle.alg_model.specs.declared.edition.Edition.{Edition}
use Rattle.alg_classes.specs.Constants.{constant_bits, constant_profile, kept_bits, kept_profile}
use Rattle.alg_classes.specs.Flat.{best, has_worse, is_flat, worse_than}
use Rattle.alg_classes.specs.FlatLaws.{best_in, flat_is_equivalent, some_is_worse, worse_than_is_worse}
use Rattle.alg_classes.specs.Worst.{worst}
use Rattle.alg_classes.specs.WorstLaws.{IsWorstByTest, best_within, within_edition, worst_by_test, worst_within}
use Rattle.alg_classes.specs.declared.profile.Profile.{Profile}
use Rattle.profile_labels.specs.Extremes.{HasExtreme, has_worst}
use Rattle.profile_labels.specs.Outlines.{extreme_of, value_or}
use Rattle.profile_labels.specs.declared.extreme.Extreme.{Extreme}
use Rattle.profile_labels.specs.declared.extreme.Extreme.TheVariants.{Best, Worst}

-- the test agrees with the worst value
abbrev is_there : Option PureValue → Bool
is_there None = false
is_there (Some w) = true

there_both : (o p : Option PureValue) → (is_there o && is_there p) ≡ is_there (both o p)
there_both (Some u) (Some v) = refl
there_both (Some u) None = refl
there_both None p = refl

there_second : (o : Option PureValue) → is_there o ≡ is_there (option_map second o)
there_second (Some v) = refl
there_second None = refl

worst_is_there : (c : PureCarrier) → has_worst c ≡ is_there (worst c)
worst_is_there whole = refl
worst_is_there (up_to top) = refl
worst_is_there (down_from top) = refl
worst_is_there (seqs k) = refl
worst_is_there (simseqs k) = refl
worst_is_there (sets k) = refl
worst_is_there one = refl
worst_is_there (named names ranks) = refl
worst_is_there (pairs c d) = rw (worst_is_there c, worst_is_there d) (there_both (worst c) (worst d))
worst_is_there (sides c d) = worst_is_there d ∙ there_second (worst d)

some_there : (o : Option PureValue) (u : PureValue) → is_there o ≡ true → o ≡ Some (value_or u o)
some_there (Some w) u h = refl
some_there None u h = absurd (cc)

none_there : (o : Option PureValue) → is_there o ≡ false → o ≡ None
none_there (Some w) h = absurd (cc)
none_there None h = refl

pub worst_where_there : (c : PureCarrier) (u : PureValue) → has_worst c ≡ true → worst c ≡ Some (value_or u (worst c))
worst_where_there c u h = some_there (worst c) u (sym (worst_is_there c) ∙ h)

pub none_where_not : (c : PureCarrier) → has_worst c ≡ false → worst c ≡ None
none_where_not c h = none_there (worst c) (sym (worst_is_there c) ∙ h)

-- the best value has a worse one exactly where not all are equivalent
best_has_worse : (c : PureCarrier) → IsCarrier c → (b : Bool) → is_flat c ≡ b → (h : Bool) → has_worse c (best c) ≡ h → h ≡ not b
best_has_worse c is true e true h =
    let w = worse_than_is_worse c (best c) is (best_in c is) h in
    let same = flat_is_equivalent c (best c) (worse_than c (best c)) is e (best_in c is) w.0 in
    let less = w.1 in
    absurd (cc)
best_has_worse c is true e false h = refl
best_has_worse c is false e h f = sym f ∙ some_is_worse c is e

pub best_profile : (c : PureCarrier) → IsCarrier c → constant_profile c (best c) ≡ constant_bits (is_flat c) (not (is_flat c))
best_profile c is = ap (constant_bits (is_flat c)) (best_has_worse c is (is_flat c) refl (has_worse c (best c)) refl)

by_worst : (c : PureCarrier) (o : Option PureValue) (u : PureValue) → is_there o ≡ true → IsWorstByTest c o → has_worse c (value_or u o) ≡ false
by_worst c (Some w) u h t = t.1
by_worst c None u h t = absurd (cc)

pub worst_profile : (c : PureCarrier) (u : PureValue) → IsCarrier c → has_worst c ≡ true
    → constant_profile c (value_or u (worst c)) ≡ constant_bits (is_flat c) false
worst_profile c u is h = ap (constant_bits (is_flat c)) (by_worst c (worst c) u (sym (worst_is_there c) ∙ h) (worst_by_test c is))

-- the value at an end is one of the carrier, and no number of it is above the greatest
value_in : (c : PureCarrier) (o : Option PureValue) (u : PureValue) → is_there o ≡ true → IsWorstByTest c o → In c (value_or u o)
value_in c (Some w) u h t = t.0
value_in c None u h t = absurd (cc)

pub extreme_in : (b : Expression) (end : Extreme) → IsFormed b → HasExtreme (carrier_of b) end → In (carrier_of b) (extreme_of (carrier_of b) end)
extreme_in b Best formed there = best_in (carrier_of b) (carriers_are b formed)
extreme_in b Worst formed there =
    let c = carrier_of b in
    let is = carriers_are b formed in
    value_in c (worst c) (best c) (sym (worst_is_there c) ∙ there) (worst_by_test c is)

pub extreme_bounded : (b : Expression) (e : Edition) (end : Extreme) → ExpressionAtMost (greatest_number e) b → HasExtreme (carrier_of b) end
    → AtMost (greatest_number e) (extreme_of (carrier_of b) end)
extreme_bounded b e Best bound there = within_edition b e (carrier_of b) (best (carrier_of b)) bound refl (best_within (carrier_of b))
extreme_bounded b e Worst bound there =
    let c = carrier_of b in
    within_edition b e c (extreme_of c Worst) bound refl (worst_within c (extreme_of c Worst) (worst_where_there c (best c) there))

-- the profiles of both ends, from that of what keeps every value
abbrev at_best : Profile → Profile
at_best p = record { total = p.total; dead = p.dead; mono = p.narrow; strict = p.strict; iso = p.iso; canc = p.narrow; cond = true; narrow = p.narrow }

abbrev at_worst : Profile → Profile
at_worst p = record { total = p.total; dead = p.dead; mono = true; strict = p.strict; iso = p.iso; canc = p.narrow; cond = true; narrow = p.narrow }

best_bits : (b : Bool) → at_best (kept_bits b) ≡ constant_bits b (not b)
best_bits true = refl
best_bits false = refl

pub made_at_best : (c : PureCarrier) (p : Profile) → IsCarrier c → p ≡ kept_profile c → at_best p ≡ constant_profile c (best c)
made_at_best c p is e = ap at_best e ∙ best_bits (is_flat c) ∙ sym (best_profile c is)

pub made_at_worst : (c : PureCarrier) (p : Profile) (u : PureValue) → IsCarrier c → has_worst c ≡ true → p ≡ kept_profile c
    → at_worst p ≡ constant_profile c (value_or u (worst c))
made_at_worst c p u is h e = ap at_worst e ∙ sym (worst_profile c u is h)
