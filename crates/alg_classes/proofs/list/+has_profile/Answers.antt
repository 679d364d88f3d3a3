use Rattle.std.proofs.Common.{sym, subst, ◌∙◌, inl, inr, ⊎_elim}
use Rattle.alg_classes.specs.Classes.{IsTruthOf, HasBy}
use Rattle.alg_classes.specs.ListLaws.{taken_apart}
use Rattle.alg_classes.proofs.Profiles.{same_of_test, test_of_same}
use Rattle.alg_classes.proofs.list.+has_profile.Goals as goal

pub returns-then-eq : goal.returns-then-eq
returns-then-eq g t c =
    let of = g.T.Profiled.profile_of in
    let same = same_of_test c.profile.result.now c.args.profile.now (sym c.eq.ensures ∙ c.if-eq.true) in
    taken_apart (λ items. IsTruthOf c.eq.result (HasBy of items c.args.profile.now)) c.args.items.now c.item-item.result
    c.in-len1-up.len_at_least c.item-item.is
    (λ _. inl (sym c.profile.ensures ∙ same), λ _. c.if-eq.true)

pub returns-else-eq : goal.returns-else-eq
returns-else-eq g t c =
    let of = g.T.Profiled.profile_of in
    taken_apart (λ items. IsTruthOf c.has_profile.result (HasBy of items c.args.profile.now)) c.args.items.now c.item-item.result
    c.in-len1-up.len_at_least c.item-item.is (
      λ e. inr (c.has_profile.ensures.0 e),
      λ h. ⊎_elim
          (λ same. absurd (let e = c.eq.ensures ∙ test_of_same c.profile.result.now c.args.profile.now (c.profile.ensures ∙ same) in let f = c.if-eq.false in cc))
          (λ rest. c.has_profile.ensures.1 rest) h,
    )
