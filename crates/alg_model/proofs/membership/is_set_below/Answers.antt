use Rattle.std.proofs.Common.{◌<◌, ◌≤◌, ◌^◌, arith}
use Rattle.std.proofs.lemmas.Bool.Decides.{nat_tests}
use Rattle.alg_model.proofs.Sets.{any_word}
use Rattle.alg_model.proofs.membership.is_set_below.Goals as goal

pub returns-then-count-ge-MAX_MARKS : goal.returns-then-count-ge-MAX_MARKS
returns-then-count-ge-MAX_MARKS c =
    let word : c.args.marks < 2 ^ 64 = omega arith in
    let all : 64 ≤ c.args.count = omega arith in
    (λ h. any_word c.args.marks c.args.count word all, λ h. grind (arith, nat_tests))
