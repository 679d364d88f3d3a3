use Rattle.std.proofs.lemmas.Result.{on_ok_weaker}
use Rattle.alg_model.specs.Expressions.{lex}
use Rattle.alg_classes.specs.Classes.{ClassOf, alg_in}
use Rattle.alg_classes.specs.Pairs.{pair_profile}
use Rattle.alg_classes.specs.GrowthLaws.{grown_by_one}
use Rattle.lex_classes.proofs.list.add_pair.Goals as goal

pub returns : goal.returns
returns c = λ a b e formed is_x is_y. on_ok_weaker c.add.result
    (grown_by_one (ClassOf (alg_in (lex a b) e)) (pair_profile c.args.x.now.profile c.args.y.now.profile)
    c.args.list.now c.add.new.self c.in_ok-lex_class.field-0
    c.in_ok-lex_class.ensures.profile (c.in_ok-lex_class.ensures.class a b e formed is_x is_y)) c.add.ensures.ok
