use Rattle.lex_classes.specs.LexLaws.{made_class}
use Rattle.lex_classes.proofs.class.lex_class.Goals as goal

pub returns-clause-class : goal.returns-clause-class
returns-clause-class c = λ a b e formed is_x is_y. made_class a b e c.args.x.now c.args.y.now _ formed is_x is_y
    c.lex_profile.ensures.rule c.in_ok-pair_label.ensures c.in_ok-pair_examples.ensures
