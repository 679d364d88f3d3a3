use Rattle.std.proofs.Common.{subst, sym}
use Rattle.metacli.specs.Answers.{pure_answer}
use Rattle.metacli.specs.Texts.{PutsText, Written}
use Rattle.metacli.proofs.Written.{cut_answered}
use Rattle.metacli.proofs.putting.answered.Goals as goal

pub returns-in-Err : goal.returns-in-Err
returns-in-Err c old new text p =
    subst (Written old text new (pure_answer c.args.decided)) (sym c.answer.ensures)
    (cut_answered old new text (pure_answer c.args.decided) c.in-Err.cut c.requires.memory (subst (λ z. PutsText old text z new) c.in-Err.is p))
