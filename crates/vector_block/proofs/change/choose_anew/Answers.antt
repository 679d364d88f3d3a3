use Rattle.std.proofs.Common.{refl, sym, ◌∙◌}
use Rattle.path_vector.specs.Words.{same_row_is}
use Rattle.vector_block.proofs.change.choose_anew.Goals as goal

pub choose-requires-clause-speakers : goal.choose-requires-clause-speakers
choose-requires-clause-speakers g c = c.requires.speakers.each c.args.hearing.node.0 c.of.result.now c.of.ensures

pub returns-then-branch-clause-rechosen : goal.returns-then-branch-clause-rechosen
returns-then-branch-clause-rechosen g c = (sym c.in_ok-best.ensures.choice ∙ same_row_is _ _ (sym c.in_ok-is_row.ensures ∙ c.if-branch.true), refl)
