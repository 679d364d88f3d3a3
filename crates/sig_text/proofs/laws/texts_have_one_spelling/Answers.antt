use Rattle.sig_text.proofs.Spellings.{is_spelling, only_spelling}
use Rattle.sig_text.proofs.laws.texts_have_one_spelling.Goals as goal

pub returns-clause-is : goal.returns-clause-is
returns-clause-is c = is_spelling

pub returns-clause-only : goal.returns-clause-only
returns-clause-only c = only_spelling
