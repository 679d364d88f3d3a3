use Rattle.code_gen.proofs.Widths.{have_width}
use Rattle.code_gen.proofs.laws.rows_have_their_width.Goals as goal

pub returns : goal.returns
returns c = have_width
