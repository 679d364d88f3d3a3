use Rattle.std.proofs.Common.{◌≡◌, IfOk, subst}
use Rattle.alg_model.specs.Carriers.{carrier_of}
use Rattle.alg_model.specs.Views.{pure_value}
use Rattle.code_gen.proofs.Acting.{decodes_to}
use Rattle.code_gen.proofs.decoding.decode.Goals as goal

pub returns : goal.returns
returns c v i e =
    subst (λ w. IfOk c.decode_words.result (λ value. pure_value value ≡ w)) (decodes_to (carrier_of c.args.alg.now.expression) v c.args.row.now i e)
    (rw c.as_slice.ensures at c.decode_words.ensures)
