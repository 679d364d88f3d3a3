use Rattle.alg_model.specs.Carriers.{carrier_of}
use Rattle.code_gen.specs.EncodingLaws.{encoded_there}
use Rattle.code_gen.proofs.decoding.decode_words.Goals as goal

pub take_value-requires-clause-there : goal.take_value-requires-clause-there
take_value-requires-clause-there c = rw c.tree.ensures.tree (encoded_there (carrier_of c.args.alg.now.expression) c.args.row.now c.requires)
