use Rattle.std.proofs.Common.{◌≡◌, ◌≢◌, ◌∷◌, None, rules, subst}
use Rattle.code_gen.specs.Encoding.{symbols_front}
use Rattle.code_gen.proofs.Symbols.{symbols_are_small}
use Rattle.code_gen.proofs.decoding.take_symbols.Goals as goal

pub narrowed-requires : goal.narrowed-requires
narrowed-requires c =
    let length = c.take_word-length.result in
    let rest = c.take_word-length.new.row.now in
    rw c.split_at.ensures.front (symbols_are_small c.args.count length rest c.ranges.count.fits (subst (λ row. symbols_front c.args.count row ≢ None) c.take_word-length.ensures c.requires))
