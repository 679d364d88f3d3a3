use Rattle.std.proofs.Common.{◌≡◌, ◌≤◌, length, ◌∙◌, sym, arith}
use Rattle.std.proofs.lemmas.Bool.Decides.{nat_tests}
use Rattle.topology_file.proofs.Keys.{same_words}
use Rattle.topology_file.proofs.word.Word.is_same.Goals as goal

pub returns-then-self-le-KEY_BYTES : goal.returns-then-self-le-KEY_BYTES
returns-then-self-le-KEY_BYTES c short =
    let keys : c.self.inside.key ≡ c.other.inside.key = grind (arith, nat_tests) in
    let lengths : length c.self.inside.text.now ≡ length c.other.inside.text.now = grind (arith, nat_tests) in
    let few : length c.self.inside.text.now ≤ 8 = grind (arith, nat_tests) in
    sym c.self.view_is ∙ same_words c.self.inside.text.now c.other.inside.text.now c.self.inside.key c.other.inside.key c.self.invariant c.other.invariant keys lengths few ∙ c.other.view_is
