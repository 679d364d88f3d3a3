use Rattle.std.proofs.Common.{◌≡◌, ◌∙◌, ◌<◌, List, ap, true, Some, slice_get, length, sym, refl, arith, Global, ℕ}
use Rattle.std.proofs.lemmas.Bool.Decides.{nat_tests}
use Rattle.std.proofs.lemmas.Option.{slice_get_read}
use Rattle.std.proofs.lemmas.Slice.Eq.{bytes_eq-Decides}
use Rattle.std.specs.Str.{bytes_eq}
use Rattle.std.specs.declared.vec.Vec.{Vec}
use Rattle.net_graph.proofs.Keys.{named_at}
use Rattle.net_graph.proofs.names.Names.guessed.Goals as goal

pub returns-then-is_same : goal.returns-then-is_same
returns-then-is_same c =
    let keys = c.as_slice.result.now in
    let number = c.in_ok-number.number in
    let known = c.in_ok-known.known.now in
    let test = c.in_ok-known.ensures.lookup.0 in
    let inside : number < length keys = grind (arith, nat_tests) in
    let there : slice_get keys number ≡ Some known = slice_get_read keys (length keys) number known refl inside (c.in_ok-known.ensures.lookup.1) in
    let alike : bytes_eq c.as_slice-2.result.now c.args.name.now ≡ true = sym c.is_same.ensures ∙ c.if-is_same.true in
    let same : known.items ≡ c.args.name.now = sym c.as_slice-2.ensures.value ∙ (bytes_eq-Decides c.as_slice-2.result.now c.args.name.now).0 alike in
    rw (← c.self.view_is) (named_at c.self.inside.names.keys number known c.args.name.now c.as_slice.ensures.unique (ap (λ (ks : List (Vec ℕ Global)). slice_get ks number) (sym c.as_slice.ensures.keys) ∙ there) same)
