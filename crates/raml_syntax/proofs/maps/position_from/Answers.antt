use Rattle.std.proofs.Common.{◌≡◌, ◌+◌, Some, drop, ap, sym, ◌∙◌}
use Rattle.alg_model.specs.Names.{place_of}
use Rattle.raml_syntax.proofs.DistinctNames.{place_found}
use Rattle.raml_syntax.proofs.maps.position_from.Goals as goal

pub returns-in-Some-clause-place : goal.returns-in-Some-clause-place
returns-in-Some-clause-place c =
    let names = c.args.names.now in
    let k = c.min.result in
    let found : place_of (drop k names) c.args.word.now ≡ Some c.in-Some.place =
    ap (λ l. place_of l c.args.word.now) (sym c.split_at.ensures.back) ∙ sym c.in-Some.ensures.place in
    sym (place_found names c.args.word.now k c.in-Some.place c.requires found ∙ ap (λ n. Some (n + c.in-Some.place)) (sym c.split_at.ensures.front_len))
