use Rattle.std.proofs.Common.{◌++◌, not, map, sym, ap, ◌∙◌}
use Rattle.std.specs.Prelude.{option_map}
use Rattle.std.proofs.lemmas.List.{append-nil}
use Rattle.path_vector.specs.Known.{known_route}
use Rattle.path_vector.specs.Keeping.{kept_news}
use Rattle.path_vector.specs.Updates.{noted}
use Rattle.path_vector.proofs.Keepings.{no_row_told, none_is}
use Rattle.path_vector.proofs.keeping.report_kept.Goals as goal

pub returns-then-is_none : goal.returns-then-is_none
returns-then-is_none g c =
    let value = g.A.Algebra.sig_value c.args.site.now.algebra.now in
    let net = c.args.site.now.net.now in
    let number = c.args.site.now.node.0 in
    let before = option_map (λ n. n.now) c.args.before in
    let none = none_is c.args.row.now (c.is_none.ensures ∙ ap not c.if-is_none.true) in
    sym (append-nil (map noted c.args.out.now)) ∙ ap (λ z. map noted c.args.out.now ++ z) (sym (no_row_told net before number c.args.dest.0) ∙ ap (λ z. kept_news net before number c.args.dest.0 (option_map (known_route value) z)) (sym none))
