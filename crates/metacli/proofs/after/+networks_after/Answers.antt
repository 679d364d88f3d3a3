use Rattle.std.proofs.Common.{◌≡◌, ◌∷◌, List, IfOk, ap, subst, ◌∙◌}
use Rattle.net_graph.specs.Nets.{PureNet}
use Rattle.metacli.proofs.NetsAfter.{nets_first}
use Rattle.metacli.proofs.after.+networks_after.Goals as goal

pub returns-in-Ok : goal.returns-in-Ok
returns-in-Ok t c =
    let next = c.in_ok-next-in-len1-up.next in
    subst (λ (all : List PureNet). IfOk c.led_by.result (λ nets. nets.items ≡ all))
    (ap (λ (others : List PureNet). next ∷ others) c.in-Ok.ensures
    ∙ nets_first c.args.net.now next c.change-item.result c.args.changes.now c.in-len1-up.len_at_least c.change-item.is c.in_ok-next-in-len1-up.ensures)
    c.led_by.ensures
