use Rattle.std.proofs.Common.{◌≡◌, IfOk, subst}
use Rattle.net_graph.specs.Nets.{PureNet}
use Rattle.metacli.proofs.RowsAfter.{after_first}
use Rattle.metacli.proofs.after.+carried.Goals as goal

pub returns-in_ok-next-in-len1-up : goal.returns-in_ok-next-in-len1-up
returns-in_ok-next-in-len1-up t c =
    subst (λ (all : PureNet). IfOk c.carried.result (λ last. last ≡ all))
    (after_first c.args.net c.in_ok-next-in-len1-up.field-0 c.change-item.result c.args.changes.now c.in-len1-up.len_at_least c.change-item.is c.in_ok-next-in-len1-up.ensures)
    c.carried.ensures
