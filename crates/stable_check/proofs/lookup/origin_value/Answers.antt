use Rattle.stable_check.specs.ArcSearch.{origin_found}
use Rattle.stable_check.proofs.lookup.origin_value.Goals as goal

pub returns-in_err-origin : goal.returns-in_err-origin
returns-in_err-origin c =
    let found = origin_found c.args.net.now c.args.dest.0 c.args.node.0 c.origins_of.result.now c.origins_of.ensures.origins in
    rw c.from_residual.ensures (rw (← c.in_err-origin.ensures) at found)

pub returns : goal.returns
returns c =
    let found = origin_found c.args.net.now c.args.dest.0 c.args.node.0 c.origins_of.result.now c.origins_of.ensures.origins in
    rw (← c.in_ok-origin.ensures) at found
