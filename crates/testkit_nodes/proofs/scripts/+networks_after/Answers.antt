use Rattle.std.proofs.Common.{◌≡◌, ◌∷◌, refl}
use Rattle.testkit_nodes.specs.Later.{ok_is_later}
use Rattle.testkit_nodes.proofs.scripts.+networks_after.Goals as goal

pub returns-in-Ok : goal.returns-in-Ok
returns-in-Ok t c =
    let net = c.args.net.now in
    let next = c.in_ok-next-in-len1-up.next in
    let apart : next ≡ record net { arcs = next.arcs } = rw c.in_ok-next-in-len1-up.ensures refl in
    ok_is_later (λ led. led.items) net (next ∷ c.in-Ok.nets.items) c.led_by.result c.led_by.ensures (apart, c.in-Ok.ensures)
