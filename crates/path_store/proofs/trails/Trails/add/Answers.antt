use Rattle.std.proofs.Common.{◌*◌, ◌%◌, ◌^◌, [], ap, arith}
use Rattle.std.specs.Prelude.{bit_or}
use Rattle.path_store.specs.declared.trails.Step.{Step}
use Rattle.path_store.specs.Trails.{IsStep, paths_after}
use Rattle.path_store.proofs.Stepping.{after_push, count_after, steps_push}
use Rattle.path_store.proofs.trails.Trails.add.Goals as goal

pub overflow_cast-id : goal.overflow_cast-id
overflow_cast-id c =
    let few = rw (← c.self.view_is) at c.requires.few in
    omega (arith, few, c.len.ensures, count_after [] c.self.inside.steps.items)

pub invariant_of-self-2 : goal.invariant_of-self-2
invariant_of-self-2 c =
    let steps = c.self.inside.steps.items in
    let node = c.args.node in
    let marks = bit_or c.marks_after.result (1 * 2 ^ (node.0 % 64) % 18446744073709551616) in
    let all = ap (λ m. bit_or m (1 * 2 ^ (node.0 % 64) % 18446744073709551616)) c.marks_after.ensures in
    let step : Step = record { node = node; after = c.nodes_after-after.result; marks = marks; rest = c.args.rest } in
    let goes_on : IsStep c.args.self.now step = record { rest = c.requires.rest; after = c.nodes_after-after.ensures; marks = all } in
    let is : IsStep (paths_after [] steps) step = rw (← c.self.view_is) at goes_on in
    rw c.in_ok-push.ensures.items (steps_push [] steps step c.self.invariant is)

pub returns-clause-ok : goal.returns-clause-ok
returns-clause-ok c =
    let steps = c.self.inside.steps.items in
    let node = c.args.node in
    let marks = bit_or c.marks_after.result (1 * 2 ^ (node.0 % 64) % 18446744073709551616) in
    let step : Step = record { node = node; after = c.nodes_after-after.result; marks = marks; rest = c.args.rest } in
    rw (c.in_ok-push.ensures.items, ← c.self.view_is) (after_push [] steps step)

pub returns-clause-id : goal.returns-clause-id
returns-clause-id c = rw (← c.self.view_is) (omega (arith, c.len.ensures, count_after [] c.self.inside.steps.items))
