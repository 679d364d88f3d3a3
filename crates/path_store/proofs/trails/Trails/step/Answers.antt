use Rattle.std.proofs.Common.{◌<◌, [], length, refl, ap, arith}
use Rattle.std.proofs.lemmas.Option.{slice_get_read}
use Rattle.path_store.proofs.Stepping.{IsStepOf, count_after, goes_on, path_counted, step_there}
use Rattle.path_store.proofs.trails.Trails.step.Goals as goal

pub index-requires : goal.index-requires
index-requires c =
    let there = rw (← c.self.view_is) at c.requires in
    omega (arith, there, count_after [] c.self.inside.steps.items, c.self.inside.steps.ok.0)

pub returns-clause-path : goal.returns-clause-path
returns-clause-path c =
    let steps = c.self.inside.steps.items in
    let step = c.index.result.now in
    let k = c.args.id.0 in
    let there = rw (← c.self.view_is) at c.requires in
    let within : k < length steps = omega (arith, there, count_after [] steps) in
    let read = slice_get_read steps (length steps) k step refl within c.index.ensures in
    let is : IsStepOf c.args.self.now c.args.id step = rw c.self.view_is at (step_there [] steps k c.args.id step c.self.invariant read (omega arith)) in
    is.path

pub returns-clause-rest : goal.returns-clause-rest
returns-clause-rest c =
    let steps = c.self.inside.steps.items in
    let step = c.index.result.now in
    let k = c.args.id.0 in
    let there = rw (← c.self.view_is) at c.requires in
    let within : k < length steps = omega (arith, there, count_after [] steps) in
    let read = slice_get_read steps (length steps) k step refl within c.index.ensures in
    (step_there [] steps k c.args.id step c.self.invariant read (omega arith)).rest

pub returns-clause-after : goal.returns-clause-after
returns-clause-after c =
    let steps = c.self.inside.steps.items in
    let step = c.index.result.now in
    let k = c.args.id.0 in
    let there = rw (← c.self.view_is) at c.requires in
    let within : k < length steps = omega (arith, there, count_after [] steps) in
    let read = slice_get_read steps (length steps) k step refl within c.index.ensures in
    let is : IsStepOf c.args.self.now c.args.id step = rw c.self.view_is at (step_there [] steps k c.args.id step c.self.invariant read (omega arith)) in
    let whole = ap length is.path in
    omega (arith, whole, is.after)

pub returns-clause-small : goal.returns-clause-small
returns-clause-small c =
    let steps = c.self.inside.steps.items in
    let step = c.index.result.now in
    let k = c.args.id.0 in
    let there = rw (← c.self.view_is) at c.requires in
    let within : k < length steps = omega (arith, there, count_after [] steps) in
    let read = slice_get_read steps (length steps) k step refl within c.index.ensures in
    let is = step_there [] steps k c.args.id step c.self.invariant read (omega arith) in
    let whole = ap length is.path in
    let few = (path_counted steps c.self.invariant c.args.id there).few in
    omega (arith, whole, is.after, few)

pub returns-clause-more : goal.returns-clause-more
returns-clause-more c =
    let steps = c.self.inside.steps.items in
    let step = c.index.result.now in
    let k = c.args.id.0 in
    let there = rw (← c.self.view_is) at c.requires in
    let within : k < length steps = omega (arith, there, count_after [] steps) in
    let read = slice_get_read steps (length steps) k step refl within c.index.ensures in
    goes_on steps c.args.id step there c.self.invariant (step_there [] steps k c.args.id step c.self.invariant read (omega arith))

pub returns-clause-marks : goal.returns-clause-marks
returns-clause-marks c =
    let steps = c.self.inside.steps.items in
    let step = c.index.result.now in
    let k = c.args.id.0 in
    let there = rw (← c.self.view_is) at c.requires in
    let within : k < length steps = omega (arith, there, count_after [] steps) in
    let read = slice_get_read steps (length steps) k step refl within c.index.ensures in
    let is : IsStepOf c.args.self.now c.args.id step = rw c.self.view_is at (step_there [] steps k c.args.id step c.self.invariant read (omega arith)) in
    is.marks
