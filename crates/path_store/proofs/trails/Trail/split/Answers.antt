use Rattle.std.proofs.Common.{◌≡◌, ◌∷◌, sym, ◌∙◌, arith}
use Rattle.path_store.specs.PathOf.{path_by}
use Rattle.path_store.proofs.trails.Trail.split.Goals as goal
use Rattle.path_store.proofs.trails.Trail.split.Goals.{in-Some, in-None}

pub path-requires : goal.path-requires
path-requires c =
    let before = rw c.in-Some.is at c.step-step.ensures.rest in
    omega (arith, before, c.self.invariant)

pub returns : goal.returns
returns c =
    let step = c.step-step.result in
    let path : c.args.self ≡ step.node ∷ path_by c.self.inside.trails.now step.rest = sym c.self.view_is ∙ c.step-step.ensures.path in
    elim c.match-step.branch [
      | in-Some w ↦ rw (w.rest-is, w.path.ensures) (rw w.in-Some.is at path)
      | in-None w ↦ rw w.rest-is (rw w.in-None.is at path)
    ]
