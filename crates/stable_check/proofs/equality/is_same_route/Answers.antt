use Rattle.std.proofs.Common.{◌≡◌, ◌≢◌, ◌⊎◌, sym, ◌∙◌, arith}
use Rattle.std.specs.declared.cmp.Ordering.{Ordering}
use Rattle.std.specs.declared.cmp.Ordering.TheVariants.{Less, Equal, Greater}
use Rattle.net_graph.specs.Views.{pure_route}
use Rattle.stable_check.proofs.Paths.{same_by_value, differ_by_path}
use Rattle.stable_check.proofs.equality.is_same_route.Goals as goal

unequal : (o p : Ordering) → (o ≡ Less) ⊎ (o ≡ Greater) → p ≡ o → p ≢ Equal
unequal o p h e f = grind arith

pub returns-in-Equal : goal.returns-in-Equal
returns-in-Equal c =
    let e = rw (c.as_slice.ensures, c.as_slice-2.ensures) at c.compare.ensures in
    same_by_value (pure_route c.args.r.now) (pure_route c.args.s.now) c.same_value.result (sym e ∙ c.in-Equal.is) c.same_value.ensures.same

pub returns-in-Less : goal.returns-in-Less
returns-in-Less c =
    let e = rw (c.as_slice.ensures, c.as_slice-2.ensures) at c.compare.ensures in
    differ_by_path (pure_route c.args.r.now) (pure_route c.args.s.now) (unequal c.compare.result _ c.in-Less.is (sym e))
