-- Networks after changes, one after another, as lists. Lemmas, so that proofs of other crates may cite them.
use Rattle.std.proofs.Common.{◌≡◌, ◌≤◌, ◌-◌, List, [], ◌∷◌, Result, Ok, Err, IfOk, length, take, drop, get_or, subst, sym, arith}
use Rattle.std.proofs.lemmas.List.{take_all}
use Rattle.net_graph.specs.Nets.{PureNet}
use Rattle.vector_runs.specs.Runs.{AreLater}

-- the first one differs from the network before it in its arcs alone
pub next_is_later : (net next : PureNet) (nets : List PureNet) → AreLater net nets → 1 ≤ length nets → next ≡ get_or nets 0 next → next ≡ record net { arcs = next.arcs }
next_is_later net next [] later some is = absurd (omega arith)
next_is_later net next (m ∷ nets) later some is = subst (λ (z : PureNet). z ≡ record net { arcs = z.arcs }) (sym is) later.0

-- and the others come after the first one
pub rest_is_later : (net next : PureNet) (nets : List PureNet) → AreLater net nets → 1 ≤ length nets → next ≡ get_or nets 0 next → AreLater next (take (length nets - 1) (drop 1 nets))
rest_is_later net next [] later some is = absurd (omega arith)
rest_is_later net next (m ∷ nets) later some is =
    let others : length (m ∷ nets) - 1 ≡ length nets = omega arith in
    rw others (subst (AreLater next) (sym (take_all (length nets) nets (omega arith))) (subst (λ (z : PureNet). AreLater z nets) (sym is) later.1))

-- a result that is such a list has such networks
pub ok_is_later : {X E : Type 0} (items : X → List PureNet) (net : PureNet) (all : List PureNet) (r : Result X E) → IfOk r (λ x. items x ≡ all) → AreLater net all → IfOk r (λ x. AreLater net (items x))
ok_is_later items net all (Ok x) is later = subst (AreLater net) (sym is) later
ok_is_later items net all (Err e) is later = tt
