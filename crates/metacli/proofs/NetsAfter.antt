-- The networks after changes, one after another.
use Rattle.std.proofs.Common.{◌≡◌, ◌≤◌, ◌-◌, List, [], ◌∷◌, length, map, take, drop, get_or, refl, ap, ◌∙◌, arith}
use Rattle.std.proofs.lemmas.List.{take_all}
use Rattle.std.specs.List.{AllByRecursion}
use Rattle.net_graph.specs.ChangeLaws.{changed_is_net}
use Rattle.net_graph.specs.Changes.{PureChange, AreChanges, changed}
use Rattle.net_graph.specs.Nets.{PureNet, IsNet}
use Rattle.net_graph.specs.Views.{pure_change}
use Rattle.net_graph.specs.declared.change.Change.{Change}
use Rattle.vector_runs.specs.Runs.{AreLater}
use Rattle.metacli.specs.After.{nets_after}

-- they keep the rules
pub nets_are : (net : PureNet) (changes : List PureChange) → IsNet net → AreChanges net changes → AllByRecursion IsNet (nets_after net changes)
nets_are net [] n may = tt
nets_are net (c ∷ changes) n may =
    let next = changed_is_net net c n may.0 in
    (next, nets_are (changed net c) changes next may.1)

-- and each differs from the one before it in its arcs alone
pub nets_are_later : (net : PureNet) (changes : List PureChange) → AreLater net (nets_after net changes)
nets_are_later net [] = tt
nets_are_later net (c ∷ changes) = (refl, nets_are_later (changed net c) changes)

-- the first of them, and those after the others
pub nets_first : (net next : PureNet) (change : Change) (changes : List Change) → 1 ≤ length changes → change ≡ get_or changes 0 change → next ≡ changed net (pure_change change)
    → next ∷ nets_after next (map pure_change (take (length changes - 1) (drop 1 changes))) ≡ nets_after net (map pure_change changes)
nets_first net next change [] some first is = absurd (omega arith)
nets_first net next change (c ∷ cs) some first is =
    let others : length (c ∷ cs) - 1 ≡ length cs = omega arith in
    rw others
    (ap (λ n. n ∷ nets_after n (map pure_change (take (length cs) cs))) (is ∙ ap (λ d. changed net (pure_change d)) first)
    ∙ ap (λ ds. changed net (pure_change c) ∷ nets_after (changed net (pure_change c)) (map pure_change ds)) (take_all (length cs) cs (omega arith)))
