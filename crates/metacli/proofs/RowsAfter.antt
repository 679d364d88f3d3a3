-- A change leaves the names and the algebra of a network as they are, so the rows of one are the other's.
use Rattle.std.proofs.Common.{◌≡◌, refl, ◌≤◌, ◌-◌, List, [], ◌∷◌, length, map, take, drop, get_or, Option, Some, None, IfSome, arith, ap, ◌∙◌}
use Rattle.std.proofs.lemmas.List.{take_all}
use Rattle.std.specs.List.{AllByRecursion}
use Rattle.net_graph.specs.Nets.{PureNet}
use Rattle.net_graph.specs.Views.{pure_change}
use Rattle.net_graph.specs.declared.change.Change.{Change}
use Rattle.net_graph.specs.Changes.{PureChange, changed, after_all}
use Rattle.net_graph.specs.Routes.{PureRoute}
use Rattle.net_graph.specs.Tables.{PureRow}
use Rattle.net_graph.specs.RowTexts.{IsRouteIn, IsRowOf}
use Rattle.word_tables.specs.Rows.{HasWordsOn}
use Rattle.word_tables.specs.declared.rows.WordRows.{WordRows}

route_after : (net : PureNet) (c : PureChange) (o : Option PureRoute) → IfSome o (IsRouteIn (changed net c)) → IfSome o (IsRouteIn net)
route_after net c None h = tt
route_after net c (Some r) h = record { value_in = h.value_in; path_in = h.path_in }

pub rows_after : (net : PureNet) (c : PureChange) (rows : List PureRow) → AllByRecursion (IsRowOf (changed net c)) rows → AllByRecursion (IsRowOf net) rows
rows_after net c [] h = tt
rows_after net c (row ∷ rows) h =
    (record { node_in = h.0.node_in; dest_in = h.0.dest_in; route_in = route_after net c row.route h.0.route_in }, rows_after net c rows h.1)

-- and so after all changes
pub rows_after_all : (net : PureNet) (changes : List PureChange) (rows : List PureRow) → AllByRecursion (IsRowOf (after_all net changes)) rows → AllByRecursion (IsRowOf net) rows
rows_after_all net [] rows h = h
rows_after_all net (c ∷ changes) rows h = rows_after net c rows (rows_after_all (changed net c) changes rows h)

-- and the words of rows
pub words_after_all : (net : PureNet) (changes : List PureChange) (rows : WordRows) → HasWordsOn (after_all net changes) rows → HasWordsOn net rows
words_after_all net [] rows h = h
words_after_all net (c ∷ changes) rows h =
    let words = words_after_all (changed net c) changes rows h in
    record { carrier_is = words.carrier_is; may_be = words.may_be; words = words.words; nodes = words.nodes; count = words.count }

-- and the algebra
pub same_algebra : (net : PureNet) (changes : List PureChange) → (after_all net changes).alg ≡ net.alg
same_algebra net [] = refl
same_algebra net (c ∷ changes) = same_algebra (changed net c) changes

-- changes are the first of them and the others
pub after_first : (net next : PureNet) (change : Change) (changes : List Change) → 1 ≤ length changes → change ≡ get_or changes 0 change → next ≡ changed net (pure_change change)
    → after_all next (map pure_change (take (length changes - 1) (drop 1 changes))) ≡ after_all net (map pure_change changes)
after_first net next change [] some first is = absurd (omega arith)
after_first net next change (c ∷ cs) some first is =
    let others : length (c ∷ cs) - 1 ≡ length cs = omega arith in
    rw others
    (ap (λ n. after_all n (map pure_change (take (length cs) cs))) (is ∙ ap (λ d. changed net (pure_change d)) first)
    ∙ ap (λ ds. after_all (changed net (pure_change c)) (map pure_change ds)) (take_all (length cs) cs (omega arith)))
