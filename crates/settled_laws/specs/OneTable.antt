-- Every network over an algebra has at most one stable table of each destination exactly if all its labels are monotone.
-- Lemmas, so that proofs of other crates may cite them.
use Rattle.std.proofs.Common.{◌≡◌, ℕ, ◌↔◌, List, [], ◌∷◌, Option, Some, None, refl}
use Rattle.std.specs.List.{AllByRecursion}
use Rattle.alg_model.specs.Expressions.{PureAlg, PureLabel, PureValue}
use Rattle.alg_model.specs.Application.{IsLabel}
use Rattle.alg_model.specs.Formation.{IsAlg}
use Rattle.alg_model.specs.Properties.{PureProperty, monotone, strict, isotone, cancellative, total, IsMonotone}
use Rattle.alg_model.specs.Verdicts.{PureVerdict, holds, fails, IsExact, Shows}
use Rattle.net_graph.specs.Nets.{PureArc, PureNet, IsNet, IsArcOf}
use Rattle.net_graph.specs.Tables.{NetHas}
use Rattle.settled_laws.specs.Agreement.{stable_is_unique}
use Rattle.settled_laws.specs.UniqueTables.{LabelsAreMonotone, TablesAreUnique}
use Rattle.settled_laws.specs.Pair.{pair_net, table_by_q, table_by_p, Fits, Improves}
use Rattle.settled_laws.specs.PairIsNet.{pair_is_net}
use Rattle.settled_laws.specs.SmallInstances.{small_label_on, small_value_under}
use Rattle.settled_laws.specs.SmallWedges.{small_wedge}
use Rattle.settled_laws.specs.PairTables.{by_q_is_stable, by_p_is_stable, tables_differ}

arcs_have_monotone : (alg : PureAlg) (nodes : ℕ) (arcs : List PureArc) → LabelsAreMonotone alg → AllByRecursion (IsArcOf alg nodes) arcs → AllByRecursion (λ (a : PureArc). IsMonotone alg.expression a.label) arcs
arcs_have_monotone alg nodes [] m h = tt
arcs_have_monotone alg nodes (a ∷ arcs) m h = (m a.label h.0.label_in, arcs_have_monotone alg nodes arcs m h.1)

-- so have the networks over the algebra
pub net_has_monotone : (alg : PureAlg) → LabelsAreMonotone alg → (net : PureNet) → net.alg ≡ alg → IsNet net → NetHas monotone net
net_has_monotone alg m net e n =
    let labels : LabelsAreMonotone net.alg = rw e m in
    arcs_have_monotone net.alg _ net.arcs labels n.arcs_in

pub unique_where_monotone : (alg : PureAlg) → LabelsAreMonotone alg → TablesAreUnique alg
unique_where_monotone alg m net e n dest t u = stable_is_unique net dest t u (net_has_monotone alg m net e n)

-- where no label that a network can hold makes a value better, none at all does: where one made some value better, one
-- without great numbers would do so
pub monotone_where_none_improves : (alg : PureAlg) → IsAlg alg → ((l : PureLabel) (v w : PureValue) → Fits alg l v → ¬ Improves alg l v w) → LabelsAreMonotone alg
monotone_where_none_improves alg a none l is v within p =
    let s = small_wedge alg l v a is within p in
    none (small_label_on alg.expression l v) (small_value_under alg.expression l v) s.image s.fits s.improves

-- where they are, no label makes a value better, if a network can hold both
pub none_improves_where_unique : (alg : PureAlg) (l : PureLabel) (v w : PureValue) → IsAlg alg → TablesAreUnique alg → Fits alg l v → ¬ Improves alg l v w
none_improves_where_unique alg l v w a unique f g =
    tables_differ v w (unique (pair_net alg l v) refl (pair_is_net alg l v a f) 0 (table_by_q v w) (table_by_p v w) (by_q_is_stable alg l v w a f g) (by_p_is_stable alg l v w a f g))

-- and so none at all
pub monotone_where_unique : (alg : PureAlg) → IsAlg alg → TablesAreUnique alg → LabelsAreMonotone alg
monotone_where_unique alg a unique = monotone_where_none_improves alg a (λ l v w. none_improves_where_unique alg l v w a unique)

pub unique_exactly_where_monotone : (alg : PureAlg) → IsAlg alg → (TablesAreUnique alg ↔ LabelsAreMonotone alg)
unique_exactly_where_monotone alg a = (monotone_where_unique alg a, unique_where_monotone alg)

-- and a verdict on monotone that is exact says which it is
pub verdict_decides : (alg : PureAlg) (verdict : PureVerdict) → IsAlg alg → IsExact monotone alg.expression (IsLabel alg.expression) verdict → ((verdict ≡ holds) ↔ TablesAreUnique alg)
verdict_decides alg holds a exact = (λ e. unique_where_monotone alg exact, λ unique. refl)
verdict_decides alg (fails x) a exact = (λ e. absurd (cc), λ unique. absurd (not_both x.property x.second exact.0 exact.2.shows (monotone_where_unique alg a unique x.label exact.1)))
  where
    not_both : (p : PureProperty) (second : Option PureValue) → p ≡ monotone → Shows p alg.expression x.label x.first second → IsMonotone alg.expression x.label → ⊥
    not_both monotone None e shows m = m x.first exact.2.is_of.first shows
    not_both monotone (Some v) e shows m = shows
    not_both strict second e shows m = absurd (cc)
    not_both isotone second e shows m = absurd (cc)
    not_both cancellative second e shows m = absurd (cc)
    not_both total second e shows m = absurd (cc)
