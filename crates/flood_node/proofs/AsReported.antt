-- Tables on networks of which only the order of the origins differs are the same.
use Rattle.std.proofs.Common.{◌≡◌, ℕ, ◌+◌, inl, inr, List, [], ◌∷◌, Bool, Option, Some, None, IfSome, sym, ap, ◌∙◌, subst}
use mathlib.Core.Path.{fun_ext}
use Rattle.net_graph.specs.Nets.{PureNet, PureOrigin, origin_value}
use Rattle.net_graph.specs.Routes.{PureRoute}
use Rattle.net_graph.specs.Tables.{PureRow, AreFixed, AreRowsFrom, BestFirst, IsOfferFrom, IsRouteOf, route_at}
use Rattle.flood_node.specs.Rows.{IsAsReported}
use Rattle.flood_node.specs.Reported.{Reported}

module _ (net : PureNet) (origins : List PureOrigin) (same : (dest i : ℕ) → origin_value (record net { origins = origins }) dest i ≡ origin_value net dest i) (dest : ℕ) (table : List PureRow) where
  abbrev other : PureNet
  other = record net { origins = origins }

  offer_here : (before : List ℕ) (i : ℕ) (r : PureRoute) → IsOfferFrom other dest (route_at table) before i r → IsOfferFrom net dest (route_at table) before i r
  offer_here before i r (inl own) = inl (sym (same dest i) ∙ own.0, own.1)
  offer_here before i r (inr by) = let o = by.2 in inr (by.0, by.1, record { next = o.next; is_reported = o.is_reported; weighs = o.weighs; loopless = o.loopless; path = o.path })

  offer_there : (before : List ℕ) (i : ℕ) (r : PureRoute) → IsOfferFrom net dest (route_at table) before i r → IsOfferFrom other dest (route_at table) before i r
  offer_there before i r (inl own) = inl (same dest i ∙ own.0, own.1)
  offer_there before i r (inr by) = let o = by.2 in inr (by.0, by.1, record { next = o.next; is_reported = o.is_reported; weighs = o.weighs; loopless = o.loopless; path = o.path })

  rows_here : (from : ℕ) (rows : List PureRow) → AreRowsFrom other dest from rows → AreRowsFrom net dest from rows
  rows_here from [] a = tt
  rows_here from (row ∷ rows) a = (a.0, a.1, route row.route a.2, rows_here (from + 1) rows a.3)
    where
      route : (o : Option PureRoute) → IfSome o (IsRouteOf other) → IfSome o (IsRouteOf net)
      route None h = tt
      route (Some r) h = record { value_in = h.value_in; bound = h.bound; path = h.path }

  fixed_here : (before order : List ℕ) → AreFixed other dest table before order → AreFixed net dest table before order
  fixed_here before [] f = λ i l e. let left = f i l e in (left.0, λ r o. left.1 r (offer_there before i r o))
  fixed_here before (i ∷ order) f = (
    f.0,
    f.1,
    (f.2.0, f.2.1, offer_here before i f.2.0 f.2.2, λ k s l e o. f.2.3 k s l e (offer_there before k s o)),
    fixed_here (i ∷ before) order f.3,
  )

  best_here : BestFirst other dest table → BestFirst net dest table
  best_here b = record { table_of = record { rows = rows_here 0 table b.table_of.rows; count = b.table_of.count }; order = b.order; fixed = fixed_here [] b.order b.fixed }

-- a table on a network that is as reported is one on what was sent
pub best_as_reported : (net reported : PureNet) (known : ℕ → Bool) (dest : ℕ) (table : List PureRow) → IsAsReported net known reported → BestFirst reported dest table → BestFirst (Reported net known) dest table
best_as_reported net reported known dest table is_reported best =
    best_here (Reported net known) reported.origins (λ d i. ap (λ (n : PureNet). origin_value n d i) (sym is_reported.but_origins) ∙ is_reported.origins d i) dest table
    (subst (λ (n : PureNet). BestFirst n dest table) is_reported.but_origins best)

-- whatever tests what is known
pub reported_alike : (net : PureNet) (known others : ℕ → Bool) → ((j : ℕ) → known j ≡ others j) → Reported net known ≡ Reported net others
reported_alike net known others e = ap (Reported net) (fun_ext e)
