-- The rows of nodes, destination by destination.
use Rattle.std.proofs.Common.{◌≡◌, ℕ, suc, ◌+◌, ◌<◌, List, [], ◌∷◌, ◌++◌, length, Some, None, refl, sym, ap, subst, ◌∙◌, arith}
use Rattle.std.specs.Prelude.{slice_get}
use Rattle.std.specs.List.{AllByRecursion, range_with_len}
use Rattle.std.proofs.lemmas.List.{append-nil, append_assoc}
use Rattle.net_graph.specs.ArcLaws.{all_at}
use Rattle.net_graph.specs.NetLaws.{all_weaker}
use Rattle.net_graph.specs.Nets.{PureNet}
use Rattle.distance_node.specs.Node.{DvState}
use Rattle.distance_node.specs.Rows.{dest_rows, rows_for}
use Rattle.distance_node.proofs.Pushing.{range_next}

-- no nodes have no rows
pub no_rows : (dests : List ℕ) → rows_for [] dests ≡ []
no_rows [] = refl
no_rows (dest ∷ dests) = no_rows dests

pub no_first : {X : Type 0} (xs : List X) → None ≡ slice_get xs 0 → xs ≡ []
no_first [] e = refl
no_first (x ∷ xs) e = absurd (cc)

rows_append : (states : List DvState) (dests more : List ℕ) → rows_for states (dests ++ more) ≡ rows_for states dests ++ rows_for states more
rows_append states [] more = refl
rows_append states (dest ∷ dests) more = ap (λ z. dest_rows states dest ++ z) (rows_append states dests more) ∙ sym (append_assoc (dest_rows states dest) (rows_for states dests) (rows_for states more))

-- the rows of one destination more
pub rows_next : (states : List DvState) (n : ℕ) → rows_for states (range_with_len 0 (n + 1)) ≡ rows_for states (range_with_len 0 n) ++ dest_rows states n
rows_next states n =
    let next : n + 1 ≡ suc n = omega arith in
    let place : 0 + n ≡ n = omega arith in
    ap (λ z. rows_for states (range_with_len 0 z)) next ∙ ap (rows_for states) (range_next 0 n ∙ ap (λ z. range_with_len 0 n ++ z ∷ []) place)
    ∙ rows_append states (range_with_len 0 n) (n ∷ []) ∙ ap (λ z. rows_for states (range_with_len 0 n) ++ z) (append-nil (dest_rows states n))

module _ {X : Type 0} (net_of : X → PureNet) (xs : List X) (x : X) (net : PureNet) (first : Some x ≡ slice_get xs 0) (all : AllByRecursion (λ n. net_of n ≡ net) xs) where
  pub first_is : net_of x ≡ net
  first_is = all_at (λ n. net_of n ≡ net) xs 0 x all (sym first)

  -- a destination of the first's network is one of each
  pub all_within : (dest : ℕ) → dest < length (net_of x).dests → AllByRecursion (λ n. dest < length (net_of n).dests) xs
  all_within dest l = all_weaker (λ n. net_of n ≡ net) (λ n. dest < length (net_of n).dests) xs (λ n e. subst (λ (z : PureNet). dest < length z.dests) (first_is ∙ sym e) l) all
