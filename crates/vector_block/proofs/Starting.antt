-- How the nodes' store begins.
use Rattle.std.proofs.Common.{◌≡◌, ℕ, zero, suc, ◌+◌, List, [], ◌∷◌, ◌++◌, Bool, true, false, ◌==◌, cond, filter, take, get_or, ◌<◌, length, map, replicate, Some, None, refl, sym, ap, subst, ◌∙◌, arith}
use Rattle.std.specs.Prelude.{option_map, slice_get}
use Rattle.std.specs.List.{range_with_len}
use Rattle.std.proofs.lemmas.Bool.{eqb-true}
use Rattle.std.proofs.lemmas.Option.{slice_get-map, slice_get_read}
use Rattle.alg_model.specs.Expressions.{PureValue}
use Rattle.alg_model.specs.Views.{pure_value}
use Rattle.net_graph.specs.Views.{pure_origin}
use Rattle.net_graph.specs.declared.parts.Origin.{Origin}
use Rattle.net_graph.specs.Nets.{PureNet, PureOrigin, origins_of}
use Rattle.path_vector.specs.Known.{entry_of}
use Rattle.path_vector.proofs.Beginnings.{range_next}
use Rattle.vector_block.specs.declared.report.Column.{Column}
use Rattle.vector_block.specs.Starts.{begun_store, own_report, with_dests, with_origins}
use Rattle.vector_block.specs.Stores.{PureStore, with_report}

-- nothing was heard, and there are no rows
pub record IsUnused (net : PureNet) (c : Column) : Type 0 where
  pub heard : c.heard.items ≡ replicate (length net.arcs) None
  pub rows : c.rows.items ≡ replicate (length net.nodes) None

-- what holds of the items holds once one more is pushed
pub one_more : {X : Type 0} (P : X → Type 0) (xs : List X) (y : X) → ((d : ℕ) (x : X) → slice_get xs d ≡ Some x → P x) → P y → (d : ℕ) (x : X) → slice_get (xs ++ y ∷ []) d ≡ Some x → P x
one_more P [] y all last zero x e = let same : y ≡ x = cc in subst P same last
one_more P [] y all last (suc d) x e = absurd (cc)
one_more P (z ∷ xs) y all last zero x e = all zero x e
one_more P (z ∷ xs) y all last (suc d) x e = one_more P xs y (λ k. all (suc k)) last d x e

pub no_entry : {X : Type 0} (n k : ℕ) → entry_of {X = X} (replicate n None) k ≡ None
no_entry zero k = refl
no_entry (suc n) zero = refl
no_entry {X = X} (suc n) (suc k) = no_entry {X = X} n k

dests_append : (net : PureNet) (s : PureStore) (dests more : List ℕ) → with_dests net s (dests ++ more) ≡ with_dests net (with_dests net s dests) more
dests_append net s [] more = refl
dests_append net s (dest ∷ dests) more = dests_append net (with_origins s (origins_of net dest)) dests more

-- the origins of one destination more
pub begun_more : (net : PureNet) (n : ℕ) → begun_store net (range_with_len 0 (n + 1)) ≡ with_origins (begun_store net (range_with_len 0 n)) (origins_of net n)
begun_more net n =
    let next : n + 1 ≡ suc n = omega arith in
    let place : 0 + n ≡ n = omega arith in
    ap (λ z. begun_store net (range_with_len 0 z)) next ∙ ap (begun_store net) (range_next 0 n ∙ ap (λ z. range_with_len 0 n ++ z ∷ []) place)
    ∙ dests_append net _ (range_with_len 0 n) (n ∷ [])

pub origins_append : (s : PureStore) (os more : List PureOrigin) → with_origins s (os ++ more) ≡ with_origins (with_origins s os) more
origins_append s [] more = refl
origins_append s (o ∷ os) more = origins_append (with_report s o.node (own_report o)) os more

pub more_count : {X : Type 0} (xs : List X) (y : X) → length (xs ++ y ∷ []) ≡ length xs + 1
more_count [] y = refl
more_count (x ∷ xs) y = let rest = more_count xs y in omega (arith, rest)

take_next : {X : Type 0} (xs : List X) (k : ℕ) (x : X) → slice_get xs k ≡ Some x → take (suc k) xs ≡ take k xs ++ x ∷ []
take_next [] k x e = absurd (cc)
take_next (y ∷ xs) zero x e =
    let same : y ≡ x = cc in
    rw same refl
take_next (y ∷ xs) (suc k) x e = rw (take_next xs k x e) refl

of_dest : (dest : ℕ) (xs : List PureOrigin) (k : ℕ) (o : PureOrigin) → slice_get (filter (λ (x : PureOrigin). x.dest == dest) xs) k ≡ Some o → o.dest ≡ dest
of_dest dest [] k o e = absurd (cc)
of_dest dest (x ∷ xs) k o e = by (x.dest == dest) refl (λ j. of_dest dest xs j o) k e
  where
    by : (b : Bool) → (x.dest == dest) ≡ b → ((j : ℕ) → slice_get (filter (λ (x : PureOrigin). x.dest == dest) xs) j ≡ Some o → o.dest ≡ dest) → (k : ℕ) → slice_get (cond b (x ∷ filter (λ (x : PureOrigin). x.dest == dest) xs) (filter (λ (x : PureOrigin). x.dest == dest) xs)) k ≡ Some o → o.dest ≡ dest
    by true f rest zero e = let same : x ≡ o = cc in subst (λ (z : PureOrigin). z.dest ≡ dest) same (eqb-true x.dest dest f)
    by true f rest (suc k) e = rest k e
    by false f rest k e = rest k e

-- the next origin was reported
pub origin_more : (net : PureNet) (dest m : ℕ) (xs : List Origin) (o : Origin) (v : PureValue) (s t : PureStore) → map pure_origin xs ≡ origins_of net dest → o ≡ get_or xs m o → m < length xs → v ≡ pure_value o.value
    → t ≡ with_origins s (take m (origins_of net dest)) → with_report t o.node.0 (record { dest = dest; route = Some (record { value = v; path = o.node.0 ∷ [] }); stamp = 0 }) ≡ with_origins s (take (m + 1) (origins_of net dest))
origin_more net dest m xs o v s t listed at_place below value before =
    let there : slice_get (origins_of net dest) m ≡ Some (pure_origin o) = subst (λ l. slice_get l m ≡ Some (pure_origin o)) listed (slice_get-map pure_origin xs m ∙ ap (option_map pure_origin) (slice_get_read xs (length xs) m o refl below at_place)) in
    let is : o.dest.0 ≡ dest = of_dest dest net.origins m (pure_origin o) there in
    let next : suc m ≡ m + 1 = omega arith in
    ap (λ d. with_report t o.node.0 (record { dest = d; route = Some (record { value = v; path = o.node.0 ∷ [] }); stamp = 0 })) (sym is)
    ∙ ap (λ w. with_report t o.node.0 (record { dest = o.dest.0; route = Some (record { value = w; path = o.node.0 ∷ [] }); stamp = 0 })) value
    ∙ ap (λ z. with_report z o.node.0 (own_report (pure_origin o))) before
    ∙ sym (origins_append s (take m (origins_of net dest)) (pure_origin o ∷ [])) ∙ ap (with_origins s) (sym (take_next (origins_of net dest) m (pure_origin o) there)) ∙ ap (λ k. with_origins s (take k (origins_of net dest))) next
