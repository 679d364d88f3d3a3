-- The values of the origins that cards tell of are those of the network that was sent.
use Rattle.std.proofs.Common.{◌≡◌, ℕ, zero, suc, ◌<◌, ◌≤◌, List, [], ◌∷◌, ◌++◌, Bool, true, false, ◌&&◌, ◌==◌, ltb, length, cond, Option, Some, None, refl, sym, ap, ◌∙◌, subst, arith}
use mathlib.Core.Path.{fun_ext}
use Rattle.std.specs.Prelude.{option_map}
use Rattle.std.specs.List.{find}
use Rattle.std.specs.Option.{option_or}
use Rattle.std.proofs.lemmas.Bool.{eqb-true}
use Rattle.std.proofs.lemmas.Bool.Decides.{nat_tests}
use Rattle.std.proofs.lemmas.List.Folds.{find-append}
use Rattle.alg_model.specs.Expressions.{PureValue}
use Rattle.net_graph.specs.ArcLaws.{find_all, of_some, origins_are, IsOrigin}
use Rattle.net_graph.specs.Nets.{PureOrigin, PureNet, IsNet, IsOriginOf, is_origin_at, origin_value}
use Rattle.flood_node.specs.Cards.{PureCardOrigin, card_of, card_origin, card_origins}
use Rattle.flood_node.specs.Rows.{IsAsReported, origins_on, reported_origins}
use Rattle.flood_node.specs.Reported.{Reported}
use Rattle.flood_node.specs.ReportedLaws.{reported_is_part}

-- the value of the first origin of the destination, on a card and among origins
abbrev value_on : ℕ → List PureCardOrigin → Option PureValue
value_on dest os = option_map (λ (o : PureCardOrigin). o.value) (find (λ (o : PureCardOrigin). o.dest == dest) os)

abbrev value_of : ℕ → ℕ → List PureOrigin → Option PureValue
value_of dest i os = option_map (λ (o : PureOrigin). o.value) (find (is_origin_at dest i) os)

mapped_or : {X Y : Type 0} (f : X → Y) (a b : Option X) → option_map f (option_or a b) ≡ option_or (option_map f a) (option_map f b)
mapped_or f None b = refl
mapped_or f (Some x) b = refl

or_none : {X : Type 0} (a : Option X) → option_or a None ≡ a
or_none None = refl
or_none (Some x) = refl

card_joined : (dest : ℕ) (xs ys : List PureCardOrigin) → value_on dest (xs ++ ys) ≡ option_or (value_on dest xs) (value_on dest ys)
card_joined dest xs ys =
    ap (option_map (λ (o : PureCardOrigin). o.value)) (find-append (λ (o : PureCardOrigin). o.dest == dest) xs ys)
    ∙ mapped_or (λ (o : PureCardOrigin). o.value) (find (λ (o : PureCardOrigin). o.dest == dest) xs) (find (λ (o : PureCardOrigin). o.dest == dest) ys)

joined : (dest i : ℕ) (xs ys : List PureOrigin) → value_of dest i (xs ++ ys) ≡ option_or (value_of dest i xs) (value_of dest i ys)
joined dest i xs ys =
    ap (option_map (λ (o : PureOrigin). o.value)) (find-append (is_origin_at dest i) xs ys)
    ∙ mapped_or (λ (o : PureOrigin). o.value) (find (is_origin_at dest i) xs) (find (is_origin_at dest i) ys)

-- on the node, and on another one
on_itself : (dest i : ℕ) (os : List PureCardOrigin) → value_of dest i (origins_on i os) ≡ value_on dest os
on_itself dest i [] = refl
on_itself dest i (o ∷ os) = by (o.dest == dest) refl (on_itself dest i os)
  where
    itself : (i == i) ≡ true
    itself = grind (arith, nat_tests)

    by : (b : Bool) → (o.dest == dest) ≡ b → value_of dest i (origins_on i os) ≡ value_on dest os → value_of dest i (origins_on i (o ∷ os)) ≡ value_on dest (o ∷ os)
    by true e r = rw (e, itself) refl
    by false e r = rw e r

on_other : (dest i n : ℕ) (os : List PureCardOrigin) → (n == i) ≡ false → value_of dest i (origins_on n os) ≡ None
on_other dest i n [] apart = refl
on_other dest i n (o ∷ os) apart = by (o.dest == dest) refl (on_other dest i n os apart)
  where
    by : (b : Bool) → (o.dest == dest) ≡ b → value_of dest i (origins_on n os) ≡ None → value_of dest i (origins_on n (o ∷ os)) ≡ None
    by true e r = rw (e, apart) r
    by false e r = rw e r

module _ (net : PureNet) where
  one_there : (dest n : ℕ) (v : Option PureValue) → (n == dest) ≡ true → value_on dest (card_origin n v) ≡ v
  one_there dest n None e = refl
  one_there dest n (Some v) e = rw e refl

  one_other : (dest n : ℕ) (v : Option PureValue) → (n == dest) ≡ false → value_on dest (card_origin n v) ≡ None
  one_other dest n None e = refl
  one_other dest n (Some v) e = rw e refl

  -- what a card says of a destination
  card_value : (i dest n : ℕ) → value_on dest (card_origins net i n) ≡ cond (ltb dest n) (origin_value net dest i) None
  card_value i dest zero = let none : ltb dest 0 ≡ false = grind (arith, nat_tests) in rw none refl
  card_value i dest (suc n) =
      card_joined dest (card_origins net i n) (card_origin n (origin_value net n i))
      ∙ (ap (λ o. option_or o (value_on dest (card_origin n (origin_value net n i)))) (card_value i dest n) ∙ by (ltb dest n) refl (n == dest) refl)
    where
      by : (b : Bool) → ltb dest n ≡ b → (c : Bool) → (n == dest) ≡ c
          → option_or (cond (ltb dest n) (origin_value net dest i) None) (value_on dest (card_origin n (origin_value net n i))) ≡ cond (ltb dest (suc n)) (origin_value net dest i) None
      by true e true f = absurd (let l : dest < n = grind (arith, nat_tests) in let s : n ≡ dest = eqb-true n dest f in omega (arith, l, s))
      by true e false f =
          let more : ltb dest (suc n) ≡ true = grind (arith, nat_tests) in
          rw (e, more, one_other dest n (origin_value net n i) f) (or_none (origin_value net dest i))
      by false e true f =
          let s : n ≡ dest = eqb-true n dest f in
          let more : ltb dest (suc n) ≡ true = grind (arith, nat_tests) in
          rw (e, more, one_there dest n (origin_value net n i) f) (ap (λ z. origin_value net z i) s)
      by false e false f =
          let more : ltb dest (suc n) ≡ false = grind (arith, nat_tests) in
          rw (e, more, one_other dest n (origin_value net n i) f) refl

  -- what the cards of the nodes so far say of a node and a destination
  reported_value : (known : ℕ → Bool) (dest i n : ℕ) → value_of dest i (reported_origins net known n) ≡ cond (ltb i n && known i) (value_on dest (card_of net i).origins) None
  reported_value known dest i zero = let none : ltb i 0 ≡ false = grind (arith, nat_tests) in rw none refl
  reported_value known dest i (suc n) =
      joined dest i (reported_origins net known n) (cond (known n) (origins_on n (card_of net n).origins) [])
      ∙ (ap (λ o. option_or o (value_of dest i (cond (known n) (origins_on n (card_of net n).origins) []))) (reported_value known dest i n) ∙ by (ltb i n) refl (n == i) refl)
    where
      last_other : (n == i) ≡ false → (b : Bool) → value_of dest i (cond b (origins_on n (card_of net n).origins) []) ≡ None
      last_other f true = on_other dest i n (card_of net n).origins f
      last_other f false = refl

      last_there : n ≡ i → (b : Bool) → value_of dest i (cond b (origins_on n (card_of net n).origins) []) ≡ cond b (value_on dest (card_of net i).origins) None
      last_there s true = ap (λ z. value_of dest i (origins_on z (card_of net z).origins)) s ∙ on_itself dest i (card_of net i).origins
      last_there s false = refl

      by : (b : Bool) → ltb i n ≡ b → (c : Bool) → (n == i) ≡ c
          → option_or (cond (ltb i n && known i) (value_on dest (card_of net i).origins) None) (value_of dest i (cond (known n) (origins_on n (card_of net n).origins) [])) ≡ cond (ltb i (suc n) && known i) (value_on dest (card_of net i).origins) None
      by true e true f = absurd (let l : i < n = grind (arith, nat_tests) in let s : n ≡ i = eqb-true n i f in omega (arith, l, s))
      by true e false f =
          let more : ltb i (suc n) ≡ true = grind (arith, nat_tests) in
          rw (e, more, last_other f (known n)) (or_none (cond (known i) (value_on dest (card_of net i).origins) None))
      by false e true f =
          let s : n ≡ i = eqb-true n i f in
          let more : ltb i (suc n) ≡ true = grind (arith, nat_tests) in
          rw (e, more) (last_there s (known n) ∙ ap (λ z. cond (known z) (value_on dest (card_of net i).origins) None) s)
      by false e false f =
          let more : ltb i (suc n) ≡ false = grind (arith, nat_tests) in
          rw (e, more) (last_other f (known n))

  -- no destination and no node past the last has an origin
  none_past_dests : IsNet net → (dest i : ℕ) → length net.dests ≤ dest → origin_value net dest i ≡ None
  none_past_dests h dest i l = by (find (is_origin_at dest i) net.origins) refl
    where
      by : (o : Option PureOrigin) → find (is_origin_at dest i) net.origins ≡ o → option_map (λ (q : PureOrigin). q.value) o ≡ None
      by None e = refl
      by (Some o) e =
          let f = find_all (IsOriginOf net.alg (length net.nodes) (length net.dests)) (is_origin_at dest i) net.origins h.origins_in o e in
          let within : o.dest < length net.dests = f.0.dest_in in
          let same : o.dest ≡ dest = grind (arith, nat_tests, f.1) in
          absurd (omega (arith, within, same, l))

  none_past_nodes : IsNet net → (dest i : ℕ) → length net.nodes ≤ i → origin_value net dest i ≡ None
  none_past_nodes h dest i l = by (origin_value net dest i) refl
    where
      by : (o : Option PureValue) → origin_value net dest i ≡ o → o ≡ None
      by None e = refl
      by (Some v) e =
          let within : i < length net.nodes = (of_some (IsOrigin net dest i) (origin_value net dest i) v (origins_are net h dest i) e).node_in in
          absurd (omega (arith, within, l))

  -- so what the cards of all nodes say is what was sent
  pub reported_values : IsNet net → (known : ℕ → Bool) (dest i : ℕ) → value_of dest i (reported_origins net known (length net.nodes)) ≡ origin_value (Reported net known) dest i
  reported_values h known dest i = reported_value known dest i (length net.nodes) ∙ by (known i) refl (ltb i (length net.nodes)) refl
    where
      whole : value_on dest (card_of net i).origins ≡ origin_value net dest i
      whole = card_value i dest (length net.dests) ∙ at (ltb dest (length net.dests)) refl
        where
          at : (b : Bool) → ltb dest (length net.dests) ≡ b → cond b (origin_value net dest i) None ≡ origin_value net dest i
          at true e = refl
          at false e = let l : length net.dests ≤ dest = grind (arith, nat_tests) in sym (none_past_dests h dest i l)

      by : (b : Bool) → known i ≡ b → (c : Bool) → ltb i (length net.nodes) ≡ c
          → cond (ltb i (length net.nodes) && known i) (value_on dest (card_of net i).origins) None ≡ origin_value (Reported net known) dest i
      by true k true e = rw (e, k) (whole ∙ sym ((reported_is_part net known).origins dest i k))
      by true k false e =
          let l : length net.nodes ≤ i = grind (arith, nat_tests) in
          rw e (sym ((reported_is_part net known).origins dest i k ∙ none_past_nodes h dest i l))
      by false k true e = rw (e, k) (sym ((reported_is_part net known).no_origins dest i k))
      by false k false e = rw e (sym ((reported_is_part net known).no_origins dest i k))

-- a network that is made of the arcs and the origins that were reported
pub made_as_reported : (net : PureNet) → IsNet net → (placed known : ℕ → Bool) (draft reported : PureNet) → ((i : ℕ) → placed i ≡ known i) → draft ≡ record (Reported net placed) { origins = reported_origins net placed (length net.nodes) }
    → reported ≡ draft → IsAsReported net known reported
made_as_reported net n placed known draft reported same o t =
    let whole : reported ≡ record (Reported net placed) { origins = reported_origins net placed (length net.nodes) } = t ∙ o in
    subst (λ f. IsAsReported net f reported) (fun_ext same) (record {
      but_origins = whole ∙ ap (λ l. record (Reported net placed) { origins = l }) (sym (ap (λ (d : PureNet). d.origins) whole));
      origins = λ dest i. ap (λ (d : PureNet). origin_value d dest i) whole ∙ reported_values net n placed dest i;
    })
