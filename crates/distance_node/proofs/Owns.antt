-- Origins of what isn't a destination.
use Rattle.std.proofs.Common.{◌≡◌, ℕ, ◌<◌, List, length, Bool, true, false, Option, Some, None, refl, subst, arith}
use Rattle.std.specs.Prelude.{nat_lt, option_map}
use Rattle.std.proofs.lemmas.Bool.Decides.{nat_tests}
use Rattle.alg_model.specs.Expressions.{PureValue}
use Rattle.net_graph.specs.Nets.{PureNet, IsNet, origin_value}
use Rattle.distance_node.specs.Chosen.{entry_of}
use Rattle.distance_node.specs.Offers.{own_may}
use Rattle.distance_node.proofs.Pushing.{entry_outside}

pub no_origin_outside : (net : PureNet) (dest i : ℕ) → IsNet net → ¬ (dest < length net.dests) → origin_value net dest i ≡ None
no_origin_outside net dest i n out = by (origin_value net dest i) refl
  where
    by : (o : Option PureValue) → origin_value net dest i ≡ o → origin_value net dest i ≡ None
    by None e = e
    by (Some v) e = absurd (out (own_may net n dest i 0 (record { value = v; next = None }) (record { value = e; next = refl })).dest_in)

-- values that are the origins' of all destinations are so of all numbers
pub all_origins : {S : Type 0} (value : S → PureValue) (net : PureNet) (i : ℕ) (own : List (Option S)) (count : ℕ) → IsNet net → length own ≡ length net.dests → length own ≡ count
    → ((dest : ℕ) → dest < count → option_map value (entry_of own dest) ≡ origin_value net dest i) → (dest : ℕ) → option_map value (entry_of own dest) ≡ origin_value net dest i
all_origins value net i own count n all so_many below dest = by (nat_lt dest count) refl
  where
    by : (b : Bool) → nat_lt dest count ≡ b → option_map value (entry_of own dest) ≡ origin_value net dest i
    by true e = below dest (grind (arith, nat_tests))
    by false e =
        let out : ¬ (dest < length own) = (λ l. let m = l in grind (arith, nat_tests)) in
        rw (entry_outside own dest out, no_origin_outside net dest i n (subst (λ z. ¬ (dest < z)) all out)) refl
