-- What fits a network, in words of it. Lemmas, so that proofs of other crates may cite them.
use Rattle.std.proofs.Common.{◌≡◌, ℕ, ◌+◌, ◌*◌, ◌^◌, ◌<◌, ◌≤◌, List, [], ◌∷◌, ◌++◌, true, ◌==◌, length, cond, Option, Some, None, refl, arith}
use Rattle.std.specs.Prelude.{nat_lt}
use Rattle.std.specs.Option.{option_map_or}
use Rattle.std.proofs.lemmas.Bool.{and_parts}
use Rattle.std.proofs.lemmas.Bool.Decides.{nat_tests}
use Rattle.std.proofs.lemmas.Nat.{mul-le}
use Rattle.alg_model.specs.Bounds.{AtMost}
use Rattle.alg_model.specs.Carriers.{In}
use Rattle.alg_model.specs.Expressions.{PureValue}
use Rattle.alg_model.specs.Laws.{at_most_more}
use Rattle.alg_model.specs.Tests.{is_in, is_in-Decides, is_at_most, is_at_most-Decides, same_value-Decides}
use Rattle.net_graph.specs.Nets.{PureNet}
use Rattle.net_graph.specs.Tables.{carrier}
use Rattle.distance_node.specs.Coherent.{IsHeard, last_reported}
use Rattle.distance_node.specs.Node.{PureVector, greatest_at, may_be_reported, fits_in, same_reported}
use Rattle.distance_node.specs.Offers.{MayTell}

-- ---- messages

pub reported_from : (net : PureNet) (clock : ℕ) (v : PureValue) → In (carrier net) v → AtMost (greatest_at clock) v → may_be_reported net clock v ≡ true
reported_from net clock v i b =
    let value = (is_in-Decides (carrier net) v).1 i in
    let small = (is_at_most-Decides (greatest_at clock) v).1 b in
    rw (value, small) refl

pub reported_parts : (net : PureNet) (clock : ℕ) (v : PureValue) → may_be_reported net clock v ≡ true → In (carrier net) v × AtMost (greatest_at clock) v
reported_parts net clock v e =
    let both = and_parts (is_in (carrier net) v) (is_at_most (greatest_at clock) v) e in
    ((is_in-Decides (carrier net) v).0 both.0, (is_at_most-Decides (greatest_at clock) v).0 both.1)

pub fits_from : (net : PureNet) (m : PureVector) → m.dest < length net.dests → ((v : PureValue) → m.value ≡ Some v → In (carrier net) v × AtMost (greatest_at m.stamp) v) → fits_in net m ≡ true
fits_from net m below f =
    let test : nat_lt m.dest (length net.dests) ≡ true = grind (arith, nat_tests) in
    rw test (by m.value refl)
  where
    by : (o : Option PureValue) → m.value ≡ o → option_map_or (may_be_reported net m.stamp) o true ≡ true
    by None e = refl
    by (Some v) e = let both = f v e in reported_from net m.stamp v both.0 both.1

pub fits_parts : (net : PureNet) (m : PureVector) → fits_in net m ≡ true → (v : PureValue) → m.value ≡ Some v → MayTell net m.dest m.stamp v
fits_parts net m e v f =
    let both = and_parts (nat_lt m.dest (length net.dests)) (option_map_or (may_be_reported net m.stamp) m.value true) e in
    let test : nat_lt m.dest (length net.dests) ≡ true = both.0 in
    let parts = reported_parts net m.stamp v (rw f at both.1) in
    record { dest_in = grind (arith, nat_tests); value_in = parts.0; small = parts.1 }

pub fits_dest : (net : PureNet) (m : PureVector) → fits_in net m ≡ true → m.dest < length net.dests
fits_dest net m e =
    let test : nat_lt m.dest (length net.dests) ≡ true = (and_parts (nat_lt m.dest (length net.dests)) (option_map_or (may_be_reported net m.stamp) m.value true) e).0 in
    grind (arith, nat_tests)

-- ---- clocks

pub later_room : (s t : ℕ) → s < t → greatest_at s ≤ t * 2 ^ 64
later_room s t l =
    let up : s + 1 ≤ t = omega (arith, l) in
    mul-le (s + 1) (2 ^ 64) t (2 ^ 64) up (omega arith)

pub clock_room : (s t : ℕ) → s ≤ t → s * 2 ^ 64 ≤ t * 2 ^ 64
clock_room s t l = mul-le s (2 ^ 64) t (2 ^ 64) l (omega arith)

-- what may be sent at a clock may have been heard at a later one
pub reported_is_heard : (net : PureNet) (dest s t : ℕ) (v : PureValue) → s < t → MayTell net dest s v → IsHeard net dest t v
reported_is_heard net dest s t v l m = record { dest_in = m.dest_in; value_in = m.value_in; small = at_most_more (greatest_at s) (t * 2 ^ 64) v (later_room s t l) m.small }

pub heard_later : (net : PureNet) (dest s t : ℕ) (v : PureValue) → s ≤ t → IsHeard net dest s v → IsHeard net dest t v
heard_later net dest s t v l h = record { dest_in = h.dest_in; value_in = h.value_in; small = at_most_more (s * 2 ^ 64) (t * 2 ^ 64) v (clock_room s t l) h.small }

-- ---- what is sent

pub same_reported_is : (u v : Option PureValue) → same_reported u v ≡ true → u ≡ v
same_reported_is None None e = refl
same_reported_is (Some u) (Some v) e = let same : u ≡ v = (same_value-Decides u v).0 e in rw same refl
same_reported_is (Some u) None e = absurd (cc)
same_reported_is None (Some v) e = absurd (cc)

pub same_reported_self : (u : Option PureValue) → same_reported u u ≡ true
same_reported_self None = refl
same_reported_self (Some u) = (same_value-Decides u u).1 refl

pub last_reported_append : (dest : ℕ) (h : Option PureValue) (us vs : List PureVector) → last_reported dest h (us ++ vs) ≡ last_reported dest (last_reported dest h us) vs
last_reported_append dest h [] vs = refl
last_reported_append dest h (u ∷ us) vs = last_reported_append dest (cond (u.dest == dest) u.value h) us vs
