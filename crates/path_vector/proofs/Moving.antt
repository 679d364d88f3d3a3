-- What one neighbour heard, as it is moved to another an entry at a time.
use Rattle.std.proofs.Common.{◌≡◌, ℕ, zero, suc, ◌+◌, ◌<◌, ◌≤◌, ◌==◌, List, [], ◌∷◌, Bool, true, false, cond, length, slice_get, Option, Some, None, refl, sym, ap, subst, ◌∙◌, arith}
use Rattle.std.proofs.Math.ListN.{set}
use Rattle.std.proofs.lemmas.Bool.Decides.{nat_tests}
use Rattle.std.proofs.lemmas.Option.{slice_get_within}
use Rattle.path_vector.specs.Known.{entry_of, HasHeard, Listened}
use Rattle.path_vector.specs.declared.known.Known.{Known}
use Rattle.path_vector.proofs.Hearings.{entry_set, set_length}

pub get_set : {X : Type 0} (xs : List X) (k : ℕ) (y : X) → k < length xs → slice_get (set xs k y) k ≡ Some y
get_set [] k y l = absurd (omega arith)
get_set (x ∷ xs) zero y l = refl
get_set (x ∷ xs) (suc k) y l = get_set xs k y (omega arith)

get_other : {X : Type 0} (xs : List X) (k : ℕ) (y : X) (j : ℕ) → k < j → slice_get (set xs k y) j ≡ slice_get xs j
get_other [] k y j l = refl
get_other (x ∷ xs) k y zero l = absurd (omega arith)
get_other (x ∷ xs) zero y (suc j) l = refl
get_other (x ∷ xs) (suc k) y (suc j) l = get_other xs k y j (omega arith)

set_again : {X : Type 0} (xs : List X) (k : ℕ) (y z : X) → set (set xs k y) k z ≡ set xs k z
set_again [] k y z = refl
set_again (x ∷ xs) zero y z = refl
set_again (x ∷ xs) (suc k) y z = ap (λ l. x ∷ l) (set_again xs k y z)

set_same : {X : Type 0} (xs : List X) (k : ℕ) (y : X) → slice_get xs k ≡ Some y → xs ≡ set xs k y
set_same [] k y e = absurd (cc)
set_same (x ∷ xs) zero y e =
    let same : x ≡ y = cc in
    ap (λ z. z ∷ xs) same
set_same (x ∷ xs) (suc k) y e = ap (λ l. x ∷ l) (set_same xs k y e)

-- entries that are the same one by one
same_entries : {X : Type 0} (xs ys : List (Option X)) → length xs ≡ length ys → ((k : ℕ) → k < length xs → entry_of xs k ≡ entry_of ys k) → xs ≡ ys
same_entries [] [] e same = refl
same_entries [] (y ∷ ys) e same = absurd (omega arith)
same_entries (x ∷ xs) [] e same = absurd (omega arith)
same_entries (x ∷ xs) (y ∷ ys) e same =
    let rest = same_entries xs ys (omega arith) (λ k l. same (suc k) (omega arith)) in
    rw (same 0 (omega arith), rest) refl

-- the one that stands at a place has as many entries
pub same_count : {L S : Type 0} (ns : List (Listened L S)) (k : ℕ) (n m : Listened L S) (count : ℕ) → slice_get ns k ≡ Some n → slice_get ns k ≡ Some m → length n.heard ≡ count → length m.heard ≡ count
same_count ns k n m count e f few =
    let same : n ≡ m = (let both = sym e ∙ f in cc) in
    ap (λ (z : Listened _ _). length z.heard) (sym same) ∙ few

-- The entries below one are those of the other neighbour, who still has what is left.
pub record IsMoved {L S : Type 0} (n m : Listened L S) (dests place at done : ℕ) (old others ns os : List (Listened L S)) : Type 0 where
  pub now : Listened L S
  pub here : ns ≡ set old place now
  pub arc : now.arc ≡ n.arc
  pub label : now.label ≡ n.label
  pub count : length now.heard ≡ dests
  pub moved : (k : ℕ) → k < done → entry_of now.heard k ≡ entry_of m.heard k
  pub left : Listened L S
  pub there : slice_get os at ≡ Some left
  pub left_count : length left.heard ≡ dests
  pub left_is : (k : ℕ) → done ≤ k → entry_of left.heard k ≡ entry_of m.heard k
  pub after : (k : ℕ) → at < k → slice_get os k ≡ slice_get others k
  pub many : length os ≡ length others

module _ {L S : Type 0} (n m : Listened L S) (dests place at : ℕ) (old others : List (Listened L S)) (n_there : slice_get old place ≡ Some n) (m_there : slice_get others at ≡ Some m) where
  pub moving_begins : length n.heard ≡ dests → length m.heard ≡ dests → IsMoved n m dests place at 0 old others old others
  moving_begins few many = record {
    now = n;
    here = set_same old place n n_there;
    arc = refl;
    label = refl;
    count = few;
    moved = λ k l. absurd (omega arith);
    left = m;
    there = m_there;
    left_count = many;
    left_is = λ k l. refl;
    after = λ k l. refl;
    many = refl;
  }

  module _ (done : ℕ) (ns os : List (Listened L S)) (is : IsMoved n m dests place at done old others ns os) where
    -- the neighbour as it is now
    pub now_there : slice_get ns place ≡ Some is.now
    now_there = ap (λ z. slice_get z place) is.here ∙ get_set old place is.now (slice_get_within old place n n_there)

    module _ (inside : done < dests) (route earlier : Option (Known S)) (os_next ns_next : List (Listened L S))
        (taken : HasHeard done None route os at is.left os_next) (put : HasHeard done route earlier ns place is.now ns_next)
      where
        same_route : route ≡ entry_of m.heard done
        same_route = sym taken.was ∙ is.left_is done (omega arith)

        now_next : (k : ℕ) → entry_of put.now.heard k ≡ cond (k == done) route (entry_of is.now.heard k)
        now_next k = ap (λ z. entry_of z k) put.heard ∙ entry_set is.now.heard done route k (subst (λ z. done < z) (sym is.count) inside)

        moved_next : (k : ℕ) → k < done + 1 → entry_of put.now.heard k ≡ entry_of m.heard k
        moved_next k l = now_next k ∙ by (k == done) refl
          where
            by : (b : Bool) → (k == done) ≡ b → cond b route (entry_of is.now.heard k) ≡ entry_of m.heard k
            by true e =
                let same : k ≡ done = grind (arith, nat_tests) in
                same_route ∙ ap (λ z. entry_of m.heard z) (sym same)
            by false e =
                let below : k < done = grind (arith, nat_tests) in
                is.moved k below

        left_next : (k : ℕ) → done + 1 ≤ k → entry_of taken.now.heard k ≡ entry_of m.heard k
        left_next k l =
            let other : (k == done) ≡ false = grind (arith, nat_tests) in
            ap (λ z. entry_of z k) taken.heard ∙ entry_set is.left.heard done None k (subst (λ z. done < z) (sym is.left_count) inside) ∙ rw other (is.left_is k (omega arith))

        pub moving_goes_on : IsMoved n m dests place at (done + 1) old others ns_next os_next
        moving_goes_on = record {
          now = put.now;
          here = put.at ∙ ap (λ z. set z place put.now) is.here ∙ set_again old place is.now put.now;
          arc = put.arc ∙ is.arc;
          label = put.label ∙ is.label;
          count = ap length put.heard ∙ set_length is.now.heard done route ∙ is.count;
          moved = moved_next;
          left = taken.now;
          there = ap (λ z. slice_get z at) taken.at ∙ get_set os at taken.now (slice_get_within os at is.left is.there);
          left_count = ap length taken.heard ∙ set_length is.left.heard done None ∙ is.left_count;
          left_is = left_next;
          after = λ k l. ap (λ z. slice_get z k) taken.at ∙ get_other os at taken.now k l ∙ is.after k l;
          many = ap length taken.at ∙ set_length os at taken.now ∙ is.many;
        }

    -- once all are moved
    pub all_moved : dests ≤ done → length m.heard ≡ dests → ns ≡ set old place (record n { heard = m.heard })
    all_moved past count = is.here ∙ ap (set old place) now_is
      where
        same : is.now.heard ≡ m.heard
        same = same_entries is.now.heard m.heard (is.count ∙ sym count) (λ k l. is.moved k (let few = is.count in omega arith))

        now_is : is.now ≡ record n { heard = m.heard }
        now_is = rw (← is.arc, ← is.label, ← same) refl
