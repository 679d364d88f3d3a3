-- Sets of heads, with a set, a pair or an arc more.
use Rattle.std.proofs.Common.{◌≡◌, ◌≢◌, ◌<◌, ◌+◌, ℕ, zero, suc, List, [], ◌∷◌, ◌++◌, Bool, true, false, ◌||◌, ◌&&◌, eqb, Some, length, set, slice_get, take, refl, sym, ap, ◌∙◌, arith}
use Rattle.std.proofs.lemmas.Bool.Decides.{nat_tests}
use Rattle.std.proofs.lemmas.List.{get_or-set_same, get_or-set_other}
use Rattle.std.proofs.lemmas.List.Folds.{list_any-append}
use Rattle.std.specs.List.{list_any}
use Rattle.number_sets.specs.NumberLaws.{no_number}
use Rattle.number_sets.specs.NumberSets.{has_number, HasRoomFor}
use Rattle.net_graph.specs.Groups.{group_at}
use Rattle.net_graph.specs.Joins.{is_joined, AreJoinedBy}
use Rattle.net_graph.specs.Nets.{PureArc, is_arc_between}
use Rattle.net_graph.proofs.CopyLemmas.{take_got}

or_false : (b : Bool) → (b || false) ≡ b
or_false true = refl
or_false false = refl

-- none is joined where there is no set
pub none_joined : (i k : ℕ) → is_joined [] i k ≡ false
none_joined i k = no_number k

group_more : (sets : List (List ℕ)) (i : ℕ) → group_at (sets ++ [] ∷ []) i ≡ group_at sets i
group_more [] zero = refl
group_more [] (suc i) = refl
group_more (s ∷ sets) zero = refl
group_more (s ∷ sets) (suc i) = group_more sets i

-- a set of no number more joins none
pub set_more : (sets : List (List ℕ)) (i k : ℕ) → is_joined (sets ++ [] ∷ []) i k ≡ is_joined sets i k
set_more sets i k = ap (λ heads. has_number heads k) (group_more sets i)

-- another set of the same numbers in place of one
pub same_set : (sets : List (List ℕ)) (tail : ℕ) (heads : List ℕ) → tail < length sets → ((k : ℕ) → has_number heads k ≡ has_number (group_at sets tail) k) → (i k : ℕ) → is_joined (set sets tail heads) i k ≡ is_joined sets i k
same_set sets tail heads within same i k = by (eqb tail i) refl
  where
    by : (b : Bool) → eqb tail i ≡ b → is_joined (set sets tail heads) i k ≡ is_joined sets i k
    by true e =
        let here : i ≡ tail = grind (arith, nat_tests) in
        rw here (ap (λ words. has_number words k) (get_or-set_same sets tail heads [] within) ∙ same k)
    by false e =
        let apart : i ≢ tail = grind (arith, nat_tests) in
        ap (λ words. has_number words k) (get_or-set_other sets tail i heads [] apart)

-- a set with a number more in place of it
pub set_noted : (sets : List (List ℕ)) (tail head : ℕ) (heads : List ℕ) → tail < length sets → ((k : ℕ) → has_number heads k ≡ (has_number (group_at sets tail) k || eqb head k))
    → (i k : ℕ) → is_joined (set sets tail heads) i k ≡ (is_joined sets i k || eqb tail i && eqb head k)
set_noted sets tail head heads within noted i k = by (eqb tail i) refl
  where
    by : (b : Bool) → eqb tail i ≡ b → is_joined (set sets tail heads) i k ≡ (is_joined sets i k || eqb tail i && eqb head k)
    by true e =
        let here : i ≡ tail = grind (arith, nat_tests) in
        rw e (rw here (ap (λ words. has_number words k) (get_or-set_same sets tail heads [] within) ∙ noted k))
    by false e =
        let apart : i ≢ tail = grind (arith, nat_tests) in
        rw e (ap (λ words. has_number words k) (get_or-set_other sets tail i heads [] apart) ∙ sym (or_false (is_joined sets i k)))

-- where there is room for a head there is the tail's set
pub room_within : (sets : List (List ℕ)) (tail head : ℕ) → HasRoomFor (group_at sets tail) head → tail < length sets
room_within [] zero head room = absurd (omega arith)
room_within [] (suc tail) head room = absurd (omega arith)
room_within (s ∷ sets) zero head room = omega arith
room_within (s ∷ sets) (suc tail) head room = let rest = room_within sets tail head room in omega (arith, rest)

-- an arc more, and its pair
pub joined_more : (old new : List (List ℕ)) (arcs : List PureArc) (a : PureArc) → AreJoinedBy old arcs → ((i k : ℕ) → is_joined new i k ≡ (is_joined old i k || eqb a.tail i && eqb a.head k)) → AreJoinedBy new (arcs ++ a ∷ [])
joined_more old new arcs a are more i k =
    more i k ∙ ap (λ b. b || eqb a.tail i && eqb a.head k) (are i k)
    ∙ sym (list_any-append (is_arc_between i k) arcs (a ∷ []) ∙ ap (λ b. list_any (is_arc_between i k) arcs || b) (or_false (eqb a.tail i && eqb a.head k)))

-- the arc at a place, and its pair
pub joined_next : (old new : List (List ℕ)) (arcs : List PureArc) (n : ℕ) (a : PureArc) → slice_get arcs n ≡ Some a → AreJoinedBy old (take n arcs)
    → ((i k : ℕ) → is_joined new i k ≡ (is_joined old i k || eqb a.tail i && eqb a.head k)) → AreJoinedBy new (take (n + 1) arcs)
joined_next old new arcs n a e are more = rw (take_got arcs n a e) (joined_more old new (take n arcs) a are more)
