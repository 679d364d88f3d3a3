-- Sums over lists, and over the arcs of a network.
use Rattle.std.proofs.Common.{◌≡◌, ℕ, zero, suc, ◌+◌, List, [], ◌∷◌, ◌++◌, length, slice_get, refl, ap, ◌∙◌, arith}
use Rattle.std.specs.Option.{option_map_or}
use Rattle.net_graph.specs.Nets.{PureArc}
use Rattle.net_gen.specs.declared.links.Link.{Link}
use Rattle.net_gen.specs.Networks.{arcs_of}
use Rattle.rest_laws.specs.Ways.{total}

abbrev pub summed : {X : Type 0} → (X → ℕ) → List X → ℕ
summed f [] = 0
summed f (x ∷ xs) = f x + summed f xs

pub summed_join : {X : Type 0} (f : X → ℕ) (xs ys : List X) → summed f (xs ++ ys) ≡ summed f xs + summed f ys
summed_join f [] ys = omega arith
summed_join f (x ∷ xs) ys = let rest = summed_join f xs ys in omega (arith, rest)

total_front : (n : ℕ) (f : ℕ → ℕ) → total (suc n) f ≡ f 0 + total n (λ i. f (suc i))
total_front zero f = omega arith
total_front (suc n) f = let rest = total_front n f in omega (arith, rest)

-- the sum over the places of a list is the sum over its items
pub total_listed : {X : Type 0} (f : X → ℕ) (xs : List X) → total (length xs) (λ a. option_map_or f (slice_get xs a) 0) ≡ summed f xs
total_listed f [] = refl
total_listed f (x ∷ xs) =
    let rest = total_listed f xs in
    let first = total_front (length xs) (λ a. option_map_or f (slice_get (x ∷ xs) a) 0) in
    first ∙ ap (λ n. f x + n) rest

-- a sum over arcs by their listeners is one over links
pub arcs_summed : (f : ℕ → ℕ) (id : ℕ) (links : List Link) → summed (λ (a : PureArc). f a.tail) (arcs_of id links) ≡ summed (λ (l : Link). f l.listener) links
arcs_summed f id [] = refl
arcs_summed f id (l ∷ links) = ap (λ n. f l.listener + n) (arcs_summed f (id + 1) links)
