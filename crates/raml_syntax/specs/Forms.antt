-- What stands after the word that begins an expression.
use Rattle.std.specs.Prelude.{◌≡◌, ℕ, ◌+◌, List, Some, None, Result, Ok, Err}
use Rattle.meta_base.specs.declared.ids.Place.{Place}
use Rattle.raml_lex.specs.Tokens.{Tok, left_paren, right_paren, comma, semicolon, dots}
use Rattle.raml_lex.specs.Tokens as tok
use Rattle.alg_model.specs.declared.tree.TableSpec.{TableSpec}
use Rattle.alg_model.specs.Expressions.{Expression, add, gate, table}
use Rattle.alg_model.specs.Formation.{node_count}
use Rattle.raml_syntax.specs.declared.faults.AlgError.{AlgError}
use Rattle.raml_syntax.specs.declared.faults.AlgError.TheVariants.{Bad, NoMemory}
use Rattle.raml_syntax.specs.declared.heads.Head.{Head}
use Rattle.raml_syntax.specs.declared.heads.Head.TheVariants as h
use Rattle.raml_syntax.specs.declared.base.Begun.{Begun}
use Rattle.raml_syntax.specs.declared.base.Begun.TheVariants as b
use Rattle.raml_syntax.specs.Syntax.{Ranged, Counted, Paired, Single}
use Rattle.raml_syntax.specs.Meaning.{Definition, lookup, known, ranged_meaning, counted_meaning, paired_meaning, single_meaning}
use Rattle.raml_syntax.specs.Marks.{Mark, plain, name_mark, last_number, closing}
use Rattle.raml_syntax.specs.Sequences.{Nothing, One, Then}
use Rattle.raml_syntax.specs.Trees.{Table, Expr}
use Rattle.raml_syntax.specs.Heads.{ranged_of, counted_of, paired_of, single_of}

-- this token, and then the production
abbrev pub After : {R : Type 0} → Tok → (R → List Mark → Type 0) → R → List Mark → Type 0
After {R} t P = Then (One (λ (u : Unit {0}). plain t)) (λ (u : Unit {0}). P)

-- a number and this token after it
abbrev pub NumberBefore : Tok → ℕ → List Mark → Type 0
NumberBefore t = Then (One (λ n. plain (tok.number n))) (λ n. After t (Nothing n))

-- the last number of a base algebra, and the parenthesis after it
abbrev pub Last : (ℕ → Expression) → Expression → List Mark → Type 0
Last f = Then (One (λ n. last_number n (f n))) (λ n. After right_paren (Nothing (f n)))

-- the base algebra that its last number makes of one
abbrev pub finished : Begun → ℕ → Expression
finished (b.Add low) n = add low n
finished (b.Ranged k top low) n = ranged_meaning (ranged_of k) top low n
finished (b.Counted k) n = counted_meaning (counted_of k) n

abbrev pub AddTail : Expression → List Mark → Type 0
AddTail = After left_paren (Then (NumberBefore dots) (λ low. Last (add low)))

abbrev pub RangedTail : Ranged → Expression → List Mark → Type 0
RangedTail k = After left_paren (Then (NumberBefore semicolon) (λ top. Then (NumberBefore dots) (λ low. Last (ranged_meaning k top low))))

abbrev pub CountedTail : Counted → Expression → List Mark → Type 0
CountedTail k = After left_paren (Last (counted_meaning k))

abbrev pub TableTail : Expression → List Mark → Type 0
TableTail a ms = (t : TableSpec) × (a ≡ table t) × Table t ms

-- the parenthesis that closes two parts
abbrev pub Closed : Paired → Expression → Expression → Expression → List Mark → Type 0
Closed k a b = Then (One (λ (u : Unit {0}). closing k a b)) (λ (u : Unit {0}). Nothing (paired_meaning k a b))

abbrev pub PairedTail : List Definition → ℕ → Paired → Expression → List Mark → Type 0
PairedTail ds nodes k = Then (After left_paren (Expr ds nodes)) (λ a. Then (After comma (Expr ds (nodes + node_count a))) (λ b. Closed k a b))

abbrev pub SingleTail : List Definition → ℕ → Single → Expression → List Mark → Type 0
SingleTail ds nodes k = Then (After left_paren (Expr ds nodes)) (λ a. After right_paren (Nothing (single_meaning k a)))

-- what stands after this head, which is counted among the nodes
abbrev pub Tail : List Definition → ℕ → Head → Expression → List Mark → Type 0
Tail ds nodes h.Add = AddTail
Tail ds nodes (h.Ranged k) = RangedTail (ranged_of k)
Tail ds nodes (h.Counted k) = CountedTail (counted_of k)
Tail ds nodes h.Gate = Nothing gate
Tail ds nodes h.Table = TableTail
Tail ds nodes (h.Paired k) = PairedTail ds nodes (paired_of k)
Tail ds nodes (h.Single k) = SingleTail ds nodes (single_of k)

-- what the name at this place, after so many nodes, comes to
abbrev pub Resolves : List Definition → ℕ → List ℕ → Place → Result Expression AlgError → Type 0
Resolves ds nodes w here (Ok a) = (a ≡ known (lookup ds w)) × ((name_mark nodes w (lookup ds w)).fault ≡ None)
Resolves ds nodes w here (Err (Bad f)) = (f.place ≡ here) × ((name_mark nodes w (lookup ds w)).fault ≡ Some f.kind)
Resolves ds nodes w here (Err NoMemory) = Unit {0}
