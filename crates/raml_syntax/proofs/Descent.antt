-- Reading an expression, by what its first word says.
use Rattle.std.proofs.Common.{◌≡◌, ◌↔◌, inl, inr, ℕ, ◌+◌, ◌≤◌, ◌<◌, List, [], ◌∷◌, ◌++◌, Bool, true, false, if◌then◌else◌, nat_le, codes, Option, Some, None, Result, Ok, Err, refl, sym, ap, ap₂, subst, ◌∙◌}
use Rattle.std.proofs.lemmas.Bool.{le-leb, lt-leb, false≢true}
use Rattle.meta_base.specs.declared.ids.Place.{Place}
use Rattle.raml_lex.specs.declared.token.LexKind.TheVariants as lex
use Rattle.raml_lex.specs.Tokens.{Tok, word, number, left_paren, right_paren, comma, semicolon, dots, Step, end, bad, token, step_of}
use Rattle.raml_lex.specs.Lexers.{Lexer}
use Rattle.alg_model.specs.declared.alg.TheConstants.{MAX_TREE_NODES}
use Rattle.alg_model.specs.declared.tree.TableSpec.{TableSpec}
use Rattle.alg_model.specs.Expressions.{Expression, add, gate, table, PureCarrier}
use Rattle.alg_model.specs.Carriers.{carrier_of}
use Rattle.alg_model.specs.Formation.{node_count}
use Rattle.raml_syntax.specs.declared.faults.ExprKind.{ExprKind}
use Rattle.raml_syntax.specs.declared.faults.ExprKind.TheVariants.{TooLarge, CarriersDiffer}
use Rattle.raml_syntax.specs.declared.faults.AlgError.{AlgError}
use Rattle.raml_syntax.specs.declared.faults.AlgError.TheVariants.{Bad, NoMemory}
use Rattle.raml_syntax.specs.declared.heads.Head.{Head}
use Rattle.raml_syntax.specs.declared.heads.Head.TheVariants as h
use Rattle.raml_syntax.specs.Syntax.{Ranged, Counted, Paired, lex_head, scoped_head, union_head, sum_head, plus_head, Single, no_maps, IsSyntax, Syntax, named, add_syntax, ranged, counted, gate_syntax, table_syntax, paired, single, is_expression_word}
use Rattle.raml_syntax.specs.Meaning.{Definition, lookup, known, ranged_meaning, counted_meaning, paired_meaning, single_meaning, table_meaning, meaning}
use Rattle.raml_syntax.specs.Marks.{Mark, plain, counted_to, name_mark, last_number, table_marks, closing, marks}
use Rattle.raml_syntax.specs.Tests.{is_same_carrier}
use Rattle.raml_syntax.specs.Productions.{toks, Begins, Refuses, FaultAt}
use Rattle.raml_syntax.specs.Reading.{TakesOne}
use Rattle.raml_syntax.specs.Leaves.{TakesAt, Misses, IsRefusal, IsTok, IsWord}
use Rattle.raml_syntax.specs.Sequences.{Nothing, One, Then, Reads, IsDetermined, IsPossible, map_ok}
use Rattle.raml_syntax.specs.Trees.{Table, Expr}
use Rattle.raml_syntax.specs.Definitions.{ReadAs}
use Rattle.raml_syntax.specs.Heads.{ranged_of, counted_of, paired_of, single_of, head_word}
use Rattle.raml_syntax.specs.Forms.{After, NumberBefore, Last, RangedTail, CountedTail, TableTail, Closed, PairedTail, SingleTail, Tail, Resolves}
use Rattle.raml_syntax.proofs.Sequences.{reads_inside, reads_then, reads_not_first, one_determined, then_possible}
use Rattle.raml_syntax.proofs.OneToken.{one_good, one_bad, one_misses}
use Rattle.raml_syntax.proofs.Expressions.{for_name, for_add, for_ranged, for_counted, for_gate, for_table, for_paired, for_single, heads, head_in, head_of, first_word, head_first, starts, expr_determined}
use Rattle.raml_syntax.proofs.Expressions as form
use Rattle.raml_syntax.proofs.TestLaws.{same_carrier, carrier_self}
use Rattle.raml_syntax.proofs.After.{nothing_possible, reads_nothing, following_determined, following_possible}

-- The parts of what stands after a head, and what they make.

following_is : {R : Type 0} (t : Tok) (P : R → List Mark → Type 0) (r : R) (ms : List Mark) → After t P r ms → (xs : List Mark) × P r xs × (ms ≡ plain t ∷ xs)
following_is t P r ms (u, xs, ys, p, q, e) = (ys, q, e ∙ ap (λ l. l ++ ys) p)

following_at : {R : Type 0} (t : Tok) (P : R → List Mark → Type 0) (r : R) (ms : List Mark) → P r ms → After t P r (plain t ∷ ms)
following_at t P r ms p = (tt, plain t ∷ [], ms, refl, p, refl)

joined : (ms xs ys us vs : List Mark) → ms ≡ xs ++ ys → xs ≡ us → ys ≡ vs → ms ≡ us ++ vs
joined ms xs ys us vs e p q = e ∙ ap₂ (λ a b. a ++ b) p q

number_before_is : (t : Tok) (n : ℕ) (ms : List Mark) → NumberBefore t n ms → ms ≡ plain (number n) ∷ plain t ∷ []
number_before_is t n ms (m, xs, ys, p, q, e) =
    let b = following_is t (Nothing m) n ys q in
    joined ms xs ys (plain (number m) ∷ []) (plain t ∷ []) e p (b.2 ∙ ap (λ l. plain t ∷ l) b.1.1) ∙ ap (λ i. plain (number i) ∷ plain t ∷ []) (sym b.1.0)

number_before_at : (t : Tok) (n : ℕ) → NumberBefore t n (plain (number n) ∷ plain t ∷ [])
number_before_at t n = (n, plain (number n) ∷ [], plain t ∷ [], refl, following_at t (Nothing n) n [] (refl, refl), refl)

last_is : (f : ℕ → Expression) (a : Expression) (ms : List Mark) → Last f a ms → (n : ℕ) × (a ≡ f n) × (ms ≡ last_number n (f n) ∷ plain right_paren ∷ [])
last_is f a ms (n, xs, ys, p, q, e) =
    let b = following_is right_paren (Nothing (f n)) a ys q in
    (n, b.1.0, joined ms xs ys (last_number n (f n) ∷ []) (plain right_paren ∷ []) e p (b.2 ∙ ap (λ l. plain right_paren ∷ l) b.1.1))

last_at : (f : ℕ → Expression) (n : ℕ) → Last f (f n) (last_number n (f n) ∷ plain right_paren ∷ [])
last_at f n = (n, last_number n (f n) ∷ [], plain right_paren ∷ [], refl, following_at right_paren (Nothing (f n)) (f n) [] (refl, refl), refl)

closed_is : (k : Paired) (a b c : Expression) (ms : List Mark) → Closed k a b c ms → (c ≡ paired_meaning k a b) × (ms ≡ closing k a b ∷ [])
closed_is k a b c ms (u, xs, ys, p, q, e) = (q.0, joined ms xs ys (closing k a b ∷ []) [] e p q.1)

-- An expression from its head and what stands after it.

put_head : (ds : List Definition) (n : ℕ) (d : Head) (r : Expression) (ms : List Mark) → Tail ds (n + 1) d r ms → Expr ds n r (counted_to (n + 1) (head_word d) ∷ ms)
put_head ds n h.Add r ms t =
    let b = following_is left_paren (Then (NumberBefore dots) (λ low. Last (add low))) r ms t in
    let low = b.1.0 in
    let l = last_is (add low) r b.1.2 b.1.4 in
    record {
      syntax = add_syntax low l.0;
      is_syntax = tt;
      means = l.1;
      marks = ap (λ z. counted_to (n + 1) (codes "add") ∷ z)
          (b.2 ∙ ap (λ z. plain left_paren ∷ z) (joined b.0 b.1.1 b.1.2 _ _ b.1.5 (number_before_is dots low b.1.1 b.1.3) l.2));
    }
put_head ds n (h.Ranged k) r ms t =
    let f = ranged_meaning (ranged_of k) in
    let b = following_is left_paren (Then (NumberBefore semicolon) (λ top. Then (NumberBefore dots) (λ low. Last (f top low)))) r ms t in
    let top = b.1.0 in
    let c = b.1.4 in
    let low = c.0 in
    let l = last_is (f top low) r c.2 c.4 in
    record {
      syntax = ranged (ranged_of k) top low l.0;
      is_syntax = tt;
      means = l.1;
      marks = ap (λ z. counted_to (n + 1) (head_word (h.Ranged k)) ∷ z)
          (b.2 ∙ ap (λ z. plain left_paren ∷ z)
          (joined b.0 b.1.1 b.1.2 _ _ b.1.5 (number_before_is semicolon top b.1.1 b.1.3)
          (joined b.1.2 c.1 c.2 _ _ c.5 (number_before_is dots low c.1 c.3) l.2)));
    }
put_head ds n (h.Counted k) r ms t =
    let f = counted_meaning (counted_of k) in
    let b = following_is left_paren (Last f) r ms t in
    let l = last_is f r b.0 b.1 in
    record {
      syntax = counted (counted_of k) l.0;
      is_syntax = tt;
      means = l.1;
      marks = ap (λ z. counted_to (n + 1) (head_word (h.Counted k)) ∷ z) (b.2 ∙ ap (λ z. plain left_paren ∷ z) l.2);
    }
put_head ds n h.Gate r ms t = record {
  syntax = gate_syntax;
  is_syntax = tt;
  means = t.0;
  marks = ap (λ z. counted_to (n + 1) (codes "gate") ∷ z) t.1;
}
put_head ds n h.Table r ms t = record {
  syntax = table_syntax t.2.syntax;
  is_syntax = (t.2.first_row, t.2.other_rows);
  means = t.1 ∙ ap table t.2.means;
  marks = ap (λ z. counted_to (n + 1) (codes "table") ∷ z) t.2.marks;
}
put_head ds n (h.Paired k) r ms (a, us, vs, pa, (b, us2, vs2, pb, c, e2), e) =
    let i = paired_of k in
    let first = following_is left_paren (Expr ds (n + 1)) a us pa in
    let second = following_is comma (Expr ds (n + 1 + node_count a)) b us2 pb in
    let s = first.1.syntax in
    let u = second.1.syntax in
    let last = closed_is i a b r vs2 c in
    record {
      syntax = paired i s u;
      is_syntax = (first.1.is_syntax, second.1.is_syntax);
      means = last.0 ∙ ap₂ (paired_meaning i) first.1.means second.1.means;
      marks = ap (λ z. counted_to (n + 1) (head_word (h.Paired k)) ∷ z)
          (joined ms us vs (plain left_paren ∷ marks ds (n + 1) s) _ e (first.2 ∙ ap (λ z. plain left_paren ∷ z) first.1.marks)
          (joined vs us2 vs2 (plain comma ∷ marks ds (n + 1 + node_count (meaning ds s)) u) (closing i (meaning ds s) (meaning ds u) ∷ []) e2
          (second.2 ∙ ap (λ z. plain comma ∷ z) (second.1.marks ∙ ap (λ x. marks ds (n + 1 + node_count x) u) first.1.means))
          (last.1 ∙ ap₂ (λ x y. closing i x y ∷ []) first.1.means second.1.means)));
    }
put_head ds n (h.Single k) r ms (a, us, vs, pa, c, e) =
    let i = single_of k in
    let first = following_is left_paren (Expr ds (n + 1)) a us pa in
    let s = first.1.syntax in
    let last = following_is right_paren (Nothing (single_meaning i a)) r vs c in
    record {
      syntax = single i s;
      is_syntax = first.1.is_syntax;
      means = last.1.0 ∙ ap (single_meaning i) first.1.means;
      marks = ap (λ z. counted_to (n + 1) (head_word (h.Single k)) ∷ z)
          (joined ms us vs (plain left_paren ∷ marks ds (n + 1) s) (plain right_paren ∷ []) e (first.2 ∙ ap (λ z. plain left_paren ∷ z) first.1.marks) (last.2 ∙ ap (λ z. plain right_paren ∷ z) last.1.1));
    }

-- The form of an expression that begins with a head.

abbrev form_of : Head → form.Head
form_of h.Add = for_add
form_of (h.Ranged k) = for_ranged (ranged_of k)
form_of (h.Counted k) = for_counted (counted_of k)
form_of h.Gate = for_gate
form_of h.Table = for_table
form_of (h.Paired k) = for_paired (paired_of k)
form_of (h.Single k) = for_single (single_of k)

-- an expression of each form
abbrev some_of : Head → Syntax
some_of h.Add = add_syntax 0 0
some_of (h.Ranged k) = ranged (ranged_of k) 0 0 0
some_of (h.Counted k) = counted (counted_of k) 0
some_of h.Gate = gate_syntax
some_of h.Table = table_syntax (record { first = []; others = []; row = record { name = []; images = no_maps }; rows = [] })
some_of (h.Paired k) = paired (paired_of k) gate_syntax gate_syntax
some_of (h.Single k) = single (single_of k) gate_syntax

some_is : (d : Head) → IsSyntax (some_of d)
some_is h.Add = tt
some_is (h.Ranged k) = tt
some_is (h.Counted k) = tt
some_is h.Gate = tt
some_is h.Table = (tt, tt)
some_is (h.Paired k) = (tt, tt)
some_is (h.Single k) = tt

some_begins : (ds : List Definition) (n : ℕ) (d : Head) → (more : List Mark) × (marks ds n (some_of d) ≡ counted_to (n + 1) (head_word d) ∷ more)
some_begins ds n h.Add = (_, refl)
some_begins ds n (h.Ranged k) = (_, refl)
some_begins ds n (h.Counted k) = (_, refl)
some_begins ds n h.Gate = (_, refl)
some_begins ds n h.Table = (_, refl)
some_begins ds n (h.Paired k) = (_, refl)
some_begins ds n (h.Single k) = (_, refl)

word_form : (d : Head) → head_in heads (head_word d) ≡ form_of d
word_form h.Add = head_first (some_of h.Add) (some_is h.Add)
word_form (h.Ranged k) = head_first (some_of (h.Ranged k)) (some_is (h.Ranged k))
word_form (h.Counted k) = head_first (some_of (h.Counted k)) (some_is (h.Counted k))
word_form h.Gate = head_first (some_of h.Gate) (some_is h.Gate)
word_form h.Table = head_first (some_of h.Table) (some_is h.Table)
word_form (h.Paired k) = head_first (some_of (h.Paired k)) (some_is (h.Paired k))
word_form (h.Single k) = head_first (some_of (h.Single k)) (some_is (h.Single k))

-- what stands after the head of a tree of this form
abbrev FollowingHead : List Definition → ℕ → Head → Syntax → Type 0
FollowingHead ds n d s = (xs : List Mark) × Tail ds (n + 1) d (meaning ds s) xs × (marks ds n s ≡ counted_to (n + 1) (head_word d) ∷ xs)

add_parts : (ds : List Definition) (n low high : ℕ) → FollowingHead ds n h.Add (add_syntax low high)
add_parts ds n low high =
    (_, following_at left_paren (Then (NumberBefore dots) (λ l. Last (add l))) (add low high) _ (low, _, _, number_before_at dots low, last_at (add low) high, refl), refl)

ranged_parts : (ds : List Definition) (n : ℕ) (k : Ranged) (top low high : ℕ)
    → (xs : List Mark) × RangedTail k (ranged_meaning k top low high) xs × (marks ds n (ranged k top low high) ≡ counted_to (n + 1) (first_word (ranged k top low high)) ∷ xs)
ranged_parts ds n k top low high = (
  _,
  following_at left_paren (Then (NumberBefore semicolon) (λ t. Then (NumberBefore dots) (λ l. Last (ranged_meaning k t l)))) (ranged_meaning k top low high) _
      (top, _, _, number_before_at semicolon top, (low, _, _, number_before_at dots low, last_at (ranged_meaning k top low) high, refl), refl),
  refl,
)

counted_parts : (ds : List Definition) (n : ℕ) (k : Counted) (count : ℕ)
    → (xs : List Mark) × CountedTail k (counted_meaning k count) xs × (marks ds n (counted k count) ≡ counted_to (n + 1) (first_word (counted k count)) ∷ xs)
counted_parts ds n k count = (_, following_at left_paren (Last (counted_meaning k)) (counted_meaning k count) _ (last_at (counted_meaning k) count), refl)

whole : (ds : List Definition) (n : ℕ) (s : Syntax) → IsSyntax s → Expr ds n (meaning ds s) (marks ds n s)
whole ds n s p = record { syntax = s; is_syntax = p; means = refl; marks = refl }

paired_parts : (ds : List Definition) (n : ℕ) (k : Paired) (s u : Syntax) → IsSyntax s → IsSyntax u
    → (xs : List Mark) × PairedTail ds (n + 1) k (meaning ds (paired k s u)) xs × (marks ds n (paired k s u) ≡ counted_to (n + 1) (first_word (paired k s u)) ∷ xs)
paired_parts ds n k s u p q =
    let a = meaning ds s in
    let b = meaning ds u in (
      _,
      (
        a,
        plain left_paren ∷ marks ds (n + 1) s,
        plain comma ∷ (marks ds (n + 1 + node_count a) u ++ closing k a b ∷ []),
        following_at left_paren (Expr ds (n + 1)) a (marks ds (n + 1) s) (whole ds (n + 1) s p),
        (
          b,
          plain comma ∷ marks ds (n + 1 + node_count a) u,
          closing k a b ∷ [],
          following_at comma (Expr ds (n + 1 + node_count a)) b (marks ds (n + 1 + node_count a) u) (whole ds (n + 1 + node_count a) u q),
          (tt, closing k a b ∷ [], [], refl, (refl, refl), refl),
          refl,
        ),
        refl,
      ),
      refl,
    )

single_parts : (ds : List Definition) (n : ℕ) (k : Single) (s : Syntax) → IsSyntax s
    → (xs : List Mark) × SingleTail ds (n + 1) k (meaning ds (single k s)) xs × (marks ds n (single k s) ≡ counted_to (n + 1) (first_word (single k s)) ∷ xs)
single_parts ds n k s p =
    let a = meaning ds s in (
      _,
      (
        a,
        plain left_paren ∷ marks ds (n + 1) s,
        plain right_paren ∷ [],
        following_at left_paren (Expr ds (n + 1)) a (marks ds (n + 1) s) (whole ds (n + 1) s p),
        following_at right_paren (Nothing (single_meaning k a)) (single_meaning k a) [] (refl, refl),
        refl,
      ),
      refl,
    )

tail_parts : (ds : List Definition) (n : ℕ) (d : Head) (s : Syntax) → IsSyntax s → head_of s ≡ form_of d → FollowingHead ds n d s
tail_parts ds n h.Add (add_syntax low high) p e = add_parts ds n low high
tail_parts ds n (h.Ranged k) (ranged j top low high) p e =
    let same : j ≡ ranged_of k = cc in
    subst (λ i. (xs : List Mark) × RangedTail i (ranged_meaning j top low high) xs × (marks ds n (ranged j top low high) ≡ counted_to (n + 1) (first_word (ranged i top low high)) ∷ xs)) same (ranged_parts ds n j top low high)
tail_parts ds n (h.Counted k) (counted j count) p e =
    let same : j ≡ counted_of k = cc in
    subst (λ i. (xs : List Mark) × CountedTail i (counted_meaning j count) xs × (marks ds n (counted j count) ≡ counted_to (n + 1) (first_word (counted i count)) ∷ xs)) same (counted_parts ds n j count)
tail_parts ds n h.Gate gate_syntax p e = ([], (refl, refl), refl)
tail_parts ds n h.Table (table_syntax t) p e =
    (table_marks t, (table_meaning t, refl, record { syntax = t; first_row = p.0; other_rows = p.1; means = refl; marks = refl }), refl)
tail_parts ds n (h.Paired k) (paired j s u) p e =
    let same : j ≡ paired_of k = cc in
    subst (λ i. (xs : List Mark) × PairedTail ds (n + 1) i (meaning ds (paired j s u)) xs × (marks ds n (paired j s u) ≡ counted_to (n + 1) (first_word (paired i s u)) ∷ xs)) same (paired_parts ds n j s u p.0 p.1)
tail_parts ds n (h.Single k) (single j s) p e =
    let same : j ≡ single_of k = cc in
    subst (λ i. (xs : List Mark) × SingleTail ds (n + 1) i (meaning ds (single j s)) xs × (marks ds n (single j s) ≡ counted_to (n + 1) (first_word (single i s)) ∷ xs)) same (single_parts ds n j s p)
tail_parts ds n _ _ p e = absurd (cc)

-- a tree whose marks begin with a head's word is of the head's form
head_parts : (ds : List Definition) (n : ℕ) (d : Head) (s : Syntax) → IsSyntax s → (y z : List Tok) → toks (marks ds n s) ++ y ≡ word (head_word d) ∷ z → FollowingHead ds n d s
head_parts ds n d s p y z h =
    let b = starts ds n s in
    let e : toks (b.0 ∷ b.1) ++ y ≡ word (head_word d) ∷ z = ap (λ l. toks l ++ y) (sym b.2) ∙ h in
    let first : b.0.tok ≡ word (head_word d) = cc in
    let words : word (first_word s) ≡ word (head_word d) = sym b.3 ∙ first in
    let same : first_word s ≡ head_word d = cc in
    tail_parts ds n d s p (sym (head_first s p) ∙ ap (head_in heads) same ∙ word_form d)

-- What the first word comes to.

expr_begins : (ds : List Definition) (n : ℕ) → Begins (Expr ds n) []
expr_begins ds n = (gate, counted_to (n + 1) (codes "gate"), [], whole ds n gate_syntax tt)

pub expr_possible : (ds : List Definition) (n : ℕ) → IsPossible (Expr ds n)
expr_possible ds n = (gate, counted_to (n + 1) (codes "gate") ∷ [], whole ds n gate_syntax tt)

expr_refuses : (ds : List Definition) (n : ℕ) (t : Tok) → (IsWord t → ⊥) → Refuses (Expr ds n) [] t
expr_refuses ds n t misses r ms y z p h =
    let s = starts ds n p.syntax in
    let e : toks (s.0 ∷ s.1) ++ y ≡ t ∷ z = ap (λ l. toks l ++ y) (sym (p.marks ∙ s.2)) ∙ h in
    let same : s.0.tok ≡ t = cc in
    misses (first_word p.syntax, sym same ∙ s.3)

expr_missing : (ds : List Definition) (n : ℕ) (s : Step) (k : ExprKind) → Misses IsWord s k → FaultAt (Expr ds n) [] s k
expr_missing ds n end k l = (l, expr_begins ds n)
expr_missing ds n (bad lex.BadByte) k l = (l, expr_begins ds n)
expr_missing ds n (bad lex.NumberTooLarge) k l = inr (l, expr_begins ds n, λ m. expr_refuses ds n (number m) (λ w. let e = w.1 in cc))
expr_missing ds n (token t rest) k l = inr (l.0, expr_begins ds n, expr_refuses ds n t l.1)

-- no word stands there
pub expr_misses : (ds : List Definition) (n : ℕ) (old new : Lexer) (e : AlgError) → IsRefusal (Misses IsWord) old e → Reads (Expr ds n) old (Err e) new
expr_misses ds n old new (Bad f) l = record {
  front = [];
  at = old;
  taken = refl;
  place = l.0;
  shows = expr_missing ds n (step_of old.greatest old.rest) f.kind l.1;
}
expr_misses ds n old new NoMemory l = absurd l

-- a fault stands at the word
expr_bad : (ds : List Definition) (n : ℕ) (w : List ℕ) (k : ExprKind) (p : Place) (old mid new : Lexer) (r : Expression) (more : List Mark)
    → Expr ds n r (record { tok = word w; fault = Some k } ∷ more) → TakesAt (word w) p old mid → Reads (Expr ds n) old (Err (Bad (record { kind = k; place = p }))) new
expr_bad ds n w k p old mid new r more x takes = record {
  front = [];
  at = old;
  taken = refl;
  place = takes.place;
  shows = subst (λ s. FaultAt (Expr ds n) [] s k) (sym takes.takes.step) (inl (r, more, x));
}

-- a head with which the tree is too large
pub head_too_large : (ds : List Definition) (n : ℕ) (d : Head) (p : Place) (old mid new : Lexer) → MAX_TREE_NODES < n + 1 → TakesAt (word (head_word d)) p old mid
    → Reads (Expr ds n) old (Err (Bad (record { kind = TooLarge; place = p }))) new
head_too_large ds n d p old mid new large takes =
    let b = some_begins ds n d in
    let x : Expr ds n (meaning ds (some_of d)) (counted_to (n + 1) (head_word d) ∷ b.0) = record { syntax = some_of d; is_syntax = some_is d; means = refl; marks = sym b.1 } in
    let above : nat_le (n + 1) MAX_TREE_NODES ≡ false = lt-leb (n + 1) MAX_TREE_NODES large in
    expr_bad ds n (head_word d) TooLarge p old mid new (meaning ds (some_of d)) b.0
    (subst (λ v. Expr ds n (meaning ds (some_of d)) (record { tok = word (head_word d); fault = if v then None else Some TooLarge } ∷ b.0)) above x) takes

pub map_same : {R : Type 0} (result : Result R AlgError) → map_ok (λ (r : R). r) result ≡ result
map_same (Ok r) = refl
map_same (Err e) = refl

-- a head, and what stands after it
pub head_then : (ds : List Definition) (n : ℕ) (d : Head) (old mid new : Lexer) (result : Result Expression AlgError) → n + 1 ≤ MAX_TREE_NODES → TakesOne (word (head_word d)) old mid
    → Reads (Tail ds (n + 1) d) mid result new → Reads (Expr ds n) old result new
head_then ds n d old mid new result room takes x =
    subst (λ r. Reads (Expr ds n) old r new) (map_same result)
    (reads_inside (Tail ds (n + 1) d) (Expr ds n) (λ r. r) (word (head_word d) ∷ []) old mid new result (mid, takes, refl) put parts x)
  where
    put : (r : Expression) (ms : List Mark) → Tail ds (n + 1) d r ms → Expr ds n r (plain (word (head_word d)) ∷ ms)
    put r ms t =
        subst (λ v. Expr ds n r (record { tok = word (head_word d); fault = if v then None else Some TooLarge } ∷ ms)) (le-leb (n + 1) MAX_TREE_NODES room) (put_head ds n d r ms t)

    parts : (s : Expression) (ms : List Mark) (y z : List Tok) → Expr ds n s ms → toks ms ++ y ≡ word (head_word d) ∷ z
        → (r : Expression) × (xs : List Mark) × Tail ds (n + 1) d r xs × (toks ms ≡ word (head_word d) ∷ toks xs)
    parts s ms y z p h = let t = head_parts ds n d p.syntax p.is_syntax y z (ap (λ l. toks l ++ y) (sym p.marks) ∙ h) in (meaning ds p.syntax, t.0, t.1, ap toks (p.marks ∙ t.2))

name_is : (n : ℕ) (w : List ℕ) (o : Option Expression) (fault : Option ExprKind) → (name_mark n w o).fault ≡ fault → name_mark n w o ≡ record { tok = word w; fault = fault }
name_is n w None fault e = ap (λ f. record { tok = word w; fault = f }) e
name_is n w (Some a) fault e = ap (λ f. record { tok = word w; fault = f }) e

-- a name was read
pub name_reads : (ds : List Definition) (n : ℕ) (w : List ℕ) (p : Place) (old new : Lexer) (result : Result Expression AlgError) → is_expression_word w ≡ false → TakesAt (word w) p old new
    → Resolves ds n w p result → Reads (Expr ds n) old result new
name_reads ds n w p old new (Ok a) is takes x =
    (word w ∷ [], record { syntax = named w; is_syntax = is; means = x.0; marks = ap (λ m. m ∷ []) (sym (name_is n w (lookup ds w) None x.1)) }, (new, takes.takes, refl))
name_reads ds n w p old new (Err (Bad f)) is takes x =
    subst (λ q. Reads (Expr ds n) old (Err (Bad (record { kind = f.kind; place = q }))) new) (sym x.0)
    (expr_bad ds n w f.kind p old new new (known (lookup ds w)) []
    (record { syntax = named w; is_syntax = is; means = refl; marks = ap (λ m. m ∷ []) (sym (name_is n w (lookup ds w) (Some f.kind) x.1)) }) takes)
name_reads ds n w p old new (Err NoMemory) is takes x = tt

-- The parenthesis after two parts.

closing_tok : (k : Paired) (a b : Expression) → (closing k a b).tok ≡ right_paren
closing_tok lex_head a b = refl
closing_tok scoped_head a b = refl
closing_tok union_head a b = refl
closing_tok sum_head a b = refl
closing_tok plus_head a b = refl

pub closed_possible : (k : Paired) (a b : Expression) → IsPossible (Closed k a b)
closed_possible k a b = (paired_meaning k a b, closing k a b ∷ [], (tt, closing k a b ∷ [], [], refl, (refl, refl), refl))

pub closed_misses : (k : Paired) (a b : Expression) (old new : Lexer) (e : AlgError) → IsRefusal (Misses (IsTok right_paren)) old e → Reads (Closed k a b) old (Err e) new
closed_misses k a b old new e l =
    reads_not_first (One (λ (u : Unit {0}). closing k a b)) (λ (u : Unit {0}). Nothing (paired_meaning k a b)) old new e (λ u. nothing_possible (paired_meaning k a b))
    (one_misses (λ (u : Unit {0}). closing k a b) tt (IsTok right_paren) e old new (λ u. closing_tok k a b) (λ n f. cc) l)

pub closed_differs : (k : Paired) (a b : Expression) (p : Place) (old mid new : Lexer) → (closing k a b).fault ≡ Some CarriersDiffer → TakesAt right_paren p old mid
    → Reads (Closed k a b) old (Err (Bad (record { kind = CarriersDiffer; place = p }))) new
closed_differs k a b p old mid new differs takes =
    reads_not_first (One (λ (u : Unit {0}). closing k a b)) (λ (u : Unit {0}). Nothing (paired_meaning k a b)) old new (Bad (record { kind = CarriersDiffer; place = p })) (λ u. nothing_possible (paired_meaning k a b))
    (one_bad (λ (u : Unit {0}). closing k a b) tt right_paren CarriersDiffer p old mid new (closing_tok k a b) differs takes)

pub closed_good : (k : Paired) (a b : Expression) (old new : Lexer) → (closing k a b).fault ≡ None → TakesOne right_paren old new → Reads (Closed k a b) old (Ok (paired_meaning k a b)) new
closed_good k a b old new good takes =
    reads_then (One (λ (u : Unit {0}). closing k a b)) (λ (u : Unit {0}). Nothing (paired_meaning k a b)) old new new tt (Ok (paired_meaning k a b))
    (one_determined (λ (u : Unit {0}). closing k a b) (λ u v h. refl)) (one_good (λ (u : Unit {0}). closing k a b) tt right_paren old new (closing_tok k a b) good takes) (reads_nothing (paired_meaning k a b) new)

-- A table as a tree.

pub table_reads : (old new : Lexer) (result : Result TableSpec AlgError) → Reads Table old result new → Reads TableTail old (map_ok table result) new
table_reads old new result x = reads_inside Table TableTail table [] old old new result refl (λ t ms p. (t, refl, p)) (λ s ms y z p h. (p.0, ms, p.2, refl)) x

-- a test of carriers is that of the rule
same_test : (b : Bool) (c d : PureCarrier) → ((b ≡ true) ↔ (c ≡ d)) → b ≡ is_same_carrier c d
same_test true c d h = sym (subst (λ x. is_same_carrier c x ≡ true) (h.0 refl) (carrier_self c))
same_test false c d h = by (is_same_carrier c d) refl
  where
    by : (b : Bool) → is_same_carrier c d ≡ b → false ≡ is_same_carrier c d
    by false e = sym e
    by true e = absurd (false≢true (h.1 (same_carrier c d e)))

-- the fault at the parenthesis after a `plus`
pub plus_test : (b : Bool) (a c : Expression) → ((b ≡ true) ↔ (carrier_of a ≡ carrier_of c)) → (if b then None else Some CarriersDiffer) ≡ (closing plus_head a c).fault
plus_test b a c h = ap (λ v. if v then None else Some CarriersDiffer) (same_test b (carrier_of a) (carrier_of c) h)

-- Operators and their parts.

-- what stands after the first of two parts
abbrev Second : List Definition → ℕ → Paired → Expression → Expression → List Mark → Type 0
Second ds n k a = Then (After comma (Expr ds (n + node_count a))) (Closed k a)

part_determined : (ds : List Definition) (n : ℕ) (t : Tok) → IsDetermined (After t (Expr ds n))
part_determined ds n t = following_determined t (Expr ds n) (expr_determined ds n)

second_possible : (ds : List Definition) (n : ℕ) (k : Paired) (a : Expression) → IsPossible (Second ds n k a)
second_possible ds n k a =
    then_possible (After comma (Expr ds (n + node_count a))) (Closed k a) (following_possible comma (Expr ds (n + node_count a)) (expr_possible ds (n + node_count a))) (closed_possible k a)

pub paired_not_first : (ds : List Definition) (n : ℕ) (k : Paired) (old new : Lexer) (e : AlgError) → Reads (After left_paren (Expr ds n)) old (Err e) new → Reads (PairedTail ds n k) old (Err e) new
paired_not_first ds n k old new e x = reads_not_first (After left_paren (Expr ds n)) (Second ds n k) old new e (second_possible ds n k) x

paired_then : (ds : List Definition) (n : ℕ) (k : Paired) (a : Expression) (old mid new : Lexer) (result : Result Expression AlgError) → Reads (After left_paren (Expr ds n)) old (Ok a) mid → Reads (Second ds n k a) mid result new
    → Reads (PairedTail ds n k) old result new
paired_then ds n k a old mid new result x y = reads_then (After left_paren (Expr ds n)) (Second ds n k) old mid new a result (part_determined ds n left_paren) x y

pub paired_not_second : (ds : List Definition) (n m : ℕ) (k : Paired) (a : Expression) (old mid new : Lexer) (e : AlgError) → Reads (After left_paren (Expr ds n)) old (Ok a) mid → m ≡ n + node_count a
    → Reads (After comma (Expr ds m)) mid (Err e) new → Reads (PairedTail ds n k) old (Err e) new
paired_not_second ds n m k a old mid new e x nodes y =
    paired_then ds n k a old mid new (Err e) x
    (reads_not_first (After comma (Expr ds (n + node_count a))) (Closed k a) mid new e (closed_possible k a) (subst (λ i. Reads (After comma (Expr ds i)) mid (Err e) new) nodes y))

pub paired_reads : (ds : List Definition) (n m : ℕ) (k : Paired) (a b : Expression) (old mid last new : Lexer) (result : Result Expression AlgError) → Reads (After left_paren (Expr ds n)) old (Ok a) mid → m ≡ n + node_count a
    → Reads (After comma (Expr ds m)) mid (Ok b) last → Reads (Closed k a b) last result new → Reads (PairedTail ds n k) old result new
paired_reads ds n m k a b old mid last new result x nodes y z =
    paired_then ds n k a old mid new result x
    (reads_then (After comma (Expr ds (n + node_count a))) (Closed k a) mid last new b result (part_determined ds (n + node_count a) comma)
    (subst (λ i. Reads (After comma (Expr ds i)) mid (Ok b) last) nodes y) z)

pub single_not_part : (ds : List Definition) (n : ℕ) (k : Single) (old new : Lexer) (e : AlgError) → Reads (After left_paren (Expr ds n)) old (Err e) new → Reads (SingleTail ds n k) old (Err e) new
single_not_part ds n k old new e x =
    reads_not_first (After left_paren (Expr ds n)) (λ a. After right_paren (Nothing (single_meaning k a))) old new e (λ a. following_possible right_paren (Nothing (single_meaning k a)) (nothing_possible (single_meaning k a))) x

pub single_reads : (ds : List Definition) (n : ℕ) (k : Single) (a : Expression) (old mid new : Lexer) (result : Result Expression AlgError) → Reads (After left_paren (Expr ds n)) old (Ok a) mid
    → Reads (After right_paren (Nothing (single_meaning k a))) mid result new → Reads (SingleTail ds n k) old result new
single_reads ds n k a old mid new result x y =
    reads_then (After left_paren (Expr ds n)) (λ a. After right_paren (Nothing (single_meaning k a))) old mid new a result (part_determined ds n left_paren) x y

-- What was read came to this.

pub read_as : (P : Expression → List Mark → Type 0) (old new : Lexer) (read result : Result Expression AlgError) → ReadAs read result → Reads P old read new → Reads P old result new
read_as P old new read (Ok a) e x = subst (λ r. Reads P old r new) e x
read_as P old new read (Err (Bad f)) e x = subst (λ r. Reads P old r new) e x
read_as P old new read (Err NoMemory) e x = tt
