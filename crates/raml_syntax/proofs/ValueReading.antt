-- Reading the values of a table.
use Rattle.std.proofs.Common.{◌≡◌, ℕ, ◌+◌, ◌≤◌, arith, Bool, true, false, List, [], ◌∷◌, ◌++◌, map, Result, Ok, Err, refl, sym, ap, ◌∙◌, append_assoc, append-nil}
use Rattle.raml_lex.specs.declared.token.TokenKind.{TokenKind}
use Rattle.raml_lex.specs.declared.token.TokenKind.TheVariants as kind
use Rattle.raml_lex.specs.Tokens.{Tok, word, number, equals, less, semicolon}
use Rattle.raml_lex.specs.Lexers.{Lexer}
use Rattle.raml_lex.specs.Views.{tok_of}
use Rattle.raml_syntax.specs.declared.faults.AlgError.{AlgError}
use Rattle.raml_syntax.specs.declared.values.AfterValue.{AfterValue}
use Rattle.raml_syntax.specs.declared.values.AfterValue.TheVariants as after
use Rattle.raml_syntax.specs.declared.values.ValueList.{ValueList}
use Rattle.raml_syntax.specs.Syntax.{ValueSyntax}
use Rattle.raml_syntax.specs.Meaning.{ranks_from}
use Rattle.raml_syntax.specs.Marks.{Mark, plain, own_name, rank_tok, values_marks}
use Rattle.raml_syntax.specs.Productions.{toks}
use Rattle.raml_syntax.specs.Sequences.{Nothing, One, Then, Reads, IsDetermined, IsPossible}
use Rattle.raml_syntax.specs.Values.{after_value, rank_following, MoreValues, Values}
use Rattle.raml_syntax.proofs.Sequences.{reads_then, reads_not_first, one_determined, then_determined, then_possible}
use Rattle.raml_syntax.proofs.Tested.{Leads, reads_at, reads_same, reads_nothing, same_kind, words_determined}

pub value_no_number : (a : AfterValue) (n : ℕ) → (after_value a).tok ≡ number n → ⊥
value_no_number (after.Value true) n e = absurd (cc)
value_no_number (after.Value false) n e = absurd (cc)
value_no_number after.Rows n e = absurd (cc)

pub value_no_other : (k : TokenKind) (text : List ℕ) → (k ≡ kind.Equals → ⊥) → (k ≡ kind.Less → ⊥) → (k ≡ kind.Semicolon → ⊥) → (a : AfterValue) → (after_value a).tok ≡ tok_of k text → ⊥
value_no_other k text f g h (after.Value true) e = f (same_kind equals k text e)
value_no_other k text f g h (after.Value false) e = g (same_kind less k text e)
value_no_other k text f g h after.Rows e = h (same_kind semicolon k text e)

rank_same : (a b : Bool) → rank_tok a ≡ rank_tok b → a ≡ b
rank_same true true e = refl
rank_same true false e = absurd (cc)
rank_same false true e = absurd (cc)
rank_same false false e = refl

rank_no_semicolon : (a : Bool) → rank_tok a ≡ semicolon → ⊥
rank_no_semicolon true e = absurd (cc)
rank_no_semicolon false e = absurd (cc)

after_same : (a b : AfterValue) → (after_value a).tok ≡ (after_value b).tok → a ≡ b
after_same (after.Value a) (after.Value b) e = ap after.Value (rank_same a b e)
after_same (after.Value a) after.Rows e = absurd (rank_no_semicolon a e)
after_same after.Rows (after.Value b) e = absurd (rank_no_semicolon b (sym e))
after_same after.Rows after.Rows e = refl

after_determined : IsDetermined (One after_value)
after_determined = one_determined after_value after_same

pub name_determined : (before : List (List ℕ)) → IsDetermined (One (own_name before))
name_determined before = one_determined (own_name before) (words_determined (own_name before) (λ w. refl))

value_same : (v u : ValueSyntax) → v.is_tied ≡ u.is_tied → v.name ≡ u.name → v ≡ u
value_same v u e f =
    let make : Bool → List ℕ → ValueSyntax = λ is_tied name. record { is_tied = is_tied; name = name } in
    ap (λ b. make b v.name) e ∙ ap (λ n. make u.is_tied n) f

-- no values begin others
values_same : (before : List (List ℕ)) (vs us : List ValueSyntax) (y z : List Tok)
    → toks (values_marks before vs ++ plain semicolon ∷ []) ++ y ≡ toks (values_marks before us ++ plain semicolon ∷ []) ++ z → vs ≡ us
values_same before [] [] y z h = refl
values_same before [] (u ∷ us) y z h = absurd (rank_no_semicolon u.is_tied (let e : semicolon ≡ rank_tok u.is_tied = cc in sym e))
values_same before (v ∷ vs) [] y z h = absurd (rank_no_semicolon v.is_tied (cc))
values_same before (v ∷ vs) (u ∷ us) y z h =
    let k : rank_tok v.is_tied ∷ word v.name ∷ (toks (values_marks (before ++ v.name ∷ []) vs ++ plain semicolon ∷ []) ++ y)
    ≡ rank_tok u.is_tied ∷ word u.name ∷ (toks (values_marks (before ++ u.name ∷ []) us ++ plain semicolon ∷ []) ++ z) = h in
    let tied : v.is_tied ≡ u.is_tied = rank_same v.is_tied u.is_tied (cc) in
    let name : v.name ≡ u.name = cc in
    let more : toks (values_marks (before ++ v.name ∷ []) vs ++ plain semicolon ∷ []) ++ y ≡ toks (values_marks (before ++ u.name ∷ []) us ++ plain semicolon ∷ []) ++ z = cc in
    let rest : vs ≡ us =
    values_same (before ++ v.name ∷ []) vs us y z (more ∙ ap (λ w. toks (values_marks (before ++ w ∷ []) us ++ plain semicolon ∷ []) ++ z) (sym name)) in
    let first : v ≡ u = value_same v u tied name in
    cc

more_determined : (done : ValueList) (rank : ℕ) → IsDetermined (MoreValues done rank)
more_determined done rank r s xs ys y z p q h =
    let e = values_same done.names p.0 q.0 y z (ap (λ l. toks l ++ y) (sym p.2) ∙ h ∙ ap (λ l. toks l ++ z) q.2) in
    let P : List ValueSyntax → ValueList = λ more. record { names = done.names ++ map (λ (v : ValueSyntax). v.name) more; ranks = done.ranks ++ ranks_from rank more } in
    (p.1 ∙ ap P e ∙ sym q.1, p.2 ∙ ap (λ vs. values_marks done.names vs ++ plain semicolon ∷ []) e ∙ sym q.2)

more_possible : (done : ValueList) (rank : ℕ) → IsPossible (MoreValues done rank)
more_possible done rank = (record { names = done.names ++ []; ranks = done.ranks ++ [] }, plain semicolon ∷ [], ([], refl, refl))

pub values_determined : IsDetermined Values
values_determined = then_determined (One (own_name [])) _ (name_determined []) (λ first. more_determined (record { names = first ∷ []; ranks = 0 ∷ [] }) 0)

-- one value more
abbrev pub pushed : ValueList → List ℕ → ℕ → ValueList
pushed done name rank = record { names = done.names ++ name ∷ []; ranks = done.ranks ++ rank ∷ [] }

-- what follows a mark after a value
abbrev pub FollowingValue : ValueList → ℕ → AfterValue → ValueList → List Mark → Type 0
FollowingValue done rank (after.Value is_tied) = Then (One (own_name done.names)) (λ name. MoreValues (pushed done name (rank_following rank is_tied)) (rank_following rank is_tied))
FollowingValue done rank after.Rows = Nothing done

ranks_step : (rank : ℕ) (is_tied : Bool) (name : List ℕ) (vs : List ValueSyntax)
    → ranks_from rank (record { is_tied = is_tied; name = name } ∷ vs) ≡ rank_following rank is_tied ∷ ranks_from (rank_following rank is_tied) vs
ranks_step rank true name vs = refl
ranks_step rank false name vs = refl

list_same : (a b : ValueList) → a.names ≡ b.names → a.ranks ≡ b.ranks → a ≡ b
list_same a b e f =
    let make : List (List ℕ) → List ℕ → ValueList = λ names ranks. record { names = names; ranks = ranks } in
    ap (λ names. make names a.ranks) e ∙ ap (λ ranks. make b.names ranks) f

-- all values, where these follow
abbrev pub all_values : ValueList → ℕ → List ValueSyntax → ValueList
all_values done rank more = record { names = done.names ++ map (λ (v : ValueSyntax). v.name) more; ranks = done.ranks ++ ranks_from rank more }

step_means : (done : ValueList) (rank : ℕ) (is_tied : Bool) (name : List ℕ) (vs : List ValueSyntax)
    → all_values (pushed done name (rank_following rank is_tied)) (rank_following rank is_tied) vs ≡ all_values done rank (record { is_tied = is_tied; name = name } ∷ vs)
step_means done rank is_tied name vs = list_same _ _
    (append_assoc done.names (name ∷ []) (map (λ (v : ValueSyntax). v.name) vs))
    (append_assoc done.ranks (rank_following rank is_tied ∷ []) (ranks_from (rank_following rank is_tied) vs) ∙ ap (λ l. done.ranks ++ l) (sym (ranks_step rank is_tied name vs)))

no_more_means : (done : ValueList) → all_values done 0 [] ≡ done
no_more_means done = list_same _ _ (append-nil done.names) (append-nil done.ranks)

more_put : (done : ValueList) (rank : ℕ) (r : ValueList) (ms : List Mark) → Then (One after_value) (FollowingValue done rank) r ms → MoreValues done rank r ms
more_put done rank r ms (after.Value is_tied, xs, ys, p, (name, us, vs, pn, (more, means, marks), e), f) =
    (record { is_tied = is_tied; name = name } ∷ more, means ∙ step_means done rank is_tied name more, rw (f, e, p, pn, marks) refl)
more_put done rank r ms (after.Rows, xs, ys, p, q, f) = ([], q.0 ∙ sym (no_more_means done), rw (f, p, q.1) refl)

more_back : (done : ValueList) (rank : ℕ) (r : ValueList) (ms : List Mark) → MoreValues done rank r ms → Then (One after_value) (FollowingValue done rank) r ms
more_back done rank r ms ([], means, marks) = (after.Rows, plain semicolon ∷ [], [], refl, (means ∙ no_more_means done, refl), marks)
more_back done rank r ms (v ∷ more, means, marks) =
    let rest = values_marks (done.names ++ v.name ∷ []) more ++ plain semicolon ∷ [] in (
      after.Value v.is_tied,
      plain (rank_tok v.is_tied) ∷ [],
      own_name done.names v.name ∷ rest,
      refl,
      (v.name, own_name done.names v.name ∷ [], rest, refl, (more, means ∙ sym (step_means done rank v.is_tied v.name more), refl), refl),
      marks,
    )

following_possible : (done : ValueList) (rank : ℕ) (a : AfterValue) → IsPossible (FollowingValue done rank a)
following_possible done rank (after.Value is_tied) =
    then_possible (One (own_name done.names)) _ ([], own_name done.names [] ∷ [], refl) (λ name. more_possible (pushed done name (rank_following rank is_tied)) (rank_following rank is_tied))
following_possible done rank after.Rows = (done, [], (refl, refl))

-- the first name was read
pub values_first : (old mid : Lexer) (first : List ℕ) (before names : List (List ℕ)) (ranks : List ℕ)
    → before ≡ [] → names ≡ first ∷ [] → ranks ≡ 0 ∷ [] → Reads (One (own_name before)) old (Ok first) mid
    → Leads Values old (MoreValues (record { names = names; ranks = ranks }) 0) mid
values_first old mid first before names ranks none e f x result new y =
    reads_then (One (own_name [])) _ old mid new first result (name_determined []) (reads_at (λ l. One (own_name l)) before [] old mid (Ok first) none x)
    (reads_at (λ v. MoreValues v 0) (record { names = names; ranks = ranks }) (record { names = first ∷ []; ranks = 0 ∷ [] }) mid new result (list_same _ _ e f) y)

pub values_no_name : (old new : Lexer) (before : List (List ℕ)) (e : AlgError) → before ≡ [] → Reads (One (own_name before)) old (Err e) new → Reads Values old (Err e) new
values_no_name old new before e none x =
    reads_not_first (One (own_name [])) _ old new e (λ first. more_possible (record { names = first ∷ []; ranks = 0 ∷ [] }) 0) (reads_at (λ l. One (own_name l)) before [] old new (Err e) none x)

-- no mark stands after a value
pub more_no_mark : (done : ValueList) (rank : ℕ) (old new : Lexer) (e : AlgError) → Reads (One after_value) old (Err e) new → Reads (MoreValues done rank) old (Err e) new
more_no_mark done rank old new e x =
    reads_same _ (MoreValues done rank) old new (Err e) (more_put done rank) (more_back done rank) (reads_not_first (One after_value) (FollowingValue done rank) old new e (following_possible done rank) x)

more_following : (done : ValueList) (rank : ℕ) (old mid new : Lexer) (a : AfterValue) (result : Result ValueList AlgError)
    → Reads (One after_value) old (Ok a) mid → Reads (FollowingValue done rank a) mid result new → Reads (MoreValues done rank) old result new
more_following done rank old mid new a result x y =
    reads_same _ (MoreValues done rank) old new result (more_put done rank) (more_back done rank) (reads_then (One after_value) (FollowingValue done rank) old mid new a result after_determined x y)

-- the values are over
pub more_end : (done : ValueList) (rank : ℕ) (old new : Lexer) → Reads (One after_value) old (Ok after.Rows) new → Reads (MoreValues done rank) old (Ok done) new
more_end done rank old new x = more_following done rank old new new after.Rows (Ok done) x (reads_nothing done new)

-- a rank and no name stand after a value
pub more_no_name : (done : ValueList) (rank : ℕ) (old mid new : Lexer) (is_tied : Bool) (before : List (List ℕ)) (e : AlgError)
    → before ≡ done.names → Reads (One after_value) old (Ok (after.Value is_tied)) mid → Reads (One (own_name before)) mid (Err e) new → Reads (MoreValues done rank) old (Err e) new
more_no_name done rank old mid new is_tied before e same x y =
    more_following done rank old mid new (after.Value is_tied) (Err e) x
    (reads_not_first (One (own_name done.names)) _ mid new e (λ name. more_possible (pushed done name (rank_following rank is_tied)) (rank_following rank is_tied))
    (reads_at (λ l. One (own_name l)) before done.names mid new (Err e) same y))

-- one value more was read
pub more_next : (done : ValueList) (rank : ℕ) (old mid next : Lexer) (is_tied : Bool) (name : List ℕ) (before names : List (List ℕ)) (ranks : List ℕ) (r : ℕ)
    → before ≡ done.names → names ≡ done.names ++ name ∷ [] → ranks ≡ done.ranks ++ r ∷ [] → r ≡ rank_following rank is_tied
    → Reads (One after_value) old (Ok (after.Value is_tied)) mid → Reads (One (own_name before)) mid (Ok name) next
    → Leads (MoreValues done rank) old (MoreValues (record { names = names; ranks = ranks }) r) next
more_next done rank old mid next is_tied name before names ranks r same e f g x y result new z =
    let more = reads_at (λ v. MoreValues v r) (record { names = names; ranks = ranks }) (pushed done name r) next new result (list_same _ _ e f) z in
    more_following done rank old mid new (after.Value is_tied) result x
    (reads_then (One (own_name done.names)) _ mid next new name result (name_determined done.names) (reads_at (λ l. One (own_name l)) before done.names mid next (Ok name) same y)
    (reads_at (λ q. MoreValues (pushed done name q) q) r (rank_following rank is_tied) next new result g more))

pub rank_following_le : (rank : ℕ) (is_tied : Bool) → rank_following rank is_tied ≤ rank + 1
rank_following_le rank true = omega arith
rank_following_le rank false = omega arith

pub values_possible : IsPossible Values
values_possible = then_possible (One (own_name [])) _ ([], own_name [] [] ∷ [], refl) (λ first. more_possible (record { names = first ∷ []; ranks = 0 ∷ [] }) 0)
