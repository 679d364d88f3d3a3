-- What stands at the front of a list of parts: a value or a label, and the parts after it.
use Rattle.std.specs.Prelude.{◌≡◌, ℕ, List, [], ◌∷◌, ◌++◌, ◌&&◌, ◌||◌, ◌==◌, nat_le, nat_lt, Option, Some, None, option_map, option_and_then, if◌then◌else◌, Result, Ok, codes}
use Rattle.std.specs.List.{list_all}
use Rattle.std.specs.Str.{bytes_eq}
use Rattle.alg_model.specs.Expressions.{PureCarrier, whole, up_to, down_from, seqs, simseqs, sets, one, named, pairs, sides}
use Rattle.alg_model.specs.Expressions.{PureValue, number, symbols, marks, unit, name, pair, first, second}
use Rattle.alg_model.specs.Expressions.{PureLabel, number_label, keep, symbol_label, allow, deny, row_label, pair_label, both_label, first_label, second_label, const_label, outer, inner}
use Rattle.alg_model.specs.Expressions.{Expression, add, cap, worst, width, pref, orig, seq, simseq, tags, guard, gate, table, lex, scoped, union, sum, plus, left, right}
use Rattle.alg_model.specs.declared.tree.TableRow.{TableRow}
use Rattle.alg_model.specs.Carriers.{carrier_of, distinct}
use Rattle.alg_model.specs.Formation.{row_name}
use Rattle.alg_model.specs.Names.{place_among, place_of}
use Rattle.sig_text.specs.declared.faults.LitFault.{LitFault}
use Rattle.sig_text.specs.declared.faults.LitFault.TheVariants.{NotInCarrier, NotALabel}
use Rattle.sig_text.specs.declared.parts.Side.{Side}
use Rattle.sig_text.specs.declared.parts.Side.TheVariants.{First, Second}
use Rattle.sig_text.specs.declared.parts.Scope.{Scope}
use Rattle.sig_text.specs.declared.parts.Scope.TheVariants.{Outer, Inner}
use Rattle.sig_text.specs.Marks.{left_paren, right_paren, left_bracket, right_bracket, left_brace, right_brace, comma, colon, stroke, plus_sign, minus_sign, question_mark, exclamation_mark}
use Rattle.sig_text.specs.Parts.{Part, word, digits, mark}
use Rattle.sig_text.specs.Literals.{where_true, both_of, one_of, set_of, placed, tag_label, guard_label}

abbrev pub take_mark : ℕ → List Part → Option (List Part)
take_mark m (mark c ∷ ps) = if c == m then Some ps else None
take_mark m _ = None

abbrev pub take_number : ℕ → List Part → Option (ℕ × List Part)
take_number greatest (digits n ∷ ps) = if nat_le n greatest then Some (n, ps) else None
take_number greatest _ = None

abbrev pub take_word : List Part → Option (List ℕ × List Part)
take_word (word w ∷ ps) = Some (w, ps)
take_word _ = None

-- numbers with commas between them up to that mark, after those of the first list
abbrev pub items_until : ℕ → ℕ → List ℕ → List Part → Option (List ℕ × List Part)
items_until greatest m ns (digits n ∷ mark c ∷ ps) =
    if nat_le n greatest then
    (if c == m then Some (ns ++ n ∷ [], ps) else
    (if c == comma then items_until greatest m (ns ++ n ∷ []) ps else None))
    else None
items_until greatest m ns _ = None

-- the same, or none at all
abbrev pub or_none : Option (List Part) → Option (List ℕ × List Part) → Option (List ℕ × List Part)
or_none (Some rest) other = Some ([], rest)
or_none None other = other

-- the numbers between two marks
abbrev pub take_list : ℕ → ℕ → ℕ → List Part → Option (List ℕ × List Part)
take_list greatest opening closing ps =
    option_and_then (λ qs. or_none (take_mark closing qs) (items_until greatest closing [] qs)) (take_mark opening ps)

-- the side of which that word is the sign
abbrev pub side_of : List ℕ → Option Side
side_of w = if bytes_eq w (codes "l") then Some First else (if bytes_eq w (codes "r") then Some Second else None)

abbrev pub take_side : List Part → Option (Side × List Part)
take_side ps =
    option_and_then (λ r. option_and_then (λ qs. option_map (λ side. (side, qs)) (side_of r.0)) (take_mark colon r.1))
    (take_word ps)

abbrev pub on_side : {A : Type 0} → Side → A → A → A
on_side First a b = a
on_side Second a b = b

-- what comes after stays
abbrev pub kept : {A B : Type 0} → (A → B) → Option (A × List Part) → Option (B × List Part)
kept f o = option_map (λ r. (f r.0, r.1)) o

-- two things in parentheses, with that mark between them
abbrev pub take_pair : {A B C : Type 0} → ℕ → (A → B → C)
    → (List Part → Option (A × List Part)) → (List Part → Option (B × List Part)) → List Part → Option (C × List Part)
take_pair m f x y ps =
    option_and_then (λ qs. option_and_then (λ r. option_and_then (λ us. option_and_then (λ s.
    option_map (λ vs. (f r.0 s.0, vs))
    (take_mark right_paren s.1)) (y us)) (take_mark m r.1)) (x qs)) (take_mark left_paren ps)

-- both of these things
abbrev pub take_both : {A B : Type 0} → ℕ
    → (List Part → Option (A × List Part)) → (List Part → Option (B × List Part)) → List Part
    → Option ((A × B) × List Part)
take_both {A = A} {B = B} m x y ps = let paired : A → B → A × B = λ a b. (a, b) in take_pair m paired x y ps

-- something of the side that the sign says
abbrev pub take_sided : {A B C : Type 0} → (A → C) → (B → C)
    → (List Part → Option (A × List Part)) → (List Part → Option (B × List Part)) → List Part → Option (C × List Part)
take_sided f g x y ps = option_and_then (λ r. on_side r.0 (kept f (x r.1)) (kept g (y r.1))) (take_side ps)

-- the set of these numbers, if none is there twice
abbrev pub set_from : ℕ → List ℕ → Option (Result PureValue LitFault)
set_from k ns =
    if distinct ns then Some (where_true (list_all (λ n. nat_lt n k) ns) NotInCarrier (marks (set_of ns))) else None

abbrev pub set_at : ℕ → List ℕ × List Part → Option (Result PureValue LitFault × List Part)
set_at k r = option_map (λ o. (o, r.1)) (set_from k r.0)

abbrev pub unit_at : List ℕ × List Part → Option (Result PureValue LitFault × List Part)
unit_at r = if bytes_eq r.0 (codes "unit") then Some (Ok unit, r.1) else None

-- the place of a name, if it is there
abbrev pub name_at : List (List ℕ) → List Part → Option (Result PureValue LitFault × List Part)
name_at names ps = kept (λ w. placed name NotInCarrier (place_of names w)) (take_word ps)

-- the value that begins the parts, or its first fault
abbrev pub value_at : ℕ → PureCarrier → List Part → Option (Result PureValue LitFault × List Part)
value_at greatest whole ps = kept (λ n. Ok (number n)) (take_number greatest ps)
value_at greatest (up_to top) ps =
    kept (λ n. where_true (nat_le n top) NotInCarrier (number n)) (take_number greatest ps)
value_at greatest (down_from top) ps =
    kept (λ n. where_true (nat_le n top) NotInCarrier (number n)) (take_number greatest ps)
value_at greatest (seqs k) ps =
    kept (λ ns. where_true (list_all (λ n. nat_lt n k) ns) NotInCarrier (symbols ns))
    (take_list greatest left_bracket right_bracket ps)
value_at greatest (simseqs k) ps =
    kept (λ ns. where_true (list_all (λ n. nat_lt n k) ns && distinct ns) NotInCarrier (symbols ns))
    (take_list greatest left_bracket right_bracket ps)
value_at greatest (sets k) ps = option_and_then (set_at k) (take_list greatest left_brace right_brace ps)
value_at greatest one ps = option_and_then unit_at (take_word ps)
value_at greatest (named names ranks) ps = name_at names ps
value_at greatest (pairs c d) ps = take_pair comma (both_of pair) (value_at greatest c) (value_at greatest d) ps
value_at greatest (sides c d) ps =
    take_sided (one_of first) (one_of second) (value_at greatest c) (value_at greatest d) ps

-- the first, or the second where there is none
abbrev pub or_else : {A : Type 0} → Option A → Option A → Option A
or_else (Some a) other = Some a
or_else None other = other

-- one of two marks
abbrev pub take_either : ℕ → ℕ → List Part → Option (ℕ × List Part)
take_either m n (mark c ∷ ps) = if c == m || c == n then Some (c, ps) else None
take_either m n _ = None

-- one of two marks, and a number
abbrev pub take_marked : ℕ → ℕ → ℕ → List Part → Option ((ℕ × ℕ) × List Part)
take_marked greatest m n ps =
    option_and_then (λ r. option_map (λ s. ((r.0, s.0), s.1)) (take_number greatest r.1)) (take_either m n ps)

-- something in parentheses
abbrev pub take_parens : {A B : Type 0} → (A → B) → (List Part → Option (A × List Part)) → List Part
    → Option (B × List Part)
take_parens f x ps =
    option_and_then (λ qs. option_and_then (λ r. option_map (λ us. (f r.0, us)) (take_mark right_paren r.1)) (x qs))
    (take_mark left_paren ps)

-- the scope of which that word is the sign
abbrev pub scope_of : List ℕ → Option Scope
scope_of w = if bytes_eq w (codes "out") then Some Outer else (if bytes_eq w (codes "in") then Some Inner else None)

abbrev pub take_scope : List Part → Option (Scope × List Part)
take_scope ps = option_and_then (λ r. option_map (λ scope. (scope, r.1)) (scope_of r.0)) (take_word ps)

abbrev pub on_scope : {A : Type 0} → Scope → A → A → A
on_scope Outer a b = a
on_scope Inner a b = b

-- something of the scope that the sign says
abbrev pub take_scoped : {A : Type 0}
    → (List Part → Option (A × List Part)) → (List Part → Option (A × List Part)) → List Part → Option (A × List Part)
take_scoped x y ps = option_and_then (λ r. on_scope r.0 (x r.1) (y r.1)) (take_scope ps)

abbrev pub keep_at : List ℕ × List Part → Option (Result PureLabel LitFault × List Part)
keep_at r = if bytes_eq r.0 (codes "keep") then Some (Ok keep, r.1) else None

abbrev pub gate_at : List ℕ × List Part → Option (Result PureLabel LitFault × List Part)
gate_at r =
    if bytes_eq r.0 (codes "allow") then Some (Ok allow, r.1) else
    (if bytes_eq r.0 (codes "deny") then Some (Ok deny, r.1) else None)

-- the place of the row of this name, if it is there
abbrev pub row_of : List TableRow → List ℕ → Option ℕ
row_of rows w = place_among row_name rows w

abbrev pub row_at : List TableRow → List Part → Option (Result PureLabel LitFault × List Part)
row_at rows ps = kept (λ w. placed row_label NotALabel (row_of rows w)) (take_word ps)

-- a number of the range
abbrev pub ranged_at : ℕ → ℕ → ℕ → List Part → Option (Result PureLabel LitFault × List Part)
ranged_at greatest low high ps =
    kept (λ n. where_true (nat_le low n && nat_le n high) NotALabel (number_label n)) (take_number greatest ps)

abbrev pub symbol_at : ℕ → ℕ → List Part → Option (Result PureLabel LitFault × List Part)
symbol_at greatest k ps = kept (λ n. where_true (nat_lt n k) NotALabel (symbol_label n)) (take_number greatest ps)

abbrev pub tag_at : ℕ → ℕ → List Part → Option (Result PureLabel LitFault × List Part)
tag_at greatest k ps =
    or_else (option_and_then keep_at (take_word ps))
    (kept (λ r. where_true (nat_lt r.1 k) NotALabel (tag_label r.0 r.1)) (take_marked greatest plus_sign minus_sign ps))

abbrev pub guard_at : ℕ → ℕ → List Part → Option (Result PureLabel LitFault × List Part)
guard_at greatest k ps =
    kept (λ r. where_true (nat_lt r.1 k) NotALabel (guard_label r.0 r.1))
    (take_marked greatest question_mark exclamation_mark ps)

-- the label that begins the parts, or its first fault
abbrev pub label_at : ℕ → Expression → List Part → Option (Result PureLabel LitFault × List Part)
label_at greatest (add low high) ps = ranged_at greatest low high ps
label_at greatest (cap top low high) ps = ranged_at greatest low high ps
label_at greatest (worst top low high) ps = ranged_at greatest low high ps
label_at greatest (width top low high) ps = ranged_at greatest low high ps
label_at greatest (pref top) ps =
    kept (λ n. where_true (nat_le n top) NotALabel (number_label n)) (take_number greatest ps)
label_at greatest (orig top) ps = option_and_then keep_at (take_word ps)
label_at greatest (seq k) ps = symbol_at greatest k ps
label_at greatest (simseq k) ps = symbol_at greatest k ps
label_at greatest (tags k) ps = tag_at greatest k ps
label_at greatest (guard k) ps = guard_at greatest k ps
label_at greatest gate ps = option_and_then gate_at (take_word ps)
label_at greatest (table t) ps = row_at t.rows ps
label_at greatest (lex a b) ps = take_pair comma (both_of pair_label) (label_at greatest a) (label_at greatest b) ps
label_at greatest (scoped a b) ps =
    take_scoped (take_pair comma (both_of outer) (label_at greatest a) (value_at greatest (carrier_of b)))
    (take_parens (one_of inner) (label_at greatest b)) ps
label_at greatest (union a b) ps =
    take_sided (one_of first_label) (one_of second_label) (label_at greatest a) (label_at greatest b) ps
label_at greatest (sum a b) ps = take_pair stroke (both_of both_label) (label_at greatest a) (label_at greatest b) ps
label_at greatest (plus a b) ps =
    take_sided (one_of first_label) (one_of second_label) (label_at greatest a) (label_at greatest b) ps
label_at greatest (left a) ps = kept (one_of const_label) (value_at greatest (carrier_of a) ps)
label_at greatest (right a) ps = option_and_then keep_at (take_word ps)

-- what follows the sign of a scope
abbrev pub outer_at : ℕ → Expression → Expression → List Part → Option (Result PureLabel LitFault × List Part)
outer_at greatest a b ps = take_pair comma (both_of outer) (label_at greatest a) (value_at greatest (carrier_of b)) ps

abbrev pub inner_at : ℕ → Expression → List Part → Option (Result PureLabel LitFault × List Part)
inner_at greatest b ps = take_parens (one_of inner) (label_at greatest b) ps

-- nothing is taken, or not the whole
abbrev pub NotWhole : {A : Type 0} → Option (A × List Part) → Type 0
NotWhole {A = A} o = (a : A) → o ≡ Some (a, []) → ⊥
