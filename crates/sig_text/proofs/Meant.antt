-- What a shape of a value spells is in the carrier, and a text spells it where a reader took all of it.
use Rattle.std.proofs.Common.{◌≡◌, ◌⊎◌, inl, inr, ℕ, ◌≤◌, ◌<◌, ◌^◌, Bool, true, false, ◌&&◌, List, [], ◌∷◌, Option, Some, None, Result, Ok, Err, refl, sym, ap, ◌∙◌, subst, arith, nat_le, nat_lt}
use Rattle.std.specs.Prelude.{position}
use Rattle.std.specs.List.{AllByRecursion, list_all}
use Rattle.std.specs.Str.{bytes_eq}
use Rattle.std.proofs.lemmas.Bool.Decides.{nat_tests}
use Rattle.std.proofs.lemmas.Nat.{or_lt}
use Rattle.std.proofs.Math.Pow.{pow-lt}
use Rattle.std.proofs.lemmas.List.Quantifiers.{position-Some}
use Rattle.alg_model.specs.Expressions.{Expression}
use Rattle.alg_model.specs.Expressions.{PureCarrier, whole, up_to, down_from, seqs, simseqs, sets, one, named, pairs, sides}
use Rattle.alg_model.specs.Expressions.{PureValue, number, symbols, marks, unit, name, pair, first, second}
use Rattle.alg_model.specs.Carriers.{carrier_of, distinct, In}
use Rattle.alg_model.specs.Bounds.{AtMost}
use Rattle.sig_text.specs.declared.faults.LitFault.{LitFault}
use Rattle.sig_text.specs.declared.faults.LitFault.TheVariants.{BadText, NotInCarrier, NotALabel}
use Rattle.sig_text.specs.Parts.{Part, Splits}
use Rattle.sig_text.specs.Sequences.{parts_of}
use Rattle.sig_text.specs.Shapes.{ValueShape, number_shape, list_shape, set_shape, word_shape, pair_shape, first_shape, second_shape, value_parts, HasValueShape}
use Rattle.sig_text.specs.Literals.{where_true, both_of, one_of, set_of, placed, value_of, ValueTextTo, HasValueFault, IsValueFaultTo}
use Rattle.sig_text.specs.Spelled.{Reports, where_whole, whole_of, spelled_value_to}
use Rattle.sig_text.specs.Reading.{NotWhole, value_at}
use Rattle.sig_text.proofs.Fronts.{splits_parts, parts_splits, append_none}
use Rattle.sig_text.proofs.Values.{value_complete, ValueFront, value_sound}

-- where the parts make something, each of them does
pub true_is : {A : Type 0} (b : Bool) (fault : LitFault) (a v : A) → where_true b fault a ≡ Ok v → (b ≡ true) × (a ≡ v)
true_is true fault a v e = let p : a ≡ v = cc in (refl, p)
true_is false fault a v e = absurd (cc)

pub placed_is : {A : Type 0} (f : ℕ → A) (fault : LitFault) (o : Option ℕ) (v : A) → placed f fault o ≡ Ok v → (i : ℕ) × (o ≡ Some i) × (f i ≡ v)
placed_is f fault (Some i) v e = let p : f i ≡ v = cc in (i, refl, p)
placed_is f fault None v e = absurd (cc)

pub record BothMade {A B C : Type 0} (f : A → B → C) (x : Result A LitFault) (y : Result B LitFault) (c : C) : Type 0 where
  pub a : A
  pub b : B
  pub first : x ≡ Ok a
  pub second : y ≡ Ok b
  pub makes : f a b ≡ c

pub both_made : {A B C : Type 0} (f : A → B → C) (x : Result A LitFault) (y : Result B LitFault) (c : C) → both_of f x y ≡ Ok c → BothMade f x y c
both_made f (Ok a) (Ok b) c e = let p : f a b ≡ c = cc in record { a = a; b = b; first = refl; second = refl; makes = p }
both_made f (Ok a) (Err fault) c e = absurd (cc)
both_made f (Err fault) y c e = absurd (cc)

pub one_made : {A B : Type 0} (f : A → B) (x : Result A LitFault) (b : B) → one_of f x ≡ Ok b → (a : A) × (x ≡ Ok a) × (f a ≡ b)
one_made f (Ok a) b e = let p : f a ≡ b = cc in (a, refl, p)
one_made f (Err fault) b e = absurd (cc)

pub below_test : (bound : ℕ) (ns : List ℕ) → list_all (λ n. nat_lt n bound) ns ≡ true → AllByRecursion (λ n. n < bound) ns
below_test bound [] h = tt
below_test bound (n ∷ ns) h =
    let p : n < bound = grind (arith, nat_tests) in
    let q : list_all (λ m. nat_lt m bound) ns ≡ true = grind (arith, nat_tests) in
    (p, below_test bound ns q)

pub set_below : (k : ℕ) (ns : List ℕ) → AllByRecursion (λ n. n < k) ns → set_of ns < 2 ^ k
set_below k [] h = grind (arith, pow-lt)
set_below k (n ∷ ns) h = or_lt k (2 ^ n) (set_of ns) (pow-lt h.0) (set_below k ns h.1)

pub both_true : (a b : Bool) → (a && b) ≡ true → (a ≡ true) × (b ≡ true)
both_true true b h = (refl, h)
both_true false b h = absurd (cc)

-- the value is in the carrier, and its numbers are those of a text
pub record Member (greatest : ℕ) (c : PureCarrier) (v : PureValue) : Type 0 where
  pub is_in : In c v
  pub small : AtMost greatest v

number_member : (greatest : ℕ) (c : PureCarrier) (n : ℕ) (v : PureValue) → number n ≡ v → In c (number n) → n ≤ greatest → Member greatest c v
number_member greatest c n v e i h = subst (Member greatest c) e (record { is_in = i; small = h })

pub meant : (greatest : ℕ) (c : PureCarrier) (s : ValueShape) (v : PureValue) → HasValueShape greatest c s → value_of c s ≡ Ok v → Member greatest c v
meant greatest whole (number_shape n) v h e = let p : number n ≡ v = cc in number_member greatest whole n v p tt h
meant greatest whole _ v h e = absurd h
meant greatest (up_to top) (number_shape n) v h e =
    let t = true_is (nat_le n top) NotInCarrier (number n) v e in
    let b : n ≤ top = grind (arith, nat_tests, t.0) in
    number_member greatest (up_to top) n v t.1 b h
meant greatest (up_to top) _ v h e = absurd h
meant greatest (down_from top) (number_shape n) v h e =
    let t = true_is (nat_le n top) NotInCarrier (number n) v e in
    let b : n ≤ top = grind (arith, nat_tests, t.0) in
    number_member greatest (down_from top) n v t.1 b h
meant greatest (down_from top) _ v h e = absurd h
meant greatest (seqs k) (list_shape ns) v h e =
    let t = true_is (list_all (λ n. nat_lt n k) ns) NotInCarrier (symbols ns) v e in
    subst (Member greatest (seqs k)) t.1 (record { is_in = below_test k ns t.0; small = h })
meant greatest (seqs k) _ v h e = absurd h
meant greatest (simseqs k) (list_shape ns) v h e =
    let t = true_is (list_all (λ n. nat_lt n k) ns && distinct ns) NotInCarrier (symbols ns) v e in
    let b = both_true (list_all (λ n. nat_lt n k) ns) (distinct ns) t.0 in
    subst (Member greatest (simseqs k)) t.1 (record { is_in = (below_test k ns b.0, b.1); small = h })
meant greatest (simseqs k) _ v h e = absurd h
meant greatest (sets k) (set_shape ns) v h e =
    let t = true_is (list_all (λ n. nat_lt n k) ns) NotInCarrier (marks (set_of ns)) v e in
    subst (Member greatest (sets k)) t.1 (record { is_in = set_below k ns (below_test k ns t.0); small = tt })
meant greatest (sets k) _ v h e = absurd h
meant greatest one (word_shape w) v h e = let p : unit ≡ v = cc in subst (Member greatest one) p (record { is_in = tt; small = tt })
meant greatest one _ v h e = absurd h
meant greatest (named names ranks) (word_shape w) v h e =
    let p = placed_is name NotInCarrier (position (λ (other : List ℕ). bytes_eq other w) names) v e in
    let q = position-Some (λ (other : List ℕ). bytes_eq other w) names p.0 [] p.1 in
    subst (Member greatest (named names ranks)) p.2 (record { is_in = q.0; small = tt })
meant greatest (named names ranks) _ v h e = absurd h
meant greatest (pairs c d) (pair_shape s t) v h e =
    let b = both_made pair (value_of c s) (value_of d t) v e in
    let x = meant greatest c s b.a h.0 b.first in
    let y = meant greatest d t b.b h.1 b.second in
    subst (Member greatest (pairs c d)) b.makes (record { is_in = (x.is_in, y.is_in); small = (x.small, y.small) })
meant greatest (pairs c d) _ v h e = absurd h
meant greatest (sides c d) (first_shape s) v h e =
    let b = one_made first (value_of c s) v e in
    let x = meant greatest c s b.0 h b.1 in
    subst (Member greatest (sides c d)) b.2 (record { is_in = x.is_in; small = x.small })
meant greatest (sides c d) (second_shape t) v h e =
    let b = one_made second (value_of d t) v e in
    let y = meant greatest d t b.0 h b.1 in
    subst (Member greatest (sides c d)) b.2 (record { is_in = y.is_in; small = y.small })
meant greatest (sides c d) _ v h e = absurd h

-- a shape of the kind that is asked for is never bad text
pub not_where : {A : Type 0} (b : Bool) (fault : LitFault) (a : A) → (fault ≡ BadText → ⊥) → where_true b fault a ≡ Err BadText → ⊥
not_where true fault a n e = cc
not_where false fault a n e = let p : fault ≡ BadText = cc in n p

pub not_placed : {A : Type 0} (f : ℕ → A) (fault : LitFault) (o : Option ℕ) → (fault ≡ BadText → ⊥) → placed f fault o ≡ Err BadText → ⊥
not_placed f fault (Some i) n e = cc
not_placed f fault None n e = let p : fault ≡ BadText = cc in n p

pub not_both : {A B C : Type 0} (f : A → B → C) (x : Result A LitFault) (y : Result B LitFault) → (x ≡ Err BadText → ⊥) → (y ≡ Err BadText → ⊥) → both_of f x y ≡ Err BadText → ⊥
not_both f (Ok a) (Ok b) n m e = cc
not_both f (Ok a) (Err fault) n m e = let p : fault ≡ BadText = cc in m (ap (λ x. Err x) p)
not_both f (Err fault) y n m e = let p : fault ≡ BadText = cc in n (ap (λ x. Err x) p)

pub not_one : {A B : Type 0} (f : A → B) (x : Result A LitFault) → (x ≡ Err BadText → ⊥) → one_of f x ≡ Err BadText → ⊥
not_one f (Ok a) n e = cc
not_one f (Err fault) n e = let p : fault ≡ BadText = cc in n (ap (λ x. Err x) p)

not_carrier : NotInCarrier ≡ BadText → ⊥
not_carrier e = cc

pub not_bad : (greatest : ℕ) (c : PureCarrier) (s : ValueShape) → HasValueShape greatest c s → value_of c s ≡ Err BadText → ⊥
not_bad greatest whole (number_shape n) h e = cc
not_bad greatest whole _ h e = h
not_bad greatest (up_to top) (number_shape n) h e = not_where (nat_le n top) NotInCarrier (number n) not_carrier e
not_bad greatest (up_to top) _ h e = h
not_bad greatest (down_from top) (number_shape n) h e = not_where (nat_le n top) NotInCarrier (number n) not_carrier e
not_bad greatest (down_from top) _ h e = h
not_bad greatest (seqs k) (list_shape ns) h e = not_where (list_all (λ n. nat_lt n k) ns) NotInCarrier (symbols ns) not_carrier e
not_bad greatest (seqs k) _ h e = h
not_bad greatest (simseqs k) (list_shape ns) h e = not_where (list_all (λ n. nat_lt n k) ns && distinct ns) NotInCarrier (symbols ns) not_carrier e
not_bad greatest (simseqs k) _ h e = h
not_bad greatest (sets k) (set_shape ns) h e = not_where (list_all (λ n. nat_lt n k) ns) NotInCarrier (marks (set_of ns)) not_carrier e
not_bad greatest (sets k) _ h e = h
not_bad greatest one (word_shape w) h e = cc
not_bad greatest one _ h e = h
not_bad greatest (named names ranks) (word_shape w) h e = not_placed name NotInCarrier (position (λ (other : List ℕ). bytes_eq other w) names) not_carrier e
not_bad greatest (named names ranks) _ h e = h
not_bad greatest (pairs c d) (pair_shape s t) h e = not_both pair (value_of c s) (value_of d t) (not_bad greatest c s h.0) (not_bad greatest d t h.1) e
not_bad greatest (pairs c d) _ h e = h
not_bad greatest (sides c d) (first_shape s) h e = not_one first (value_of c s) (not_bad greatest c s h) e
not_bad greatest (sides c d) (second_shape t) h e = not_one second (value_of d t) (not_bad greatest d t h) e
not_bad greatest (sides c d) _ h e = h

-- a reader that takes the whole of a text says what it spells
pub value_spelled : (greatest : ℕ) (a : Expression) (text : List ℕ) (v : PureValue) → value_at greatest (carrier_of a) (parts_of text) ≡ Some (Ok v, []) → ValueTextTo greatest a text v
value_spelled greatest a text v e =
    let f = value_sound greatest (carrier_of a) (parts_of text) (Ok v) [] e in
    record { shape = f.shape; has = f.has; splits = parts_splits (value_parts f.shape) text (f.parts ∙ append_none (value_parts f.shape)); means = f.means }

pub value_member : (greatest : ℕ) (a : Expression) (text : List ℕ) (v : PureValue) → ValueTextTo greatest a text v → Member greatest (carrier_of a) v
value_member greatest a text v t = meant greatest (carrier_of a) t.shape v t.has t.means

pub whole_value : (greatest : ℕ) (a : Expression) (text : List ℕ) (s : ValueShape) → HasValueShape greatest (carrier_of a) s → Splits (value_parts s) text → value_at greatest (carrier_of a) (parts_of text) ≡ Some (value_of (carrier_of a) s, [])
whole_value greatest a text s h p =
    ap (value_at greatest (carrier_of a)) (splits_parts (value_parts s) text p ∙ sym (append_none (value_parts s))) ∙ value_complete greatest (carrier_of a) s [] h

-- the shape that a reader of the whole found stands in the text
value_splits : (greatest : ℕ) (a : Expression) (text : List ℕ) (o : Result PureValue LitFault) → (f : ValueFront greatest (carrier_of a) (parts_of text) o []) → Splits (value_parts f.shape) text
value_splits greatest a text o f = parts_splits (value_parts f.shape) text (f.parts ∙ append_none (value_parts f.shape))

value_fault_by : (greatest : ℕ) (a : Expression) (text : List ℕ) (fault : LitFault) → ValueFront greatest (carrier_of a) (parts_of text) (Err fault) [] → IsValueFaultTo greatest a text fault
value_fault_by greatest a text BadText f = absurd (not_bad greatest (carrier_of a) f.shape f.has f.means)
value_fault_by greatest a text NotInCarrier f = record { shape = f.shape; has = f.has; splits = value_splits greatest a text (Err NotInCarrier) f; breaks = f.means }
value_fault_by greatest a text NotALabel f = record { shape = f.shape; has = f.has; splits = value_splits greatest a text (Err NotALabel) f; breaks = f.means }

pub value_fault : (greatest : ℕ) (a : Expression) (text : List ℕ) (fault : LitFault) → value_at greatest (carrier_of a) (parts_of text) ≡ Some (Err fault, []) → IsValueFaultTo greatest a text fault
value_fault greatest a text fault e = value_fault_by greatest a text fault (value_sound greatest (carrier_of a) (parts_of text) (Err fault) [] e)

pub value_refused : (greatest : ℕ) (a : Expression) (text : List ℕ) → NotWhole (value_at greatest (carrier_of a) (parts_of text)) → IsValueFaultTo greatest a text BadText
value_refused greatest a text n = λ s h p. n (value_of (carrier_of a) s) (whole_value greatest a text s h p)

-- what was taken is the whole, or bad text
pub whole_is : {A : Type 0} (o : Option (Result A LitFault × List Part)) (r : Result A LitFault) → o ≡ Some (r, []) → whole_of o ≡ r
whole_is o r e = rw e refl

not_ended : {A : Type 0} (r : Result A LitFault) (z : List Part) → (z ≡ [] → ⊥) → where_whole r z ≡ Err BadText
not_ended r [] n = absurd (n refl)
not_ended r (p ∷ ps) n = refl

pub not_whole : {A : Type 0} (o : Option (Result A LitFault × List Part)) → NotWhole o → whole_of o ≡ Err BadText
not_whole None n = refl
not_whole (Some r) n = not_ended r.0 r.1 (λ e. n r.0 (ap (λ z. Some (r.0, z)) e))

ended : {A : Type 0} (t r : Result A LitFault) (z : List Part) → (r ≡ Err BadText → ⊥) → where_whole t z ≡ r → (t ≡ r) × (z ≡ [])
ended t r [] n e = (e, refl)
ended t r (p ∷ ps) n e = absurd (n (sym e))

pub taken_whole : {A : Type 0} (o : Option (Result A LitFault × List Part)) (r : Result A LitFault) → (r ≡ Err BadText → ⊥) → whole_of o ≡ r → o ≡ Some (r, [])
taken_whole None r n e = absurd (n (sym e))
taken_whole (Some x) r n e =
    let p = ended x.0 r x.1 n e in
    ap (λ t. Some (t, x.1)) p.0 ∙ ap (λ z. Some (r, z)) p.1

-- what a text spells is what the function says
pub value_said : (greatest : ℕ) (a : Expression) (text : List ℕ) (v : PureValue) → ValueTextTo greatest a text v → spelled_value_to greatest a text ≡ Ok v
value_said greatest a text v t =
    whole_is (value_at greatest (carrier_of a) (parts_of text)) (value_of (carrier_of a) t.shape) (whole_value greatest a text t.shape t.has t.splits) ∙ t.means

pub value_says : (greatest : ℕ) (a : Expression) (text : List ℕ) (v : PureValue) → spelled_value_to greatest a text ≡ Ok v → ValueTextTo greatest a text v
value_says greatest a text v e = value_spelled greatest a text v (taken_whole (value_at greatest (carrier_of a) (parts_of text)) (Ok v) (λ h. cc) e)

has_value_fault : (greatest : ℕ) (a : Expression) (text : List ℕ) (fault : LitFault) → HasValueFault greatest a text fault → spelled_value_to greatest a text ≡ Err fault
has_value_fault greatest a text fault f =
    whole_is (value_at greatest (carrier_of a) (parts_of text)) (value_of (carrier_of a) f.shape) (whole_value greatest a text f.shape f.has f.splits) ∙ f.breaks

pub value_fault_said : (greatest : ℕ) (a : Expression) (text : List ℕ) (fault : LitFault) → IsValueFaultTo greatest a text fault → spelled_value_to greatest a text ≡ Err fault
value_fault_said greatest a text BadText f =
    not_whole (value_at greatest (carrier_of a) (parts_of text)) (λ r e.
    let x = value_sound greatest (carrier_of a) (parts_of text) r [] e in
    f x.shape x.has (value_splits greatest a text r x))
value_fault_said greatest a text NotInCarrier f = has_value_fault greatest a text NotInCarrier f
value_fault_said greatest a text NotALabel f = has_value_fault greatest a text NotALabel f

-- a reader of the whole never finds bad text
bad_not_whole : (greatest : ℕ) (a : Expression) (text : List ℕ) → spelled_value_to greatest a text ≡ Err BadText → NotWhole (value_at greatest (carrier_of a) (parts_of text))
bad_not_whole greatest a text e = λ r h.
    let x = value_sound greatest (carrier_of a) (parts_of text) r [] h in
    let w = whole_is (value_at greatest (carrier_of a) (parts_of text)) r h in
    not_bad greatest (carrier_of a) x.shape x.has (x.means ∙ sym w ∙ e)

pub value_fault_says : (greatest : ℕ) (a : Expression) (text : List ℕ) (fault : LitFault) → spelled_value_to greatest a text ≡ Err fault → IsValueFaultTo greatest a text fault
value_fault_says greatest a text BadText e = value_refused greatest a text (bad_not_whole greatest a text e)
value_fault_says greatest a text NotInCarrier e = value_fault greatest a text NotInCarrier (taken_whole (value_at greatest (carrier_of a) (parts_of text)) (Err NotInCarrier) (λ h. cc) e)
value_fault_says greatest a text NotALabel e = value_fault greatest a text NotALabel (taken_whole (value_at greatest (carrier_of a) (parts_of text)) (Err NotALabel) (λ h. cc) e)

pub value_states : (greatest : ℕ) (a : Expression) (text : List ℕ) → Reports (spelled_value_to greatest a text) (ValueTextTo greatest a text) (IsValueFaultTo greatest a text)
value_states greatest a text = record {
  spells = λ v t. value_said greatest a text v t;
  is_spelled = λ v e. value_says greatest a text v e;
  refuses = λ f t. value_fault_said greatest a text f t;
  is_refused = λ f e. value_fault_says greatest a text f e;
}

-- what holds of all that one function reports
pub reported_once : {A : Type 0} (r : Result A LitFault) (Spells : A → Type 0) (Refuses : LitFault → Type 0) → Reports r Spells Refuses → (u v : A) → Spells u → Spells v → u ≡ v
reported_once r Spells Refuses t u v s w = let e : Ok u ≡ Ok v = sym (t.spells u s) ∙ t.spells v w in cc

pub stated_apart : {A : Type 0} (r : Result A LitFault) (Spells : A → Type 0) (Refuses : LitFault → Type 0) → Reports r Spells Refuses → (v : A) (f : LitFault) → Spells v → Refuses f → ⊥
stated_apart r Spells Refuses t v f s w = let e : Ok v ≡ Err f = sym (t.spells v s) ∙ t.refuses f w in cc

pub stated_one_fault : {A : Type 0} (r : Result A LitFault) (Spells : A → Type 0) (Refuses : LitFault → Type 0) → Reports r Spells Refuses → (f g : LitFault) → Refuses f → Refuses g → f ≡ g
stated_one_fault {A = A} r Spells Refuses t f g s w = let e : ◌≡◌ {A = Result A LitFault} (Err f) (Err g) = sym (t.refuses f s) ∙ t.refuses g w in cc

pub stated_always : {A : Type 0} (r : Result A LitFault) (Spells : A → Type 0) (Refuses : LitFault → Type 0) → Reports r Spells Refuses → ((v : A) × Spells v) ⊎ ((f : LitFault) × Refuses f)
stated_always (Ok v) Spells Refuses t = inl (v, t.is_spelled v refl)
stated_always (Err f) Spells Refuses t = inr (f, t.is_refused f refl)
