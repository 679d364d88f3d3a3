-- Which value and which label a text spells, and which fault refuses it.
use Rattle.std.specs.Prelude.{◌≡◌, ℕ, ◌^◌, List, [], ◌∷◌, Bool, ◌&&◌, ◌==◌, nat_lt, nat_le, bit_or, position, Option, Some, None, if◌then◌else◌, Result, Ok, Err, codes}
use Rattle.std.specs.List.{list_all}
use Rattle.std.specs.Str.{bytes_eq}
use Rattle.alg_model.specs.declared.tree.TableRow.{TableRow}
use Rattle.alg_model.specs.Expressions.{Expression, add, cap, worst, width, pref, orig, seq, simseq, tags, guard, gate, table, lex, scoped, union, sum, plus, left, right}
use Rattle.alg_model.specs.Expressions.{PureCarrier, whole, up_to, down_from, seqs, simseqs, sets, one, named, pairs, sides}
use Rattle.alg_model.specs.Expressions.{PureValue, number, symbols, marks, unit, name, pair, first, second}
use Rattle.alg_model.specs.Expressions.{PureLabel, number_label, keep, symbol_label, need, bar, unmark, allow, deny, row_label, pair_label, both_label, first_label, second_label, const_label, outer, inner}
use Rattle.alg_model.specs.Expressions as labels
use Rattle.alg_model.specs.Expressions.{PureAlg}
use Rattle.alg_model.specs.Bounds.{greatest_number}
use Rattle.alg_model.specs.Carriers.{carrier_of, distinct}
use Rattle.sig_text.specs.declared.faults.LitFault.{LitFault}
use Rattle.sig_text.specs.declared.faults.LitFault.TheVariants.{BadText, NotInCarrier, NotALabel}
use Rattle.sig_text.specs.Marks.{plus_sign, question_mark}
use Rattle.sig_text.specs.Parts.{Splits}
use Rattle.sig_text.specs.Shapes.{ValueShape, number_shape, list_shape, set_shape, word_shape, pair_shape, first_shape, second_shape, value_parts, HasValueShape}
use Rattle.sig_text.specs.Shapes.{LabelShape, number_label_shape, word_label_shape, marked_shape, pair_label_shape, both_shape, first_label_shape, second_label_shape, value_label_shape, outer_shape, inner_shape, label_parts, HasLabelShape}

-- this where the test passes, else that fault
abbrev pub where_true : {A : Type 0} → Bool → LitFault → A → Result A LitFault
where_true passes fault a = if passes then Ok a else Err fault

-- what the parts make together: the first fault from the left, if there is one
abbrev pub both_of : {A B C : Type 0} → (A → B → C) → Result A LitFault → Result B LitFault → Result C LitFault
both_of f (Ok a) (Ok b) = Ok (f a b)
both_of f (Ok a) (Err fault) = Err fault
both_of f (Err fault) other = Err fault

abbrev pub one_of : {A B : Type 0} → (A → B) → Result A LitFault → Result B LitFault
one_of f (Ok a) = Ok (f a)
one_of f (Err fault) = Err fault

-- the set of these numbers, as the number with those bits
abbrev pub set_of : List ℕ → ℕ
set_of [] = 0
set_of (n ∷ ns) = bit_or (2 ^ n) (set_of ns)

-- the place of a name, if it is there
abbrev pub placed : {A : Type 0} → (ℕ → A) → LitFault → Option ℕ → Result A LitFault
placed f fault (Some place) = Ok (f place)
placed f fault None = Err fault

-- the value of the carrier that a shape of its kind spells, or the first fault in it
abbrev pub value_of : PureCarrier → ValueShape → Result PureValue LitFault
value_of whole (number_shape n) = Ok (number n)
value_of (up_to top) (number_shape n) = where_true (nat_le n top) NotInCarrier (number n)
value_of (down_from top) (number_shape n) = where_true (nat_le n top) NotInCarrier (number n)
value_of (seqs k) (list_shape ns) = where_true (list_all (λ n. nat_lt n k) ns) NotInCarrier (symbols ns)
value_of (simseqs k) (list_shape ns) =
    where_true (list_all (λ n. nat_lt n k) ns && distinct ns) NotInCarrier (symbols ns)
value_of (sets k) (set_shape ns) = where_true (list_all (λ n. nat_lt n k) ns) NotInCarrier (marks (set_of ns))
value_of one (word_shape w) = Ok unit
value_of (named names ranks) (word_shape w) =
    placed name NotInCarrier (position (λ (other : List ℕ). bytes_eq other w) names)
value_of (pairs c d) (pair_shape u v) = both_of pair (value_of c u) (value_of d v)
value_of (sides c d) (first_shape u) = one_of first (value_of c u)
value_of (sides c d) (second_shape v) = one_of second (value_of d v)
value_of _ _ = Err BadText

-- a label that adds or takes a number, and one that asks for it or bars it
abbrev pub tag_label : ℕ → ℕ → PureLabel
tag_label c n = if c == plus_sign then labels.mark n else unmark n

abbrev pub guard_label : ℕ → ℕ → PureLabel
guard_label c n = if c == question_mark then need n else bar n

-- the label of the algebra that a shape of its kind spells, or the first fault in it
abbrev pub label_of : Expression → LabelShape → Result PureLabel LitFault
label_of (add low high) (number_label_shape n) = where_true (nat_le low n && nat_le n high) NotALabel (number_label n)
label_of (cap top low high) (number_label_shape n) =
    where_true (nat_le low n && nat_le n high) NotALabel (number_label n)
label_of (worst top low high) (number_label_shape n) =
    where_true (nat_le low n && nat_le n high) NotALabel (number_label n)
label_of (width top low high) (number_label_shape n) =
    where_true (nat_le low n && nat_le n high) NotALabel (number_label n)
label_of (pref top) (number_label_shape n) = where_true (nat_le n top) NotALabel (number_label n)
label_of (orig top) (word_label_shape w) = Ok keep
label_of (seq k) (number_label_shape n) = where_true (nat_lt n k) NotALabel (symbol_label n)
label_of (simseq k) (number_label_shape n) = where_true (nat_lt n k) NotALabel (symbol_label n)
label_of (tags k) (word_label_shape w) = Ok keep
label_of (tags k) (marked_shape c n) = where_true (nat_lt n k) NotALabel (tag_label c n)
label_of (guard k) (marked_shape c n) = where_true (nat_lt n k) NotALabel (guard_label c n)
label_of gate (word_label_shape w) = Ok (if bytes_eq w (codes "allow") then allow else deny)
label_of (table t) (word_label_shape w) =
    placed row_label NotALabel (position (λ (row : TableRow). bytes_eq row.name w) t.rows)
label_of (lex a b) (pair_label_shape x y) = both_of pair_label (label_of a x) (label_of b y)
label_of (scoped a b) (outer_shape x v) = both_of outer (label_of a x) (value_of (carrier_of b) v)
label_of (scoped a b) (inner_shape y) = one_of inner (label_of b y)
label_of (union a b) (first_label_shape x) = one_of first_label (label_of a x)
label_of (union a b) (second_label_shape y) = one_of second_label (label_of b y)
label_of (sum a b) (both_shape x y) = both_of both_label (label_of a x) (label_of b y)
label_of (plus a b) (first_label_shape x) = one_of first_label (label_of a x)
label_of (plus a b) (second_label_shape y) = one_of second_label (label_of b y)
label_of (left a) (value_label_shape v) = one_of const_label (value_of (carrier_of a) v)
label_of (right a) (word_label_shape w) = Ok keep
label_of _ _ = Err BadText

-- the text spells the value of the algebra, with no number above the greatest
pub record ValueTextTo (greatest : ℕ) (a : Expression) (text : List ℕ) (v : PureValue) : Type 0 where
  pub shape : ValueShape
  pub has : HasValueShape greatest (carrier_of a) shape
  pub splits : Splits (value_parts shape) text
  pub means : value_of (carrier_of a) shape ≡ Ok v

-- the text spells the label of the algebra, with no number above the greatest
pub record LabelTextTo (greatest : ℕ) (a : Expression) (text : List ℕ) (l : PureLabel) : Type 0 where
  pub shape : LabelShape
  pub has : HasLabelShape greatest a shape
  pub splits : Splits (label_parts shape) text
  pub means : label_of a shape ≡ Ok l

-- a shape that the carrier's kind asks for stands in the text, and this is the first fault in it
pub record HasValueFault (greatest : ℕ) (a : Expression) (text : List ℕ) (fault : LitFault) : Type 0 where
  pub shape : ValueShape
  pub has : HasValueShape greatest (carrier_of a) shape
  pub splits : Splits (value_parts shape) text
  pub breaks : value_of (carrier_of a) shape ≡ Err fault

-- the same of the algebra's kind
pub record HasLabelFault (greatest : ℕ) (a : Expression) (text : List ℕ) (fault : LitFault) : Type 0 where
  pub shape : LabelShape
  pub has : HasLabelShape greatest a shape
  pub splits : Splits (label_parts shape) text
  pub breaks : label_of a shape ≡ Err fault

-- no shape that the carrier's kind asks for stands in the text; or one does, and this is the first fault in it
abbrev pub IsValueFaultTo : ℕ → Expression → List ℕ → LitFault → Type 0
IsValueFaultTo greatest a text BadText =
    (shape : ValueShape) → HasValueShape greatest (carrier_of a) shape → Splits (value_parts shape) text → ⊥
IsValueFaultTo greatest a text NotInCarrier = HasValueFault greatest a text NotInCarrier
IsValueFaultTo greatest a text NotALabel = HasValueFault greatest a text NotALabel

-- the same of the algebra's kind
abbrev pub IsLabelFaultTo : ℕ → Expression → List ℕ → LitFault → Type 0
IsLabelFaultTo greatest a text BadText =
    (shape : LabelShape) → HasLabelShape greatest a shape → Splits (label_parts shape) text → ⊥
IsLabelFaultTo greatest a text NotInCarrier = HasLabelFault greatest a text NotInCarrier
IsLabelFaultTo greatest a text NotALabel = HasLabelFault greatest a text NotALabel

-- Of an algebra's own texts the greatest number is that of its edition.

abbrev pub ValueText : PureAlg → List ℕ → PureValue → Type 0
ValueText a text v = ValueTextTo (greatest_number a.edition) a.expression text v

abbrev pub LabelText : PureAlg → List ℕ → PureLabel → Type 0
LabelText a text l = LabelTextTo (greatest_number a.edition) a.expression text l

abbrev pub IsValueFault : PureAlg → List ℕ → LitFault → Type 0
IsValueFault a text fault = IsValueFaultTo (greatest_number a.edition) a.expression text fault

abbrev pub IsLabelFault : PureAlg → List ℕ → LitFault → Type 0
IsLabelFault a text fault = IsLabelFaultTo (greatest_number a.edition) a.expression text fault

-- What all texts spell, over all algebras. Laws say that there is one such pair of functions, and one only.

-- of each text over each algebra the label and the value, or the fault
pub record Spelling : Type 0 where
  pub label : PureAlg → List ℕ → Result PureLabel LitFault
  pub value : PureAlg → List ℕ → Result PureValue LitFault

-- the text spells the label, or the fault refuses it
abbrev pub SpellsLabel : PureAlg → List ℕ → Result PureLabel LitFault → Type 0
SpellsLabel a text (Ok l) = LabelText a text l
SpellsLabel a text (Err fault) = IsLabelFault a text fault

-- the same of a value
abbrev pub SpellsValue : PureAlg → List ℕ → Result PureValue LitFault → Type 0
SpellsValue a text (Ok v) = ValueText a text v
SpellsValue a text (Err fault) = IsValueFault a text fault

pub record IsSpelling (s : Spelling) : Type 0 where
  pub labels : (a : PureAlg) (text : List ℕ) → SpellsLabel a text (s.label a text)
  pub values : (a : PureAlg) (text : List ℕ) → SpellsValue a text (s.value a text)
