-- The shapes of values: a reader takes exactly what the parts of a shape are, and finds what it spells.
use Rattle.std.proofs.Common.{◌≡◌, ℕ, Bool, true, false, ◌&&◌, List, ◌∷◌, ◌++◌, Some, None, Result, Ok, refl, sym, ap, ◌∙◌, subst, nat_le, nat_lt}
use Rattle.std.specs.Prelude.{codes, option_map, option_and_then}
use Rattle.std.specs.List.{list_all}
use Rattle.std.specs.Str.{bytes_eq}
use Rattle.std.proofs.lemmas.Slice.Eq.{bytes_eq-Decides}
use Rattle.alg_model.specs.Names.{place_of}
use Rattle.alg_model.specs.Expressions.{PureCarrier, whole, up_to, down_from, seqs, simseqs, sets, one, named, pairs, sides}
use Rattle.alg_model.specs.Expressions.{PureValue, number, symbols, marks, unit, name, pair, first, second}
use Rattle.alg_model.specs.Carriers.{distinct}
use Rattle.sig_text.specs.declared.faults.LitFault.{LitFault}
use Rattle.sig_text.specs.declared.faults.LitFault.TheVariants.{NotInCarrier}
use Rattle.sig_text.specs.declared.parts.Side.{Side}
use Rattle.sig_text.specs.declared.parts.Side.TheVariants.{First, Second}
use Rattle.sig_text.specs.Parts.{Part, word, mark}
use Rattle.sig_text.specs.Shapes.{ValueShape, number_shape, list_shape, set_shape, word_shape, pair_shape, first_shape, second_shape, value_parts, HasValueShape}
use Rattle.sig_text.specs.Literals.{where_true, both_of, one_of, set_of, placed, value_of}
use Rattle.sig_text.specs.Reading.{take_mark, take_number, take_word, take_list, take_side, side_of, on_side, kept, take_pair, set_from, set_at, unit_at, value_at}
use Rattle.sig_text.proofs.Fronts.{kept_is, and_then_is, map_is, test_is, take_mark_is, take_number_is, take_word_is, takes_number, takes_list, takes_pair, pair_regroup, pair_is, list_is}

-- a shape at the front of the parts, and what it spells
pub record ValueFront (greatest : ℕ) (c : PureCarrier) (ps : List Part) (o : Result PureValue LitFault) (z : List Part) : Type 0 where
  pub shape : ValueShape
  pub has : HasValueShape greatest c shape
  pub parts : ps ≡ value_parts shape ++ z
  pub means : value_of c shape ≡ o

-- a reader takes what is there
pub value_complete : (greatest : ℕ) (c : PureCarrier) (s : ValueShape) (z : List Part) → HasValueShape greatest c s → value_at greatest c (value_parts s ++ z) ≡ Some (value_of c s, z)
value_complete greatest whole (number_shape n) z h = rw (takes_number greatest n z h) refl
value_complete greatest whole _ z h = absurd h
value_complete greatest (up_to top) (number_shape n) z h = rw (takes_number greatest n z h) refl
value_complete greatest (up_to top) _ z h = absurd h
value_complete greatest (down_from top) (number_shape n) z h = rw (takes_number greatest n z h) refl
value_complete greatest (down_from top) _ z h = absurd h
value_complete greatest (seqs k) (list_shape ns) z h = rw (takes_list greatest 91 93 refl ns z h) refl
value_complete greatest (seqs k) _ z h = absurd h
value_complete greatest (simseqs k) (list_shape ns) z h = rw (takes_list greatest 91 93 refl ns z h) refl
value_complete greatest (simseqs k) _ z h = absurd h
value_complete greatest (sets k) (set_shape ns) z h = rw (takes_list greatest 123 125 refl ns z h.0, h.1) refl
value_complete greatest (sets k) _ z h = absurd h
value_complete greatest one (word_shape w) z h = rw h refl
value_complete greatest one _ z h = absurd h
value_complete greatest (named names ranks) (word_shape w) z h = refl
value_complete greatest (named names ranks) _ z h = absurd h
value_complete greatest (pairs c d) (pair_shape u v) z h =
    ap (take_pair 44 (both_of pair) (value_at greatest c) (value_at greatest d)) (pair_regroup 44 (value_parts u) (value_parts v) z)
    ∙ takes_pair 44 (both_of pair) (value_at greatest c) (value_at greatest d) (value_of c u) (value_of d v) (value_parts u ++ mark 44 ∷ (value_parts v ++ mark 41 ∷ z)) (value_parts v ++ mark 41 ∷ z) z
    (value_complete greatest c u (mark 44 ∷ (value_parts v ++ mark 41 ∷ z)) h.0) (value_complete greatest d v (mark 41 ∷ z) h.1)
value_complete greatest (pairs c d) _ z h = absurd h
value_complete greatest (sides c d) (first_shape u) z h = ap (kept (one_of first)) (value_complete greatest c u z h)
value_complete greatest (sides c d) (second_shape v) z h = ap (kept (one_of second)) (value_complete greatest d v z h)
value_complete greatest (sides c d) _ z h = absurd h

-- the sign of a side
pub record SideFront (ps : List Part) (side : Side) (z : List Part) : Type 0 where
  pub sign : List ℕ
  pub parts : ps ≡ word sign ∷ mark 58 ∷ z
  pub is : sign ≡ on_side side (codes "l") (codes "r")

side_by : (w : List ℕ) (side : Side) (b d : Bool) → bytes_eq w (codes "l") ≡ b → bytes_eq w (codes "r") ≡ d → side_of w ≡ Some side → w ≡ on_side side (codes "l") (codes "r")
side_by w side true d h k e =
    let v : side_of w ≡ Some First = rw h refl in
    let p : First ≡ side = cc in
    subst (λ s. w ≡ on_side s (codes "l") (codes "r")) p ((bytes_eq-Decides w (codes "l")).0 h)
side_by w side false true h k e =
    let v : side_of w ≡ Some Second = rw (h, k) refl in
    let p : Second ≡ side = cc in
    subst (λ s. w ≡ on_side s (codes "l") (codes "r")) p ((bytes_eq-Decides w (codes "r")).0 k)
side_by w side false false h k e =
    let v : side_of w ≡ None = rw (h, k) refl in
    absurd (cc)

pub side_is : (ps z : List Part) (side : Side) → take_side ps ≡ Some (side, z) → SideFront ps side z
side_is ps z side e =
    let h = and_then_is (λ r. option_and_then (λ qs. option_map (λ side. (side, qs)) (side_of r.0)) (take_mark 58 r.1)) (take_word ps) (side, z) e in
    let i = and_then_is (λ qs. option_map (λ side. (side, qs)) (side_of h.0.0)) (take_mark 58 h.0.1) (side, z) h.2 in
    let j = map_is (λ side. (side, i.0)) (side_of h.0.0) (side, z) i.2 in
    let p : i.0 ≡ z = ap (λ (r : Side × List Part). r.1) j.2 in
    let q : j.0 ≡ side = ap (λ (r : Side × List Part). r.0) j.2 in
    record {
      sign = h.0.0;
      parts = take_word_is ps h.0.1 h.0.0 h.1 ∙ ap (λ us. word h.0.0 ∷ us) (take_mark_is 58 h.0.1 i.0 i.1 ∙ ap (λ us. mark 58 ∷ us) p);
      is = side_by h.0.0 side (bytes_eq h.0.0 (codes "l")) (bytes_eq h.0.0 (codes "r")) refl refl (j.1 ∙ ap (λ s. Some s) q);
    }

-- and what it takes is there
pub value_sound : (greatest : ℕ) (c : PureCarrier) (ps : List Part) (o : Result PureValue LitFault) (z : List Part) → value_at greatest c ps ≡ Some (o, z) → ValueFront greatest c ps o z
value_sound greatest whole ps o z e =
    let h = kept_is (λ n. Ok (number n)) (take_number greatest ps) o z e in
    let k = take_number_is greatest ps z h.0 h.1 in
    record { shape = number_shape h.0; has = k.1; parts = k.0; means = h.2 }
value_sound greatest (up_to top) ps o z e =
    let h = kept_is (λ n. where_true (nat_le n top) NotInCarrier (number n)) (take_number greatest ps) o z e in
    let k = take_number_is greatest ps z h.0 h.1 in
    record { shape = number_shape h.0; has = k.1; parts = k.0; means = h.2 }
value_sound greatest (down_from top) ps o z e =
    let h = kept_is (λ n. where_true (nat_le n top) NotInCarrier (number n)) (take_number greatest ps) o z e in
    let k = take_number_is greatest ps z h.0 h.1 in
    record { shape = number_shape h.0; has = k.1; parts = k.0; means = h.2 }
value_sound greatest (seqs k) ps o z e =
    let h = kept_is (λ ns. where_true (list_all (λ n. nat_lt n k) ns) NotInCarrier (symbols ns)) (take_list greatest 91 93 ps) o z e in
    let l = list_is greatest 91 93 ps h.0 z h.1 in
    record { shape = list_shape h.0; has = l.small; parts = l.parts; means = h.2 }
value_sound greatest (simseqs k) ps o z e =
    let h = kept_is (λ ns. where_true (list_all (λ n. nat_lt n k) ns && distinct ns) NotInCarrier (symbols ns)) (take_list greatest 91 93 ps) o z e in
    let l = list_is greatest 91 93 ps h.0 z h.1 in
    record { shape = list_shape h.0; has = l.small; parts = l.parts; means = h.2 }
value_sound greatest (sets k) ps o z e =
    let h = and_then_is (set_at k) (take_list greatest 123 125 ps) (o, z) e in
    let i = map_is (λ o. (o, h.0.1)) (set_from k h.0.0) (o, z) h.2 in
    let p : h.0.1 ≡ z = ap (λ (r : Result PureValue LitFault × List Part). r.1) i.2 in
    let q : i.0 ≡ o = ap (λ (r : Result PureValue LitFault × List Part). r.0) i.2 in
    let t = test_is (distinct h.0.0) (where_true (list_all (λ n. nat_lt n k) h.0.0) NotInCarrier (marks (set_of h.0.0))) i.0 i.1 in
    let l = list_is greatest 123 125 ps h.0.0 z (h.1 ∙ ap (λ us. Some (h.0.0, us)) p) in
    record { shape = set_shape h.0.0; has = (l.small, t.0); parts = l.parts; means = t.1 ∙ q }
value_sound greatest one ps o z e =
    let h = and_then_is unit_at (take_word ps) (o, z) e in
    let t = test_is (bytes_eq h.0.0 (codes "unit")) (Ok unit, h.0.1) (o, z) h.2 in
    let p : h.0.1 ≡ z = ap (λ (r : Result PureValue LitFault × List Part). r.1) t.1 in
    let q : Ok unit ≡ o = ap (λ (r : Result PureValue LitFault × List Part). r.0) t.1 in
    record { shape = word_shape h.0.0; has = (bytes_eq-Decides h.0.0 (codes "unit")).0 t.0; parts = take_word_is ps h.0.1 h.0.0 h.1 ∙ ap (λ us. word h.0.0 ∷ us) p; means = q }
value_sound greatest (named names ranks) ps o z e =
    let h = kept_is (λ w. placed name NotInCarrier (place_of names w)) (take_word ps) o z e in
    record { shape = word_shape h.0; has = tt; parts = take_word_is ps z h.0 h.1; means = h.2 }
value_sound greatest (pairs c d) ps o z e =
    let h = pair_is 44 (both_of pair) (value_at greatest c) (value_at greatest d) ps o z e in
    let u = value_sound greatest c h.after h.a (mark 44 ∷ h.further) h.first in
    let v = value_sound greatest d h.further h.b (mark 41 ∷ z) h.second in
    record {
      shape = pair_shape u.shape v.shape;
      has = (u.has, v.has);
      parts = h.opens ∙ ap (λ us. mark 40 ∷ us) (u.parts ∙ ap (λ us. value_parts u.shape ++ mark 44 ∷ us) v.parts) ∙ sym (pair_regroup 44 (value_parts u.shape) (value_parts v.shape) z);
      means = ap (λ x. both_of pair x (value_of d v.shape)) u.means ∙ ap (λ y. both_of pair h.a y) v.means ∙ h.makes;
    }
value_sound greatest (sides c d) ps o z e =
    let h = and_then_is (λ (r : Side × List Part). on_side r.0 (kept (one_of first) (value_at greatest c r.1)) (kept (one_of second) (value_at greatest d r.1))) (take_side ps) (o, z) e in
    let i = side_is ps h.0.1 h.0.0 h.1 in
    value_side greatest c d ps o z h.0.0 h.0.1 i.sign i.parts i.is h.2 (λ us x k. value_sound greatest c us x z k) (λ us y k. value_sound greatest d us y z k)
  where
    value_side : (greatest : ℕ) (c d : PureCarrier) (ps : List Part) (o : Result PureValue LitFault) (z : List Part) (side : Side) (qs : List Part) (sign : List ℕ) → ps ≡ word sign ∷ mark 58 ∷ qs → sign ≡ on_side side (codes "l") (codes "r")
        → on_side side (kept (one_of first) (value_at greatest c qs)) (kept (one_of second) (value_at greatest d qs)) ≡ Some (o, z)
        → ((us : List Part) (x : Result PureValue LitFault) → value_at greatest c us ≡ Some (x, z) → ValueFront greatest c us x z)
        → ((us : List Part) (y : Result PureValue LitFault) → value_at greatest d us ≡ Some (y, z) → ValueFront greatest d us y z) → ValueFront greatest (sides c d) ps o z
    value_side greatest c d ps o z First qs sign p q e f g =
        let h = kept_is (one_of first) (value_at greatest c qs) o z e in
        let u = f qs h.0 h.1 in
        record { shape = first_shape u.shape; has = u.has; parts = p ∙ ap (λ w. word w ∷ mark 58 ∷ qs) q ∙ ap (λ us. word (codes "l") ∷ mark 58 ∷ us) u.parts; means = ap (one_of first) u.means ∙ h.2 }
    value_side greatest c d ps o z Second qs sign p q e f g =
        let h = kept_is (one_of second) (value_at greatest d qs) o z e in
        let v = g qs h.0 h.1 in
        record { shape = second_shape v.shape; has = v.has; parts = p ∙ ap (λ w. word w ∷ mark 58 ∷ qs) q ∙ ap (λ us. word (codes "r") ∷ mark 58 ∷ us) v.parts; means = ap (one_of second) v.means ∙ h.2 }
