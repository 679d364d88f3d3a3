-- What compiled code makes of rows that are values' words.
use Rattle.std.proofs.Common.{◌≡◌, ◌≢◌, ℕ, ◌+◌, List, Bool, Option, Some, None, refl, sym, ap, ◌∙◌, subst}
use Rattle.alg_model.specs.declared.edition.TheConstants.{MAX_LABEL_NUMBER}
use Rattle.alg_model.specs.declared.alg.TheConstants.{MAX_VALUE_NUMBER}
use Rattle.alg_model.specs.Expressions.{Expression, PureCarrier, PureLabel, PureValue}
use Rattle.alg_model.specs.Carriers.{carrier_of, In, Order}
use Rattle.alg_model.specs.Application.{App}
use Rattle.alg_model.specs.Actions.{MayAct}
use Rattle.alg_model.specs.Bounds.{AtMost}
use Rattle.alg_model.specs.Formation.{IsFormed}
use Rattle.alg_model.specs.CarrierLaws.{carriers_are}
use Rattle.alg_model.specs.Laws.{images_in, images_at_most}
use Rattle.label_code.specs.declared.operations.Op.{Op}
use Rattle.label_code.specs.declared.operations.OrdOp.{OrdOp}
use Rattle.label_code.specs.Machine.{made, prohibited, stuck, RunCode, Fits}
use Rattle.label_code.specs.Rows.{MakesOnly}
use Rattle.label_code.specs.Orders.{RunOrder}
use Rattle.code_gen.specs.Encoding.{Enc, decoded, IsEncoded}
use Rattle.code_gen.specs.EncodingLaws.{decoded_is, encoded_in}
use Rattle.code_gen.specs.Compilation.{CompileOrder}
use Rattle.code_gen.specs.Meaning.{outcome_of, IsCodeOf}
use Rattle.code_gen.specs.Widths.{HoldValues}
use Rattle.code_gen.proofs.Labels.{code_means_application}
use Rattle.code_gen.proofs.Orders.{code_means_order}

pub some_inj : {A : Type 0} {x y : A} → Some x ≡ Some y → x ≡ y
some_inj e = cc

-- a row that is a value's words decodes to it
pub decodes_to : (c : PureCarrier) (v : PureValue) (row : List ℕ) → In c v → Enc v ≡ row → decoded c row ≡ v
decodes_to c v row i e = ap (decoded c) (sym e) ∙ decoded_is c v i

-- the code of a label makes of a value's words what the label makes of the value
pub acted : (a : Expression) (code : List Op) (l : PureLabel) (row : List ℕ) → IsFormed a → IsCodeOf a code l → IsEncoded (carrier_of a) row → AtMost MAX_VALUE_NUMBER (decoded (carrier_of a) row) → RunCode code row ≡ outcome_of (App a l (decoded (carrier_of a) row))
acted a code l row f k (v, i, e) small =
    let d = decodes_to (carrier_of a) v row i e in
    let may : MayAct a l v = record { ranges = f.ranges; carriers = f.carriers; label = k.1; value = i; small_label = k.2; small_value = subst (AtMost MAX_VALUE_NUMBER) d small } in
    ap (λ r. RunCode code r) (sym e) ∙ ap (λ o. RunCode o (Enc v)) k.0 ∙ code_means_application a l v may ∙ ap (λ w. outcome_of (App a l w)) (sym d)

not_stuck : (o : Option PureValue) → outcome_of o ≢ stuck
not_stuck (Some w) e = absurd (cc)
not_stuck None e = absurd (cc)

-- so it fits them
pub code_fits : (a : Expression) (code : List Op) (l : PureLabel) (row : List ℕ) → IsFormed a → IsCodeOf a code l → IsEncoded (carrier_of a) row → AtMost MAX_VALUE_NUMBER (decoded (carrier_of a) row) → Fits code row
code_fits a code l row f k i small e = not_stuck (App a l (decoded (carrier_of a) row)) (sym (acted a code l row f k i small) ∙ e)

-- a row that is made is the image's words
pub record IsImaged (a : Expression) (l : PureLabel) (v : PureValue) (out : List ℕ) : Type 0 where
  pub sig : IsEncoded (carrier_of a) out
  pub image : Some (decoded (carrier_of a) out) ≡ App a l v
  pub bound : (n : ℕ) → AtMost n v → AtMost (n + MAX_LABEL_NUMBER) (decoded (carrier_of a) out)

pub imaged : (a : Expression) (code : List Op) (l : PureLabel) (v : PureValue) (out : List ℕ) → IsFormed a → IsCodeOf a code l → In (carrier_of a) v → outcome_of (App a l v) ≡ made out → IsImaged a l v out
imaged a code l v out f k i is = by (App a l v) refl is
  where
    by : (o : Option PureValue) → App a l v ≡ o → outcome_of o ≡ made out → IsImaged a l v out
    by None e m = absurd (cc)
    by (Some w) e m =
        let inside = images_in a l v w f k.1 i e in
        let words : Enc w ≡ out = cc in
        let d = decodes_to (carrier_of a) w out inside words in
        record {
          sig = (w, inside, words);
          image = ap Some d ∙ sym e;
          bound = λ n small. subst (AtMost (n + MAX_LABEL_NUMBER)) (sym d) (images_at_most a l v w n MAX_LABEL_NUMBER k.1 k.2 small e);
        }

-- the same of what the machine makes
pub made_from : (a : Expression) (code : List Op) (l : PureLabel) (row out : List ℕ) → IsFormed a → IsCodeOf a code l → IsEncoded (carrier_of a) row → AtMost MAX_VALUE_NUMBER (decoded (carrier_of a) row)
    → RunCode code row ≡ made out → IsImaged a l (decoded (carrier_of a) row) out
made_from a code l row out f k i small m =
    imaged a code l (decoded (carrier_of a) row) out f k (encoded_in (carrier_of a) row i) (sym (acted a code l row f k i small) ∙ m)

-- and it is among the rows that hold values
pub makes_only : (is_one : List ℕ → Bool) (a : Expression) (code : List Op) (l : PureLabel) (row : List ℕ) → IsFormed a → IsCodeOf a code l → IsEncoded (carrier_of a) row → AtMost MAX_VALUE_NUMBER (decoded (carrier_of a) row)
    → HoldValues is_one (carrier_of a) → MakesOnly is_one (RunCode code row)
makes_only is_one a code l row f k i small holds = subst (MakesOnly is_one) (sym (acted a code l row f k i small)) (by (App a l (decoded (carrier_of a) row)) refl)
  where
    by : (o : Option PureValue) → App a l (decoded (carrier_of a) row) ≡ o → MakesOnly is_one (outcome_of o)
    by None e = tt
    by (Some w) e = holds w (images_in a l (decoded (carrier_of a) row) w f k.1 (encoded_in (carrier_of a) row i) e)

-- where the row is prohibited there is no image
not_imaged : (o : Option PureValue) → outcome_of o ≡ prohibited → o ≡ None
not_imaged (Some w) e = absurd (cc)
not_imaged None e = refl

-- the code of the order compares values' words as the values compare
pub ordered : (a : Expression) (code : List OrdOp) (x y : List ℕ) → IsFormed a → code ≡ CompileOrder (carrier_of a) → IsEncoded (carrier_of a) x → IsEncoded (carrier_of a) y
    → RunOrder code x y ≡ Some (Order (carrier_of a) (decoded (carrier_of a) x) (decoded (carrier_of a) y))
ordered a code x y f k (u, h, d) (v, i, e) =
    let c = carrier_of a in
    ap (λ o. RunOrder o x y) k ∙ ap (λ r. RunOrder (CompileOrder c) r y) (sym d) ∙ ap (λ r. RunOrder (CompileOrder c) (Enc u) r) (sym e)
    ∙ code_means_order c (carriers_are a f) u v h i
    ∙ ap (λ w. Some (Order c w v)) (sym (decodes_to c u x h d)) ∙ ap (λ w. Some (Order c (decoded c x) w)) (sym (decodes_to c v y i e))

pub order_fits : (a : Expression) (code : List OrdOp) (x y : List ℕ) → IsFormed a → code ≡ CompileOrder (carrier_of a) → IsEncoded (carrier_of a) x → IsEncoded (carrier_of a) y → RunOrder code x y ≢ None
order_fits a code x y f k h i e = let o = ordered a code x y f k h i in absurd (cc)

pub prohibited_from : (a : Expression) (code : List Op) (l : PureLabel) (row : List ℕ) → IsFormed a → IsCodeOf a code l → IsEncoded (carrier_of a) row → AtMost MAX_VALUE_NUMBER (decoded (carrier_of a) row)
    → RunCode code row ≡ prohibited → None ≡ App a l (decoded (carrier_of a) row)
prohibited_from a code l row f k i small m = sym (not_imaged (App a l (decoded (carrier_of a) row)) (sym (acted a code l row f k i small) ∙ m))
