-- A step of the machine, and what is left to run.
use Rattle.std.proofs.Common.{◌≡◌, ◌≢◌, ℕ, zero, suc, ◌≤◌, List, [], ◌∷◌, ◌++◌, length, drop, Bool, true, false, None, Some, if◌then◌else◌, refl, sym, ap, ◌∙◌, arith}
use Rattle.label_code.specs.declared.operations.Op.{Op}
use Rattle.label_code.specs.Effects.{Effect, goes_on, writes, denies, misses, effect}
use Rattle.label_code.specs.Machine.{Outcome, made, prohibited, stuck, after_written, outcome, run_over, RunCode, Fits}
use Rattle.label_code.specs.Steps.{left_by, writes_in_place, effect_in_place}
use Rattle.label_code.specs.CodeLaws.{after_both}

-- a jump that passes the end is stuck
pub jump_within : (n : ℕ) (code : List Op) (row : List ℕ) → run_over n code row ≢ stuck → n ≤ length code
jump_within zero code row fits = omega arith
jump_within (suc n) [] row fits = absurd (fits refl)
jump_within (suc n) (op ∷ code) row fits = let i = jump_within n code row fits in omega arith

-- a jump leaves the operations after it
pub jumped : (n : ℕ) (code : List Op) (row : List ℕ) → n ≤ length code → run_over n code row ≡ RunCode (drop n code) row
jumped zero code row i = refl
jumped (suc n) [] row i = absurd (omega arith)
jumped (suc n) (op ∷ code) row i = jumped n code row (omega arith)

-- what is stuck is stuck after words
pub not_stuck : (w : List ℕ) (o : Outcome) → after_written w o ≢ stuck → o ≢ stuck
not_stuck w (made row) fits = λ e. absurd (cc)
not_stuck w prohibited fits = λ e. absurd (cc)
not_stuck w stuck fits = λ e. fits refl

-- a step leaves code that fits what is left of the row, and makes what the whole makes
pub record IsStep (op : Op) (code : List Op) (row left old new : List ℕ) (jump : ℕ) : Type 0 where
  pub within : jump ≤ length code
  pub fits : Fits (drop jump code) left
  pub same : after_written new (RunCode (drop jump code) left) ≡ after_written old (RunCode (op ∷ code) row)

-- the same of what the operation does
pub going : (op : Op) (code : List Op) (row written rest old : List ℕ) (jump : ℕ) → effect op row ≡ goes_on written rest jump → Fits (op ∷ code) row → IsStep op code row rest old (old ++ written) jump
going op code row written rest old jump e fits =
    let whole : RunCode (op ∷ code) row ≡ after_written written (run_over jump code rest) = ap (λ f. outcome f (λ j r. run_over j code r)) e in
    let free : run_over jump code rest ≢ stuck = not_stuck written _ (λ s. fits (cc)) in
    let within : jump ≤ length code = jump_within jump code rest free in
    let there : run_over jump code rest ≡ RunCode (drop jump code) rest = jumped jump code rest within in
    record {
      within = within;
      fits = λ s. free (cc);
      same = sym (rw (whole, there) (after_both old written (RunCode (drop jump code) rest)));
    }

some_inj : {A : Type 0} {x y : A} → Some x ≡ Some y → x ≡ y
some_inj e = cc

pub stepped : (op : Op) (code : List Op) (row left old new : List ℕ) (jump : ℕ) → Fits (op ∷ code) row → Some (new, (left, jump)) ≡ left_by old (effect op row) → IsStep op code row left old new jump
stepped op code row left old new jump fits is = by (effect op row) refl
  where
    by : (e : Effect) → effect op row ≡ e → IsStep op code row left old new jump
    by denies e = absurd (cc)
    by misses e = absurd (cc)
    by (goes_on written rest over) e =
        let same = some_inj (is ∙ ap (left_by old) e) in
        let f : new ≡ old ++ written = ap (λ p. p.0) same in
        let g : left ≡ rest = ap (λ p. p.1.0) same in
        let h : jump ≡ over = ap (λ p. p.1.1) same in
        rw (f, g, h) (going op code row written rest old over e fits)

-- a word that is written in place of one is what the operation does
pub does_in_place : (op : Op) (row : List ℕ) (word : ℕ) (rest : List ℕ) → effect_in_place op row ≡ Some (writes word rest) → effect op row ≡ goes_on (word ∷ []) rest 0
does_in_place op row word rest is = by (writes_in_place op) refl
  where
    by : (b : Bool) → writes_in_place op ≡ b → effect op row ≡ goes_on (word ∷ []) rest 0
    by true e = some_inj (ap (λ b. if b then Some (effect op row) else None) (sym e) ∙ is)
    by false e = absurd (cc)
