-- A step of a comparison, and what is left to compare.
use Rattle.std.proofs.Common.{◌≡◌, ◌≢◌, ℕ, zero, suc, ◌≤◌, List, [], ◌∷◌, length, drop, None, refl, sym, ap, ◌∙◌, arith}
use Rattle.label_code.specs.declared.operations.OrdOp.{OrdOp}
use Rattle.label_code.specs.Orders.{ties, finding, found, compare_over, RunOrder, FitsBoth}

-- a jump that passes the end fits no rows
pub jump_within : (n : ℕ) (code : List OrdOp) (v w : List ℕ) → compare_over n code v w ≢ None → n ≤ length code
jump_within zero code v w fits = omega arith
jump_within (suc n) [] v w fits = absurd (fits refl)
jump_within (suc n) (op ∷ code) v w fits = let i = jump_within n code v w fits in omega arith

-- a jump leaves the operations after it
pub jumped : (n : ℕ) (code : List OrdOp) (v w : List ℕ) → n ≤ length code → compare_over n code v w ≡ RunOrder (drop n code) v w
jumped zero code v w i = refl
jumped (suc n) [] v w i = absurd (omega arith)
jumped (suc n) (op ∷ code) v w i = jumped n code v w (omega arith)

-- a step that goes on leaves code that decides what the whole decides
pub record IsTie (op : OrdOp) (code : List OrdOp) (v w x y : List ℕ) (jump : ℕ) : Type 0 where
  pub within : jump ≤ length code
  pub same : RunOrder (drop jump code) x y ≡ RunOrder (op ∷ code) v w

pub tied : (op : OrdOp) (code : List OrdOp) (v w x y : List ℕ) (jump : ℕ) → FitsBoth (op ∷ code) v w → ties x y jump ≡ finding op v w → IsTie op code v w x y jump
tied op code v w x y jump fits e =
    let whole : compare_over jump code x y ≡ RunOrder (op ∷ code) v w = ap (λ f. found f (λ j r s. compare_over j code r s)) e in
    let within : jump ≤ length code = jump_within jump code x y (λ n. fits (sym whole ∙ n)) in
    record {
      within = within;
      same = sym (jumped jump code x y within) ∙ whole;
    }
