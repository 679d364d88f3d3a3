-- Laws of runs, for proofs of other crates.
use Rattle.std.proofs.Common.{◌≡◌, ℕ, suc, ◌+◌, List, [], ◌∷◌, ◌++◌, length, refl, sym, ap, arith}
use Rattle.std.proofs.lemmas.List.{append_assoc}
use Rattle.label_code.specs.declared.operations.Op.{Op}
use Rattle.label_code.specs.declared.operations.OrdOp.{OrdOp}
use Rattle.label_code.specs.Machine.{Outcome, made, prohibited, stuck, after_written, run_over}
use Rattle.label_code.specs.Orders.{compare_over}

-- words after words
pub after_both : (v w : List ℕ) (o : Outcome) → after_written v (after_written w o) ≡ after_written (v ++ w) o
after_both v w (made row) = ap made (sym (append_assoc v w row))
after_both v w prohibited = refl
after_both v w stuck = refl

-- no words
pub after_none : (o : Outcome) → after_written [] o ≡ o
after_none (made row) = refl
after_none prohibited = refl
after_none stuck = refl

-- a jump passes the code in front of it
pub jump_past : (front code : List Op) (n : ℕ) (row : List ℕ) → run_over (length front + n) (front ++ code) row ≡ run_over n code row
jump_past [] code n row = let e : 0 + n ≡ n = omega arith in rw e refl
jump_past (op ∷ front) code n row = let e : suc (length front) + n ≡ suc (length front + n) = omega arith in rw e (jump_past front code n row)

-- the same of order code
pub leap_past : (front code : List OrdOp) (n : ℕ) (v w : List ℕ) → compare_over (length front + n) (front ++ code) v w ≡ compare_over n code v w
leap_past [] code n v w = let e : 0 + n ≡ n = omega arith in rw e refl
leap_past (op ∷ front) code n v w = let e : suc (length front) + n ≡ suc (length front + n) = omega arith in rw e (leap_past front code n v w)
