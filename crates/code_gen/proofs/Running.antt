-- What pieces of code make of the words in front of a row, where more code and more words follow.
use Rattle.std.proofs.Common.{◌≡◌, ℕ, ◌+◌, List, [], ◌∷◌, ◌++◌, length, refl, sym, ap, ◌∙◌, arith}
use Rattle.std.specs.Prelude.{map}
use Rattle.std.proofs.lemmas.List.{append_assoc}
use Rattle.std.proofs.Math.Seq.{take-append_seam, drop-append_seam}
use Rattle.alg_model.specs.Expressions.{PureCarrier, whole, up_to, down_from, seqs, simseqs, sets, one, named, pairs, sides}
use Rattle.alg_model.specs.Expressions.{PureValue, number, symbols, marks, unit, name, pair, first, second}
use Rattle.alg_model.specs.Carriers.{In}
use Rattle.label_code.specs.declared.operations.Op.{Op}
use Rattle.label_code.specs.declared.operations.Op.TheVariants as op
use Rattle.label_code.specs.Machine.{after_written, run_over, RunCode}
use Rattle.label_code.specs.CodeLaws.{after_both, after_none, jump_past}
use Rattle.code_gen.specs.Encoding.{Enc}
use Rattle.code_gen.specs.EncodingLaws.{length_fits}
use Rattle.code_gen.specs.Compilation.{either, Keep, Lose}

-- a jump over the end of a choice's first side
pub skipped : (d code : List Op) (row : List ℕ) → RunCode (op.Skip (length d) ∷ (d ++ code)) row ≡ RunCode code row
skipped d code row =
    let e : length d + 0 ≡ length d = omega arith in
    after_none (run_over (length d) (d ++ code) row) ∙ rw e at (jump_past d code 0 row)

-- a choice reads as its parts, where more code follows
either_then : (choose : ℕ → Op) (c d code : List Op) → either choose c d ++ code ≡ choose (length c + 1) ∷ (c ++ (op.Skip (length d) ∷ (d ++ code)))
either_then choose c d code = ap (λ k. choose (length c + 1) ∷ k) (append_assoc c (op.Skip (length d) ∷ d) code)

-- the same code makes the same of the same row
pub same_run : (c d : List Op) (v w : List ℕ) → c ≡ d → v ≡ w → RunCode c v ≡ RunCode d w
same_run c d v w e f = ap (λ k. RunCode k v) e ∙ ap (RunCode d) f

-- after a fork that reads the second side, the first side's code and its jump are passed
pub fork_second : (c d code : List Op) (row : List ℕ) → RunCode (either op.Fork c d ++ code) (1 ∷ row) ≡ after_written (1 ∷ []) (RunCode (d ++ code) row)
fork_second c d code row =
    same_run _ _ (1 ∷ row) _ (either_then op.Fork c d code) refl
    ∙ ap (after_written (1 ∷ [])) (jump_past c (op.Skip (length d) ∷ (d ++ code)) 1 row)

pub test_second : (c d code : List Op) (row : List ℕ) → RunCode (either op.Test c d ++ code) (1 ∷ row) ≡ RunCode (d ++ code) row
test_second c d code row =
    same_run _ _ (1 ∷ row) _ (either_then op.Test c d code) refl
    ∙ after_none _
    ∙ jump_past c (op.Skip (length d) ∷ (d ++ code)) 1 row

-- after a fork that reads the first side, the first side's code runs, and the second side's is passed: `made_of` is
-- what the first side's code makes of the row, for whatever code follows
pub fork_first : (c d code : List Op) (row : List ℕ) → RunCode (either op.Fork c d ++ code) (0 ∷ row) ≡ after_written (0 ∷ []) (RunCode (c ++ (op.Skip (length d) ∷ (d ++ code))) row)
fork_first c d code row = same_run _ _ (0 ∷ row) _ (either_then op.Fork c d code) refl

pub test_first : (c d code : List Op) (row : List ℕ) → RunCode (either op.Test c d ++ code) (0 ∷ row) ≡ RunCode (c ++ (op.Skip (length d) ∷ (d ++ code))) row
test_first c d code row = same_run _ _ (0 ∷ row) _ (either_then op.Test c d code) refl ∙ after_none _

-- the words of a value are written
pub said : (ws : List ℕ) (code : List Op) (row : List ℕ) → RunCode (map op.Emit ws ++ code) row ≡ after_written ws (RunCode code row)
said [] code row = sym (after_none _)
said (w ∷ ws) code row = ap (after_written (w ∷ [])) (said ws code row) ∙ after_both (w ∷ []) ws (RunCode code row)

-- a sequence is copied, and passed over
seq_kept : (ns : List ℕ) (code : List Op) (row : List ℕ) → RunCode (op.CopySeq ∷ code) (length ns ∷ (ns ++ row)) ≡ after_written (length ns ∷ ns) (RunCode code row)
seq_kept ns code row = rw (length_fits ns row, take-append_seam ns row, drop-append_seam ns row) refl

seq_lost : (ns : List ℕ) (code : List Op) (row : List ℕ) → RunCode (op.DropSeq ∷ code) (length ns ∷ (ns ++ row)) ≡ RunCode code row
seq_lost ns code row = rw (length_fits ns row, drop-append_seam ns row) (after_none _)

-- a value of the carrier is copied
pub kept : (c : PureCarrier) (v : PureValue) (code : List Op) (row : List ℕ) → In c v → RunCode (Keep c ++ code) (Enc v ++ row) ≡ after_written (Enc v) (RunCode code row)
kept whole (number n) code row i = refl
kept (up_to top) (number n) code row i = refl
kept (down_from top) (number n) code row i = refl
kept (seqs k) (symbols ns) code row i = seq_kept ns code row
kept (simseqs k) (symbols ns) code row i = seq_kept ns code row
kept (sets k) (marks m) code row i = refl
kept one unit code row i = sym (after_none _)
kept (named names ranks) (name k) code row i = refl
kept (pairs c d) (pair u v) code row i =
    same_run _ _ _ _ (append_assoc (Keep c) (Keep d) code) (append_assoc (Enc u) (Enc v) row)
    ∙ kept c u (Keep d ++ code) (Enc v ++ row) i.0
    ∙ ap (after_written (Enc u)) (kept d v code row i.1)
    ∙ after_both (Enc u) (Enc v) (RunCode code row)
kept (sides c d) (first u) code row i =
    fork_first (Keep c) (Keep d) code (Enc u ++ row)
    ∙ ap (after_written (0 ∷ [])) (kept c u (op.Skip (length (Keep d)) ∷ (Keep d ++ code)) row i ∙ ap (after_written (Enc u)) (skipped (Keep d) code row))
    ∙ after_both (0 ∷ []) (Enc u) (RunCode code row)
kept (sides c d) (second v) code row i =
    fork_second (Keep c) (Keep d) code (Enc v ++ row)
    ∙ ap (after_written (1 ∷ [])) (kept d v code row i)
    ∙ after_both (1 ∷ []) (Enc v) (RunCode code row)
kept _ _ code row i = absurd i

-- a value of the carrier is passed over
pub lost : (c : PureCarrier) (v : PureValue) (code : List Op) (row : List ℕ) → In c v → RunCode (Lose c ++ code) (Enc v ++ row) ≡ RunCode code row
lost whole (number n) code row i = after_none _
lost (up_to top) (number n) code row i = after_none _
lost (down_from top) (number n) code row i = after_none _
lost (seqs k) (symbols ns) code row i = seq_lost ns code row
lost (simseqs k) (symbols ns) code row i = seq_lost ns code row
lost (sets k) (marks m) code row i = after_none _
lost one unit code row i = refl
lost (named names ranks) (name k) code row i = after_none _
lost (pairs c d) (pair u v) code row i =
    same_run _ _ _ _ (append_assoc (Lose c) (Lose d) code) (append_assoc (Enc u) (Enc v) row)
    ∙ lost c u (Lose d ++ code) (Enc v ++ row) i.0
    ∙ lost d v code row i.1
lost (sides c d) (first u) code row i =
    test_first (Lose c) (Lose d) code (Enc u ++ row)
    ∙ lost c u (op.Skip (length (Lose d)) ∷ (Lose d ++ code)) row i
    ∙ skipped (Lose d) code row
lost (sides c d) (second v) code row i =
    test_second (Lose c) (Lose d) code (Enc v ++ row) ∙ lost d v code row i
lost _ _ code row i = absurd i
