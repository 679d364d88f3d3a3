-- What the lines of a text come to is what the text means.
use Rattle.std.proofs.Common.{◌≡◌, ℕ, List, [], ◌∷◌, length, refl, ◌∙◌, arith}
use Rattle.alg_model.specs.Expressions.{PureAlg}
use Rattle.sig_text.specs.Literals.{IsSpelling}
use Rattle.sig_text.specs.Spelled.{spelled}
use Rattle.topology_file.specs.declared.errors.LineError.{LineError}
use Rattle.topology_file.specs.declared.errors.LineError.TheVariants.{Bad, NoMemory}
use Rattle.topology_file.specs.Texts.{lines_of}
use Rattle.topology_file.specs.NetText.{PureNetFile, empty_file, after_line, NetText, IsRefusedBy}
use Rattle.topology_file.specs.LineErrors.{IsRefusedAs, error_at}
use Rattle.topology_file.proofs.Runs.{outcome, outcome_is_text, outcome_is_fault}

-- the network is that of the text where nothing is left
pub read_to_end : IsSpelling spelled → (source : List ℕ) (alg : PureAlg) (file : PureNetFile) (n : ℕ) (rest : List ℕ)
    → outcome (empty_file alg) 1 (lines_of source) ≡ outcome file n (lines_of rest) → length rest ≡ 0 → NetText source alg file
read_to_end is source alg file n [] e f = outcome_is_text is source alg file e
read_to_end is source alg file n (c ∷ cs) e f = absurd (omega (arith, f))

-- the text is refused where the next line is
pub refused_at : IsSpelling spelled → (source : List ℕ) (alg : PureAlg) (file : PureNetFile) (n : ℕ) (line : List ℕ) (lines others : List (List ℕ)) (error : LineError)
    → outcome (empty_file alg) 1 (lines_of source) ≡ outcome file n lines → lines ≡ line ∷ others → IsRefusedAs (after_line spelled file line) error → IsRefusedBy source alg (error_at n error)
refused_at is source alg file n line lines others (Bad kind) e f h =
    outcome_is_fault is source alg (record { line = n; kind = kind }) (e ∙ rw (f, h) refl)
refused_at is source alg file n line lines others NoMemory e f h = tt
