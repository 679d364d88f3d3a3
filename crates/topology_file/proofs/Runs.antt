-- What lines come to in turn, as a function.
use Rattle.std.proofs.Common.{◌≡◌, ℕ, ◌+◌, ◌⊎◌, inl, inr, List, [], ◌∷◌, ◌++◌, length, Result, Ok, Err, refl, ap, sym, ◌∙◌, subst, arith}
use Rattle.alg_model.specs.Expressions.{PureAlg}
use Rattle.sig_text.specs.Literals.{Spelling, IsSpelling}
use Rattle.sig_text.specs.Spelled.{spelled}
use Rattle.topology_file.specs.declared.faults.NetKind.{NetKind}
use Rattle.topology_file.specs.declared.faults.NetFault.{NetFault}
use Rattle.topology_file.specs.Texts.{lines_of}
use Rattle.topology_file.specs.NetText.{PureNetFile, empty_file, after_line, Lead, NetText, IsNetFault, HasOneOutcome}

-- what others come to if the line gives something, or else its fault, where it is line n
abbrev pub outcome_from : Result PureNetFile NetKind → ℕ → (PureNetFile → Result PureNetFile NetFault) → Result PureNetFile NetFault
outcome_from (Ok next) n others = others next
outcome_from (Err kind) n others = Err (record { line = n; kind = kind })

-- what all give, or the fault of the first line that breaks a rule, where the first is line n
abbrev pub outcome : PureNetFile → ℕ → List (List ℕ) → Result PureNetFile NetFault
outcome file n [] = Ok file
outcome file n (line ∷ lines) = outcome_from (after_line spelled file line) n (λ next. outcome next (n + 1) lines)

pub outcome_lead : (lines : List (List ℕ)) (file last : PureNetFile) (n : ℕ) → Lead spelled file lines last → outcome file n lines ≡ Ok last
outcome_lead [] file last n e = ap Ok (sym e)
outcome_lead (line ∷ lines) file last n h =
    rw h.1 (outcome_lead lines h.0 last (n + 1) h.2)

-- and the other way round
pub lead_outcome : (lines : List (List ℕ)) (file last : PureNetFile) (n : ℕ) → outcome file n lines ≡ Ok last → Lead spelled file lines last
lead_outcome [] file last n e = cc
lead_outcome (line ∷ lines) file last n e = by (after_line spelled file line) refl e (λ next. lead_outcome lines next last (n + 1))
  where
    by : (r : Result PureNetFile NetKind) → after_line spelled file line ≡ r → outcome_from r n (λ next. outcome next (n + 1) lines) ≡ Ok last
        → ((next : PureNetFile) → outcome next (n + 1) lines ≡ Ok last → Lead spelled next lines last) → Lead spelled file (line ∷ lines) last
    by (Ok next) f g rest = (next, f, rest next g)
    by (Err kind) f g rest = absurd (cc)

-- the first bad line gives its fault
pub outcome_fault : (before : List (List ℕ)) (file good : PureNetFile) (n : ℕ) (line : List ℕ) (others : List (List ℕ)) (f : NetFault)
    → Lead spelled file before good → after_line spelled good line ≡ Err f.kind → f.line ≡ n + length before → outcome file n (before ++ line ∷ others) ≡ Err f
outcome_fault [] file good n line others f lead broken number =
    let here : after_line spelled file line ≡ Err f.kind = rw (← lead) broken in
    let same : record { line = n; kind = f.kind } ≡ f = ap (λ (k : ℕ). record f { line = k }) (let k : n ≡ f.line = omega arith in k) in
    rw here (ap Err same)
outcome_fault (first ∷ before) file good n line others f lead broken number =
    rw lead.1 (outcome_fault before lead.0 good (n + 1) line others f lead.2 broken (omega arith))

-- the fault of the first bad line of these, where the first is line n
pub record FaultFrom (file : PureNetFile) (n : ℕ) (lines : List (List ℕ)) (f : NetFault) : Type 0 where
  pub before : List (List ℕ)
  pub line : List ℕ
  pub others : List (List ℕ)
  pub cut : lines ≡ before ++ line ∷ others
  pub number : f.line ≡ n + length before
  pub after : PureNetFile
  pub good : Lead spelled file before after
  pub broken : after_line spelled after line ≡ Err f.kind

-- a fault is that of the first bad line
pub fault_outcome : (lines : List (List ℕ)) (file : PureNetFile) (n : ℕ) (f : NetFault) → outcome file n lines ≡ Err f → FaultFrom file n lines f
fault_outcome [] file n f e = absurd (cc)
fault_outcome (line ∷ lines) file n f e = by (after_line spelled file line) refl e (λ next. fault_outcome lines next (n + 1) f)
  where
    by : (r : Result PureNetFile NetKind) → after_line spelled file line ≡ r → outcome_from r n (λ next. outcome next (n + 1) lines) ≡ Err f
        → ((next : PureNetFile) → outcome next (n + 1) lines ≡ Err f → FaultFrom next (n + 1) lines f) → FaultFrom file n (line ∷ lines) f
    by (Ok next) g h rest =
        let r = rest next h in
        record {
          before = line ∷ r.before;
          line = r.line;
          others = r.others;
          cut = ap (λ (ls : List (List ℕ)). line ∷ ls) r.cut;
          number = omega (arith, r.number);
          after = r.after;
          good = (next, g, r.good);
          broken = r.broken;
        }
    by (Err kind) g h rest =
        let same : f ≡ record { line = n; kind = kind } = cc in
        let number : f.line ≡ n = ap (λ (x : NetFault). x.line) same in
        let kind_is : kind ≡ f.kind = ap (λ (x : NetFault). x.kind) (sym same) in
        record {
          before = [];
          line = line;
          others = lines;
          cut = refl;
          number = omega arith;
          after = file;
          good = refl;
          broken = g ∙ ap Err kind_is;
        }

-- there is no other spelling
abbrev pub OneSpelling : Type 0
OneSpelling = (s : Spelling) → IsSpelling s → s ≡ spelled

-- what a text means is what its lines come to
text_is_outcome : OneSpelling → (text : List ℕ) (alg : PureAlg) (file : PureNetFile) → NetText text alg file → outcome (empty_file alg) 1 (lines_of text) ≡ Ok file
text_is_outcome only text alg file h =
    outcome_lead (lines_of text) (empty_file alg) file 1 (subst (λ s. Lead s (empty_file alg) (lines_of text) file) (only h.0 h.1) h.2)

pub outcome_is_text : IsSpelling spelled → (text : List ℕ) (alg : PureAlg) (file : PureNetFile) → outcome (empty_file alg) 1 (lines_of text) ≡ Ok file → NetText text alg file
outcome_is_text is text alg file e = (spelled, is, lead_outcome (lines_of text) (empty_file alg) file 1 e)

-- and so is its fault
fault_is_outcome : OneSpelling → (text : List ℕ) (alg : PureAlg) (f : NetFault) → IsNetFault text alg f → outcome (empty_file alg) 1 (lines_of text) ≡ Err f
fault_is_outcome only text alg f h =
    let same = only h.spelling h.is_spelling in
    let good = subst (λ s. Lead s (empty_file alg) h.before h.file) same h.good in
    let broken = subst (λ s. after_line s h.file h.line ≡ Err f.kind) same h.broken in
    rw h.cut (outcome_fault h.before (empty_file alg) h.file 1 h.line h.others f good broken (omega (arith, h.number)))

pub outcome_is_fault : IsSpelling spelled → (text : List ℕ) (alg : PureAlg) (f : NetFault) → outcome (empty_file alg) 1 (lines_of text) ≡ Err f → IsNetFault text alg f
outcome_is_fault is text alg f e =
    let r = fault_outcome (lines_of text) (empty_file alg) 1 f e in
    record {
      before = r.before;
      line = r.line;
      others = r.others;
      cut = r.cut;
      number = omega (arith, r.number);
      spelling = spelled;
      is_spelling = is;
      file = r.after;
      good = r.good;
      broken = r.broken;
    }

has_outcome : IsSpelling spelled → (text : List ℕ) (alg : PureAlg) → ((file : PureNetFile) × NetText text alg file) ⊎ ((f : NetFault) × IsNetFault text alg f)
has_outcome is text alg = by (outcome (empty_file alg) 1 (lines_of text)) refl
  where
    by : (r : Result PureNetFile NetFault) → outcome (empty_file alg) 1 (lines_of text) ≡ r → ((file : PureNetFile) × NetText text alg file) ⊎ ((f : NetFault) × IsNetFault text alg f)
    by (Ok file) e = inl (file, outcome_is_text is text alg file e)
    by (Err f) e = inr (f, outcome_is_fault is text alg f e)

pub one_outcome : IsSpelling spelled → OneSpelling → (text : List ℕ) (alg : PureAlg) → HasOneOutcome text alg
one_outcome is only text alg = record {
  outcome = has_outcome is text alg;
  one_network = λ m n a b.
      let x = text_is_outcome only text alg m a in
      let y = text_is_outcome only text alg n b in
      cc;
  one_fault = λ f g a b.
      let x = fault_is_outcome only text alg f a in
      let y = fault_is_outcome only text alg g b in
      cc;
  not_both = λ file f a b.
      let x = text_is_outcome only text alg file a in
      let y = fault_is_outcome only text alg f b in
      cc;
}
