-- What the lines of a report come to in turn, as a function.
use Rattle.std.proofs.Common.{◌≡◌, ◌≢◌, ℕ, ◌+◌, List, [], ◌∷◌, ◌++◌, Bool, true, false, if◌then◌else◌, Option, Some, None, length, Result, Ok, Err, append-nil, append_assoc, length-append, refl, ap, sym, ◌∙◌, arith}
use Rattle.std.specs.Option.{ok_or}
use Rattle.alg_model.specs.Expressions.{Expression, PureValue}
use Rattle.net_graph.specs.Limits.{max_row_number}
use Rattle.net_graph.specs.Nets.{PureNet, number_of}
use Rattle.net_graph.specs.Tables.{PureRow}
use Rattle.sig_text.specs.declared.faults.LitFault.{LitFault}
use Rattle.sig_text.specs.Literals.{ValueTextTo, IsValueFaultTo}
use Rattle.sig_text.specs.Spelled.{Reports, spelled_value_to}
use Rattle.topology_file.specs.Texts.{lines_of}
use Rattle.report_check.specs.declared.faults.ReportKind.{ReportKind}
use Rattle.report_check.specs.declared.faults.ReportKind.TheVariants.{BadLine, UnknownName, WrongRow, BadValue, RowsMissing}
use Rattle.report_check.specs.declared.faults.ReportFault.{ReportFault}
use Rattle.report_check.specs.ReportText.{PureProgress, PureSaid, silent, no_route, route, ending, bad, RowSpelling, IsRowSpelling, SpellsRowValue, Lead, ReportText, IsLineFault, AreRowsMissing, IsReportFault, IsFaultOf, HasOneMeaning, no_rows, said_in, after_said, after_none, after_route, after_end, unless_over, and_then, node_in, dest_in, path_in, in_turn, is_next, is_whole, as_value, with_row}
use Rattle.report_check.specs.Said.{row_spelled}

-- What spells the values of rows is one function.

abbrev pub Spelled : Type 0
Spelled = (greatest : ℕ) (a : Expression) (text : List ℕ) → Reports (spelled_value_to greatest a text) (ValueTextTo greatest a text) (IsValueFaultTo greatest a text)

pub is_row_spelling : Spelled → (net : PureNet) → IsRowSpelling net (row_spelled net)
is_row_spelling sp net text = by (row_spelled net text) refl
  where
    by : (r : Result PureValue LitFault) → row_spelled net text ≡ r → SpellsRowValue net.alg.expression text r
    by (Ok v) e = (sp max_row_number net.alg.expression text).is_spelled v e
    by (Err fault) e = (sp max_row_number net.alg.expression text).is_refused fault e

pub one_spelling : Spelled → (net : PureNet) (s : RowSpelling) → IsRowSpelling net s → (text : List ℕ) → s text ≡ row_spelled net text
one_spelling sp net s is text = by (s text) (is text)
  where
    by : (r : Result PureValue LitFault) → SpellsRowValue net.alg.expression text r → r ≡ row_spelled net text
    by (Ok v) h = sym ((sp max_row_number net.alg.expression text).spells v h)
    by (Err fault) h = sym ((sp max_row_number net.alg.expression text).refuses fault h)

-- what a line makes depends on the spelling of its value alone
said_same : (s t : RowSpelling) (net : PureNet) (p : PureProgress) → ((text : List ℕ) → s text ≡ t text) → (said : PureSaid) → after_said s net p said ≡ after_said t net p said
said_same s t net p e silent = refl
said_same s t net p e (no_route node dest) = refl
said_same s t net p e (route node dest value path) = rw (e value) refl
said_same s t net p e ending = refl
said_same s t net p e bad = refl

lead_same : (s t : RowSpelling) (net : PureNet) → ((text : List ℕ) → s text ≡ t text) → (lines : List (List ℕ)) (p last : PureProgress) → Lead s net p lines last → Lead t net p lines last
lead_same s t net e [] p last h = h
lead_same s t net e (line ∷ lines) p last h = (h.0, sym (said_same s t net p e (said_in line)) ∙ h.1, lead_same s t net e lines h.0 last h.2)

-- No line says that rows are missing.

never : {A B : Type 0} (r : Result A ReportKind) (next : A → Result B ReportKind) → r ≢ Err RowsMissing → ((a : A) → next a ≢ Err RowsMissing) → and_then r next ≢ Err RowsMissing
never (Ok a) next f g e = g a e
never (Err kind) next f g e = f (cc)

never_node : (net : PureNet) (name : List ℕ) → node_in net name ≢ Err RowsMissing
never_node net name e = by (number_of net.nodes name) e
  where
    by : (o : Option ℕ) → ok_or o UnknownName ≢ Err RowsMissing
    by None e = absurd (cc)
    by (Some i) e = absurd (cc)

never_dest : (net : PureNet) (name : List ℕ) → dest_in net name ≢ Err RowsMissing
never_dest net name e = by (number_of net.dests name) e
  where
    by : (o : Option ℕ) → ok_or o UnknownName ≢ Err RowsMissing
    by None e = absurd (cc)
    by (Some i) e = absurd (cc)

never_path : (net : PureNet) (names : List (List ℕ)) → path_in net names ≢ Err RowsMissing
never_path net [] e = absurd (cc)
never_path net (name ∷ names) e =
    never (node_in net name) (λ i. and_then (path_in net names) (λ path. Ok (i ∷ path))) (never_node net name)
    (λ i. never (path_in net names) (λ path. Ok (i ∷ path)) (never_path net names) (λ path f. absurd (cc))) e

never_turn : (net : PureNet) (p : PureProgress) (i d : ℕ) (row : Result PureRow ReportKind) → row ≢ Err RowsMissing → in_turn net p i d row ≢ Err RowsMissing
never_turn net p i d row f = by (is_next net p i d)
  where
    by : (b : Bool) → (if b then and_then row (λ r. Ok (with_row net p r)) else Err WrongRow) ≢ Err RowsMissing
    by true e = never row (λ r. Ok (with_row net p r)) f (λ r g. absurd (cc)) e
    by false e = absurd (cc)

never_value : (r : Result PureValue LitFault) → as_value r ≢ Err RowsMissing
never_value (Ok v) e = absurd (cc)
never_value (Err fault) e = absurd (cc)

never_over : (p : PureProgress) (r : Result PureProgress ReportKind) → r ≢ Err RowsMissing → unless_over p r ≢ Err RowsMissing
never_over p r f = by p.is_over
  where
    by : (b : Bool) → (if b then Err BadLine else r) ≢ Err RowsMissing
    by true e = absurd (cc)
    by false e = f e

pub never_missing : (s : RowSpelling) (net : PureNet) (p : PureProgress) (said : PureSaid) → after_said s net p said ≢ Err RowsMissing
never_missing s net p silent e = absurd (cc)
never_missing s net p (no_route node dest) e = never_over p (after_none net p node dest)
    (never (node_in net node) (λ i. and_then (dest_in net dest) (λ d. in_turn net p i d (Ok (record { node = i; dest = d; route = None })))) (never_node net node)
    (λ i. never (dest_in net dest) (λ d. in_turn net p i d (Ok (record { node = i; dest = d; route = None }))) (never_dest net dest)
    (λ d. never_turn net p i d (Ok (record { node = i; dest = d; route = None })) (λ f. absurd (cc))))) e
never_missing s net p (route node dest value path) e = never_over p (after_route s net p node dest value path)
    (never (node_in net node) _ (never_node net node)
    (λ i. never (dest_in net dest) _ (never_dest net dest)
    (λ d. never (path_in net path) _ (never_path net path)
    (λ nodes. never_turn net p i d _ (never (as_value (s value)) _ (never_value (s value)) (λ v f. absurd (cc))))))) e
never_missing s net p ending e = never_over p (after_end net p) (by (is_whole net p)) e
  where
    by : (b : Bool) → (if b then Ok (record p { is_over = true }) else Err BadLine) ≢ Err RowsMissing
    by true e = absurd (cc)
    by false e = absurd (cc)
never_missing s net p bad e = absurd (cc)

-- All lines in turn.

-- what others come to if the line gives something, or else its fault, where it is line n
abbrev pub outcome_from : Result PureProgress ReportKind → ℕ → (PureProgress → Result PureProgress ReportFault) → Result PureProgress ReportFault
outcome_from (Ok next) n others = others next
outcome_from (Err kind) n others = Err (record { line = n; kind = kind })

-- what there is at the end, or that rows are missing
abbrev pub at_end : PureNet → PureProgress → ℕ → Result PureProgress ReportFault
at_end net p n = if is_whole net p then Ok p else Err (record { line = n; kind = RowsMissing })

-- what all give, or the fault of the first line that breaks a rule, where the first is line n
abbrev pub outcome : PureNet → PureProgress → ℕ → List (List ℕ) → Result PureProgress ReportFault
outcome net p n [] = at_end net p n
outcome net p n (line ∷ lines) = outcome_from (after_said (row_spelled net) net p (said_in line)) n (λ next. outcome net next (n + 1) lines)

-- lines that break no rule lead to what is left
outcome_after : (net : PureNet) (before rest : List (List ℕ)) (p last : PureProgress) (n : ℕ) → Lead (row_spelled net) net p before last → outcome net p n (before ++ rest) ≡ outcome net last (n + length before) rest
outcome_after net [] rest p last n h =
    let here : n + 0 ≡ n = omega arith in
    rw (here, h) refl
outcome_after net (line ∷ before) rest p last n h =
    let there : (n + 1) + length before ≡ n + length (line ∷ before) = omega arith in
    let more = outcome_after net before rest h.0 last (n + 1) h.2 in
    rw h.1 (rw there at more)

lead_all : (net : PureNet) (lines : List (List ℕ)) (p last : PureProgress) (n : ℕ) → Lead (row_spelled net) net p lines last → outcome net p n lines ≡ at_end net last (n + length lines)
lead_all net [] p last n h =
    let here : n + 0 ≡ n = omega arith in
    rw (here, h) refl
lead_all net (line ∷ lines) p last n h =
    let there : (n + 1) + length lines ≡ n + length (line ∷ lines) = omega arith in
    let more = lead_all net lines h.0 last (n + 1) h.2 in
    rw h.1 (rw there at more)

-- what a report means is what its lines come to
meant : Spelled → (net : PureNet) (text : List ℕ) (tables : List (List PureRow)) → ReportText net text tables → (p : PureProgress) × (outcome net (no_rows net) 1 (lines_of text) ≡ Ok p) × (p.tables ≡ tables)
meant sp net text tables r =
    let lead = lead_same r.spelling (row_spelled net) net (one_spelling sp net r.spelling r.is_spelling) (lines_of text) (no_rows net) r.last r.lead in
    (r.last, lead_all net (lines_of text) (no_rows net) r.last 1 lead ∙ rw r.whole refl, r.tables_are)

line_fault : Spelled → (net : PureNet) (text : List ℕ) (f : ReportFault) → IsLineFault net text f → outcome net (no_rows net) 1 (lines_of text) ≡ Err f
line_fault sp net text f r =
    let same = one_spelling sp net r.spelling r.is_spelling in
    let lead = lead_same r.spelling (row_spelled net) net same r.before (no_rows net) r.last r.good in
    let broken : after_said (row_spelled net) net r.last (said_in r.line) ≡ Err f.kind = sym (said_same r.spelling (row_spelled net) net r.last same (said_in r.line)) ∙ r.broken in
    let number : 1 + length r.before ≡ f.line = omega (arith, r.number) in
    let all = outcome_after net r.before (r.line ∷ r.others) (no_rows net) r.last 1 lead in
    let fault : record { line = f.line; kind = f.kind } ≡ f = refl in
    rw r.cut (all ∙ rw (broken, number) (ap Err fault))

rows_missing : Spelled → (net : PureNet) (text : List ℕ) (f : ReportFault) → f.kind ≡ RowsMissing → AreRowsMissing net text f.line → outcome net (no_rows net) 1 (lines_of text) ≡ Err f
rows_missing sp net text f e r =
    let lead = lead_same r.spelling (row_spelled net) net (one_spelling sp net r.spelling r.is_spelling) (lines_of text) (no_rows net) r.last r.good in
    let number : 1 + length (lines_of text) ≡ f.line = omega (arith, r.number) in
    let fault : record { line = f.line; kind = RowsMissing } ≡ f = rw (← e) refl in
    lead_all net (lines_of text) (no_rows net) r.last 1 lead ∙ rw (r.missing, number) (ap Err fault)

faulty : Spelled → (net : PureNet) (text : List ℕ) (f : ReportFault) → IsReportFault net text f → outcome net (no_rows net) 1 (lines_of text) ≡ Err f
faulty sp net text f h = by f.kind refl h
  where
    by : (kind : ReportKind) → f.kind ≡ kind → IsFaultOf net text f kind → outcome net (no_rows net) 1 (lines_of text) ≡ Err f
    by BadLine e r = line_fault sp net text f r
    by UnknownName e r = line_fault sp net text f r
    by WrongRow e r = line_fault sp net text f r
    by (BadValue fault) e r = line_fault sp net text f r
    by RowsMissing e r = rows_missing sp net text f e r

pub one_meaning : Spelled → (net : PureNet) (text : List ℕ) → HasOneMeaning net text
one_meaning sp net text = record {
  one_list = λ t u a b.
      let x = meant sp net text t a in
      let y = meant sp net text u b in
      let same : x.0 ≡ y.0 = let m = x.1 in let n = y.1 in cc in
      sym x.2 ∙ (ap (λ (p : PureProgress). p.tables) same ∙ y.2);
  one_fault = λ f g a b.
      let x = faulty sp net text f a in
      let y = faulty sp net text g b in
      cc;
  not_both = λ t f a b.
      let x = (meant sp net text t a).1 in
      let y = faulty sp net text f b in
      cc;
}

-- a fault of a line
pub is_line_fault : (net : PureNet) (text : List ℕ) (f : ReportFault) → f.kind ≢ RowsMissing → IsLineFault net text f → IsReportFault net text f
is_line_fault net text f n r = by f.kind refl
  where
    by : (kind : ReportKind) → f.kind ≡ kind → IsFaultOf net text f kind
    by BadLine e = r
    by UnknownName e = r
    by WrongRow e = r
    by (BadValue fault) e = r
    by RowsMissing e = absurd (n e)

-- Reading on.

-- the lines before lead from nothing to what there is, and the next one has this number
pub record HasRead (net : PureNet) (text : List ℕ) (p : PureProgress) (n : ℕ) (rest : List (List ℕ)) : Type 0 where
  pub before : List (List ℕ)
  pub cut : lines_of text ≡ before ++ rest
  pub number : n ≡ length before + 1
  pub good : Lead (row_spelled net) net (no_rows net) before p

pub begin : (net : PureNet) (text : List ℕ) (p : PureProgress) → p ≡ no_rows net → HasRead net text p 1 (lines_of text)
begin net text p e = record { before = []; cut = refl; number = omega arith; good = e }

lead_more : (net : PureNet) (before : List (List ℕ)) (line : List ℕ) (p q r : PureProgress) → Lead (row_spelled net) net p before q → after_said (row_spelled net) net q (said_in line) ≡ Ok r → Lead (row_spelled net) net p (before ++ line ∷ []) r
lead_more net [] line p q r h e = (r, rw (← h) e, refl)
lead_more net (first ∷ before) line p q r h e = (h.0, h.1, lead_more net before line h.0 q r h.2 e)

pub read_more : (net : PureNet) (text : List ℕ) (p q : PureProgress) (n : ℕ) (lines rest : List (List ℕ)) (line : List ℕ) → HasRead net text p n lines → lines ≡ line ∷ rest
    → after_said (row_spelled net) net p (said_in line) ≡ Ok q → HasRead net text q (n + 1) rest
read_more net text p q n lines rest line h e f = record {
  before = h.before ++ line ∷ [];
  cut = h.cut ∙ (rw e (sym (append_assoc h.before (line ∷ []) rest)));
  number = omega (arith, h.number, length-append h.before (line ∷ []));
  good = lead_more net h.before line (no_rows net) p q h.good f;
}

pub read_fault : Spelled → (net : PureNet) (text : List ℕ) (p : PureProgress) (n : ℕ) (lines rest : List (List ℕ)) (line : List ℕ) (kind : ReportKind) → HasRead net text p n lines → lines ≡ line ∷ rest
    → after_said (row_spelled net) net p (said_in line) ≡ Err kind → IsReportFault net text (record { line = n; kind = kind })
read_fault sp net text p n lines rest line kind h e f =
    is_line_fault net text (record { line = n; kind = kind }) (λ g. never_missing (row_spelled net) net p (said_in line) (f ∙ ap Err g))
    (record { before = h.before; line = line; others = rest; cut = h.cut ∙ rw e refl; number = h.number; spelling = row_spelled net; is_spelling = is_row_spelling sp net; last = p; good = h.good; broken = f })

pub read_all : Spelled → (net : PureNet) (text : List ℕ) (p : PureProgress) (n : ℕ) (lines : List (List ℕ)) → HasRead net text p n lines → lines ≡ [] → is_whole net p ≡ true → ReportText net text p.tables
read_all sp net text p n lines h e w = record {
  spelling = row_spelled net;
  is_spelling = is_row_spelling sp net;
  last = p;
  lead = let cut : lines_of text ≡ h.before = h.cut ∙ (rw e (append-nil h.before)) in rw cut h.good;
  tables_are = refl;
  whole = w;
}

pub read_missing : Spelled → (net : PureNet) (text : List ℕ) (p : PureProgress) (n : ℕ) (lines : List (List ℕ)) → HasRead net text p n lines → lines ≡ [] → is_whole net p ≡ false → IsReportFault net text (record { line = n; kind = RowsMissing })
read_missing sp net text p n lines h e w =
    let cut : lines_of text ≡ h.before = h.cut ∙ (rw e (append-nil h.before)) in
    record { number = h.number ∙ rw cut refl; spelling = row_spelled net; is_spelling = is_row_spelling sp net; last = p; good = rw cut h.good; missing = w }
