-- The lines of a wedge lead to its network file.
use Rattle.std.proofs.Common.{◌≡◌, ℕ, ◌<◌, true, leb, ltb, List, [], ◌∷◌, ◌++◌, Ok, refl, ap, ◌∙◌, arith}
use Rattle.std.specs.Prelude.{codes}
use Rattle.std.specs.List.{AllByRecursion}
use Rattle.std.proofs.lemmas.Bool.Decides.{nat_tests}
use Rattle.alg_model.specs.declared.edition.Edition.{Edition}
use Rattle.alg_model.specs.declared.edition.Edition.TheVariants.{One, Two}
use Rattle.alg_model.specs.Expressions.{Expression, PureAlg, PureLabel, PureValue}
use Rattle.alg_model.specs.Application.{IsLabel}
use Rattle.alg_model.specs.Bounds.{AtMost, LabelAtMost, greatest_number}
use Rattle.alg_model.specs.Carriers.{carrier_of, In}
use Rattle.alg_model.specs.Formation.{IsAlg, IsFormed}
use Rattle.alg_model.specs.Texts.{value_text, label_text}
use Rattle.net_graph.specs.Limits.{max_nodes, max_dests, max_changes}
use Rattle.net_graph.specs.Changes.{PureChange, link, drop}
use Rattle.settled_laws.specs.Pair.{Fits}
use Rattle.settled_laws.specs.Wedge.{wedge_net}
use Rattle.sig_text.specs.Parts.{Part, step_of, Splits}
use Rattle.sig_text.specs.Literals.{ValueText, ValueTextTo, LabelText, LabelTextTo, IsValueFaultTo, IsLabelFaultTo}
use Rattle.sig_text.specs.Spelled.{Reports, spelled, spelled_value, spelled_value_to, spelled_label, spelled_label_to}
use Rattle.topology_file.specs.LineLaws.{IsLine, line_after}
use Rattle.topology_file.specs.NetText.{PureNetFile, empty_file, after_line, Lead}
use Rattle.wedge_nets.specs.Gadgets.{wedge_file}
use Rattle.wedge_nets.specs.GadgetTexts.{wedge_lines}

-- Literals, as they stand in a line: after a space.

after_space : (ps : List Part) (text : List ℕ) → Splits ps text → Splits ps (32 ∷ text)
after_space [] text s = record { rest = 32 ∷ text; begins = refl; ends = ap step_of s.begins ∙ s.ends }
after_space (p ∷ ps) text s = record { rest = s.rest; begins = s.begins; ends = s.ends }

label_after_space : (alg : PureAlg) (text : List ℕ) (l : PureLabel) → LabelText alg text l → LabelText alg (32 ∷ text) l
label_after_space alg text l t = record { shape = t.shape; has = t.has; splits = after_space _ text t.splits; means = t.means }

value_after_space : (alg : PureAlg) (text : List ℕ) (v : PureValue) → ValueText alg text v → ValueText alg (32 ∷ text) v
value_after_space alg text v t = record { shape = t.shape; has = t.has; splits = after_space _ text t.splits; means = t.means }

-- what the laws of literals say
abbrev pub LabelsAreSpelled : Type 0
LabelsAreSpelled = (greatest : ℕ) (a : Expression) (text : List ℕ) → Reports (spelled_label_to greatest a text) (LabelTextTo greatest a text) (IsLabelFaultTo greatest a text)

abbrev pub ValuesAreSpelled : Type 0
ValuesAreSpelled = (greatest : ℕ) (a : Expression) (text : List ℕ) → Reports (spelled_value_to greatest a text) (ValueTextTo greatest a text) (IsValueFaultTo greatest a text)

abbrev pub LabelsAreReadBack : Type 0
LabelsAreReadBack = (a : PureAlg) (l : PureLabel) → IsFormed a.expression → IsLabel a.expression l → LabelAtMost (greatest_number a.edition) l → LabelText a (label_text a.expression l) l

abbrev pub ValuesAreReadBack : Type 0
ValuesAreReadBack = (a : PureAlg) (v : PureValue) → IsFormed a.expression → In (carrier_of a.expression) v → AtMost (greatest_number a.edition) v → ValueText a (value_text (carrier_of a.expression) v) v

-- the label and the value are what their texts spell
pub record AreSpelled (alg : PureAlg) (l : PureLabel) (v : PureValue) : Type 0 where
  pub label : spelled_label alg (32 ∷ label_text alg.expression l) ≡ Ok l
  pub value : spelled_value alg (32 ∷ value_text (carrier_of alg.expression) v) ≡ Ok v

pub are_spelled : LabelsAreSpelled → ValuesAreSpelled → LabelsAreReadBack → ValuesAreReadBack → (alg : PureAlg) (l : PureLabel) (v : PureValue) → IsAlg alg → Fits alg l v → AreSpelled alg l v
are_spelled labels values label_back value_back alg l v a f =
    let label = label_text alg.expression l in
    let value = value_text (carrier_of alg.expression) v in
    let n = greatest_number alg.edition in
    record {
      label = (labels n alg.expression (32 ∷ label)).spells l (label_after_space alg label l (label_back alg l a.formed f.label_in f.label_bound));
      value = (values n alg.expression (32 ∷ value)).spells v (value_after_space alg value v (value_back alg v a.formed f.value_in f.value_bound));
    }

-- The files of the first lines.

node_room : (e : Edition) → leb 2 (max_nodes e) ≡ true
node_room One = refl
node_room Two = refl

dest_room : (e : Edition) → ltb 0 (max_dests e) ≡ true
dest_room One = refl
dest_room Two = refl

change_room : (e : Edition) (k : ℕ) → k < 3 → ltb k (max_changes e) ≡ true
change_room One k h = grind (arith, nat_tests)
change_room Two k h = grind (arith, nat_tests)

-- the two nodes alone
abbrev with_nodes : PureAlg → PureNetFile
with_nodes alg = record { net = record { alg = alg; nodes = codes "p" ∷ codes "q" ∷ []; dests = []; arcs = []; origins = [] }; changes = [] }

-- and the arc
abbrev with_arc : PureAlg → PureLabel → PureNetFile
with_arc alg l = record { net = record { alg = alg; nodes = codes "p" ∷ codes "q" ∷ []; dests = []; arcs = record { id = 0; tail = 0; head = 1; label = l } ∷ []; origins = [] }; changes = [] }

-- and the first origin
abbrev with_origin : PureAlg → PureLabel → PureValue → PureNetFile
with_origin alg l v = record {
  net = record {
    alg = alg;
    nodes = codes "p" ∷ codes "q" ∷ [];
    dests = codes "x" ∷ [];
    arcs = record { id = 0; tail = 0; head = 1; label = l } ∷ [];
    origins = record { node = 0; dest = 0; value = v } ∷ [];
  };
  changes = [];
}

-- the wedge's network with some of its changes
abbrev with_changes : PureAlg → PureLabel → PureValue → List PureChange → PureNetFile
with_changes alg l v changes = record { net = wedge_net alg l v; changes = changes }

nodes_step : (alg : PureAlg) → after_line spelled (empty_file alg) (codes "node p q") ≡ Ok (with_nodes alg)
nodes_step alg = rw (node_room alg.edition) refl

arc_step : (alg : PureAlg) (l : PureLabel) (v : PureValue) → AreSpelled alg l v → IsLine (codes "link p q : " ++ label_text alg.expression l)
    → after_line spelled (with_nodes alg) (codes "link p q : " ++ label_text alg.expression l) ≡ Ok (with_arc alg l)
arc_step alg l v s i = line_after spelled (with_nodes alg) (codes "link p q : " ++ label_text alg.expression l) i ∙ rw s.label refl

first_origin_step : (alg : PureAlg) (l : PureLabel) (v : PureValue) → AreSpelled alg l v → IsLine (codes "origin x at p : " ++ value_text (carrier_of alg.expression) v)
    → after_line spelled (with_arc alg l) (codes "origin x at p : " ++ value_text (carrier_of alg.expression) v) ≡ Ok (with_origin alg l v)
first_origin_step alg l v s i = line_after spelled (with_arc alg l) (codes "origin x at p : " ++ value_text (carrier_of alg.expression) v) i ∙ rw (s.value, dest_room alg.edition) refl

second_origin_step : (alg : PureAlg) (l : PureLabel) (v : PureValue) → AreSpelled alg l v → IsLine (codes "origin x at q : " ++ value_text (carrier_of alg.expression) v)
    → after_line spelled (with_origin alg l v) (codes "origin x at q : " ++ value_text (carrier_of alg.expression) v) ≡ Ok (with_changes alg l v [])
second_origin_step alg l v s i = line_after spelled (with_origin alg l v) (codes "origin x at q : " ++ value_text (carrier_of alg.expression) v) i ∙ rw s.value refl

first_link_step : (alg : PureAlg) (l : PureLabel) (v : PureValue) → AreSpelled alg l v → IsLine (codes "then link q p : " ++ label_text alg.expression l)
    → after_line spelled (with_changes alg l v []) (codes "then link q p : " ++ label_text alg.expression l) ≡ Ok (with_changes alg l v (link 1 0 l ∷ []))
first_link_step alg l v s i =
    line_after spelled (with_changes alg l v []) (codes "then link q p : " ++ label_text alg.expression l) i ∙ rw (s.label, change_room alg.edition 0 (omega arith)) refl

drop_step : (alg : PureAlg) (l : PureLabel) (v : PureValue) → after_line spelled (with_changes alg l v (link 1 0 l ∷ [])) (codes "then drop p q") ≡ Ok (with_changes alg l v (link 1 0 l ∷ drop 0 1 ∷ []))
drop_step alg l v = rw (change_room alg.edition 1 (omega arith)) refl

second_link_step : (alg : PureAlg) (l : PureLabel) (v : PureValue) → AreSpelled alg l v → IsLine (codes "then link p q : " ++ label_text alg.expression l)
    → after_line spelled (with_changes alg l v (link 1 0 l ∷ drop 0 1 ∷ [])) (codes "then link p q : " ++ label_text alg.expression l) ≡ Ok (wedge_file alg l v)
second_link_step alg l v s i =
    line_after spelled (with_changes alg l v (link 1 0 l ∷ drop 0 1 ∷ [])) (codes "then link p q : " ++ label_text alg.expression l) i
    ∙ rw (s.label, change_room alg.edition 2 (omega arith)) refl

-- all of them in turn
pub wedge_leads : (alg : PureAlg) (l : PureLabel) (v : PureValue) → AreSpelled alg l v → AllByRecursion IsLine (wedge_lines alg.expression l v)
    → Lead spelled (empty_file alg) (wedge_lines alg.expression l v) (wedge_file alg l v)
wedge_leads alg l v s i = (
  with_nodes alg,
  nodes_step alg,
  (
    with_arc alg l,
    arc_step alg l v s i.1.0,
    (
      with_origin alg l v,
      first_origin_step alg l v s i.1.1.0,
      (
        with_changes alg l v [],
        second_origin_step alg l v s i.1.1.1.0,
        (
          with_changes alg l v (link 1 0 l ∷ []),
          first_link_step alg l v s i.1.1.1.1.0,
          (
            with_changes alg l v (link 1 0 l ∷ drop 0 1 ∷ []),
            drop_step alg l v,
            (wedge_file alg l v, second_link_step alg l v s i.1.1.1.1.1.1.0, refl),
          ),
        ),
      ),
    ),
  ),
)
