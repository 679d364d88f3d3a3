-- Lines of code that are printed one by one.
use Rattle.std.proofs.Common.{◌≡◌, ℕ, zero, suc, ◌+◌, ◌<◌, List, [], ◌∷◌, ◌++◌, Some, length, get_or, drop, slice_get, refl, sym, ap, ◌∙◌, append_assoc}
use Rattle.std.proofs.lemmas.List.{at_drop_more}
use Rattle.alg_model.specs.Expressions.{Expression}
use Rattle.label_code.specs.declared.operations.Op.{Op}
use Rattle.net_graph.specs.Nets.{PureArc, PureNet}
use Rattle.report_text.specs.CodeTexts.{arc_code_text, arcs_text, lines_from, operation_text}

-- one operation more is printed
pub lines_at : {X : Type 0} (text : X → List ℕ) (code : List X) (i : ℕ) (operation : X) (out : List ℕ) → i < length code
    → out ++ lines_from text i (drop i code) ≡ (out ++ operation_text text i (get_or code i operation)) ++ lines_from text (i + 1) (drop (i + 1) code)
lines_at text code i operation out h =
    at_drop_more (λ rest. out ++ lines_from text i rest) code i operation h
    ∙ sym (append_assoc out (operation_text text i (get_or code i operation)) (lines_from text (i + 1) (drop (i + 1) code)))

got : (arcs : List PureArc) (i : ℕ) (arc : PureArc) → slice_get arcs i ≡ Some arc → get_or arcs i arc ≡ arc
got [] i arc e = refl
got (x ∷ arcs) zero arc e = cc
got (x ∷ arcs) (suc i) arc e = got arcs i arc e

-- the lines of the arcs from one on are its own and those of the arcs after it
arcs_at : (a : Expression) (net : PureNet) (arcs : List PureArc) (labels : List (List Op)) (i : ℕ) (arc : PureArc) (code : List Op) → slice_get arcs i ≡ Some arc → i < length arcs → code ≡ get_or labels i code → i < length labels
    → arcs_text a net (drop i arcs) (drop i labels) ≡ arc_code_text a net arc code ++ arcs_text a net (drop (i + 1) arcs) (drop (i + 1) labels)
arcs_at a net arcs labels i arc code e h f l =
    at_drop_more (λ rest. arcs_text a net rest (drop i labels)) arcs i arc h
    ∙ (at_drop_more (λ rest. arcs_text a net (get_or arcs i arc ∷ drop (i + 1) arcs) rest) labels i code l
    ∙ (ap (λ x. arc_code_text a net x (get_or labels i code) ++ arcs_text a net (drop (i + 1) arcs) (drop (i + 1) labels)) (got arcs i arc e)
    ∙ ap (λ x. arc_code_text a net arc x ++ arcs_text a net (drop (i + 1) arcs) (drop (i + 1) labels)) (sym f)))

-- one arc more is printed
pub arcs_more : (a : Expression) (net : PureNet) (labels : List (List Op)) (i : ℕ) (arc : PureArc) (code : List Op) (out next whole : List ℕ) → slice_get net.arcs i ≡ Some arc → i < length net.arcs → code ≡ get_or labels i code → i < length labels
    → next ≡ out ++ arc_code_text a net arc code → out ++ arcs_text a net (drop i net.arcs) (drop i labels) ≡ whole → next ++ arcs_text a net (drop (i + 1) net.arcs) (drop (i + 1) labels) ≡ whole
arcs_more a net labels i arc code out next whole e h f l gained before =
    let rest = arcs_text a net (drop (i + 1) net.arcs) (drop (i + 1) labels) in
    ap (λ text. text ++ rest) gained ∙ (append_assoc out (arc_code_text a net arc code) rest ∙ (ap (λ text. out ++ text) (sym (arcs_at a net net.arcs labels i arc code e h f l)) ∙ before))
