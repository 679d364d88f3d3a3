use Rattle.std.proofs.Common.{◌∙◌, sym}
use Rattle.std.specs.List.{each_same}
use Rattle.net_graph.proofs.CopyLemmas.{names_cloned}
use Rattle.net_graph.proofs.names.Names.copy.Goals as goal

pub returns : goal.returns
returns c = names_cloned _ (λ v w h. each_same v.items w.items h.0) c.self.inside.names.keys c.in_ok-clone.field-0.keys c.in_ok-clone.ensures.cases ∙ c.self.view_is

pub invariant_of-result : goal.invariant_of-result
invariant_of-result c =
    c.in_ok-copy_texts.ensures ∙ c.deref.ensures.value ∙ c.self.invariant
    ∙ sym (names_cloned _ (λ v w h. each_same v.items w.items h.0) c.self.inside.names.keys c.in_ok-clone.field-0.keys c.in_ok-clone.ensures.cases)
