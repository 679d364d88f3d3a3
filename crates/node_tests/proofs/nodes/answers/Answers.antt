use Rattle.std.proofs.Common.{◌++◌, ◌∷◌, ◌∙◌, [], ap, refl}
use Rattle.node_tests.proofs.nodes.answers.Goals as goal

pub rows_of-requires : goal.rows_of-requires
rows_of-requires g c =
    let node = c.sent_last.new.node in
    let items = c.deref.ensures.value ∙ (c.in_ok-push.ensures.items ∙ ap (λ nodes. nodes ++ node ∷ []) c.in_ok-nodes.ensures.items) in
    (node.net, rw items (refl, tt))
