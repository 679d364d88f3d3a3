use Rattle.alg_model.specs.Views.{pure_label, pure_value}
use Rattle.wedge_nets.proofs.Written.{wedge_written}
use Rattle.wedge_nets.proofs.lines.push_wedge.Goals as goal

pub returns : goal.returns
returns c = wedge_written c.push_labelled-3.result c.args.alg.now.expression (pure_label c.args.label.now) (pure_value c.args.value.now) _ _ _ _ _ _ _ _
    c.in_ok-push_str.ensures.bytes c.in_ok-push_labelled.ensures c.in_ok-push_valued.ensures c.in_ok-push_valued-2.ensures c.in_ok-push_labelled-2.ensures c.in_ok-push_str-2.ensures.bytes
    c.push_labelled-3.ensures
