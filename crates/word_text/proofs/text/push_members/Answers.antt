use Rattle.std.proofs.Common.{◌+◌, ◌-◌, arith}
use Rattle.alg_model.specs.Texts.{members_from}
use Rattle.sig_text.specs.Listed.{separator}
use Rattle.sig_text.proofs.Printed.{listed_step, members_there, members_not}
use Rattle.word_text.proofs.text.push_members.Goals as goal
use Rattle.word_text.proofs.text.push_members.Goals.{then-is_in+in_ok-push_next, else-is_in}

pub loop-k-preserved : goal.loop-k-preserved
loop-k-preserved c =
    let k = c.loop-k.k in
    let count = c.args.count in
    let marks = c.args.marks in
    let there = members_there k count marks (omega arith) in
    let absent = members_not k count marks (omega arith) in
    let step = listed_step (separator c.loop-k.follows) k (members_from (k + 1) (count - (k + 1)) marks) c.loop-k.out in
    elim c.if-is_in.branch [ then-is_in+in_ok-push_next w ↦ grind arith | else-is_in w ↦ grind arith ]
