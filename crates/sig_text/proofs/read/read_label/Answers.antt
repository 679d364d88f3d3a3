use Rattle.std.proofs.Common.{ap, Ok, Err}
use Rattle.alg_model.specs.Bounds.{greatest_number}
use Rattle.alg_model.specs.Views.{pure_label}
use Rattle.sig_text.specs.Sequences.{parts_of}
use Rattle.sig_text.specs.Reading.{label_at}
use Rattle.sig_text.proofs.Meant.{whole_is, not_whole}
use Rattle.sig_text.proofs.MeantLabels.{label_spelled, label_member, label_fault, label_refused}
use Rattle.sig_text.proofs.read.read_label.Goals as goal

pub returns-in-Ok-Ok-clause-label : goal.returns-in-Ok-Ok-clause-label
returns-in-Ok-Ok-clause-label c = label_spelled (greatest_number c.args.alg.now.edition) c.args.alg.now.expression c.args.text.now (pure_label c.in-Ok-Ok.label) (rw c.in-Ok-Ok.field-0-is at c.in-Ok-Ok.ensures.0)

pub returns-in-Ok-Ok-clause-spelled : goal.returns-in-Ok-Ok-clause-spelled
returns-in-Ok-Ok-clause-spelled c = whole_is (label_at (greatest_number c.args.alg.now.edition) c.args.alg.now.expression (parts_of c.args.text.now)) (Ok (pure_label c.in-Ok-Ok.label)) (rw c.in-Ok-Ok.field-0-is at c.in-Ok-Ok.ensures.0)

pub returns-in-Ok-Ok-clause-is_label : goal.returns-in-Ok-Ok-clause-is_label
returns-in-Ok-Ok-clause-is_label c = (label_member (greatest_number c.args.alg.now.edition) c.args.alg.now.expression c.args.text.now (pure_label c.in-Ok-Ok.label) (label_spelled (greatest_number c.args.alg.now.edition) c.args.alg.now.expression c.args.text.now (pure_label c.in-Ok-Ok.label) (rw c.in-Ok-Ok.field-0-is at c.in-Ok-Ok.ensures.0))).is_label

pub returns-in-Ok-Ok-clause-bound : goal.returns-in-Ok-Ok-clause-bound
returns-in-Ok-Ok-clause-bound c = (label_member (greatest_number c.args.alg.now.edition) c.args.alg.now.expression c.args.text.now (pure_label c.in-Ok-Ok.label) (label_spelled (greatest_number c.args.alg.now.edition) c.args.alg.now.expression c.args.text.now (pure_label c.in-Ok-Ok.label) (rw c.in-Ok-Ok.field-0-is at c.in-Ok-Ok.ensures.0))).small

pub returns-in-Ok-Err-clause-fault : goal.returns-in-Ok-Err-clause-fault
returns-in-Ok-Err-clause-fault c = label_fault (greatest_number c.args.alg.now.edition) c.args.alg.now.expression c.args.text.now c.in-Ok-Err.fault (rw c.in-Ok-Err.field-0-is at c.in-Ok-Err.ensures.0)

pub returns-in-Ok-Err-clause-spelled : goal.returns-in-Ok-Err-clause-spelled
returns-in-Ok-Err-clause-spelled c = whole_is (label_at (greatest_number c.args.alg.now.edition) c.args.alg.now.expression (parts_of c.args.text.now)) (Err c.in-Ok-Err.fault) (rw c.in-Ok-Err.field-0-is at c.in-Ok-Err.ensures.0)

pub returns-in-Err-NoShape-clause-fault : goal.returns-in-Err-NoShape-clause-fault
returns-in-Err-NoShape-clause-fault c = label_refused (greatest_number c.args.alg.now.edition) c.args.alg.now.expression c.args.text.now (c.in-Err-NoShape.ensures.1 (ap (λ stop. Err stop) c.in-Err-NoShape.field-0-is))

pub returns-in-Err-NoShape-clause-spelled : goal.returns-in-Err-NoShape-clause-spelled
returns-in-Err-NoShape-clause-spelled c = not_whole (label_at (greatest_number c.args.alg.now.edition) c.args.alg.now.expression (parts_of c.args.text.now)) (c.in-Err-NoShape.ensures.1 (ap (λ stop. Err stop) c.in-Err-NoShape.field-0-is))
