use Rattle.std.proofs.Common.{ap, Ok, Err}
use Rattle.alg_model.specs.Views.{pure_value}
use Rattle.alg_model.specs.Carriers.{carrier_of}
use Rattle.sig_text.specs.Sequences.{parts_of}
use Rattle.sig_text.specs.Reading.{value_at}
use Rattle.sig_text.proofs.Meant.{value_spelled, value_member, value_fault, value_refused, whole_is, not_whole}
use Rattle.sig_text.proofs.read.read_value_to.Goals as goal

pub returns-in-Ok-Ok-clause-value : goal.returns-in-Ok-Ok-clause-value
returns-in-Ok-Ok-clause-value c = value_spelled c.args.greatest c.args.alg.now.expression c.args.text.now (pure_value c.in-Ok-Ok.value) (rw c.in-Ok-Ok.field-0-is at c.in-Ok-Ok.ensures.0)

pub returns-in-Ok-Ok-clause-spelled : goal.returns-in-Ok-Ok-clause-spelled
returns-in-Ok-Ok-clause-spelled c = whole_is (value_at c.args.greatest (carrier_of c.args.alg.now.expression) (parts_of c.args.text.now)) (Ok (pure_value c.in-Ok-Ok.value)) (rw c.in-Ok-Ok.field-0-is at c.in-Ok-Ok.ensures.0)

pub returns-in-Ok-Ok-clause-is_value : goal.returns-in-Ok-Ok-clause-is_value
returns-in-Ok-Ok-clause-is_value c = (value_member c.args.greatest c.args.alg.now.expression c.args.text.now (pure_value c.in-Ok-Ok.value) (value_spelled c.args.greatest c.args.alg.now.expression c.args.text.now (pure_value c.in-Ok-Ok.value) (rw c.in-Ok-Ok.field-0-is at c.in-Ok-Ok.ensures.0))).is_in

pub returns-in-Ok-Ok-clause-bound : goal.returns-in-Ok-Ok-clause-bound
returns-in-Ok-Ok-clause-bound c = (value_member c.args.greatest c.args.alg.now.expression c.args.text.now (pure_value c.in-Ok-Ok.value) (value_spelled c.args.greatest c.args.alg.now.expression c.args.text.now (pure_value c.in-Ok-Ok.value) (rw c.in-Ok-Ok.field-0-is at c.in-Ok-Ok.ensures.0))).small

pub returns-in-Ok-Err-clause-fault : goal.returns-in-Ok-Err-clause-fault
returns-in-Ok-Err-clause-fault c = value_fault c.args.greatest c.args.alg.now.expression c.args.text.now c.in-Ok-Err.fault (rw c.in-Ok-Err.field-0-is at c.in-Ok-Err.ensures.0)

pub returns-in-Ok-Err-clause-spelled : goal.returns-in-Ok-Err-clause-spelled
returns-in-Ok-Err-clause-spelled c = whole_is (value_at c.args.greatest (carrier_of c.args.alg.now.expression) (parts_of c.args.text.now)) (Err c.in-Ok-Err.fault) (rw c.in-Ok-Err.field-0-is at c.in-Ok-Err.ensures.0)

pub returns-in-Err-NoShape-clause-fault : goal.returns-in-Err-NoShape-clause-fault
returns-in-Err-NoShape-clause-fault c = value_refused c.args.greatest c.args.alg.now.expression c.args.text.now (c.in-Err-NoShape.ensures.1 (ap (λ stop. Err stop) c.in-Err-NoShape.field-0-is))

pub returns-in-Err-NoShape-clause-spelled : goal.returns-in-Err-NoShape-clause-spelled
returns-in-Err-NoShape-clause-spelled c = not_whole (value_at c.args.greatest (carrier_of c.args.alg.now.expression) (parts_of c.args.text.now)) (c.in-Err-NoShape.ensures.1 (ap (λ stop. Err stop) c.in-Err-NoShape.field-0-is))
