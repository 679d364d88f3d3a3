use Rattle.meta.proofs.carry_out.Goals as goal

pub returns : goal.returns
returns g c = record { ended = c.run_meta-ended.result; runs = c.run_meta-ended.ensures; is_status = c.status-status.ensures }
