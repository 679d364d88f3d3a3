use Rattle.profile_labels.proofs.DecidingLaws.{decided_by_each}
use Rattle.profile_labels.proofs.deciding.are_decided.Goals as goal

pub returns : goal.returns
returns c = decided_by_each c.args.labels.now c.args.profile.now c.is_decided.result c.is_decided-2.result c.is_decided-3.result c.is_decided-4.result c.is_decided-5.result
    c.is_decided.ensures c.is_decided-2.ensures c.is_decided-3.ensures c.is_decided-4.ensures c.is_decided-5.ensures
