use Rattle.topology_file.proofs.Steps.{new_dest_has_none}
use Rattle.topology_file.proofs.lines.add_first_origin.Goals as goal

pub add_origin_of-requires-clause-absent : goal.add_origin_of-requires-clause-absent
add_origin_of-requires-clause-absent c =
    rw c.in_ok-add_dest.ensures.ok (new_dest_has_none c.args.draft.now c.args.dest.now c.dest_count-count.result c.args.node.0 c.edition.ensures.net c.dest_count-count.ensures.count)
