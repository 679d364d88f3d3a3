use Rattle.std.proofs.Common.{sym, ◌∙◌}
use Rattle.net_graph.specs.declared.limits.TheConstants.{MOST_NODES}
use Rattle.path_vector.proofs.PathTests.{all_below_more}
use Rattle.path_vector.proofs.paths.is_simple.Goals as goal

pub has_each_once-requires : goal.has_each_once-requires
has_each_once-requires c = all_below_more c.args.path.now c.args.count MOST_NODES c.requires (sym c.are_below.ensures ∙ c.if-are_below.true)
