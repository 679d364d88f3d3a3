use Rattle.std.proofs.Common.{◌∙◌}
use Rattle.net_gen.proofs.Written.{all_written}
use Rattle.net_gen.proofs.network.network_text.Goals as goal

pub returns : goal.returns
returns c = c.from_string.ensures ∙ all_written c.args.seed c.args.nodes _ _ _ _ c.in_ok-out.ensures.bytes c.in_ok-push_nodes.ensures c.in_ok-push_all_links.ensures c.in_ok-push_str.ensures.bytes
