-- What holds of networks and of their changes, in one place for the proofs of other crates.

-- no edition has networks of more nodes or destinations
pub use Rattle.net_graph.specs.NetLaws.{few_nodes, few_dests}
-- a network with a node, an arc, a destination or an origin more is a network
pub use Rattle.net_graph.specs.NetLaws.{with_node_is_net, with_arc_is_net, with_dest_is_net, with_origin_at_is_net}
-- and so is one with a change, with all of its changes, and with the first of them
pub use Rattle.net_graph.specs.ChangeLaws.{changed_is_net, after_all_is_net, after_is_net}
-- changes leave all but the arcs as it is
pub use Rattle.net_graph.specs.ChangeLaws.{after_all_keeps, after_keeps}
-- changes one by one: after the others, and from the first on
pub use Rattle.net_graph.specs.ChangeLaws.{after_all_more, are_changes_more, may_change_next, after_next}
-- what one change more does to the arcs
pub use Rattle.net_graph.specs.ChangeSteps.{after_all_has_arc, linked_count, added_count, dropped_count}
