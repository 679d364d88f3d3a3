-- What holds of path-vector machines, in one place for the proofs of other crates.

-- runs are coherent, and quiet ones stable; carried nodes may begin
pub use Rattle.path_vector.specs.Runs.{runs_are_coherent, quiet_runs_are_stable, deliveries_are_coherent, drained_machines_are_stable, carried_nodes_may_begin}
-- the kind is lawful
pub use Rattle.path_vector.specs.Lawful.{path_vector_is_lawful}
-- a choice is the offer that no other is better than, and may be the node's
pub use Rattle.path_vector.specs.Choosing.{choice_is, state_choice_is, choice_may_be}
-- the start is coherent, and deliveries keep that
pub use Rattle.path_vector.specs.Starting.{start_is_coherent}
pub use Rattle.path_vector.specs.Delivering.{delivery_keeps, deliveries_along_keep}
-- new nodes and carried ones may begin
pub use Rattle.path_vector.specs.Beginning.{all_new_may_begin, new_nodes_may_begin, nodes_in_order}
-- the rows of a quiet machine are stable
pub use Rattle.path_vector.specs.Quiet.{quiet_is_stable, dest_rows_are}
-- which of the rows of all destinations are a destination's
pub use Rattle.path_vector.specs.RowLists.{rows_of_dest}
