use Rattle.std.proofs.Common.{Some, None, sym, ◌≡◌, ◌∙◌}
use Rattle.path_vector.proofs.Nodes.{new_is}
use Rattle.path_vector.proofs.node.PvNode.new.Goals as goal

pub invariant_of-result : goal.invariant_of-result
invariant_of-result g c = record {
  algebra = c.requires.algebra;
  is_net = c.dest_count.ensures.net;
  chosen = λ begun. absurd (cc);
  kept = record {
    inside = c.requires.node;
    own_count = c.in_ok-own_sigs.ensures.count;
    own_values = c.in_ok-own_sigs.ensures.values;
    own_sigs = c.in_ok-own_sigs.ensures.sigs;
    neighbours = c.in_ok-silent_neighbours.ensures.neighbours;
    row_count = c.in_ok-no_entries.ensures.count ∙ c.dest_count.ensures.count;
    row_sigs = λ dest k e. absurd (let f : None ≡ Some k = sym (c.in_ok-no_entries.ensures.none dest) ∙ e in cc);
  };
}

pub returns : goal.returns
returns g c = new_is (g.A.Algebra.sig_value c.args.algebra.now) c.args.net.now c.args.number.0 c.in_ok-silent_neighbours.field-0 c.in_ok-no_entries.field-0.items c.in_ok-silent_neighbours.ensures.silent c.in_ok-no_entries.ensures.none
