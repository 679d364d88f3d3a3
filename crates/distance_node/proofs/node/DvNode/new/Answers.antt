use Rattle.std.proofs.Common.{◌≡◌, ◌*◌, Some, None, length, sym, ap, ◌∙◌, arith}
use Rattle.distance_node.proofs.Near.{store_fits}
use Rattle.distance_node.proofs.Nodes.{new_is}
use Rattle.distance_node.proofs.node.DvNode.new.Goals as goal

pub overflow_mul-dests : goal.overflow_mul-dests
overflow_mul-dests g c =
    let near = c.requires.labels.each c.args.number.0 c.of-speakers.result.now c.of-speakers.ensures in
    let fits = store_fits c.args.net.now c.dest_count-dests.ensures.net c.args.number.0 c.dest_count-dests.result (length c.of-speakers.result.now) c.dest_count-dests.ensures.few near.count in
    omega (arith, fits)

pub invariant_of-result : goal.invariant_of-result
invariant_of-result g c =
    let near = c.requires.labels.each c.args.number.0 c.of-speakers.result.now c.of-speakers.ensures in (
      c.requires.mark,
      record {
        algebra = c.requires.algebra;
        placed = record {
          is_net = c.dest_count-dests.ensures.net;
          inside = c.requires.node;
          near = near;
          own_count = c.in_ok-own_sigs.ensures.count;
          own_values = c.in_ok-own_sigs.ensures.values;
          own_sigs = c.in_ok-own_sigs.ensures.sigs;
        };
        has_heard = record {
          count = c.in_ok-no_entries-2.ensures.count ∙ (ap (λ z. z * length c.of-speakers.result.now) c.dest_count-dests.ensures.count ∙ ap (λ z. length c.args.net.now.dests * z) near.count);
          each = λ k s e. absurd (let f : None ≡ Some s = sym (c.in_ok-no_entries-2.ensures.none k) ∙ e in cc);
          early = omega arith;
        };
        silent = λ begun. c.in_ok-no_entries-2.ensures.none;
        row_count = c.in_ok-no_entries.ensures.count ∙ c.dest_count-dests.ensures.count;
        rowless = λ begun. c.in_ok-no_entries.ensures.none;
        has_rows = λ begun. absurd (cc);
      },
    )

pub returns : goal.returns
returns g c = new_is (g.A.Algebra.sig_value c.args.algebra.now) c.args.net.now c.args.number.0 c.in_ok-no_entries-2.field-0.items c.in_ok-no_entries.field-0.items c.in_ok-no_entries-2.ensures.none c.in_ok-no_entries.ensures.none
