-- The pair is a network. Lemmas, so that proofs of other crates may cite them.
use Rattle.std.proofs.Common.{◌≤◌, refl, arith}
use Rattle.alg_model.specs.Expressions.{PureAlg, PureLabel, PureValue}
use Rattle.alg_model.specs.Formation.{IsAlg}
use Rattle.alg_model.specs.declared.edition.Edition.{Edition}
use Rattle.alg_model.specs.declared.edition.Edition.TheVariants.{One, Two}
use Rattle.net_graph.specs.Nets.{IsNet}
use Rattle.net_graph.specs.Limits.{max_nodes, max_dests}
use Rattle.settled_laws.specs.Pair.{pair_net, Fits}

room_for_two : (e : Edition) → 2 ≤ max_nodes e
room_for_two One = omega arith
room_for_two Two = omega arith

room_for_one : (e : Edition) → 1 ≤ max_dests e
room_for_one One = omega arith
room_for_one Two = omega arith

pub pair_is_net : (alg : PureAlg) (l : PureLabel) (v : PureValue) → IsAlg alg → Fits alg l v → IsNet (pair_net alg l v)
pair_is_net alg l v a f = record {
  is_alg = a;
  node_room = room_for_two alg.edition;
  arc_room = omega arith;
  dest_room = room_for_one alg.edition;
  node_names = (refl, (refl, tt));
  dest_names = (refl, tt);
  node_apart = ((refl, tt), (tt, tt));
  dest_apart = (tt, tt);
  arcs_in = (
    record { tail_in = omega arith; head_in = omega arith; apart = refl; label_in = f.label_in; bound = f.label_bound },
    (record { tail_in = omega arith; head_in = omega arith; apart = refl; label_in = f.label_in; bound = f.label_bound }, tt),
  );
  arc_apart = ((refl, tt), (tt, tt));
  arc_ids = (refl, (refl, tt));
  origins_in = (
    record { node_in = omega arith; dest_in = omega arith; value_in = f.value_in; bound = f.value_bound },
    (record { node_in = omega arith; dest_in = omega arith; value_in = f.value_in; bound = f.value_bound }, tt),
  );
  origin_apart = ((refl, tt), (tt, tt));
}
