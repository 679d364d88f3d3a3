use Rattle.std.proofs.Common.{◌∷◌, [], ◌∙◌, map, refl, subst, sym, vec_len}
use Rattle.std.proofs.lemmas.List.{map-append}
use Rattle.node_core.specs.Configs.{noted}
use Rattle.weave.specs.Between.{IsPut}
use Rattle.weave.specs.Gathered.{view_at}
use Rattle.weave.proofs.OneRound.{put_gathered, put_none, put_then}
use Rattle.weave.proofs.between.put_all.Goals as goal

pub loop-arc-init : goal.loop-arc-init
loop-arc-init g c =
    let k = g.N.NodeCore in
    record {
      count = refl;
      gathered = c.requires.gathered;
      put = put_none c.args.net.now (vec_len c.args.blocks.now) (view_at k.state k.note c.args.blocks.now.items) c.requires.gathered;
    }

pub loop-arc-preserved : goal.loop-arc-preserved
loop-arc-preserved g c =
    let k = g.N.NodeCore in
    let net = c.args.net.now in
    let n = vec_len c.args.blocks.now in
    let view = view_at k.state k.note in
    let old = view c.args.blocks.now.items in
    let mid = view c.loop-arc.blocks.items in
    let new = view c.put_one.new.blocks.items in
    let one = (c.in-Some.arc.0, k.note c.in-Some.message) ∷ [] in
    let inv = c.loop-arc.invariant in
    let put = rw inv.count at c.in_ok-put_one.ensures.put in
    record {
      count = c.put_one.ensures.count ∙ inv.count;
      gathered = put_gathered net n mid new one inv.gathered put;
      put = subst (λ l. IsPut net n l old new) (sym (map-append (noted k.note) c.loop-arc.yielded ((c.in-Some.arc, c.in-Some.message) ∷ [])))
          (put_then net n old mid new (map (noted k.note) c.loop-arc.yielded) one inv.put put);
    }
