use Rattle.std.proofs.Common.{◌∙◌, refl, false, ◌≡◌}
use Rattle.std.specs.List.{list_any}
use Rattle.std.specs.Str.{bytes_eq}
use Rattle.net_graph.specs.NetLaws.{none_passes}
use Rattle.net_graph.proofs.Keys.{any_key, inserted_key}
use Rattle.net_graph.proofs.names.Names.add.Goals as goal

pub returns-clause-ok : goal.returns-clause-ok
returns-clause-ok c =
    let none = none_passes (λ n. bytes_eq c.args.name.now n) c.args.self.now c.requires.absent in
    let absent : list_any (λ v. bytes_eq c.args.name.now v.items) c.self.inside.names.keys ≡ false = any_key c.self.inside.names.keys c.args.name.now ∙ (rw (← c.self.view_is) at none) in
    rw (← c.self.view_is) (inserted_key c.self.inside.names.keys c.insert.new.self.keys c.in_ok-from_slice.field-0 c.args.name.now c.in_ok-insert.ensures.keys c.in_ok-from_slice.ensures.items absent)

pub invariant_of-self-2 : goal.invariant_of-self-2
invariant_of-self-2 c =
    let none = none_passes (λ n. bytes_eq c.args.name.now n) c.args.self.now c.requires.absent in
    let absent : list_any (λ v. bytes_eq c.args.name.now v.items) c.self.inside.names.keys ≡ false = any_key c.self.inside.names.keys c.args.name.now ∙ (rw (← c.self.view_is) at none) in
    let keys = inserted_key c.self.inside.names.keys c.insert.new.self.keys c.in_ok-from_slice.field-0 c.args.name.now c.in_ok-insert.ensures.keys c.in_ok-from_slice.ensures.items absent in
    c.push.ensures.items ∙ rw (c.unwrap.ensures, c.in_ok-reserve.ensures.items, c.in_ok-text.ensures, c.as_text.ensures, c.self.invariant, keys) refl
