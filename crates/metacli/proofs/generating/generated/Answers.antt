use Rattle.std.proofs.Common.{◌≡◌, ◌≤◌, ◌∙◌, ap, length, subst, sym, arith}
use Rattle.meta_base.specs.declared.limits.TheConstants.{MAX_FILE_BYTES}
use Rattle.net_gen.specs.Generated.{AreDemoNodes, Generated}
use Rattle.net_gen.specs.Networks.{demo_alg, generated_file}
use Rattle.topology_file.specs.NetText.{PureNetFile, NetText}
use Rattle.topology_file.specs.Views.{pure_file}
use Rattle.metacli.proofs.generating.generated.Goals as goal

pub read_net-requires : goal.read_net-requires
read_net-requires c =
    let short = c.generated_texts_are_short.ensures c.args.seed c.args.nodes (record { least = c.requires.nodes.0; most = c.requires.nodes.1 }) in
    subst (λ text. length text ≤ MAX_FILE_BYTES) (sym (c.as_bytes.ensures.value ∙ (c.as_str.ensures ∙ c.in_ok-text.ensures))) (omega (arith, short))

pub returns-in-Ok : goal.returns-in-Ok
returns-in-Ok c =
    let file = pure_file c.in-Ok.file in
    let demo : AreDemoNodes c.args.nodes = record { least = c.requires.nodes.0; most = c.requires.nodes.1 } in
    let bytes : c.as_bytes.result.now ≡ Generated c.args.seed c.args.nodes = c.as_bytes.ensures.value ∙ (c.as_str.ensures ∙ c.in_ok-text.ensures) in
    let text : NetText (Generated c.args.seed c.args.nodes) demo_alg file =
    subst (λ b. NetText b demo_alg file) bytes (subst (λ a. NetText c.as_bytes.result.now a file) c.requires.alg c.in-Ok.ensures.network) in
    let is : file ≡ generated_file c.args.seed c.args.nodes = c.generated_texts_are_never_refused.ensures.only c.args.seed c.args.nodes file demo text in
    record { text = text; net = ap (λ (f : PureNetFile). f.net) is; alg = ap (λ (f : PureNetFile). f.net.alg) is; changes = ap (λ (f : PureNetFile). f.changes) is }
