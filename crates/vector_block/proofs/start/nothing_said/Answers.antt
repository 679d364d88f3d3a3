use Rattle.std.proofs.Common.{◌≡◌, ℕ, ◌+◌, Some, None, length, replicate, ap, subst, ◌∙◌, arith}
use Rattle.std.specs.Prelude.{slice_get}
use Rattle.std.proofs.lemmas.List.{length-replicate}
use Rattle.path_vector.specs.Known.{entry_of}
use Rattle.vector_block.specs.declared.report.ReportId.{ReportId}
use Rattle.vector_block.proofs.Starting.{IsUnused, more_count, no_entry, one_more}
use Rattle.vector_block.proofs.start.nothing_said.Goals as goal

pub loop-dest-preserved : goal.loop-dest-preserved
loop-dest-preserved g c =
    let items = c.in_ok-push.ensures.items in
    let net = c.args.site.now.net.now in
    let arcs : c.arc_count.result ≡ length net.arcs = let k = c.arc_count.ensures.count in omega arith in
    let nodes : c.node_count.result ≡ length net.nodes = let k = c.node_count.ensures.count in omega arith in
    let heard : c.in_ok-nothing.field-0.items ≡ replicate (length net.arcs) None = c.in_ok-nothing.ensures ∙ ap (λ n. replicate n None) arcs in
    let rows : c.in_ok-nothing-2.field-0.items ≡ replicate (length net.nodes) None = c.in_ok-nothing-2.ensures ∙ ap (λ n. replicate n None) nodes in
    record {
      count = ap length items ∙ more_count c.loop-dest.columns.items _ ∙ ap (λ z. z + 1) c.loop-dest.invariant.count;
      unused = λ dest x e. one_more (IsUnused c.args.site.now.net.now) c.loop-dest.columns.items _ c.loop-dest.invariant.unused
          (record { heard = heard; rows = rows }) dest x (subst (λ z. slice_get z dest ≡ Some x) items e);
    }

pub returns-clause-stored : goal.returns-clause-stored
returns-clause-stored g c =
    let net = c.args.site.now.net.now in
    let empty = c.in_ok-with_capacity.ensures.items in
    let count = c.loop-dest.invariant.count in
    let end = c.loop-dest-test.false in
    let most = c.loop-dest.auto._dest-end in
    let dests = c.dest_count-dest-end.ensures.count in
    let none : (n k : ℕ) (id : ReportId) → entry_of (replicate n None) k ≡ Some id → ⊥ = λ n k id e. let no = no_entry {X = ReportId} n k in absurd (cc) in
    record {
      count = omega arith;
      reports = λ k r e. let no = subst (λ z. slice_get z k ≡ Some r) empty e in absurd (cc);
      columns = λ dest x e. let is = c.loop-dest.invariant.unused dest x e in record {
        heard_count = ap length is.heard ∙ length-replicate (length net.arcs) _;
        row_count = ap length is.rows ∙ length-replicate (length net.nodes) _;
        heard = λ arc id f. absurd (none (length net.arcs) arc id (subst (λ z. entry_of z arc ≡ Some id) is.heard f));
        rows = λ node id f. absurd (none (length net.nodes) node id (subst (λ z. entry_of z node ≡ Some id) is.rows f));
      };
    }
