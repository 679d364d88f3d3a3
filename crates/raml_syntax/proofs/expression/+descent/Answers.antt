use Rattle.std.proofs.Common.{[], Ok, Err, sym, subst}
use Rattle.std.proofs.lemmas.Result.{err_from_is_err_and}
use Rattle.raml_lex.specs.Tokens.{word, comma}
use Rattle.raml_lex.specs.Views.{tok_of}
use Rattle.alg_model.specs.Views.{expression_of}
use Rattle.alg_model.specs.Expressions.{gate}
use Rattle.raml_syntax.specs.Leaves.{TakesAt}
use Rattle.raml_syntax.specs.Sequences.{Nothing, Reads, map_ok}
use Rattle.raml_syntax.specs.Trees.{Expr}
use Rattle.raml_syntax.specs.Heads.{ranged_of, counted_of, paired_of, single_of}
use Rattle.raml_syntax.specs.Forest.{tree_at}
use Rattle.raml_syntax.specs.Forms.{After, Closed, AddTail, RangedTail, CountedTail, TableTail, Tail}
use Rattle.raml_syntax.proofs.After.{mark_no_number, following_taken, following_misses, reads_nothing}
use Rattle.raml_syntax.proofs.Descent.{expr_possible, expr_misses, head_too_large, head_then, name_reads, paired_not_first, paired_not_second, paired_reads, single_not_part, single_reads, read_as}
use Rattle.raml_syntax.proofs.expression.+descent.Goals as goal

pub read_expression-returns-in_err-word-clause-reads : goal.read_expression-returns-in_err-word-clause-reads
read_expression-returns-in_err-word-clause-reads t c =
    let p = err_from_is_err_and c.from_residual.result c.from_residual.ensures.1 in
    rw (p.1, p.2) (expr_misses c.args.definitions.now.defined c.args.nodes.now c.args.tokens.now c.take_word.new.tokens _ c.in_err-word.ensures.fault)

pub read_expression-returns-in_err-count_node-in-Some-clause-reads : goal.read_expression-returns-in_err-count_node-in-Some-clause-reads
read_expression-returns-in_err-count_node-in-Some-clause-reads t c =
    let p = err_from_is_err_and c.from_residual-in_err-count_node-in-Some.result c.from_residual-in_err-count_node-in-Some.ensures.1 in
    let old = c.args.tokens.now in
    let mid = c.take_word.new.tokens in
    let place = c.in_ok-word.word.place in
    rw (p.1, p.2, c.in_err-count_node-in-Some.ensures.fault)
    (head_too_large c.args.definitions.now.defined c.args.nodes.now c.in-Some.head place old mid mid c.in_err-count_node-in-Some.ensures.full
    (subst (λ w. TakesAt (word w) place old mid) (sym c.in-Some.ensures) c.in_ok-word.ensures.word))

pub read_expression-returns-in_ok-count_node-in-Some-clause-reads : goal.read_expression-returns-in_ok-count_node-in-Some-clause-reads
read_expression-returns-in_ok-count_node-in-Some-clause-reads t c =
    let ds = c.args.definitions.now.defined in
    let head = c.in-Some.head in
    let old = c.args.tokens.now in
    let mid = c.take_word.new.tokens in
    let new = c.read_tail.new.tokens in
    let result = map_ok (tree_at c.read_tail.new.definitions.trees) c.read_tail.result in
    let taken = subst (λ w. TakesAt (word w) c.in_ok-word.word.place old mid) (sym c.in-Some.ensures) c.in_ok-word.ensures.word in
    head_then ds c.args.nodes.now head old mid new result c.in_ok-count_node-in-Some.ensures.room taken.takes
    (subst (λ n. Reads (Tail ds n head) mid result new) c.in_ok-count_node-in-Some.ensures.counted c.read_tail.ensures.reads)

pub read_expression-returns-in-None-clause-reads : goal.read_expression-returns-in-None-clause-reads
read_expression-returns-in-None-clause-reads t c =
    name_reads c.args.definitions.now.defined c.args.nodes.now c.in_ok-word.word.text.now c.in_ok-word.word.place c.args.tokens.now c.take_word.new.tokens (map_ok (tree_at c.args.definitions.now.trees) c.named_tree.result)
    c.in-None.ensures c.in_ok-word.ensures.word c.named_tree.ensures.resolves

pub read_paired-returns-in_err-first-clause-reads : goal.read_paired-returns-in_err-first-clause-reads
read_paired-returns-in_err-first-clause-reads t c =
    let p = err_from_is_err_and c.from_residual.result c.from_residual.ensures.1 in
    rw (p.1, p.2) (paired_not_first c.args.definitions.now.defined c.args.nodes.now (paired_of c.args.kind) c.args.tokens.now c.read_part.new.tokens _ c.in_err-first.ensures.reads)

pub read_paired-returns-in_err-second-clause-reads : goal.read_paired-returns-in_err-second-clause-reads
read_paired-returns-in_err-second-clause-reads t c =
    let p = err_from_is_err_and c.from_residual-in_err-second.result c.from_residual-in_err-second.ensures.1 in
    let mid = c.read_part.new.definitions in
    let m = c.read_part.new.nodes in
    let e = c.in_err-second.field-0.0 in
    let refused = subst (λ ds. Reads (After comma (Expr ds m)) c.read_part.new.tokens (Err e) c.read_part-2.new.tokens) c.in_ok-first.ensures.keeps.defined c.in_err-second.ensures.reads in
    rw (p.1, p.2)
    (paired_not_second c.args.definitions.now.defined c.args.nodes.now m (paired_of c.args.kind) (tree_at mid.trees c.in_ok-first.first)
    c.args.tokens.now c.read_part.new.tokens c.read_part-2.new.tokens e c.in_ok-first.ensures.reads c.in_ok-first.ensures.nodes refused)

pub read_paired-returns-clause-reads : goal.read_paired-returns-clause-reads
read_paired-returns-clause-reads t c =
    let mid = c.read_part.new.definitions in
    let last = c.read_part-2.new.definitions in
    let k = paired_of c.args.kind in
    let m = c.read_part.new.nodes in
    let a = tree_at mid.trees c.in_ok-first.first in
    let b = tree_at last.trees c.in_ok-second.second in
    let result = map_ok (tree_at c.close_paired.new.definitions.trees) c.close_paired.result in
    let second = subst (λ ds. Reads (After comma (Expr ds m)) c.read_part.new.tokens (Ok b) c.read_part-2.new.tokens) c.in_ok-first.ensures.keeps.defined c.in_ok-second.ensures.reads in
    let same = c.in_ok-second.ensures.keeps.trees.same c.in_ok-first.first c.in_ok-first.ensures.tree in
    let closed = subst (λ x. Reads (Closed k x b) c.read_part-2.new.tokens result c.close_paired.new.tokens) same c.close_paired.ensures.reads in
    paired_reads c.args.definitions.now.defined c.args.nodes.now m k a b c.args.tokens.now c.read_part.new.tokens c.read_part-2.new.tokens c.close_paired.new.tokens result
    c.in_ok-first.ensures.reads c.in_ok-first.ensures.nodes second closed

pub read_part-returns-in_err-take_mark-clause-reads : goal.read_part-returns-in_err-take_mark-clause-reads
read_part-returns-in_err-take_mark-clause-reads t c =
    let p = err_from_is_err_and c.from_residual.result c.from_residual.ensures.1 in
    let ds = c.args.definitions.now.defined in
    let n = c.args.nodes.now in
    rw (p.1, p.2)
    (following_misses (tok_of c.args.mark []) (Expr ds n) c.args.tokens.now c.take_mark.new.tokens _ (expr_possible ds n) (mark_no_number c.args.mark c.requires.mark) c.in_err-take_mark.ensures.fault)

pub read_part-returns-clause-reads : goal.read_part-returns-clause-reads
read_part-returns-clause-reads t c =
    following_taken (tok_of c.args.mark []) (Expr c.args.definitions.now.defined c.args.nodes.now) c.args.tokens.now c.take_mark.new.tokens c.read_expression.new.tokens (map_ok (tree_at c.read_expression.new.definitions.trees) c.read_expression.result)
    c.in_ok-take_mark.ensures.mark c.read_expression.ensures.reads

pub read_single-returns-in_err-part-clause-reads : goal.read_single-returns-in_err-part-clause-reads
read_single-returns-in_err-part-clause-reads t c =
    let p = err_from_is_err_and c.from_residual.result c.from_residual.ensures.1 in
    rw (p.1, p.2) (single_not_part c.args.definitions.now.defined c.args.nodes.now (single_of c.args.kind) c.args.tokens.now c.read_part.new.tokens _ c.in_err-part.ensures.reads)

pub read_single-returns-clause-reads : goal.read_single-returns-clause-reads
read_single-returns-clause-reads t c =
    single_reads c.args.definitions.now.defined c.args.nodes.now (single_of c.args.kind) (tree_at c.read_part.new.definitions.trees c.in_ok-part.part)
    c.args.tokens.now c.read_part.new.tokens c.close_single.new.tokens (map_ok (tree_at c.close_single.new.definitions.trees) c.close_single.result)
    c.in_ok-part.ensures.reads c.close_single.ensures.reads

pub read_tail-returns-in-Add-clause-reads : goal.read_tail-returns-in-Add-clause-reads
read_tail-returns-in-Add-clause-reads t c =
    rw c.in-Add.is
    (read_as AddTail c.args.tokens.now c.read_add.new.tokens (map_ok expression_of c.read_add.result) (map_ok (tree_at c.plant_base.new.definitions.trees) c.plant_base.result)
    c.plant_base.ensures.read c.read_add.ensures.reads)

pub read_tail-returns-in-Ranged-clause-reads : goal.read_tail-returns-in-Ranged-clause-reads
read_tail-returns-in-Ranged-clause-reads t c =
    rw c.in-Ranged.is
    (read_as (RangedTail (ranged_of c.in-Ranged.kind)) c.args.tokens.now c.read_ranged.new.tokens (map_ok expression_of c.read_ranged.result) (map_ok (tree_at c.plant_base-in-Ranged.new.definitions.trees) c.plant_base-in-Ranged.result)
    c.plant_base-in-Ranged.ensures.read c.read_ranged.ensures.reads)

pub read_tail-returns-in-Counted-clause-reads : goal.read_tail-returns-in-Counted-clause-reads
read_tail-returns-in-Counted-clause-reads t c =
    rw c.in-Counted.is
    (read_as (CountedTail (counted_of c.in-Counted.kind)) c.args.tokens.now c.read_counted.new.tokens (map_ok expression_of c.read_counted.result) (map_ok (tree_at c.plant_base-in-Counted.new.definitions.trees) c.plant_base-in-Counted.result)
    c.plant_base-in-Counted.ensures.read c.read_counted.ensures.reads)

pub read_tail-returns-in-Gate-clause-reads : goal.read_tail-returns-in-Gate-clause-reads
read_tail-returns-in-Gate-clause-reads t c =
    rw c.in-Gate.is
    (read_as (Nothing gate) c.args.tokens.now c.args.tokens.now (Ok gate) (map_ok (tree_at c.plant_base-in-Gate.new.definitions.trees) c.plant_base-in-Gate.result)
    c.plant_base-in-Gate.ensures.read (reads_nothing gate c.args.tokens.now))

pub read_tail-returns-in-Table-clause-reads : goal.read_tail-returns-in-Table-clause-reads
read_tail-returns-in-Table-clause-reads t c =
    rw c.in-Table.is
    (read_as TableTail c.args.tokens.now c.read_table_tree.new.tokens (map_ok expression_of c.read_table_tree.result) (map_ok (tree_at c.plant_base-in-Table.new.definitions.trees) c.plant_base-in-Table.result)
    c.plant_base-in-Table.ensures.read c.read_table_tree.ensures.reads)

pub read_tail-returns-in-Paired-clause-reads : goal.read_tail-returns-in-Paired-clause-reads
read_tail-returns-in-Paired-clause-reads t c = rw c.in-Paired.is c.read_paired.ensures.reads

pub read_tail-returns-in-Single-clause-reads : goal.read_tail-returns-in-Single-clause-reads
read_tail-returns-in-Single-clause-reads t c = rw c.in-Single.is c.read_single.ensures.reads
