use Rattle.std.proofs.Common.{◌≡◌, length, map, ◌∙◌, subst}
use Rattle.std.proofs.lemmas.List.{length-map}
use Rattle.net_graph.specs.Views.{rows_of}
use Rattle.report_check.specs.Judged.{Judged}
use Rattle.report_check.specs.Views.{pure_judgement}
use Rattle.metacli.proofs.Judgements.{judgement_printed}
use Rattle.metacli.proofs.judging.judged_on.Goals as goal

pub returns-in-Ok-judgement_of-clause-found : goal.returns-in-Ok-judgement_of-clause-found
returns-in-Ok-judgement_of-clause-found c =
    let net = c.args.net.now in
    let tables = map rows_of c.in-Ok.tables in
    let judgement = pure_judgement c.in-Ok-judgement_of.judgement in
    let judged : Judged net tables judgement = subst (λ ts. Judged net (map rows_of ts) judgement) c.as_slice.ensures c.in-Ok-judgement_of.ensures in
    let count : length tables ≡ length net.dests = length-map c.in-Ok.tables rows_of ∙ c.in-Ok.ensures.count in
    record {
      means = c.in-Ok.ensures.tables;
      judged = judged;
      printable = judgement_printed net c.args.source.now tables judgement c.edition-edition.ensures.net c.in-Ok.ensures.tables c.in-Ok.ensures.table_of count judged;
    }
