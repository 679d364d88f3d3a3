use Rattle.command_words.specs.Words.{Words}
use Rattle.report_check.proofs.Runs.{one_meaning}
use Rattle.metacli.proofs.Completeness.{Laws, complete}
use Rattle.metacli.proofs.laws.nothing_is_given_up.Goals as goal

pub returns : goal.returns
returns c words old new o h =
    let laws : Laws = record {
      algebra = c.one_text_one_algebra.ensures;
      fault = c.one_text_one_fault.ensures;
      apart = c.no_fault_beside_an_algebra.ensures;
      network = c.one_text_one_network.ensures;
      report = one_meaning c.values_are_reported.ensures;
    } in
    complete laws words old new o (Words words) h
