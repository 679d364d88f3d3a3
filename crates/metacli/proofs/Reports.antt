-- What verify comes to, by what was made of the bytes of the report.
use Rattle.std.proofs.Common.{◌≡◌, ◌≤◌, ℕ, List, Some, Result, Ok, Err, length, ⊎_elim, inl, inr, refl, sym, subst, ap, arith}
use Rattle.alg_model.specs.Expressions.{PureAlg}
use Rattle.meta_base.specs.Numbers.{max_file_bytes}
use Rattle.meta_base.specs.Shelf.{Moment}
use Rattle.meta_base.specs.declared.ids.Which.TheVariants.{Report}
use Rattle.net_graph.specs.Tables.{PureRow}
use Rattle.report_check.specs.ReportText.{ReportText}
use Rattle.report_text.specs.Refusals.{PureRefusal, long, read}
use Rattle.topology_file.specs.NetText.{PureNetFile, changed_net}
use Rattle.metacli.specs.Found.{IsJudgedBy}
use Rattle.metacli.specs.Outcome.{PureOutcome, WithReport, stopped}
use Rattle.metacli.specs.Reading.{IsReadAs, IsReportOf, IsReportRefusal, IsUntaken, IsWhole, Takes}

-- bytes that were taken are not too many
pub taken_short : (name bytes : List ℕ) (old new : Moment) → Takes Report name old (Ok bytes) new → length bytes ≤ max_file_bytes
taken_short name bytes old new t = omega (arith, t.as_read.2.short, ap length t.as_read.1)

-- a refusal is the same, whatever would have been read
abbrev no_bytes : PureRefusal → Result (List ℕ) PureRefusal
no_bytes r = Err r

abbrev no_tables : PureRefusal → Result (List (List PureRow)) PureRefusal
no_tables r = Err r

refused_too : (r s : PureRefusal) → no_bytes r ≡ no_bytes s → no_tables r ≡ no_tables s
refused_too r s e = let same : r ≡ s = cc in ap no_tables same

as_report : (a : PureAlg) (f : PureNetFile) (name bytes : List ℕ) (old new : Moment) (r : Result (List (List PureRow)) PureRefusal) → IsWhole old name bytes new → IsReportOf (changed_net f) bytes r
    → IsReadAs Report name (ReportText (changed_net f)) (IsReportRefusal (changed_net f)) old r new
as_report a f name bytes old new (Ok tables) whole is = (bytes, is, whole)
as_report a f name bytes old new (Err r) whole is =
    ⊎_elim (λ refused. inr (bytes, refused, whole)) (λ none. inl (subst (IsUntaken Report name old new) (sym none) tt)) is

-- the report was taken, and this was made of its bytes
pub judged_taken : (a : PureAlg) (f : PureNetFile) (name bytes : List ℕ) (old new : Moment) (o : PureOutcome) → Takes Report name old (Ok bytes) new → IsJudgedBy a f bytes o → WithReport a f name old new o
judged_taken a f name bytes old new o t j =
    let whole : IsWhole old name bytes new = subst (λ b. IsWhole old name b new) (sym t.as_read.1) t.as_read.2 in
    record {
      report = j.report;
      reads = record {
        keeps = t.keeps;
        too_long = λ more. absurd (omega (arith, more, whole.taken, whole.short));
        begun = t.begun;
        no_fault = λ _. t.no_fault (λ no. absurd (cc));
        as_read = as_report a f name bytes old new j.report whole j.is_report;
      };
      goes_on = j.goes_on;
    }

-- or it was not
pub not_taken : (a : PureAlg) (f : PureNetFile) (name : List ℕ) (old new : Moment) (r : PureRefusal) → Takes Report name old (Err r) new → WithReport a f name old new (stopped (Some a) (Some f) r)
not_taken a f name old new r t = record {
  report = Err r;
  reads = record {
    keeps = t.keeps;
    too_long = λ more. refused_too r (long Report) (t.too_long more);
    begun = t.begun;
    no_fault = λ no. t.no_fault (λ e. no (refused_too r (read Report) e));
    as_read = ⊎_elim inl (λ held. absurd held.1) t.as_read;
  };
  goes_on = refl;
}
