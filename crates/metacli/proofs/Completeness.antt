-- Without a fault nothing is given up.
use Rattle.std.proofs.Common.{◌≡◌, ◌↔◌, ℕ, ◌<◌, ◌≤◌, Bool, true, false, if◌then◌else◌, List, [], length, Option, Some, None, Result, Ok, Err, arith, refl, ap, ◌∙◌, subst, inl, inr, ⊎_elim}
use Rattle.meta_base.specs.Count.{HasRisen}
use Rattle.meta_base.specs.Shelf.{Moment, Keeps}
use Rattle.meta_base.specs.declared.ids.Which.{Which}
use Rattle.meta_base.specs.declared.ids.Which.TheVariants.{Expr, Network, Report}
use Rattle.alg_model.specs.Expressions.{PureAlg, PureLabel}
use Rattle.alg_model.specs.Application.{IsLabel}
use Rattle.raml_syntax.specs.declared.faults.ExprFault.{ExprFault}
use Rattle.raml_syntax.specs.ExprText.{ExprText, IsExprFault}
use Rattle.flood_node.specs.Reach.{cards_sent}
use Rattle.net_facts.specs.MissingLaws.{first_refutes}
use Rattle.net_graph.specs.Nets.{PureNet}
use Rattle.net_graph.specs.Tables.{PureRow}
use Rattle.report_check.specs.ReportText.{HasOneMeaning, ReportText}
use Rattle.topology_file.specs.NetText.{PureNetFile, NetText, HasOneOutcome, changed_net}
use Rattle.report_text.specs.Refusals.{PureRefusal, words, expr, network, report, misses, read, long, memory}
use Rattle.metacli.specs.Answers.{done, refused, spent}
use Rattle.metacli.specs.Reading.{Holds, IsUntaken, IsReadAs, IsExprRefusal, IsNetRefusal, IsReportRefusal}
use Rattle.metacli.specs.Outcome as outcome
use Rattle.metacli.specs.Outcome.{PureOutcome, stopped, checked, coded, routed, hopped, wedged, ran, flooded, exchanged, shown, answer_in, ComesBy, ComesOf, GoesOnFrom, GoesOnOver, GoesOnWith, IsCheckedAs, IsCodedAs, IsExchangedAs, IsFit, IsFitForExchange, IsFloodedAs, IsHoppedAs, IsJudgedAs, IsMadeAlone, IsMadeOn, IsOnArc, IsRoutedAs, IsRunAs, IsShownAs, IsWedgedAs, WithNetwork, WithReport, asked_of, asked_of_exchange, labels_on, word_at}
use Rattle.metacli.specs.Complete.{CompleteBy, IsAnsweredAlone, IsAnsweredOn, IsCompleteOf, IsDecided, IsDone, IsFitFor, IsFloodedOut, IsJudged, IsNetJudged, IsReportJudged, IsRunOut, IsReported, IsUnlessMemory}
use Rattle.command_words.specs.declared.command.Command.{Command}
use Rattle.command_words.specs.declared.command.Required.{Required}
use Rattle.command_words.specs.declared.command.WordsFault.{WordsFault}
use Rattle.metacli.specs.declared.routing.Solution.{Solution}
use Rattle.metacli.specs.declared.routing.Solution.TheVariants.{Unbeaten}
use Rattle.metacli.specs.Tasks.{task_of}
use Rattle.metacli.specs.declared.task.AlgebraTask.{AlgebraTask}
use Rattle.metacli.specs.declared.task.AlgebraTask.TheVariants as alone
use Rattle.metacli.specs.declared.task.NetworkTask.{NetworkTask}
use Rattle.metacli.specs.declared.task.NetworkTask.TheVariants as joint
use Rattle.metacli.specs.declared.task.Task.{Task}
use Rattle.metacli.specs.declared.task.Task.TheVariants as task
use Rattle.metacli.proofs.Exchanges as exchanges
use Rattle.metacli.proofs.Floods as floods
use Rattle.metacli.proofs.Missing.{IsUnfit}

-- the laws of texts
pub record Laws : Type 0 where
  pub algebra : (text : List ℕ) (a b : PureAlg) → ExprText text a → ExprText text b → a ≡ b
  pub fault : (text : List ℕ) (f g : ExprFault) → IsExprFault text f → IsExprFault text g → f ≡ g
  pub apart : (text : List ℕ) (a : PureAlg) (f : ExprFault) → ExprText text a → IsExprFault text f → ⊥
  pub network : (text : List ℕ) (a : PureAlg) → HasOneOutcome text a
  pub report : (net : PureNet) (text : List ℕ) → HasOneMeaning net text

-- what the shelf tells holds of the bytes that it tells
reported : (m new : Moment) (name bytes : List ℕ) (P : List ℕ → Type 0) → Holds m name P new → IsReported m name bytes → P bytes
reported m new name bytes P h t =
    let f = t.file in
    let e : h.0 ≡ bytes = cc (h.2.reported t.reports) in
    subst P e h.1

-- a file whose bytes are shown is taken, unless memory is refused
untaken : (which : Which) (name bytes : List ℕ) (old new : Moment) (r : PureRefusal) → IsUntaken which name old new r → IsReported old name bytes
    → ¬ HasRisen old.faults new.faults → r ≡ memory
untaken which name bytes old new (read w) h t quiet = absurd (⊎_elim quiet (λ absent. let n = absent.1 in let f = t.file in cc) h.2)
untaken which name bytes old new (long w) h t quiet =
    let x = h.2 t.reports in
    let f = t.file in
    let same : x.0 ≡ bytes = cc x.1 in
    absurd (omega (arith, x.2, ap length same, t.short))
untaken which name bytes old new memory h t quiet = refl
untaken which name bytes old new (words n) h t quiet = absurd h
untaken which name bytes old new (expr f) h t quiet = absurd h
untaken which name bytes old new (network f) h t quiet = absurd h
untaken which name bytes old new (report f) h t quiet = absurd h
untaken which name bytes old new (misses arc x) h t quiet = absurd h

-- where nothing rose before, nothing rose in all
risen_later : (a b c : ℕ) → a ≤ b → HasRisen b c → HasRisen a c
risen_later a b c h r = ⊎_elim (λ e. inl (omega (arith, e))) inr r

-- what is shown stays shown
reported_later : (old between : Moment) (name bytes : List ℕ) → Keeps old between → IsReported old name bytes → IsReported between name bytes
reported_later old between name bytes k t = record { reports = rw k.reports t.reports; file = k.file name ∙ t.file; short = t.short }

keeps_more : (old between new : Moment) → Keeps old between → Keeps between new → Keeps old new
keeps_more old between new k l = record { reports = l.reports ∙ k.reports; file = λ name. l.file name ∙ k.file name; faults = omega (arith, k.faults, l.faults); begun = omega (arith, k.begun, l.begun) }

-- Expression files.

judged_good : Laws → (bytes : List ℕ) (a : PureAlg) (Follows : PureAlg → Type 0) (o : PureOutcome) → ExprText bytes a → Follows a → IsJudged bytes Follows o
judged_good laws bytes a Follows o means follows = record {
  bad = λ f x. absurd (laws.apart bytes a f means x);
  good = λ b x. subst Follows (laws.algebra bytes a b means x) follows;
}

judged_bad : Laws → (bytes : List ℕ) (r : PureRefusal) (Follows : PureAlg → Type 0) (o : PureOutcome) → IsExprRefusal bytes r → answer_in o ≡ refused r → IsJudged bytes Follows o
judged_bad laws bytes (expr g) Follows o x e = record {
  bad = λ f y. inl (e ∙ ap (λ f. refused (expr f)) (laws.fault bytes g f x y));
  good = λ a y. absurd (laws.apart bytes a g y x);
}
judged_bad laws bytes (words n) Follows o x e = absurd x
judged_bad laws bytes (network f) Follows o x e = absurd x
judged_bad laws bytes (report f) Follows o x e = absurd x
judged_bad laws bytes (misses arc i) Follows o x e = absurd x
judged_bad laws bytes (read w) Follows o x e = absurd x
judged_bad laws bytes (long w) Follows o x e = absurd x
judged_bad laws bytes memory Follows o x e = absurd x

judged_memory : (bytes : List ℕ) (Follows : PureAlg → Type 0) (o : PureOutcome) → answer_in o ≡ refused memory → ((a : PureAlg) → Follows a) → IsJudged bytes Follows o
judged_memory bytes Follows o e all = record { bad = λ f x. inr e; good = λ a x. all a }

-- what comes of the expression file is judged, if what comes of its algebra follows
judged : Laws → (name bytes : List ℕ) (Then : PureAlg → Moment → Moment → PureOutcome → Type 0) (Follows : PureAlg → Type 0) (old between new : Moment) (o : PureOutcome)
    (r : Result PureAlg PureRefusal) → IsReadAs Expr name ExprText IsExprRefusal old r between → GoesOnFrom Then between new o r → IsReported old name bytes
    → ¬ HasRisen old.faults new.faults → ((a : PureAlg) → Then a between new o → Follows a) → (answer_in o ≡ refused memory → (a : PureAlg) → Follows a) → IsJudged bytes Follows o
judged laws name bytes Then Follows old between new o (Ok a) h on t quiet over without =
    judged_good laws bytes a Follows o (reported old between name bytes (λ b. ExprText b a) h t) (over a on)
judged laws name bytes Then Follows old between new o (Err r) h on t quiet over without = ⊎_elim
    (λ u.
    let e : answer_in o ≡ refused memory = ap answer_in on.1 ∙ ap refused (untaken Expr name bytes old between r u t (subst (λ (m : Moment). ¬ HasRisen old.faults m.faults) on.0 quiet)) in
    judged_memory bytes Follows o e (without e))
    (λ f. judged_bad laws bytes r Follows o (reported old between name bytes (λ b. IsExprRefusal b r) f t) (ap answer_in on.1))
    h

-- Network files.

net_judged_good : Laws → (bytes : List ℕ) (Follows : PureNet → Type 0) (a : PureAlg) (f : PureNetFile) (o : PureOutcome) → NetText bytes a f → Follows (changed_net f) → IsNetJudged bytes Follows o a
net_judged_good laws bytes Follows a f o means follows = record {
  bad = λ g x. absurd ((laws.network bytes a).not_both f g means x);
  good = λ g x. subst (λ (h : PureNetFile). Follows (changed_net h)) ((laws.network bytes a).one_network f g means x) follows;
}

net_judged_bad : Laws → (bytes : List ℕ) (Follows : PureNet → Type 0) (a : PureAlg) (r : PureRefusal) (o : PureOutcome) → IsNetRefusal a bytes r → answer_in o ≡ refused r → IsNetJudged bytes Follows o a
net_judged_bad laws bytes Follows a (network g) o x e = record {
  bad = λ f y. inl (e ∙ ap (λ f. refused (network f)) ((laws.network bytes a).one_fault g f x y));
  good = λ f y. absurd ((laws.network bytes a).not_both f g y x);
}
net_judged_bad laws bytes Follows a (words n) o x e = absurd x
net_judged_bad laws bytes Follows a (expr f) o x e = absurd x
net_judged_bad laws bytes Follows a (report f) o x e = absurd x
net_judged_bad laws bytes Follows a (misses arc i) o x e = absurd x
net_judged_bad laws bytes Follows a (read w) o x e = absurd x
net_judged_bad laws bytes Follows a (long w) o x e = absurd x
net_judged_bad laws bytes Follows a memory o x e = absurd x

net_judged_memory : (bytes : List ℕ) (Follows : PureNet → Type 0) (o : PureOutcome) (a : PureAlg) → answer_in o ≡ refused memory → ((net : PureNet) → Follows net) → IsNetJudged bytes Follows o a
net_judged_memory bytes Follows o a e all = record { bad = λ f x. inr e; good = λ f x. all (changed_net f) }

-- what comes of the network file is judged, if what comes of its network follows
net_judged : Laws → (a : PureAlg) (name bytes : List ℕ) (Then : PureNetFile → Moment → Moment → PureOutcome → Type 0) (Follows : PureNet → Type 0) (old between new : Moment) (o : PureOutcome)
    (r : Result PureNetFile PureRefusal) → IsReadAs Network name (λ text. NetText text a) (IsNetRefusal a) old r between → GoesOnOver a Then between new o r → IsReported old name bytes
    → ¬ HasRisen old.faults new.faults → ((f : PureNetFile) → Then f between new o → Follows (changed_net f)) → (answer_in o ≡ refused memory → (net : PureNet) → Follows net)
    → IsNetJudged bytes Follows o a
net_judged laws a name bytes Then Follows old between new o (Ok f) h on t quiet over without =
    net_judged_good laws bytes Follows a f o (reported old between name bytes (λ b. NetText b a f) h t) (over f on)
net_judged laws a name bytes Then Follows old between new o (Err r) h on t quiet over without = ⊎_elim
    (λ u.
    let e : answer_in o ≡ refused memory = ap answer_in on.1 ∙ ap refused (untaken Network name bytes old between r u t (subst (λ (m : Moment). ¬ HasRisen old.faults m.faults) on.0 quiet)) in
    net_judged_memory bytes Follows o a e (without e))
    (λ f. net_judged_bad laws bytes Follows a r o (reported old between name bytes (λ b. IsNetRefusal a b r) f t) (ap answer_in on.1))
    h

-- the same where another file was read before
over_network : Laws → (a : PureAlg) (name bytes : List ℕ) (Then : PureNetFile → Moment → Moment → PureOutcome → Type 0) (Follows : PureNet → Type 0) (old between new : Moment) (o : PureOutcome)
    → Keeps old between → WithNetwork a name Then between new o → IsReported old name bytes → ¬ HasRisen old.faults new.faults
    → ((f : PureNetFile) (later : Moment) → Keeps between later → Then f later new o → Follows (changed_net f)) → (answer_in o ≡ refused memory → (net : PureNet) → Follows net)
    → IsNetJudged bytes Follows o a
over_network laws a name bytes Then Follows old between new o k w t quiet over without =
    net_judged laws a name bytes Then Follows between w.between new o w.network w.reads.as_read w.goes_on (reported_later old between name bytes k t)
    (λ r. quiet (risen_later old.faults between.faults new.faults k.faults r)) (λ f x. over f w.between w.reads.keeps x) without

-- Reports.

report_judged_good : Laws → (bytes : List ℕ) (net : PureNet) (tables : List (List PureRow)) (o : PureOutcome) → ReportText net bytes tables → IsUnlessMemory o done → IsReportJudged bytes o net
report_judged_good laws bytes net tables o means d = record {
  bad = λ f x. absurd ((laws.report net bytes).not_both tables f means x);
  good = λ others x. d;
}

report_judged_bad : Laws → (bytes : List ℕ) (net : PureNet) (r : PureRefusal) (o : PureOutcome) → IsReportRefusal net bytes r → answer_in o ≡ refused r → IsReportJudged bytes o net
report_judged_bad laws bytes net (report g) o x e = record {
  bad = λ f y. inl (e ∙ ap (λ f. refused (report f)) ((laws.report net bytes).one_fault g f x y));
  good = λ tables y. absurd ((laws.report net bytes).not_both tables g y x);
}
report_judged_bad laws bytes net (words n) o x e = absurd x
report_judged_bad laws bytes net (expr f) o x e = absurd x
report_judged_bad laws bytes net (network f) o x e = absurd x
report_judged_bad laws bytes net (misses arc i) o x e = absurd x
report_judged_bad laws bytes net (read w) o x e = absurd x
report_judged_bad laws bytes net (long w) o x e = absurd x
report_judged_bad laws bytes net memory o x e = absurd x

report_judged_memory : (bytes : List ℕ) (o : PureOutcome) (net : PureNet) → answer_in o ≡ refused memory → IsReportJudged bytes o net
report_judged_memory bytes o net e = record { bad = λ f x. inr e; good = λ tables x. inr e }

-- tables that were judged are done with
judged_done : (a : PureAlg) (file : PureNetFile) (tables : List (List PureRow)) (o : PureOutcome) → IsJudgedAs a file tables o → IsUnlessMemory o done
judged_done a file tables (outcome.judged b f t j) h = inl refl
judged_done a file tables (stopped b f memory) h = inr refl
judged_done a file tables (stopped b f (words n)) h = absurd h
judged_done a file tables (stopped b f (expr g)) h = absurd h
judged_done a file tables (stopped b f (network g)) h = absurd h
judged_done a file tables (stopped b f (report g)) h = absurd h
judged_done a file tables (stopped b f (misses arc x)) h = absurd h
judged_done a file tables (stopped b f (read w)) h = absurd h
judged_done a file tables (stopped b f (long w)) h = absurd h
judged_done a file tables (checked b f v u) h = absurd h
judged_done a file tables (coded b f listing) h = absurd h
judged_done a file tables (routed s b f rows) h = absurd h
judged_done a file tables (hopped b f many) h = absurd h
judged_done a file tables (wedged b v) h = absurd h
judged_done a file tables (ran b f t past last quiet) h = absurd h
judged_done a file tables (flooded b f rows journal quiet) h = absurd h
judged_done a file tables (exchanged b f hops journal quiet) h = absurd h
judged_done a file tables (shown b f last) h = absurd h

report_judged : Laws → (a : PureAlg) (file : PureNetFile) (name bytes : List ℕ) (old new : Moment) (o : PureOutcome) (r : Result (List (List PureRow)) PureRefusal)
    → IsReadAs Report name (ReportText (changed_net file)) (IsReportRefusal (changed_net file)) old r new → GoesOnWith a file o r → IsReported old name bytes
    → ¬ HasRisen old.faults new.faults → IsReportJudged bytes o (changed_net file)
report_judged laws a file name bytes old new o (Ok tables) h on t quiet =
    report_judged_good laws bytes (changed_net file) tables o (reported old new name bytes (λ b. ReportText (changed_net file) b tables) h t) (judged_done a file tables o on)
report_judged laws a file name bytes old new o (Err r) h on t quiet = ⊎_elim
    (λ u. report_judged_memory bytes o (changed_net file) (ap answer_in on ∙ ap refused (untaken Report name bytes old new r u t quiet)))
    (λ f. report_judged_bad laws bytes (changed_net file) r o (reported old new name bytes (λ b. IsReportRefusal (changed_net file) b r) f t) (ap answer_in on))
    h

-- the same where other files were read before
with_report : Laws → (a : PureAlg) (file : PureNetFile) (name bytes : List ℕ) (old between new : Moment) (o : PureOutcome) → Keeps old between → WithReport a file name between new o → IsReported old name bytes
    → ¬ HasRisen old.faults new.faults → IsReportJudged bytes o (changed_net file)
with_report laws a file name bytes old between new o k w t quiet =
    report_judged laws a file name bytes between new o w.report w.reads.as_read w.goes_on (reported_later old between name bytes k t)
    (λ r. quiet (risen_later old.faults between.faults new.faults k.faults r))

-- What was read is carried out.

checked_done : (r : Required) (a : PureAlg) (file : Option PureNetFile) (S : PureLabel → Type 0) (o : PureOutcome) → IsCheckedAs r a file S o → IsDecided o
checked_done r a file S (checked b f v None) h = inl (inl refl)
checked_done r a file S (checked b f v (Some p)) h = inr (p, refl)
checked_done r a file S (stopped b f memory) h = inl (inr refl)
checked_done r a file S (stopped b f (words n)) h = absurd h
checked_done r a file S (stopped b f (expr g)) h = absurd h
checked_done r a file S (stopped b f (network g)) h = absurd h
checked_done r a file S (stopped b f (report g)) h = absurd h
checked_done r a file S (stopped b f (misses arc x)) h = absurd h
checked_done r a file S (stopped b f (read w)) h = absurd h
checked_done r a file S (stopped b f (long w)) h = absurd h
checked_done r a file S (coded b f listing) h = absurd h
checked_done r a file S (routed s b f rows) h = absurd h
checked_done r a file S (hopped b f many) h = absurd h
checked_done r a file S (outcome.judged b f tables j) h = absurd h
checked_done r a file S (wedged b v) h = absurd h
checked_done r a file S (ran b f t past last quiet) h = absurd h
checked_done r a file S (flooded b f rows journal quiet) h = absurd h
checked_done r a file S (exchanged b f hops journal quiet) h = absurd h
checked_done r a file S (shown b f last) h = absurd h

wedged_done : (a : PureAlg) (o : PureOutcome) → IsWedgedAs a o → IsUnlessMemory o done
wedged_done a (wedged b v) h = inl refl
wedged_done a (stopped b None memory) h = inr refl
wedged_done a (stopped b None (words n)) h = absurd h
wedged_done a (stopped b None (expr g)) h = absurd h
wedged_done a (stopped b None (network g)) h = absurd h
wedged_done a (stopped b None (report g)) h = absurd h
wedged_done a (stopped b None (misses arc x)) h = absurd h
wedged_done a (stopped b None (read w)) h = absurd h
wedged_done a (stopped b None (long w)) h = absurd h
wedged_done a (stopped b (Some f) r) h = absurd h
wedged_done a (checked b f v u) h = absurd h
wedged_done a (coded b f listing) h = absurd h
wedged_done a (routed s b f rows) h = absurd h
wedged_done a (hopped b f many) h = absurd h
wedged_done a (outcome.judged b f tables j) h = absurd h
wedged_done a (ran b f t past last quiet) h = absurd h
wedged_done a (flooded b f rows journal quiet) h = absurd h
wedged_done a (exchanged b f hops journal quiet) h = absurd h
wedged_done a (shown b f last) h = absurd h

coded_done : (a : PureAlg) (file : Option PureNetFile) (labels : List PureLabel) (o : PureOutcome) → IsCodedAs a file labels o → IsUnlessMemory o done
coded_done a file labels (coded b f listing) h = inl refl
coded_done a file labels (stopped b f memory) h = inr refl
coded_done a file labels (stopped b f (words n)) h = absurd h
coded_done a file labels (stopped b f (expr g)) h = absurd h
coded_done a file labels (stopped b f (network g)) h = absurd h
coded_done a file labels (stopped b f (report g)) h = absurd h
coded_done a file labels (stopped b f (misses arc x)) h = absurd h
coded_done a file labels (stopped b f (read w)) h = absurd h
coded_done a file labels (stopped b f (long w)) h = absurd h
coded_done a file labels (checked b f v u) h = absurd h
coded_done a file labels (routed s b f rows) h = absurd h
coded_done a file labels (hopped b f many) h = absurd h
coded_done a file labels (outcome.judged b f tables j) h = absurd h
coded_done a file labels (wedged b v) h = absurd h
coded_done a file labels (ran b f t past last quiet) h = absurd h
coded_done a file labels (flooded b f rows journal quiet) h = absurd h
coded_done a file labels (exchanged b f hops journal quiet) h = absurd h
coded_done a file labels (shown b f last) h = absurd h

-- a network whose labels are fit has no arc that doesn't have what is asked
routed_done : (solution : Solution) (a : PureAlg) (file : PureNetFile) (o : PureOutcome) → IsRoutedAs solution a file o → IsFit solution (changed_net file) → IsUnlessMemory o done
routed_done solution a file (routed s b f rows) h fit = inl refl
routed_done solution a file (stopped b f (misses arc x)) h fit = absurd (first_refutes (asked_of solution) (changed_net file) arc x.property h.2.first fit)
routed_done solution a file (stopped b f memory) h fit = inr refl
routed_done solution a file (stopped b f (words n)) h fit = absurd h
routed_done solution a file (stopped b f (expr g)) h fit = absurd h
routed_done solution a file (stopped b f (network g)) h fit = absurd h
routed_done solution a file (stopped b f (report g)) h fit = absurd h
routed_done solution a file (stopped b f (read w)) h fit = absurd h
routed_done solution a file (stopped b f (long w)) h fit = absurd h
routed_done solution a file (checked b f v u) h fit = absurd h
routed_done solution a file (coded b f listing) h fit = absurd h
routed_done solution a file (hopped b f many) h fit = absurd h
routed_done solution a file (outcome.judged b f tables j) h fit = absurd h
routed_done solution a file (wedged b v) h fit = absurd h
routed_done solution a file (ran b f t past last quiet) h fit = absurd h
routed_done solution a file (flooded b f rows journal quiet) h fit = absurd h
routed_done solution a file (exchanged b f hops journal quiet) h fit = absurd h
routed_done solution a file (shown b f last) h fit = absurd h

hopped_done : (a : PureAlg) (file : PureNetFile) (o : PureOutcome) → IsHoppedAs a file o → IsFit Unbeaten (changed_net file) → IsUnlessMemory o done
hopped_done a file (hopped b f many) h fit = inl refl
hopped_done a file (stopped b f (misses arc x)) h fit = absurd (first_refutes (asked_of Unbeaten) (changed_net file) arc x.property h.2.first fit)
hopped_done a file (stopped b f memory) h fit = inr refl
hopped_done a file (stopped b f (words n)) h fit = absurd h
hopped_done a file (stopped b f (expr g)) h fit = absurd h
hopped_done a file (stopped b f (network g)) h fit = absurd h
hopped_done a file (stopped b f (report g)) h fit = absurd h
hopped_done a file (stopped b f (read w)) h fit = absurd h
hopped_done a file (stopped b f (long w)) h fit = absurd h
hopped_done a file (checked b f v u) h fit = absurd h
hopped_done a file (coded b f listing) h fit = absurd h
hopped_done a file (routed s b f rows) h fit = absurd h
hopped_done a file (outcome.judged b f tables j) h fit = absurd h
hopped_done a file (wedged b v) h fit = absurd h
hopped_done a file (ran b f t past last quiet) h fit = absurd h
hopped_done a file (flooded b f rows journal quiet) h fit = absurd h
hopped_done a file (exchanged b f hops journal quiet) h fit = absurd h
hopped_done a file (shown b f last) h fit = absurd h

run_out : (traced : Bool) (turns : ℕ) (a : PureAlg) (file : PureNetFile) (o : PureOutcome) → IsRunAs traced turns a file o → IsRunOut o
run_out traced turns a file (ran b f t past last true) h = inl (inl refl)
run_out traced turns a file (ran b f t past last false) h = inr refl
run_out traced turns a file (stopped b f memory) h = inl (inr refl)
run_out traced turns a file (stopped b f (words n)) h = absurd h
run_out traced turns a file (stopped b f (expr g)) h = absurd h
run_out traced turns a file (stopped b f (network g)) h = absurd h
run_out traced turns a file (stopped b f (report g)) h = absurd h
run_out traced turns a file (stopped b f (misses arc x)) h = absurd h
run_out traced turns a file (stopped b f (read w)) h = absurd h
run_out traced turns a file (stopped b f (long w)) h = absurd h
run_out traced turns a file (checked b f v u) h = absurd h
run_out traced turns a file (coded b f listing) h = absurd h
run_out traced turns a file (routed s b f rows) h = absurd h
run_out traced turns a file (hopped b f many) h = absurd h
run_out traced turns a file (outcome.judged b f tables j) h = absurd h
run_out traced turns a file (wedged b v) h = absurd h
run_out traced turns a file (flooded b f rows journal quiet) h = absurd h
run_out traced turns a file (exchanged b f hops journal quiet) h = absurd h
run_out traced turns a file (shown b f last) h = absurd h

-- a flood ends by its turns exactly where they are too few
flood_ends : (turns all : ℕ) (o : PureOutcome) → (quiet : Bool) → (quiet ≡ false) ↔ (turns < all) → answer_in o ≡ (if quiet then done else spent) → all ≤ turns → answer_in o ≡ done
flood_ends turns all o true exact e enough = e
flood_ends turns all o false exact e enough = absurd (omega (arith, exact.0 refl, enough))

flood_runs_out : (turns all : ℕ) (o : PureOutcome) → (quiet : Bool) → (quiet ≡ false) ↔ (turns < all) → answer_in o ≡ (if quiet then done else spent) → turns < all → answer_in o ≡ spent
flood_runs_out turns all o true exact e few = let no : true ≡ false = exact.1 few in absurd cc
flood_runs_out turns all o false exact e few = e

flooded_out : (turns : ℕ) (a : PureAlg) (file : PureNetFile) (o : PureOutcome) → IsFloodedAs turns a file o → IsFit Unbeaten (changed_net file) → IsFloodedOut (changed_net file) turns o
flooded_out turns a file o h fit = ⊎_elim carried (⊎_elim unfit without) (floods.came turns a file o h)
  where
    carried : floods.Came turns a file o → IsFloodedOut (changed_net file) turns o
    carried c = record {
      ends = λ enough. inl (flood_ends turns (cards_sent (changed_net file)) o c.quiet c.flood.spent (ap answer_in c.is) enough);
      runs_out = λ few. inl (flood_runs_out turns (cards_sent (changed_net file)) o c.quiet c.flood.spent (ap answer_in c.is) few);
    }

    unfit : IsUnfit (asked_of Unbeaten) file o → IsFloodedOut (changed_net file) turns o
    unfit u = absurd (first_refutes (asked_of Unbeaten) (changed_net file) u.arc u.against.property u.first.first fit)

    without : answer_in o ≡ refused memory → IsFloodedOut (changed_net file) turns o
    without m = record { ends = λ enough. inr m; runs_out = λ few. inr m }

exchanged_out : (turns : ℕ) (a : PureAlg) (file : PureNetFile) (o : PureOutcome) → IsExchangedAs turns a file o → IsFitForExchange (changed_net file) → IsRunOut o
exchanged_out turns a file o h fit = ⊎_elim carried (⊎_elim unfit without) (exchanges.came turns a file o h)
  where
    by : (quiet : Bool) → answer_in o ≡ (if quiet then done else spent) → IsRunOut o
    by true e = inl (inl e)
    by false e = inr e

    carried : exchanges.Came turns a file o → IsRunOut o
    carried c = by c.quiet (ap answer_in c.is)

    unfit : IsUnfit asked_of_exchange file o → IsRunOut o
    unfit u = absurd (first_refutes asked_of_exchange (changed_net file) u.arc u.against.property u.first.first fit)

    without : answer_in o ≡ refused memory → IsRunOut o
    without m = inl (inr m)

shown_out : (seed nodes : ℕ) (o : PureOutcome) → IsShownAs seed nodes o → IsDone o
shown_out seed nodes (shown a f last) h = inl refl
shown_out seed nodes (stopped None None memory) h = inr refl
shown_out seed nodes (stopped None None (words n)) h = absurd h
shown_out seed nodes (stopped None None (expr g)) h = absurd h
shown_out seed nodes (stopped None None (network g)) h = absurd h
shown_out seed nodes (stopped None None (report g)) h = absurd h
shown_out seed nodes (stopped None None (misses arc x)) h = absurd h
shown_out seed nodes (stopped None None (read w)) h = absurd h
shown_out seed nodes (stopped None None (long w)) h = absurd h
shown_out seed nodes (stopped (Some a) f r) h = absurd h
shown_out seed nodes (stopped None (Some f) r) h = absurd h
shown_out seed nodes (checked b f v u) h = absurd h
shown_out seed nodes (coded b f listing) h = absurd h
shown_out seed nodes (routed s b f rows) h = absurd h
shown_out seed nodes (hopped b f many) h = absurd h
shown_out seed nodes (outcome.judged b f tables j) h = absurd h
shown_out seed nodes (wedged b v) h = absurd h
shown_out seed nodes (ran b f t past last quiet) h = absurd h
shown_out seed nodes (flooded b f rows journal quiet) h = absurd h
shown_out seed nodes (exchanged b f hops journal quiet) h = absurd h

-- what is made of an algebra answers what was asked
alone_answered : (asked : AlgebraTask) (a : PureAlg) (o : PureOutcome) → IsMadeAlone asked a o → IsAnsweredAlone asked o
alone_answered (alone.Check r) a o h = checked_done r a None (IsLabel a.expression) o h.0
alone_answered alone.Code a o h = coded_done a None [] o h
alone_answered alone.Gadget a o h = wedged_done a o h

-- and so does want of memory
alone_unless : (asked : AlgebraTask) (o : PureOutcome) → answer_in o ≡ refused memory → IsAnsweredAlone asked o
alone_unless (alone.Check r) o e = inl (inr e)
alone_unless alone.Code o e = inr e
alone_unless alone.Gadget o e = inr e

-- what is made of a network file answers what was asked, where the network is fit
on_answered : (asked : NetworkTask) (a : PureAlg) (f : PureNetFile) (o : PureOutcome) → IsMadeOn asked a f o → IsFitFor asked (changed_net f) → IsAnsweredOn asked (changed_net f) o
on_answered (joint.Check r) a f o h fit = checked_done r a (Some f) (IsOnArc (changed_net f)) o h
on_answered joint.Code a f o h fit = coded_done a (Some f) (labels_on (changed_net f)) o h
on_answered joint.Hops a f o h fit = hopped_done a f o h fit
on_answered (joint.Route solution workers) a f o h fit = routed_done solution a f o h fit
on_answered (joint.Run workers turns traced) a f o h fit = run_out traced turns a f o h
on_answered (joint.Flood workers turns) a f o h fit = flooded_out turns a f o h fit
on_answered (joint.Distance workers turns) a f o h fit = exchanged_out turns a f o h fit

on_unless : (asked : NetworkTask) (net : PureNet) (o : PureOutcome) → answer_in o ≡ refused memory → IsAnsweredOn asked net o
on_unless (joint.Check r) net o e = inl (inr e)
on_unless joint.Code net o e = inr e
on_unless joint.Hops net o e = inr e
on_unless (joint.Route solution workers) net o e = inr e
on_unless (joint.Run workers turns traced) net o e = inl (inr e)
on_unless (joint.Flood workers turns) net o e = record { ends = λ enough. inr e; runs_out = λ few. inr e }
on_unless (joint.Distance workers turns) net o e = inl (inr e)

complete_of : Laws → (text : List (List ℕ)) (old new : Moment) (o : PureOutcome) (t : Task) → ComesOf text t old new o → IsCompleteOf text old new o t
complete_of laws text old new o (task.Demo seed nodes) h = shown_out seed nodes o h.1
complete_of laws text old new o (task.Alone file asked) h = λ bytes t quiet.
    judged laws (word_at text file) bytes (λ a old new o. (new ≡ old) × IsMadeAlone asked a o) (λ a. IsAnsweredAlone asked o) old h.between new o h.expression h.reads.as_read h.goes_on t quiet
    (λ a x. alone_answered asked a o x.1) (λ e a. alone_unless asked o e)
complete_of laws text old new o (task.Judge file net named) h = λ bytes net_bytes report_bytes t u v quiet.
    judged laws (word_at text file) bytes (λ a. WithNetwork a (word_at text net) (λ f. WithReport a f (word_at text named))) (IsNetJudged net_bytes (IsReportJudged report_bytes o) o)
    old h.between new o h.expression h.reads.as_read h.goes_on t quiet
    (λ a x. over_network laws a (word_at text net) net_bytes (λ f. WithReport a f (word_at text named)) (IsReportJudged report_bytes o) old h.between new o h.reads.keeps x u quiet
    (λ f later k y. with_report laws a f (word_at text named) report_bytes old later new o (keeps_more old h.between later h.reads.keeps k) y v quiet)
    (λ e net. report_judged_memory report_bytes o net e))
    (λ e a. net_judged_memory net_bytes (IsReportJudged report_bytes o) o a e (λ net. report_judged_memory report_bytes o net e))
complete_of laws text old new o (task.On file net asked) h = λ bytes net_bytes t u quiet.
    let Follows : PureNet → Type 0 = λ n. IsFitFor asked n → IsAnsweredOn asked n o in
    judged laws (word_at text file) bytes (λ a. WithNetwork a (word_at text net) (λ f old new o. (new ≡ old) × IsMadeOn asked a f o)) (IsNetJudged net_bytes Follows o)
    old h.between new o h.expression h.reads.as_read h.goes_on t quiet
    (λ a x. over_network laws a (word_at text net) net_bytes (λ f old new o. (new ≡ old) × IsMadeOn asked a f o) Follows old h.between new o h.reads.keeps x u quiet
    (λ f later k y fit. on_answered asked a f o y.1 fit)
    (λ e n fit. on_unless asked n o e))
    (λ e a. net_judged_memory net_bytes Follows o a e (λ n fit. on_unless asked n o e))

pub complete : Laws → (text : List (List ℕ)) (old new : Moment) (o : PureOutcome) (r : Result Command WordsFault) → ComesBy text r old new o → CompleteBy text old new o r
complete laws text old new o (Ok c) h = complete_of laws text old new o (task_of c) h
complete laws text old new o (Err f) h = tt
