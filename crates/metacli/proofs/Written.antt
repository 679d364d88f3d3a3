-- Texts that are written a line at a time.
use Rattle.std.proofs.Common.{◌≡◌, ◌≢◌, ◌<◌, ℕ, ◌+◌, ◌-◌, ◌++◌, List, length, take, drop, arith, refl, sym, ap, ◌∙◌, append_assoc, inl, inr, ⊎_elim, [], Result, Ok, Err, append-nil, length-append, ◌∷◌, map, get_or, zero, suc, subst}
use Rattle.std.proofs.Math.Seq.{take-append-add}
use Rattle.std.proofs.lemmas.List.{take_all, take-append-le, at_drop_more}
use Rattle.std.specs.List.{AllByRecursion, range_with_len}
use Rattle.alg_classes.specs.Instances.{pure_property}
use Rattle.alg_classes.specs.declared.property.Property.{Property}
use Rattle.alg_classes.specs.declared.property.Property.TheVariants.{Monotone}
use Rattle.alg_model.specs.Expressions.{Expression}
use Rattle.alg_model.specs.Verdicts.{PureVerdicts, verdict_on}
use Rattle.net_graph.specs.Nets.{PureNet}
use Rattle.net_graph.specs.Views.{pure_row}
use Rattle.net_graph.specs.RowTexts.{IsRowOf, row_text}
use Rattle.net_graph.specs.declared.route.RouteRow.{RouteRow}
use Rattle.meta_base.specs.Sink.{Held, Appended, AppendedPart}
use Rattle.meta_base.specs.declared.ids.Delivery.{Delivery}
use Rattle.net_graph.specs.Tables.{PureRow}
use Rattle.trace_lines.specs.DeliveryLines.{delivery_text}
use Rattle.report_text.specs.SummaryTexts.{reach_text, reaches_text}
use Rattle.report_text.specs.Refusals.{words, expr, network, report, misses, read, long, memory}
use Rattle.report_text.specs.VerdictTexts.{verdict_text, lines_on}
use Rattle.metacli.specs.Answers.{PureAnswer, done, refused, spent, unmet, write_fault}
use Rattle.metacli.specs.Texts.{HasLines, PutsText, Written, cut_answer, journal_text, rows_text}
use Rattle.metacli.specs.declared.putting.Cut.{Cut}
use Rattle.metacli.specs.declared.putting.Cut.TheVariants as cut

-- a text that was written whole is what was decided
pub all_written : (old new : Held) (text : List ℕ) (d : PureAnswer) → d ≢ write_fault → Appended old text new → Written old text new d d
all_written old new text done h a = (refl, a)
all_written old new text spent h a = (refl, a)
all_written old new text (unmet p) h a = (refl, a)
all_written old new text (refused memory) h a = (λ _. a, (length text, rw (take_all (length text) text (omega arith)) a))
all_written old new text (refused (words n)) h a = (refl, a)
all_written old new text (refused (expr f)) h a = (refl, a)
all_written old new text (refused (network f)) h a = (refl, a)
all_written old new text (refused (report f)) h a = (refl, a)
all_written old new text (refused (misses arc x)) h a = (refl, a)
all_written old new text (refused (read w)) h a = (refl, a)
all_written old new text (refused (long w)) h a = (refl, a)
all_written old new text write_fault h a = absurd (h refl)

pub lines_begin : (held : Held) (text : List ℕ) → HasLines held text text held
lines_begin held text = record {
  front = [];
  split = refl;
  appended = record { faults = omega arith; reports = refl; bytes = λ reported. sym (append-nil held.bytes) };
}

pub lines_more : (old now new : Held) (text line rest : List ℕ) → HasLines old text (line ++ rest) now → Appended now line new → HasLines old text rest new
lines_more old now new text line rest h a = record {
  front = h.front ++ line;
  split = h.split ∙ sym (append_assoc h.front line rest);
  appended = record {
    faults = omega (arith, h.appended.faults, a.faults);
    reports = a.reports ∙ h.appended.reports;
    bytes = λ reported. a.bytes (rw h.appended.reports reported) ∙ ap (λ x. x ++ line) (h.appended.bytes reported) ∙ append_assoc old.bytes h.front line;
  };
}

pub lines_cut : (old now new : Held) (text line rest : List ℕ) → HasLines old text (line ++ rest) now → AppendedPart now line new → AppendedPart old text new
lines_cut old now new text line rest h a = record {
  risen = ⊎_elim (λ e. inl (omega (arith, e, h.appended.faults))) inr a.risen;
  faults = omega (arith, h.appended.faults, a.faults);
  reports = a.reports ∙ h.appended.reports;
  bytes = λ reported.
      let q = a.bytes (rw h.appended.reports reported) in (
        length h.front + q.0,
        omega (arith, ap length h.split, length-append h.front (line ++ rest), length-append line rest, q.1),
        q.2 ∙ ap (λ x. x ++ take q.0 line) (h.appended.bytes reported) ∙ append_assoc old.bytes h.front (take q.0 line)
            ∙ ap (λ x. old.bytes ++ x) (sym (ap (take (length h.front + q.0)) h.split ∙ take-append-add h.front (line ++ rest) q.0
            ∙ ap (λ x. h.front ++ x) (take-append-le q.0 line rest (omega (arith, q.1))))),
      );
}

-- where memory is refused between two lines, a front of the text was written
pub lines_front : (old now : Held) (text rest : List ℕ) → HasLines old text rest now → (n : ℕ) × Appended old (take n text) now
lines_front old now text rest h =
    (length h.front, rw (h.split, take-append-le (length h.front) h.front rest (omega arith), take_all (length h.front) h.front (omega arith)) h.appended)

pub lines_end : (old now : Held) (text : List ℕ) → HasLines old text [] now → Appended old text now
lines_end old now text h = rw (h.split ∙ append-nil h.front) h.appended

-- ---- texts that are put a line at a time

-- a text that is cut short within a line is cut short
pub cut_within : (old now new : Held) (text line rest : List ℕ) (c : Cut) → HasLines old text (line ++ rest) now → PutsText now line (Err c) new → PutsText old text (Err c) new
cut_within old now new text line rest cut.Sink h p = lines_cut old now new text line rest h p
cut_within old now new text line rest cut.Memory h p =
    let split : line ++ rest ≡ p.1.front ++ (p.0 ++ rest) = ap (λ l. l ++ rest) p.1.split ∙ append_assoc p.1.front p.0 rest in
    (p.0 ++ rest, lines_more old now new text p.1.front (p.0 ++ rest) (subst (λ l. HasLines old text l now) split h) p.1.appended)

-- and one that is put whole after others ends the text
pub put_last : (old now new : Held) (text line : List ℕ) (r : Result (Unit {0}) Cut) → HasLines old text line now → PutsText now line r new → PutsText old text r new
put_last old now new text line (Ok x) h p = lines_end old new text (lines_more old now new text line [] (subst (λ l. HasLines old text l now) (sym (append-nil line)) h) p)
put_last old now new text line (Err c) h p = cut_within old now new text line [] c (subst (λ l. HasLines old text l now) (sym (append-nil line)) h) p

-- ---- lines that are written in one room

-- a line that was written in an empty room, and put
pub lines_by_room : (old now new : Held) (text room line rest new_room : List ℕ) → room ≡ [] → new_room ≡ room ++ line → HasLines old text (line ++ rest) now
    → Appended now new_room new → HasLines old text rest new
lines_by_room old now new text room line rest new_room empty e h a =
    lines_more old now new text line rest h (subst (λ l. Appended now l new) (e ∙ ap (λ r. r ++ line) empty) a)

-- and cut short within
pub cut_in_room : (old now new : Held) (text room line rest new_room : List ℕ) (c : Cut) → room ≡ [] → new_room ≡ room ++ line → HasLines old text (line ++ rest) now
    → PutsText now new_room (Err c) new → PutsText old text (Err c) new
cut_in_room old now new text room line rest new_room c empty e h p =
    cut_within old now new text line rest c h (subst (λ l. PutsText now l (Err c) new) (e ∙ ap (λ r. r ++ line) empty) p)

-- the answer to a text that was cut short
pub cut_answered : (old new : Held) (text : List ℕ) (d : PureAnswer) (c : Cut) → d ≢ refused memory → PutsText old text (Err c) new → Written old text new d (cut_answer c)
cut_answered old new text d cut.Sink h p = p
cut_answered old new text d cut.Memory h p = ((λ e. absurd (h e)), lines_front old new text p.0 p.1)

-- the lines from one row on
pub lines_at : (net : PureNet) (rows : List RouteRow) (i : ℕ) (row : RouteRow) → i < length rows → row ≡ get_or rows i row
    → rows_text net (map pure_row (drop i rows)) ≡ row_text net (pure_row row) ++ rows_text net (map pure_row (drop (i + 1) rows))
lines_at net rows i row h e =
    at_drop_more (λ (ys : List RouteRow). rows_text net (map pure_row ys)) rows i row h
    ∙ ap (λ (x : RouteRow). row_text net (pure_row x) ++ rows_text net (map pure_row (drop (i + 1) rows))) (sym e)

-- what holds of all rows holds of one
pub row_at : (net : PureNet) (rows : List RouteRow) (i : ℕ) (row : RouteRow) → i < length rows → row ≡ get_or rows i row
    → AllByRecursion (IsRowOf net) (map pure_row rows) → IsRowOf net (pure_row row)
row_at net [] i row h e all = absurd (omega arith)
row_at net (x ∷ xs) zero row h e all = let same : x ≡ row = sym e in subst (λ (y : RouteRow). IsRowOf net (pure_row y)) same all.0
row_at net (x ∷ xs) (suc i) row h e all = row_at net xs i row (omega arith) e all.1

-- the lines from one verdict on
pub verdicts_at : (a : Expression) (v : PureVerdicts) (properties : List Property) (i : ℕ) → i < length properties
    → lines_on a v (map pure_property (drop i properties))
    ≡ verdict_text a (pure_property (get_or properties i Monotone)) (verdict_on v (pure_property (get_or properties i Monotone)))
    ++ lines_on a v (map pure_property (drop (i + 1) properties))
verdicts_at a v properties i h = at_drop_more (λ (ps : List Property). lines_on a v (map pure_property ps)) properties i Monotone h

-- the lines from one delivery on
pub deliveries_at : (net : PureNet) (journal : List Delivery) (i : ℕ) (d : Delivery) → i < length journal
    → journal_text net (drop i journal) ≡ delivery_text net (get_or journal i d) ++ journal_text net (drop (i + 1) journal)
deliveries_at net journal i d h = at_drop_more (journal_text net) journal i d h

-- the lines from one destination on
pub reaches_at : (net : PureNet) (rows : List PureRow) (dest dests : ℕ) → dest < dests
    → reaches_text net rows (range_with_len dest (dests - dest)) ≡ reach_text net rows dest ++ reaches_text net rows (range_with_len (dest + 1) (dests - (dest + 1)))
reaches_at net rows dest dests l =
    let e : dests - dest ≡ suc (dests - (dest + 1)) = omega arith in
    rw e refl

-- what holds of all deliveries holds of one
pub delivery_at : (P : Delivery → Type 0) (journal : List Delivery) (i : ℕ) (d : Delivery) → i < length journal → AllByRecursion P journal → P (get_or journal i d)
delivery_at P [] i d h all = absurd (omega arith)
delivery_at P (x ∷ xs) zero d h all = all.0
delivery_at P (x ∷ xs) (suc i) d h all = delivery_at P xs i d (omega arith) all.1
