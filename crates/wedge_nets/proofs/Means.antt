-- What the text of a verdict means as a network file.
use Rattle.std.proofs.Common.{◌≡◌, ℕ, ◌+◌, ◌<◌, ◌≤◌, true, false, leb, List, [], ◌∷◌, ◌++◌, length, Option, Some, None, refl, sym, ap, ◌∙◌, subst, arith}
use Rattle.std.specs.Prelude.{codes}
use Rattle.std.specs.List.{list_all, AllByRecursion}
use Rattle.std.proofs.lemmas.Bool.Decides.{nat_tests}
use Rattle.alg_model.specs.declared.edition.Edition.{Edition}
use Rattle.alg_model.specs.declared.edition.Edition.TheVariants.{One, Two}
use Rattle.alg_model.specs.Application.{App}
use Rattle.alg_model.specs.Bounds.{greatest_number}
use Rattle.alg_model.specs.Carriers.{carrier_of}
use Rattle.alg_model.specs.CarrierLaws.{carriers_are}
use Rattle.alg_model.specs.Expressions.{Expression, PureCarrier, PureAlg, PureLabel, PureValue}
use Rattle.alg_model.specs.Formation.{IsAlg}
use Rattle.alg_model.specs.Laws.{images_in, images_at_most}
use Rattle.alg_model.specs.Texts.{value_text, label_text}
use Rattle.alg_model.specs.Verdicts.{PureInstance, holds, fails}
use Rattle.report_text.specs.VerdictTexts.{image_text, second_text, second_image_text, instance_text}
use Rattle.sig_text.specs.Literals.{IsSpelling}
use Rattle.sig_text.specs.Spelled.{spelled}
use Rattle.topology_file.specs.Numbers.{max_line_bytes}
use Rattle.topology_file.specs.LineLaws.{IsLine, is_plain, plain_is, both_true, all_pass, first_line, lines_again, comment_after}
use Rattle.topology_file.specs.LineTexts.{ended, text_of}
use Rattle.topology_file.specs.NetText.{empty_file, Lead, NetText}
use Rattle.topology_file.specs.Texts.{is_not, lines_of}
use Rattle.wedge_nets.specs.Gadgets.{wedge_file, IsGadget}
use Rattle.wedge_nets.specs.GadgetTexts.{wedge_lines, no_line, gadget_lines, are_short, no_file_line, gadget_text}
use Rattle.wedge_nets.proofs.Printed.{Plain, printable, joined, label_plain, value_plain}
use Rattle.wedge_nets.proofs.Wedges.{AreSpelled, wedge_leads}

-- The lines of a wedge are lines.

short_is : (line : List ℕ) → leb (length line) max_line_bytes ≡ true → length line ≤ max_line_bytes
short_is line h = grind (arith, nat_tests)

are_lines : (lines : List (List ℕ)) → AllByRecursion Plain lines → are_short lines ≡ true → AllByRecursion IsLine lines
are_lines [] p h = tt
are_lines (line ∷ lines) p h =
    let t = both_true (leb (length line) max_line_bytes) (are_short lines) h in
    (record { plain = p.0; short = short_is line t.0 }, are_lines lines p.1 t.1)

wedge_plain : (a : Expression) (l : PureLabel) (v : PureValue) → Plain (label_text a l) → Plain (value_text (carrier_of a) v) → AllByRecursion Plain (wedge_lines a l v)
unfolding is_plain
wedge_plain a l v label value = (refl, (label, (value, (value, (label, (refl, (label, tt)))))))

-- And so is the verdict's, up to its #.

image_plain : (c : PureCarrier) (image : Option PureValue) (w : PureValue) → image ≡ Some w → Plain (value_text c w) → Plain (image_text c image)
image_plain c image w e h = rw e h

second_plain : (c : PureCarrier) (second : Option PureValue) → second ≡ None → Plain (second_text c second)
second_plain c second e = rw e refl

second_image_plain : (a : Expression) (l : PureLabel) (second : Option PureValue) → second ≡ None → Plain (second_image_text a l second)
second_image_plain a l second e = rw e refl

instance_plain : (a : Expression) (x : PureInstance) (w : PureValue) → x.second ≡ None → App a x.label x.first ≡ Some w → Plain (label_text a x.label) → Plain (value_text (carrier_of a) x.first)
    → Plain (value_text (carrier_of a) w) → Plain (instance_text a x)
unfolding is_plain
instance_plain a x w alone e label value image =
    let c = carrier_of a in
    let front = label_text a x.label ++ codes " on " ++ value_text c x.first in
    let middle = front ++ second_text c x.second in
    let first = joined (label_text a x.label ++ codes " on ") (value_text c x.first) (joined (label_text a x.label) (codes " on ") label refl) value in
    let second = joined front (second_text c x.second) first (second_plain c x.second alone) in
    let third = joined middle (codes " gives ") second refl in
    let fourth = joined (middle ++ codes " gives ") (image_text c (App a x.label x.first)) third (image_plain c (App a x.label x.first) w e image) in
    joined (middle ++ codes " gives " ++ image_text c (App a x.label x.first)) (second_image_text a x.label x.second) fourth (second_image_plain a x.label x.second alone)

-- The text.

text_room : (e : Edition) → greatest_number e + greatest_number e < printable
text_room One = omega arith
text_room Two = omega arith

plain_feed : (c : ℕ) → is_plain c ≡ true → is_not 10 c ≡ true
plain_feed c h = (plain_is c h).0

no_feed : (text : List ℕ) → Plain text → list_all (is_not 10) (codes "# monotone no: " ++ text) ≡ true
no_feed text h = all_pass is_plain (is_not 10) text plain_feed h

lines_mean : IsSpelling spelled → (alg : PureAlg) (x : PureInstance) → IsAlg alg → IsGadget alg x → AreSpelled alg x.label x.first → are_short (gadget_lines alg.expression x) ≡ true
    → NetText (text_of (gadget_lines alg.expression x)) alg (wedge_file alg x.label x.first)
lines_mean is alg x a g words short =
    let e = alg.expression in
    let n = greatest_number alg.edition in
    let room = text_room alg.edition in
    let f = g.wedge.fits in
    let w = g.wedge.image in
    let i = g.wedge.improves in
    let carrier = carriers_are e a.formed in
    let label = label_plain n e x.label (omega arith) a.formed f.label_in f.label_bound in
    let value = value_plain n (carrier_of e) x.first (omega arith) carrier f.value_in f.value_bound in
    let image_in = images_in e x.label x.first w a.formed f.label_in f.value_in i.image in
    let image = value_plain (n + n) (carrier_of e) w room carrier image_in (images_at_most e x.label x.first w n n f.label_in f.label_bound f.value_bound i.image) in
    let instance = instance_plain e x w g.alone i.image label value image in
    let t = both_true (leb (length (no_line e x)) max_line_bytes) (are_short (wedge_lines e x.label x.first)) short in
    let lines = are_lines (wedge_lines e x.label x.first) (wedge_plain e x.label x.first label value) t.1 in
    let cut : lines_of (text_of (gadget_lines e x)) ≡ gadget_lines e x =
    first_line (no_line e x) (text_of (wedge_lines e x.label x.first)) (no_feed (instance_text e x) instance)
    ∙ ap (λ ls. no_line e x ∷ ls) (lines_again (wedge_lines e x.label x.first) lines) in
    let start = empty_file alg in
    let leads : Lead spelled start (gadget_lines e x) (wedge_file alg x.label x.first) =
    (start, comment_after spelled start (codes " monotone no: " ++ instance_text e x) (short_is (no_line e x) t.0), wedge_leads alg x.label x.first words lines) in
    (spelled, is, subst (λ ls. Lead spelled start ls (wedge_file alg x.label x.first)) (sym cut) leads)

pub short_gadget_means : IsSpelling spelled → (alg : PureAlg) (x : PureInstance) → IsAlg alg → IsGadget alg x → AreSpelled alg x.label x.first → are_short (gadget_lines alg.expression x) ≡ true
    → NetText (gadget_text alg (fails x)) alg (wedge_file alg x.label x.first)
short_gadget_means is alg x a g words short =
    let text : gadget_text alg (fails x) ≡ text_of (gadget_lines alg.expression x) = rw short refl in
    subst (λ t. NetText t alg (wedge_file alg x.label x.first)) (sym text) (lines_mean is alg x a g words short)

pub long_gadget_means : IsSpelling spelled → (alg : PureAlg) (x : PureInstance) → are_short (gadget_lines alg.expression x) ≡ false → NetText (gadget_text alg (fails x)) alg (empty_file alg)
long_gadget_means is alg x long =
    let text : gadget_text alg (fails x) ≡ ended no_file_line = rw long refl in
    subst (λ t. NetText t alg (empty_file alg)) (sym text) (spelled, is, (empty_file alg, refl, refl))

pub yes_means : IsSpelling spelled → (alg : PureAlg) → NetText (gadget_text alg holds) alg (empty_file alg)
yes_means is alg = (spelled, is, (empty_file alg, refl, refl))
