use Rattle.std.proofs.Common.{◌≤◌, ◌-◌, length, arith}
use Rattle.std.proofs.lemmas.Bool.Decides.{nat_tests}
use Rattle.topology_file.specs.Numbers.{max_line_bytes}
use Rattle.topology_file.proofs.QuickForms.{says_arc, arc_first}
use Rattle.topology_file.proofs.quick_forms.arc_line.Goals as goal

pub returns : goal.returns
returns c =
    let text = c.args.text.now in
    let listener = c.split_name.new.name in
    let speaker = c.split_name-2.new.name in
    let label = c.split_said-rest.new.said in
    let rest = c.split_said-rest.result.now in
    let tail = c.after_end-rest.result.now in
    let says = says_arc text c.in_ok-ways.ways listener speaker c.in_ok-after_colon.field-0.now label c.in_ok-ways.rest.now c.in_ok-rest.rest.now c.in_ok-rest-2.rest.now rest
    c.in_ok-ways.ensures c.in_ok-rest.ensures c.in_ok-rest-2.ensures c.in_ok-after_colon.ensures c.split_said-rest.ensures.front c.split_said-rest.ensures.after_front in
    let fits : length text - length tail ≤ max_line_bytes = grind (arith, nat_tests, c.saturating_sub.ensures, c.if-saturating_sub-gt-MAX_LINE_BYTES.false) in
    arc_first text c.in_ok-ways.ways listener speaker label rest tail c.in_ok-others.others.now says c.after_end-rest.ensures c.in_ok-others.ensures fits
