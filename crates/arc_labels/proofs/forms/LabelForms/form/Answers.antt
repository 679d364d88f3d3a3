use Rattle.std.proofs.Common.{◌≡◌, Some, None, get_or, ap, sym, ◌∙◌, arith}
use Rattle.arc_labels.specs.Forms.{form_at}
use Rattle.arc_labels.proofs.Filling.{at_number, place_within, read_at}
use Rattle.arc_labels.proofs.forms.LabelForms.form.Goals as goal

pub index-requires : goal.index-requires
index-requires g c =
    let forms = c.self.inside.forms in
    let seen = ap (λ fs. form_at fs c.args.arc.0) c.self.view_is in
    let made : get_or forms.items c.of.result None ≡ Some c.requires.form = sym (at_number forms.items c.self.inside.numbers c.args.arc.0 c.of.result c.of.ensures) ∙ (seen ∙ c.requires.at) in
    let within = place_within forms.items c.of.result (record { form = c.requires.form; at = made }) in
    omega (arith, within, forms.ok.0)

pub unreachable-requires : goal.unreachable-requires
unreachable-requires g c =
    let forms = c.self.inside.forms in
    let seen = ap (λ fs. form_at fs c.args.arc.0) c.self.view_is in
    let made : get_or forms.items c.of.result None ≡ Some c.requires.form = sym (at_number forms.items c.self.inside.numbers c.args.arc.0 c.of.result c.of.ensures) ∙ (seen ∙ c.requires.at) in
    let within = place_within forms.items c.of.result (record { form = c.requires.form; at = made }) in
    let read = read_at forms.items c.of.result c.index.result.now within c.index.ensures in
    let none = c.in_default.is in
    let some : None ≡ Some c.requires.form = sym none ∙ (sym read ∙ made) in
    cc

pub returns : goal.returns
returns g c =
    let forms = c.self.inside.forms in
    let seen = ap (λ fs. form_at fs c.args.arc.0) c.self.view_is in
    let number = at_number forms.items c.self.inside.numbers c.args.arc.0 c.of.result c.of.ensures in
    let made : get_or forms.items c.of.result None ≡ Some c.requires.form = sym number ∙ (seen ∙ c.requires.at) in
    let within = place_within forms.items c.of.result (record { form = c.requires.form; at = made }) in
    let read = read_at forms.items c.of.result c.index.result.now within c.index.ensures in
    sym seen ∙ (number ∙ (read ∙ c.in-Some.is))
