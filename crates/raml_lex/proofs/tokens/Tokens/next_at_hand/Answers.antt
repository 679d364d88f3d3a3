use Rattle.std.proofs.Common.{◌≡◌, ◌∙◌, None, true, drop, rules}
use Rattle.raml_lex.specs.KnownFronts.{stands}
use Rattle.raml_lex.proofs.Gaps.{gap_over}
use Rattle.raml_lex.proofs.KnownFronts.{no_gap}
use Rattle.raml_lex.proofs.Sources.{IsCursor-line, Found-at}
use Rattle.raml_lex.proofs.tokens.Tokens.next_at_hand.Goals as goal

pub invariant_of-self : goal.invariant_of-self
invariant_of-self c =
    let front = rw c.split_at.ensures.back at c.len_at_front-len.ensures in
    rw c.after-self-inside.ensures (IsCursor-line c.self.inside.source.now c.after_space-start.result c.len_at_front-len.result c.after_space-start.ensures.cursor front.within.within front.within.one_line)

pub returns-clause-token : goal.returns-clause-token
returns-clause-token c =
    let source = c.self.inside.source.now in
    let start = c.after_space-start in
    let text = c.split_at.ensures.back in
    let none : c.self.inside.fault ≡ None = search rules in
    let stood : stands c.args.kind c.split_at.result.1.now ≡ true = search rules in
    let gap = no_gap c.args.kind (drop start.result.at source) (rw text at stood) in
    let over = gap_over source c.self.inside.here.at start.result.at (record { gap = start.ensures.gap; left = start.ensures.after }) gap.gap gap.left in
    let front = rw text at c.len_at_front-len.ensures in
    rw (← c.self.view_is, c.after-self-inside.ensures) (Found-at source c.self.inside.here.at start.result.at c.len_at_front-len.result c.self.inside.greatest c.self.inside.fault _ none over.0 over.1
    front.within (rw text at c.split_at-2.ensures.front) (c.place.ensures ∙ start.ensures.cursor.here.place) (front.step c.self.inside.greatest))
