use Rattle.std.proofs.Common.{◌≡◌, ◌∙◌, None, rules}
use Rattle.raml_lex.proofs.Sources.{IsCursor-line, Ended-at, Found-at}
use Rattle.raml_lex.proofs.tokens.Tokens.next.Goals as goal

pub invariant_of-self-in-Found : goal.invariant_of-self-in-Found
invariant_of-self-in-Found c =
    let fits = rw c.split_at.ensures.back at c.in-Found.ensures.fits in
    rw c.after-self-inside.ensures (IsCursor-line c.self.inside.source.now c.gap_end-start.result c.in-Found.len c.gap_end-start.ensures.cursor fits.within fits.one_line)

pub returns-in-End-clause-end : goal.returns-in-End-clause-end
returns-in-End-clause-end c =
    let source = c.self.inside.source.now in
    let none : c.self.inside.fault ≡ None = search rules in
    rw (← c.self.view_is) (Ended-at source c.self.inside.here.at c.gap_end-start.result.at c.self.inside.greatest c.self.inside.fault none c.gap_end-start.ensures.gap c.gap_end-start.ensures.after (rw c.split_at.ensures.back at c.in-End.ensures.fits))

pub returns-in-Found-clause-token : goal.returns-in-Found-clause-token
returns-in-Found-clause-token c =
    let source = c.self.inside.source.now in
    let start = c.gap_end-start in
    let none : c.self.inside.fault ≡ None = search rules in
    let text = c.split_at.ensures.back in
    rw (← c.self.view_is, c.after-self-inside.ensures) (Found-at source c.self.inside.here.at start.result.at c.in-Found.len c.self.inside.greatest c.self.inside.fault _ none start.ensures.gap start.ensures.after
    (rw text at c.in-Found.ensures.fits) (rw text at c.split_at-in-Found.ensures.front) (c.place-in-Found.ensures ∙ start.ensures.cursor.here.place) (rw text at c.in-Found.ensures.step))
