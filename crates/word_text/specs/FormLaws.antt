-- What is said of a form is a proposition. Lemmas, so that other crates may cite them.
use Rattle.std.proofs.Common.{ℕ, List, [], ◌∷◌}
use Rattle.std.proofs.Props.{props}
use Rattle.std.specs.Coded.{le_prop}
use Rattle.alg_model.specs.Expressions.{PureCarrier, whole, up_to, down_from, seqs, simseqs, sets, one, named, pairs, sides}
use Rattle.alg_model.specs.Formation.{IsCarrier}
use Rattle.code_gen.specs.Encoding.{Dec}
use Rattle.word_text.specs.Parts.{PurePart, rest_in, AreThere}
use Rattle.word_text.specs.Forms.{form_parts, Prints}
use Rattle.word_text.specs.declared.form.ValueForm.{ValueForm}

carrier_prop : (c : PureCarrier) → IsProp (IsCarrier c)
carrier_prop whole = hlevel
carrier_prop (up_to top) = hlevel
carrier_prop (down_from top) = hlevel
carrier_prop (seqs n) = first_of (hlevel le_prop, hlevel props)
carrier_prop (simseqs n) = first_of (hlevel le_prop, hlevel props)
carrier_prop (sets n) = first_of (hlevel le_prop, hlevel props)
carrier_prop one = hlevel
carrier_prop (named names ranks) = first_of (hlevel le_prop, hlevel props)
carrier_prop (pairs c d) = let p = carrier_prop c in let q = carrier_prop d in hlevel (p, q)
carrier_prop (sides c d) = let p = carrier_prop c in let q = carrier_prop d in hlevel (p, q)

pub there_prop : (parts : List PurePart) (row : List ℕ) → IsProp (AreThere parts row)
there_prop [] row = hlevel
there_prop (p ∷ parts) row =
    let is = carrier_prop p.carrier in
    let more = there_prop parts (rest_in (Dec p.carrier row)) in
    hlevel (is, more)

pub prints_prop : (c : PureCarrier) (form : ValueForm) → IsProp (Prints c form)
prints_prop c form = let there = there_prop (form_parts form) in hlevel (there, props)
