-- All values of a carrier with a width have so many words.
use Rattle.std.proofs.Common.{◌≡◌, ℕ, ◌+◌, ◌≤◌, length, Option, Some, None, refl, ◌∙◌, arith}
use Rattle.std.specs.Prelude.{Bool, true, false, nat_le}
use Rattle.std.proofs.lemmas.Bool.Decides.{nat_tests}
use Rattle.std.proofs.lemmas.List.{length-append}
use Rattle.alg_model.specs.Expressions.{PureCarrier, whole, up_to, down_from, seqs, simseqs, sets, one, named, pairs, sides}
use Rattle.alg_model.specs.Expressions.{PureValue, number, marks, unit, name, pair}
use Rattle.alg_model.specs.Carriers.{In}
use Rattle.label_code.specs.declared.words.TheConstants.{HERE}
use Rattle.code_gen.specs.Encoding.{Enc}
use Rattle.label_code.specs.Rows.{has_width}
use Rattle.code_gen.specs.Widths.{few, width_of, HoldValues}

-- the value has so many words, which are few
record IsOf (v : PureValue) (width : ℕ) : Type 0 where
  words : length (Enc v) ≡ width
  small : width ≤ HERE

-- both widths, and their sum
record AreFew (o p : Option ℕ) (width : ℕ) : Type 0 where
  first_width : ℕ
  second_width : ℕ
  first_is : o ≡ Some first_width
  second_is : p ≡ Some second_width
  sum : first_width + second_width ≡ width
  small : width ≤ HERE

are_few : (o p : Option ℕ) (width : ℕ) → few o p ≡ Some width → AreFew o p width
are_few (Some m) (Some n) width e = by (nat_le (m + n) HERE) refl
  where
    by : (b : Bool) → nat_le (m + n) HERE ≡ b → AreFew (Some m) (Some n) width
    by true t = record { first_width = m; second_width = n; first_is = refl; second_is = refl; sum = cc; small = grind (arith, nat_tests) }
    by false f = absurd (cc)
are_few (Some m) None width e = absurd (cc)
are_few None p width e = absurd (cc)

reported : (v : PureValue) (width : ℕ) → length (Enc v) ≤ HERE → Some (length (Enc v)) ≡ Some width → IsOf v width
reported v width i e = let same : length (Enc v) ≡ width = cc in record { words = same; small = rw (← same) i }

is_of : (c : PureCarrier) (width : ℕ) → width_of c ≡ Some width → (v : PureValue) → In c v → IsOf v width
is_of whole width e (number n) i = reported (number n) width (omega arith) e
is_of (up_to top) width e (number n) i = reported (number n) width (omega arith) e
is_of (down_from top) width e (number n) i = reported (number n) width (omega arith) e
is_of (seqs k) width e v i = absurd (cc)
is_of (simseqs k) width e v i = absurd (cc)
is_of (sets k) width e (marks m) i = reported (marks m) width (omega arith) e
is_of one width e unit i = reported unit width (omega arith) e
is_of (named names ranks) width e (name k) i = reported (name k) width (omega arith) e
is_of (pairs c d) width e (pair u v) i =
    let both = are_few (width_of c) (width_of d) width e in
    let first_part = (is_of c both.first_width both.first_is u i.0).words in
    let second_part = (is_of d both.second_width both.second_is v i.1).words in
    record { words = length-append (Enc u) (Enc v) ∙ rw (first_part, second_part) both.sum; small = both.small }
is_of (sides c d) width e v i = absurd (cc)
is_of _ width e v i = absurd i

pub have_width : (c : PureCarrier) (width : ℕ) → width_of c ≡ Some width → HoldValues (has_width width) c
have_width c width e v i = let is = is_of c width e v i in let words = is.words in let small = is.small in grind (arith, nat_tests)
