-- A fact that no place of a row refutes holds.
use Rattle.std.proofs.Common.{◌≡◌, refl, subst, ℕ, ◌+◌, ◌<◌, length, Bool, false, Option, Some, None, option_map}
use borrow.Author.Count.{below_more}
use Rattle.alg_model.specs.Expressions.{PureValue, name}
use Rattle.alg_model.specs.Carriers.{In}
use Rattle.alg_model.specs.PreferenceLaws.{each_name}
use Rattle.alg_classes.specs.Facts.{Holds, PureExample, at, between, FailsAt, Refutes}
use Rattle.alg_classes.specs.FactLaws.{Keeps, holds_unless}
use Rattle.alg_classes.specs.Classes.{IsTruthOf}
use Rattle.table_classes.specs.declared.fact.ValueFact.{ValueFact}
use Rattle.table_classes.specs.declared.fact.ValueFact.TheVariants.{Total, Dead, Monotone, Strict}
use Rattle.table_classes.specs.declared.fact.PairFact.{PairFact}
use Rattle.table_classes.specs.declared.fact.PairFact.TheVariants.{Isotone, Cancellative, Condensed, Narrow}
use Rattle.table_classes.specs.Rows.{PureRow, IsRow, image_at, row_carrier, row_action, value_fact, pair_fact}
use Rattle.table_classes.specs.Found.{FailsAtPlace, FailsBetween}

image_in : (row : PureRow) (o : Option ℕ) → ((place : ℕ) → o ≡ Some place → place < length row.names)
    → (w : PureValue) → option_map name o ≡ Some w → In (row_carrier row) w
image_in row None within w e = absurd (cc)
image_in row (Some place) within w e = let f : name place ≡ w = cc in subst (λ v. In (row_carrier row) v) f (within place refl)

-- images of the table's values are values of it
kept : (row : PureRow) → IsRow row → Keeps (row_carrier row) (row_action row)
kept row is v w i e = each_name row.names row.ranks (λ v. row_action row v ≡ Some w → In (row_carrier row) w)
    (λ k e. image_in row (image_at row.images k) (is.within k) w e) v i e

unrefuted_at : (row : PureRow) (k : ValueFact) → ((u : ℕ) → u < length row.names → ¬ FailsAtPlace row (value_fact k) u)
    → (e : PureExample) → ¬ Refutes (row_carrier row) (row_action row) (value_fact k) e
unrefuted_at row k none (at v) r =
    each_name row.names row.ranks (λ v. In (row_carrier row) v → ¬ FailsAt (row_carrier row) (row_action row) (value_fact k) (at v))
    none v r.0 r.0 r.1
unrefuted_at row Total none (between u v) r = absurd r.1
unrefuted_at row Dead none (between u v) r = absurd r.1
unrefuted_at row Monotone none (between u v) r = absurd r.1
unrefuted_at row Strict none (between u v) r = absurd r.1

unrefuted_between : (row : PureRow) (k : PairFact)
    → ((u : ℕ) → u < length row.names → (v : ℕ) → v < length row.names → ¬ FailsBetween row (pair_fact k) u v)
    → (e : PureExample) → ¬ Refutes (row_carrier row) (row_action row) (pair_fact k) e
unrefuted_between row k none (between u v) r =
    each_name row.names row.ranks (λ u. In (row_carrier row) u → ¬ FailsAt (row_carrier row) (row_action row) (pair_fact k) (between u v))
    (λ m i. each_name row.names row.ranks (λ v. In (row_carrier row) v → ¬ FailsAt (row_carrier row) (row_action row) (pair_fact k) (between (name m) v))
    (λ n j. none m i n j) v r.0.1 r.0.1) u r.0.0 r.0.0 r.1
unrefuted_between row Isotone none (at v) r = absurd r.1
unrefuted_between row Cancellative none (at v) r = absurd r.1
unrefuted_between row Condensed none (at v) r = absurd r.1
unrefuted_between row Narrow none (at v) r = absurd r.1

pub holds_of_values : (row : PureRow) (k : ValueFact) → IsRow row
    → ((u : ℕ) → u < length row.names → ¬ FailsAtPlace row (value_fact k) u)
    → Holds (row_carrier row) (row_action row) (value_fact k)
holds_of_values row k is none =
    holds_unless (row_carrier row) (row_action row) (kept row is) (value_fact k) (unrefuted_at row k none)

pub holds_of_pairs : (row : PureRow) (k : PairFact) → IsRow row
    → ((u : ℕ) → u < length row.names → (v : ℕ) → v < length row.names → ¬ FailsBetween row (pair_fact k) u v)
    → Holds (row_carrier row) (row_action row) (pair_fact k)
holds_of_pairs row k is none =
    holds_unless (row_carrier row) (row_action row) (kept row is) (pair_fact k) (unrefuted_between row k none)

-- one more value was tried, and passed
pub passed : (P : ℕ → Type 0) (i : ℕ) (b : Bool) → ((k : ℕ) → k < i → ¬ P k) → IsTruthOf b (P i) → b ≡ false → (k : ℕ) → k < i + 1 → ¬ P k
passed P i b before t e = below_more (λ k. ¬ P k) i before (λ p. let f = t.1 p in cc)
