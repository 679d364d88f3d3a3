-- What a message of the program says.
use Rattle.std.specs.Prelude.{ℕ, Option, IfSome, refl}
use Rattle.std.specs.Coded.{Coded, code_by, coded×, coded_option, coded_ℕ}
use Rattle.meta_base.specs.declared.ids.ArcId.{ArcId}
use Rattle.alg_model.specs.Bounds.{AtMost}
use Rattle.alg_model.specs.Codes.{coded_value}
use Rattle.alg_model.specs.Expressions.{PureValue}
use Rattle.distance_node.specs.Node.{PureVector, greatest_at}

-- what is sent at a clock stands for a value of the algebra with small numbers, if it is there
abbrev pub IsReported : {S : Type 0} → (S → Type 0) → (S → PureValue) → ℕ → Option S → Type 0
IsReported is_sig value clock reported = IfSome reported (λ s. is_sig s × AtMost (greatest_at clock) (value s))

-- a message that is put on an arc
abbrev pub noted : ArcId × PureVector → ℕ × PureVector
noted p = (p.0.0, p.1)

abbrev pub coded_vector : Coded PureVector
coded_vector =
    code_by (ℕ × (Option PureValue × ℕ)) (coded× coded_ℕ (coded× (coded_option coded_value) coded_ℕ))
    (λ m. (m.dest, (m.value, m.stamp))) (λ p. record { dest = p.0; value = p.1.0; stamp = p.1.1 }) (λ _. refl)
