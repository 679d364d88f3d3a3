-- Texts that are appended one after another.
use Rattle.std.proofs.Common.{◌≡◌, ℕ, List, ◌++◌, ap, sym, ◌∙◌, append_assoc}

-- two texts after another
pub appended_after : (old between new a b c : List ℕ) → between ≡ old ++ a → new ≡ between ++ (b ++ c) → new ≡ old ++ ((a ++ b) ++ c)
appended_after old between new a b c first second =
    second ∙ ap (λ x. x ++ (b ++ c)) first ∙ append_assoc old a (b ++ c) ∙ ap (λ x. old ++ x) (sym (append_assoc a b c))
