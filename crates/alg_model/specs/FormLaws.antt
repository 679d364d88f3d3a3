-- An expression with the same labels keeps what is asked of labels alone. Lemmas, so that proofs of other crates
-- may cite them.
use Rattle.std.specs.Prelude.{◌≡◌, ◌↔◌}
use Rattle.std.proofs.Common.{refl}
use Rattle.alg_model.specs.Expressions.{Expression, cap, worst, width, orig, simseq}
use Rattle.alg_model.specs.Expressions.{PureLabel, number_label, keep, symbol_label}
use Rattle.alg_model.specs.Application.{IsLabel}
use Rattle.alg_model.specs.Formation.{MeetsRanges, node_count}
use Rattle.alg_model.specs.Forms.{labels_as}

pub labels_kept : (a : Expression) (l : PureLabel) → IsLabel (labels_as a) l ↔ IsLabel a l
labels_kept (cap top low high) (number_label n) = (λ h. h, λ h. h)
labels_kept (worst top low high) (number_label n) = (λ h. h, λ h. h)
labels_kept (width top low high) (number_label n) = (λ h. h, λ h. h)
labels_kept (orig top) keep = (λ h. h, λ h. h)
labels_kept (simseq n) (symbol_label k) = (λ h. h, λ h. h)
labels_kept _ _ = (λ h. h, λ h. h)

pub ranges_kept : (a : Expression) → MeetsRanges a → MeetsRanges (labels_as a)
ranges_kept (worst top low high) h = h.0
ranges_kept (width top low high) h = h.0
ranges_kept (simseq n) h = h.0
ranges_kept (orig top) h = tt
ranges_kept _ h = h

pub count_kept : (a : Expression) → node_count (labels_as a) ≡ node_count a
count_kept (cap top low high) = refl
count_kept (worst top low high) = refl
count_kept (width top low high) = refl
count_kept (orig top) = refl
count_kept (simseq n) = refl
count_kept _ = refl
