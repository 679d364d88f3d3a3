-- An expression with the same labels has the same texts of labels.
use Rattle.std.proofs.Common.{◌≡◌, ℕ, List, refl}
use Rattle.alg_model.specs.Expressions.{Expression, cap, worst, width, orig, simseq}
use Rattle.alg_model.specs.Expressions.{PureLabel, number_label, keep, symbol_label}
use Rattle.alg_model.specs.Forms.{labels_as}
use Rattle.alg_model.specs.Texts.{label_text}
use Rattle.sig_text.specs.Parts.{Part}
use Rattle.sig_text.specs.Reading.{label_at}

pub texts_kept : (a : Expression) (l : PureLabel) → label_text (labels_as a) l ≡ label_text a l
texts_kept (cap top low high) (number_label n) = refl
texts_kept (worst top low high) (number_label n) = refl
texts_kept (width top low high) (number_label n) = refl
texts_kept (orig top) keep = refl
texts_kept (simseq n) (symbol_label k) = refl
texts_kept _ _ = refl

pub readings_kept : (greatest : ℕ) (a : Expression) (ps : List Part) → label_at greatest (labels_as a) ps ≡ label_at greatest a ps
readings_kept greatest (cap top low high) ps = refl
readings_kept greatest (worst top low high) ps = refl
readings_kept greatest (width top low high) ps = refl
readings_kept greatest (orig top) ps = refl
readings_kept greatest (simseq n) ps = refl
readings_kept greatest _ ps = refl
