-- The facts of the labels of base algebras, all kinds together.
use Rattle.std.proofs.Common.{arith}
use Rattle.alg_model.specs.Expressions.{Expression, add, cap, worst, width, pref, orig, seq, simseq, tags, guard, gate}
use Rattle.alg_model.specs.Expressions.{PureLabel, number_label, keep, symbol_label, need, bar, allow, deny}
use Rattle.alg_model.specs.Carriers.{carrier_of}
use Rattle.alg_model.specs.Application.{IsLabel, App}
use Rattle.alg_model.specs.Formation.{MeetsRanges}
use Rattle.alg_model.specs.Forms.{IsBase}
use Rattle.alg_classes.specs.Profiles.{ProfileOf}
use Rattle.alg_classes.specs.Classes.{IsSettledBy}
use Rattle.alg_classes.specs.ClassLaws.{settled_profile}
use Rattle.base_classes.specs.Profiles.{base_profile_of}
use Rattle.base_classes.specs.Witnesses.{base_witness_of, failing}
use Rattle.base_classes.specs.Reported.{Reported, stated_settles}
use Rattle.base_classes.specs.Numbers.{add_stated, cap_stated, worst_stated, width_stated, pref_stated, orig_stated}
use Rattle.base_classes.specs.Sets.{tags_stated, need_stated, bar_stated, allow_stated, deny_stated}
use Rattle.base_classes.specs.Sequences.{seq_stated, simseq_stated}

abbrev StatesOf : Expression → PureLabel → Type 0
StatesOf a l = Reported (carrier_of a) (App a l) (base_profile_of a l) (base_witness_of a l)

base_stated : (a : Expression) (l : PureLabel) → IsBase a → MeetsRanges a → IsLabel a l → StatesOf a l
base_stated (add low high) (number_label n) b r i = add_stated low high n
base_stated (cap top low high) (number_label n) b r i = cap_stated top low high n
base_stated (worst top low high) (number_label n) b r i = worst_stated top low high n (omega (arith, r.1, i.1))
base_stated (width top low high) (number_label n) b r i = width_stated top low high n (omega (arith, r.1, i.1))
base_stated (pref top) (number_label n) b r i = pref_stated top n i
base_stated (orig top) keep b r i = orig_stated top
base_stated (seq k) (symbol_label n) b r i = seq_stated k n i
base_stated (simseq k) (symbol_label n) b r i = simseq_stated k n i
base_stated (tags k) l b r i = tags_stated k l i
base_stated (guard k) (need j) b r i = need_stated k j i
base_stated (guard k) (bar j) b r i = bar_stated k j i
base_stated gate allow b r i = allow_stated
base_stated gate deny b r i = deny_stated
base_stated (add low high) l b r i = absurd i
base_stated (cap top low high) l b r i = absurd i
base_stated (worst top low high) l b r i = absurd i
base_stated (width top low high) l b r i = absurd i
base_stated (pref top) l b r i = absurd i
base_stated (orig top) l b r i = absurd i
base_stated (seq k) l b r i = absurd i
base_stated (simseq k) l b r i = absurd i
base_stated (guard k) l b r i = absurd i
base_stated gate l b r i = absurd i
base_stated a l b r i = absurd b

-- the facts that the table tells are settled by their witnesses
pub base_settled : (a : Expression) (l : PureLabel) → IsBase a → MeetsRanges a → IsLabel a l
    → IsSettledBy (carrier_of a) (App a l) (base_profile_of a l) (failing (base_profile_of a l) (base_witness_of a l))
base_settled a l b r i = stated_settles (carrier_of a) (App a l) (base_profile_of a l) (base_witness_of a l) (base_stated a l b r i)

-- and so they are the label's
pub base_is_profile : (a : Expression) (l : PureLabel) → IsBase a → MeetsRanges a → IsLabel a l → ProfileOf a l (base_profile_of a l)
base_is_profile a l b r i = settled_profile (carrier_of a) (App a l) (base_profile_of a l)
    (failing (base_profile_of a l) (base_witness_of a l)) (base_settled a l b r i)
