-- What violates a property refutes it.
use Rattle.std.proofs.Common.{Option, Some, None}
use Rattle.alg_model.specs.Expressions.{Expression, PureLabel, PureValue}
use Rattle.alg_model.specs.Carriers.{carrier_of, In}
use Rattle.alg_model.specs.Properties.{PureProperty, monotone, strict, isotone, cancellative, total, Has}
use Rattle.alg_model.specs.Verdicts.{PureInstance, Shows, SecondIn, Violates}

shown : (p : PureProperty) (a : Expression) (l : PureLabel) (u : PureValue) (o : Option PureValue)
    → In (carrier_of a) u → SecondIn a o → Shows p a l u o → ¬ Has p a l
shown monotone a l u None i j s h = h u i s
shown monotone a l u (Some v) i j s h = absurd s
shown strict a l u None i j s h = s.2 (rw s.1 at (h u i))
shown strict a l u (Some v) i j s h = absurd s
shown isotone a l u None i j s h = absurd s
shown isotone a l u (Some v) i j s h = h u v i j s.0 s.1
shown cancellative a l u None i j s h = absurd s
shown cancellative a l u (Some v) i j s h = s.1 (h u v i j s.0)
shown total a l u None i j s h = let e = (h u i).1 in cc
shown total a l u (Some v) i j s h = absurd s

pub refuted : (a : Expression) (x : PureInstance) → Violates a x → ¬ Has x.property a x.label
refuted a x v = shown x.property a x.label x.first x.second v.is_of.first v.is_of.second v.shows
