-- What properties and instances of the program stand for.
use Rattle.std.specs.Prelude.{option_map}
use Rattle.alg_model.specs.Views.{pure_value, pure_label}
use Rattle.alg_model.specs.Properties as properties
use Rattle.alg_model.specs.Verdicts.{PureInstance}
use Rattle.alg_classes.specs.declared.property.Property.{Property}
use Rattle.alg_classes.specs.declared.property.Property.TheVariants.{Monotone, Strict, Isotone, Cancellative, Total}
use Rattle.alg_classes.specs.declared.property.Instance.{Instance}

abbrev pub pure_property : Property → properties.PureProperty
pure_property Monotone = properties.monotone
pure_property Strict = properties.strict
pure_property Isotone = properties.isotone
pure_property Cancellative = properties.cancellative
pure_property Total = properties.total

abbrev pub pure_instance : Instance → PureInstance
pure_instance x = record {
  property = pure_property x.property;
  label = pure_label x.label;
  first = pure_value x.first;
  second = option_map pure_value x.second;
}
