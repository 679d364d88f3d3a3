-- Listings of code.
use Rattle.std.specs.Prelude.{◌≡◌, List, map}
use Rattle.alg_model.specs.Expressions.{Expression, PureLabel}
use Rattle.alg_model.specs.Carriers.{carrier_of}
use Rattle.code_gen.specs.declared.listing.Listing.{Listing}
use Rattle.code_gen.specs.Compilation.{CompileLabel, CompileOrder}

-- the listing is the code of the algebra's order and of these labels
pub record IsListing (a : Expression) (labels : List PureLabel) (listing : Listing) : Type 0 where
  pub the_order : listing.order ≡ CompileOrder (carrier_of a)
  pub the_labels : listing.labels ≡ map (CompileLabel a) labels
