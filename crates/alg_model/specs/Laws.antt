-- What holds of preference, application and bounds in every algebra, in one place for the proofs of
-- other crates.

-- preference is a total preorder on each carrier
pub use Rattle.alg_model.specs.PreferenceLaws.{total_preorder}
-- what a label makes of a value of the carrier is in the carrier; the second asks for less
pub use Rattle.alg_model.specs.ImageLaws.{images_in, images_kept}
-- a bound on the numbers of a value or a label may be raised; that of each edition is one on labels; and no number of an image is above the greatest of the
-- value and the greatest of the label together
pub use Rattle.alg_model.specs.BoundLaws.{at_most_more, label_at_most_more, greatest_is_bounded, images_at_most}
-- the parts of a formed expression are formed
pub use Rattle.alg_model.specs.PartLaws.{formed_lex, formed_scoped, formed_union, formed_sum, formed_plus, formed_left, formed_right}
-- a scoped product is the function union of two lexical products
pub use Rattle.alg_model.specs.PartLaws.{scoped_is_a_union}
