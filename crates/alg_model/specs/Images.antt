-- How a label comes to an image: what holds of each image that a definition may give holds of the
-- image that there is.
use Rattle.std.proofs.Common.{◌≡◌, Bool, true, false, Option, Some, None, if◌then◌else◌, refl}
use Rattle.std.specs.Prelude.{option_map}
use Rattle.alg_model.specs.Expressions.{PureValue, pair}
use Rattle.alg_model.specs.Application.{both}

-- there is one image
pub image_same : (P : PureValue → Type 0) (x w : PureValue) → Some x ≡ Some w → P x → P w
image_same P x w e h = let f : x ≡ w = cc in rw f at h

-- there is one where the test holds
pub image_where : (P : PureValue → Type 0) (b : Bool) (x w : PureValue) → (if b then Some x else None) ≡ Some w → (b ≡ true → P x) → P w
image_where P true x w e h = image_same P x w e (h refl)
image_where P false x w e h = absurd (cc)

-- there is one where the test fails
pub image_unless : (P : PureValue → Type 0) (b : Bool) (x w : PureValue) → (if b then None else Some x) ≡ Some w → (b ≡ false → P x) → P w
image_unless P true x w e h = absurd (cc)
image_unless P false x w e h = image_same P x w e (h refl)

-- it is that of a part
pub image_part : {X : Type 0} (P : PureValue → Type 0) (wrap : X → PureValue) (o : Option X) (w : PureValue) → option_map wrap o ≡ Some w → ((u : X) → o ≡ Some u → P (wrap u)) → P w
image_part P wrap (Some u) w e h = image_same P (wrap u) w e (h u refl)
image_part P wrap None w e h = absurd (cc)

-- it is the pair of those of both parts
pub image_both : (P : PureValue → Type 0) (o p : Option PureValue) (w : PureValue) → both o p ≡ Some w → ((u v : PureValue) → o ≡ Some u → p ≡ Some v → P (pair u v)) → P w
image_both P (Some u) (Some v) w e h = image_same P (pair u v) w e (h u v refl refl)
image_both P (Some u) None w e h = absurd (cc)
image_both P None p w e h = absurd (cc)
