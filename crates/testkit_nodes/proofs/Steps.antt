-- Clocks after a delivery, whatever it answered.
use Rattle.std.proofs.Common.{◌≡◌, ℕ, ◌+◌, ◌≤◌, Some, refl, subst, sym, arith}
use Rattle.net_graph.specs.Nets.{PureNet}
use Rattle.node_core.specs.Kinds.{Kind, IsLawful}
use Rattle.node_core.specs.Machine.{Machine, Deliver}
use Rattle.node_core.specs.MachineLaws.{all_mapped}
use Rattle.node_core.specs.OrderLaws.{deliver_up_to}
use Rattle.node_core.specs.Running.{AreUpTo}
use Rattle.node_core.specs.declared.config.Delivered.{Delivered}
use Rattle.node_core.specs.declared.config.Delivered.TheVariants.{Taken, LinkEmpty}

module _ {S M : Type 0} (k : Kind S M) where
  up_to_more : (c : Machine S M) (n : ℕ) → AreUpTo k c n → AreUpTo k c (n + 1)
  up_to_more c n up =
      record {
        clocks = λ i. let h = up.clocks i in omega (arith, h);
        stamps = λ a. all_mapped (λ m. k.stamp m ≤ n) (λ m. k.stamp m ≤ n + 1) (λ m h. omega (arith, h)) (c.link a) (up.stamps a);
      }

  pub answered_up_to : IsLawful k → (net : PureNet) (c d : Machine S M) (a n : ℕ) (answer : Delivered) → AreUpTo k c n → (answer ≡ Taken → Deliver k net c a ≡ Some d) → (answer ≡ LinkEmpty → d ≡ c)
      → AreUpTo k d (n + 1)
  answered_up_to lawful net c d a n Taken up taken empty = deliver_up_to k lawful net c d a n up (taken refl)
  answered_up_to lawful net c d a n LinkEmpty up taken empty = subst (λ x. AreUpTo k x (n + 1)) (sym (empty refl)) (up_to_more c n up)
