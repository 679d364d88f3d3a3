-- The fixed routes of a network, with values in the form of an algebra.
use Rattle.std.specs.Prelude.{◌≡◌, ℕ, ◌+◌, ◌*◌, ◌/◌, List, length}
use Rattle.alg_model.specs.Expressions.{PureValue}
use Rattle.net_graph.specs.Nets.{PureNet}
use Rattle.best_first.specs.Numbered.{PureFixed}
use Rattle.best_first.specs.Fixed.{AreFixedFrom}

-- there are routes for each destination of the network, in order
pub record AreFixedOf {S : Type 0} (value : S → PureValue) (is_sig : S → Type 0) (net : PureNet) (found : List (PureFixed S)) : Type 0 where
  pub fixed_from : AreFixedFrom value is_sig net 0 found
  pub count : length found ≡ length net.dests

-- the first destination of a worker, where so many of them share so many destinations
abbrev pub first_of : ℕ → ℕ → ℕ → ℕ
first_of dests workers k = dests * k / workers

-- there are routes for each destination of worker k, in order
pub record IsShareOf {S : Type 0} (value : S → PureValue) (is_sig : S → Type 0) (net : PureNet) (workers k : ℕ) (found : List (PureFixed S)) : Type 0 where
  pub fixed_from : AreFixedFrom value is_sig net (first_of (length net.dests) workers k) found
  pub count : first_of (length net.dests) workers k + length found ≡ first_of (length net.dests) workers (k + 1)
