use Rattle.std.proofs.Common.{◌≡◌, ℕ, ◌≤◌, ◌-◌, ◌++◌, List, map}
use Rattle.std.specs.Prelude.{string_bytes}
use Rattle.topology_file.specs.LineTexts.{text_of}
use Rattle.net_gen.specs.Generated.{link_line, links_to}
use Rattle.net_gen.proofs.lines.push_all_links.Given as goal

-- the links of the nodes before this one are written
pub record Written (seed node state : ℕ) (old new : List ℕ) : Type 0 where
  pub some : 1 ≤ node
  pub text : new ≡ old ++ text_of (map link_line (links_to seed (node - 1)).links)
  pub state_is : state ≡ (links_to seed (node - 1)).state

abbrev pub invariant-loop-node : goal.invariant-loop-node
invariant-loop-node l = Written l.seed l.node l.draws.state (string_bytes l.fn.out) (string_bytes l.out)
