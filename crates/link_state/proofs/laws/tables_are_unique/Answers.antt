use Rattle.link_state.proofs.Unique.{same_tables}
use Rattle.link_state.proofs.laws.tables_are_unique.Goals as goal

pub returns : goal.returns
returns c = λ net t u is_net a b. same_tables net (λ k x y inside p q. c.best_first_is_unique.ensures net k x y is_net inside p q) t u a b
