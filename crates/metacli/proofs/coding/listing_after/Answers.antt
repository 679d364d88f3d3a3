use Rattle.std.proofs.Common.{◌≡◌, map, ap, subst, ◌∙◌}
use Rattle.alg_model.specs.Expressions.{PureAlg}
use Rattle.code_gen.specs.Listings.{IsListing}
use Rattle.net_graph.specs.Nets.{PureNet}
use Rattle.net_graph.specs.Changes.{after_all}
use Rattle.net_graph.specs.Views.{pure_change}
use Rattle.topology_file.specs.NetText.{changed_net}
use Rattle.topology_file.specs.Views.{pure_file}
use Rattle.metacli.specs.Outcome.{labels_on}
use Rattle.metacli.proofs.RowsAfter.{same_algebra}
use Rattle.metacli.proofs.coding.listing_after.Goals as goal

pub returns-in-Ok-clause-listing : goal.returns-in-Ok-clause-listing
returns-in-Ok-clause-listing c =
    let file = c.args.file.now in
    let listing = c.in-Ok.listing in
    let is : c.last_of.result.now ≡ changed_net (pure_file file) =
    c.last_of.ensures ∙ c.in_ok-after.ensures ∙ ap (λ cs. after_all file.net (map pure_change cs)) c.as_slice.ensures in
    subst (λ (a : PureAlg). IsListing a.expression (labels_on (changed_net (pure_file file))) listing) (same_algebra file.net (map pure_change file.changes))
    (subst (λ (net : PureNet). IsListing net.alg.expression (labels_on net) listing) is c.in-Ok.ensures)
