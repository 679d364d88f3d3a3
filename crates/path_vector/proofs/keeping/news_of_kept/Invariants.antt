use Rattle.std.proofs.Common.{◌≡◌, map}
use Rattle.std.specs.Prelude.{option_map}
use Rattle.std.specs.List.{range_with_len}
use Rattle.path_vector.specs.Keeping.{all_kept_news}
use Rattle.path_vector.specs.State.{row_routes}
use Rattle.path_vector.specs.Updates.{noted}
use Rattle.path_vector.proofs.keeping.news_of_kept.Given as goal

-- it was reported of the rows so far
abbrev pub invariant-loop-place : goal.invariant-loop-place
invariant-loop-place g l =
    map noted l.out ≡ all_kept_news l.fn.site.net.now (option_map (λ n. n.now) l.fn.before) l.fn.site.node.0 (row_routes (g.A.Algebra.sig_value l.fn.site.algebra.now) l.fn.rows) (range_with_len 0 l.place)
